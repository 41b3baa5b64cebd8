-- The steps that a graph keeps, the oldest first.
use Rattle.std.specs.Prelude.{ℕ, ◌≡◌, ◌+◌, List, [], ◌∷◌, map}
use Rattle.heap_model.specs.Log.{lane}
use Rattle.heap_model.specs.Sections.{Action, undo_action, ended}
use Rattle.law_cuts.specs.Plain.{Reading}
use Rattle.dependence.specs.declared.step.Step.{Step}

-- what a step did, and in which lane
abbrev pub did : Step → ℕ × Action
did s = (s.lane.0, undo_action s.entry)

-- steps that have the newest first, as a log
abbrev pub log_of : List Step → List (ℕ × Action)
log_of steps = map did steps

-- how a step tells its section, counted from the first record, and what it did
abbrev pub reading : Reading Step
reading = record { section = λ s. record { lane = s.lane.0; number = s.section }; act = λ s. undo_action s.entry }

-- each step has the number of its section, what was forgotten included; the newest is first
abbrev pub HasSections : (base : ℕ → ℕ) → List Step → Type 0
HasSections base [] = Unit {0}
HasSections base (s ∷ older) = (s.section ≡ ended (lane s.lane.0 (log_of older)) + 1 + base s.lane.0) × HasSections base older
