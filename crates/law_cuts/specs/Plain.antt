-- A plain search for the stable cut, over steps that know their sections, in any order.
use Rattle.std.specs.Prelude.{◌∷◌, ℕ, ◌≡◌, ◌+◌, ◌≤◌, ◌==◌, if◌then◌else◌, Bool, false, ◌&&◌, nat_le, not, Contains, List, [], map}
use Rattle.heap_model.specs.declared.ids.ObjectId.{ObjectId}
use Rattle.heap_model.specs.declared.record.Record.{Record}
use Rattle.heap_model.specs.declared.record.Record.TheVariants.{Acq, Rel, WaitRel, Put}
use Rattle.law_cuts.specs.declared.step.Step.{Step}
use Rattle.heap_model.specs.Log.{lane}
use Rattle.heap_model.specs.Sections.{Action, Takes, Frees, Stores, action, actions, ended, Section}

-- the steps' records as a log; both have the newest first
abbrev pub steps_log : List Step → List (ℕ × Record)
steps_log steps = map (λ s. (s.entry.lane.0, s.entry.record)) steps

-- each step has the number of its section; the newest is first
abbrev pub HasSections : List Step → Type 0
HasSections [] = Unit {0}
HasSections (s ∷ older) = (s.section ≡ ended (lane s.entry.lane.0 (actions (steps_log older))) + 1) × HasSections older

-- a field's value after the record, whose section is kept or not
abbrev pub stored : (kept : Bool) → Record → (heap : ℕ → ℕ) → (field : ℕ) → ℕ
stored kept (Acq o n) heap f = heap f
stored kept (Rel o n) heap f = heap f
stored kept (WaitRel o n) heap f = heap f
stored kept (Put g before after) heap f = if g.0 == f then (if kept then after else heap f) else heap f

-- the numbers of the objects
abbrev pub numbers : List ObjectId → List ℕ
numbers objects = map (λ o. o.0) objects

-- how a step tells its section and what it did
pub record Reading (A : Type 0) : Type 0 where
  pub section : A → Section
  pub act : A → Action

abbrev pub reading : Reading Step
reading = record { section = λ s. record { lane = s.entry.lane.0; number = s.section }; act = λ s. action s.entry.record }

-- the first action takes what the second freed
abbrev pub takes_after : Action → Action → Bool
takes_after (Takes o n) (Frees p m) = o == p && n == m + 1
takes_after (Takes o n) (Takes p m) = false
takes_after (Takes o n) Stores = false
takes_after (Frees o n) b = false
takes_after Stores b = false

-- the step's section is one of the cut's
abbrev pub counts : {A : Type 0} → Reading A → (cut : ℕ → ℕ) → A → Bool
counts r cut s = nat_le (r.section s).number (cut (r.section s).lane)

-- a counted step took what another freed that isn't counted
abbrev pub is_blocked_by : {A : Type 0} → Reading A → (cut : ℕ → ℕ) → A → A → Bool
is_blocked_by r cut s t = counts r cut s && (takes_after (r.act s) (r.act t) && not (counts r cut t))

-- no step is blocked
abbrev pub IsClosedOver : {A : Type 0} → Reading A → List A → (cut : ℕ → ℕ) → Type 0
IsClosedOver {A} r steps cut = (s t : A) → Contains steps s → Contains steps t → is_blocked_by r cut s t ≡ false

-- the greatest cut below `whole` under which no step is blocked
pub record IsGreatest {A : Type 0} (r : Reading A) (steps : List A) (whole cut : ℕ → ℕ) : Type 0 where
  pub below : (l : ℕ) → cut l ≤ whole l
  pub closed : IsClosedOver r steps cut
  pub greatest : (other : ℕ → ℕ) → ((l : ℕ) → other l ≤ whole l) → IsClosedOver r steps other → (l : ℕ) → other l ≤ cut l

-- the steps are those of the log, with their sections; both have the newest first
abbrev pub IsNumbered : {A : Type 0} → Reading A → List A → List (ℕ × Action) → Type 0
IsNumbered r [] [] = Unit {0}
IsNumbered r (s ∷ steps) (x ∷ older) = (r.section s ≡ record { lane = x.0; number = ended (lane x.0 older) + 1 }) × (r.act s ≡ x.1) × IsNumbered r steps older
IsNumbered r [] (x ∷ older) = ⊥
IsNumbered r (s ∷ steps) [] = ⊥
