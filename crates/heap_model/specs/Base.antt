-- What stands before a cut, and what since: the base that a trimmed log begins from (this project's own).
use Rattle.std.specs.Prelude.{ℕ, if◌then◌else◌, List, [], ◌∷◌}
use Rattle.heap_model.specs.declared.record.Record.{Record}
use Rattle.heap_model.specs.Sections.{Action, actions}
use Rattle.heap_model.specs.Cuts.{is_counted}

-- what the sections past the base did
abbrev pub since : (base : ℕ → ℕ) → List (ℕ × Action) → List (ℕ × Action)
since base [] = []
since base (x ∷ older) = if is_counted base x.0 older then since base older else x ∷ since base older

-- the records of the sections past the base
abbrev pub records_since : (base : ℕ → ℕ) → List (ℕ × Record) → List (ℕ × Record)
records_since base [] = []
records_since base (x ∷ older) = if is_counted base x.0 (actions older) then records_since base older else x ∷ records_since base older

-- the records of the base's sections
abbrev pub records_until : (base : ℕ → ℕ) → List (ℕ × Record) → List (ℕ × Record)
records_until base [] = []
records_until base (x ∷ older) = if is_counted base x.0 (actions older) then x ∷ records_until base older else records_until base older
