-- The laws of what lanes hold, of how their sections end, and of lists in which all have.
use Rattle.std.specs.Prelude.{ℕ, ◌≡◌, ◌+◌, ◌≤◌, ◌==◌, ◌⊎◌, if◌then◌else◌, List, ◌∷◌, length, Contains, Some}
use Rattle.heap_model.specs.declared.record.Record.{Record}
use Rattle.heap_model.specs.Setting.{Setting}
use Rattle.heap_model.specs.Log.{lane, holder, value, IsLegal, IsLaneWisePrefix}
use Rattle.heap_model.specs.Sections.{Action, Frees, actions, holding, ended, open_section}
use Rattle.heap_model.specs.declared.limits.TheConstants.{SECTION_RECORDS}
use Rattle.heap_model.specs.Limits.{IsWithinLimits}
use Rattle.heap_model.specs.Cuts.{IsStable, all_ended}
use Rattle.heap_model.specs.KeptHeap.{kept_value}
use Rattle.heap_model.specs.Earliest.{Earliest}

-- The lane that has an object has it among what it holds.
abbrev pub HolderLaw : Type 0
HolderLaw = (log : List (ℕ × Record)) (l o : ℕ) → holder o log ≡ Some l → Contains (holding (lane l (actions log))) o

-- A lane that frees an object which it holds, holds one less.
abbrev pub FreedLaw : Type 0
FreedLaw = (older : List Action) (o n : ℕ) → Contains (holding older) o → length (holding (Frees o n ∷ older)) + 1 ≡ length (holding older)

-- So its section ends where that was the only one.
abbrev pub EndedLaw : Type 0
EndedLaw = (older : List Action) (o n : ℕ) → Contains (holding older) o → ended (Frees o n ∷ older) ≡ (if length (holding older) == 1 then ended older + 1 else ended older)

-- Where a lane is within its limits, so is the section that it is in, with the releases that it still needs.
abbrev pub LimitsLaw : Type 0
LimitsLaw = (actions : List Action) → IsWithinLimits actions → length (open_section actions) + length (holding actions) ≤ SECTION_RECORDS

-- Where no lane holds anything, the stable cut is that of all sections, and it keeps the value of each field.
abbrev pub AllKeptLaw : Type 0
AllKeptLaw = (s : Setting) (log : List (ℕ × Record)) → IsLegal s log → ((l : ℕ) → length (holding (lane l (actions log))) ≡ 0) →
    IsStable (actions log) (all_ended (actions log)) × ((f : ℕ) → kept_value s.first (all_ended (actions log)) f log ≡ value s.first f log)

-- Of a list that has the beginning of each lane of another either all is done, or there is an earliest that isn't.
abbrev pub EarliestLaw : (A : Type 0) → Type 0
EarliestLaw A = (all done : List (ℕ × A)) → IsLaneWisePrefix done all → ((l : ℕ) → lane l done ≡ lane l all) ⊎ Earliest all done
