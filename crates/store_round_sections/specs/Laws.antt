-- The laws of the number at which the helper's section takes its guard.
use Rattle.std.specs.Prelude.{ℕ, ◌≡◌, ◌<◌, ◌≤◌, true, All, List, Option, Some, None}
use Rattle.heap_model.specs.declared.ids.ObjectId.{ObjectId}
use Rattle.heap_model.specs.declared.record.Record.{Record}
use Rattle.heap_model.specs.Base.{records_since, records_until}
use Rattle.heap_model.specs.Cuts.{IsClosed, IsWhole}
use Rattle.heap_model.specs.Log.{IsLegal}
use Rattle.heap_model.specs.Sections.{actions}
use Rattle.heap_model.specs.Setting.{Setting}
use Rattle.heap_model.specs.Past.{has_store}
use Rattle.store_helper_sections.specs.HelperSections.{first_taken}
use Rattle.store_round_image.specs.declared.cells.HomeValue.{HomeValue}
use Rattle.store_round_sections.specs.Adding.{AreChanges}
use Rattle.store_round_sections.specs.Sections.{HasNumber}

-- a number from 1 on and below the last one, if any
abbrev pub IsPastFirst : (last : ℕ) → Option ℕ → Type 0
IsPastFirst last None = Unit {0}
IsPastFirst last (Some n) = (1 ≤ n) × (n < last)

-- the object is one of the setting's, and a section has a number before the first of these records that takes it
pub record HasRoomBefore (s : Setting) (records : List (ℕ × Record)) (object : ℕ) : Type 0 where
  pub within : object < s.objects
  pub last : 0 < s.last
  pub first : IsPastFirst s.last (first_taken object records)

-- Where a whole closed cut of a legal log keeps a store to a field, a section has a number before the first record beyond the cut that takes
-- the field's guard.
abbrev pub NumberLaw : Type 0
NumberLaw = (s : Setting) (log : List (ℕ × Record)) (next : ℕ → ℕ) (f : ℕ) → IsLegal s log → IsWhole (actions log) next → IsClosed (actions log) next →
    has_store f (records_until next log) ≡ true → HasRoomBefore s (records_since next log) (s.guard f)

-- Each field that a cut changes has a number for its section, by the first numbers that are told.
abbrev pub FirstLaw : Type 0
FirstLaw = (s : Setting) (log : List (ℕ × Record)) (next : ℕ → ℕ) (guards : List ObjectId) (first : List ℕ) (changed : List HomeValue) → AreChanges s log next guards first changed → All (HasNumber guards first) changed
