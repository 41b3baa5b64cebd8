-- The helper's sections of changed fields, one for each guard (this project's own). The changed fields stand in the order of their guards.
-- A list of sections has the newest first: that of the last guard is the oldest.
use Rattle.std.specs.Prelude.{ℕ, zero, suc, ◌≡◌, ◌≢◌, ◌+◌, ◌-◌, ◌<◌, ◌≤◌, ◌==◌, if◌then◌else◌, List, [], ◌∷◌, ◌++◌, drop, length, slice_index, Option, Some, None}
use Rattle.std.specs.List.{slice_index_or}
use Rattle.std.specs.List.Sorted.{IsNonDecreasingBy}
use Rattle.heap_model.specs.declared.ids.ObjectId.{ObjectId}
use Rattle.store_helper_sections.specs.HelperSections.{HelperSection}
use Rattle.store_round_image.specs.declared.cells.HomeValue.{HomeValue}
use Rattle.store_round_making.specs.Helper.{HasBefore, section_of}

-- what stands for a guard where there is none
abbrev pub no_object : ObjectId
no_object = record { 0 = 0 }

-- the guard of a changed field, by these guards of the fields
abbrev pub guard_of : (guards : List ObjectId) → HomeValue → ObjectId
guard_of guards c = slice_index_or guards c.field.0 no_object

-- the changed fields stand in the order of their guards
abbrev pub IsSortedByGuard : (guards : List ObjectId) → List HomeValue → Type 0
IsSortedByGuard guards changed = IsNonDecreasingBy (λ c. (guard_of guards c).0) changed

-- those of one guard stand in the order of their numbers
abbrev pub IsSortedWithinGuards : (guards : List ObjectId) → List HomeValue → Type 0
IsSortedWithinGuards guards changed = (i j : ℕ) (d : HomeValue) → i ≤ j → j < length changed →
    guard_of guards (slice_index_or changed i d) ≡ guard_of guards (slice_index_or changed j d) → (slice_index_or changed i d).field.0 ≤ (slice_index_or changed j d).field.0

-- the number that one more than it tells; 0 tells that there is none
abbrev pub told : ℕ → Option ℕ
told zero = None
told (suc n) = Some n

-- the number at which the object is taken first, as these words tell it
abbrev pub first_in : (first : List ℕ) → (object : ℕ) → Option ℕ
first_in first o = told (slice_index first o)

-- the field's guard has a number just before its first one
abbrev pub HasNumber : (guards : List ObjectId) → (first : List ℕ) → HomeValue → Type 0
HasNumber guards first c = HasBefore (first_in first (guard_of guards c).0)

-- the section of the field alone
abbrev pub section_for : (guards : List ObjectId) → (first : List ℕ) → HomeValue → HelperSection
section_for guards first c = section_of (guard_of guards c) (first_in first (guard_of guards c).0) (c ∷ [])

-- the field goes into the newest section, where that has its guard, and else into one of its own
abbrev pub with_change : (guards : List ObjectId) → (first : List ℕ) → HomeValue → List HelperSection → List HelperSection
with_change guards first c [] = section_for guards first c ∷ []
with_change guards first c (x ∷ older) =
    if x.guard.0 == (guard_of guards c).0 then record { guard = x.guard; number = x.number; fields = x.fields ++ c.field ∷ [] } ∷ older else section_for guards first c ∷ x ∷ older

-- the sections of these changed fields
abbrev pub sections_of : (guards : List ObjectId) → (first : List ℕ) → List HomeValue → List HelperSection
sections_of guards first [] = []
sections_of guards first (c ∷ changed) = with_change guards first c (sections_of guards first changed)

-- how many records a field takes before these: one, and two more for its section where the next field has another guard
abbrev pub added_before : (guards : List ObjectId) → HomeValue → List HomeValue → ℕ
added_before guards c [] = 3
added_before guards c (next ∷ changed) = if (guard_of guards next).0 == (guard_of guards c).0 then 1 else 3

-- how many the field of this place takes
abbrev pub added_at : (guards : List ObjectId) → List HomeValue → (at : ℕ) → HomeValue → ℕ
added_at guards changed at d = added_before guards (slice_index_or changed at d) (drop (at + 1) changed)

-- how many records the sections of these changed fields take
abbrev pub needed_of : (guards : List ObjectId) → List HomeValue → ℕ
needed_of guards [] = 0
needed_of guards (c ∷ changed) = needed_of guards changed + added_before guards c changed

-- from this place to before that one the fields have one guard, and the field before has another
pub record IsRunStart (guards : List ObjectId) (changed : List HomeValue) (end begin : ℕ) : Type 0 where
  pub below : begin < end
  pub same : (k : ℕ) (d : HomeValue) → begin ≤ k → k < end → (guard_of guards (slice_index_or changed k d)).0 ≡ (guard_of guards (slice_index_or changed begin d)).0
  pub apart : (d : HomeValue) → 0 < begin → (guard_of guards (slice_index_or changed (begin - 1) d)).0 ≢ (guard_of guards (slice_index_or changed begin d)).0
