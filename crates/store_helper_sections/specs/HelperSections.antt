-- Sections of the store's own, in a lane of its own, that change nothing: each stores to fields the values that they are to keep. So
-- these values lie in an undo log (Atlas) before the fields' cells have them (this project's own). Lists have their newest element first.
use Rattle.std.specs.Prelude.{ℕ, ◌≡◌, ◌≢◌, ◌+◌, ◌<◌, ◌==◌, if◌then◌else◌, true, List, [], ◌∷◌, ◌++◌, map, Option, Some, None}
use Rattle.heap_model.specs.declared.ids.FieldId.{FieldId}
use Rattle.heap_model.specs.declared.ids.ObjectId.{ObjectId}
use Rattle.heap_model.specs.declared.record.Record.{Record}
use Rattle.heap_model.specs.declared.record.Record.TheVariants.{Acq, Rel, WaitRel, Put}
use Rattle.heap_model.specs.Setting.{Setting}

-- it takes the guard at this number, stores to each of these fields the value that it has, and frees the guard
pub record HelperSection : Type 0 where
  pub guard : ObjectId
  pub number : ℕ
  pub fields : List FieldId

-- a store to each of the fields that leaves it as it is in this heap
abbrev pub same_stores : (heap : ℕ → ℕ) → List FieldId → List Record
same_stores heap [] = []
same_stores heap (f ∷ fields) = Put f (heap f.0) (heap f.0) ∷ same_stores heap fields

-- the section's records
abbrev pub section_records : (heap : ℕ → ℕ) → HelperSection → List Record
section_records heap x = Rel x.guard x.number ∷ same_stores heap x.fields ++ Acq x.guard x.number ∷ []

-- the records of the sections, in this lane
abbrev pub helper_log : (lane : ℕ) → (heap : ℕ → ℕ) → List HelperSection → List (ℕ × Record)
helper_log l heap [] = []
helper_log l heap (x ∷ older) = map (λ r. (l, r)) (section_records heap x) ++ helper_log l heap older

-- the earlier number, or where there is none the next one
abbrev pub earlier : Option ℕ → (next : Option ℕ) → Option ℕ
earlier None next = next
earlier (Some n) next = Some n

-- the number at which the object is first taken in these records, if it is
abbrev pub first_taken : (object : ℕ) → List (ℕ × Record) → Option ℕ
first_taken o [] = None
first_taken o ((l, Acq p n) ∷ older) = earlier (first_taken o older) (if p.0 == o then Some n else None)
first_taken o ((l, Rel p n) ∷ older) = first_taken o older
first_taken o ((l, WaitRel p n) ∷ older) = first_taken o older
first_taken o ((l, Put f before after) ∷ older) = first_taken o older

-- a section at this number comes just before the one that first takes the object; where none does, at any number
abbrev pub IsJustBefore : (first : Option ℕ) → (number : ℕ) → Type 0
IsJustBefore None number = Unit {0}
IsJustBefore (Some n) number = n ≡ number + 1

-- each of the fields is one that logs keep stores of, with this guard
abbrev pub AreGuardedBy : Setting → (object : ℕ) → List FieldId → Type 0
AreGuardedBy s o [] = Unit {0}
AreGuardedBy s o (f ∷ fields) = (f.0 < s.fields) × (s.is_logged f.0 ≡ true) × (s.guard f.0 ≡ o) × AreGuardedBy s o fields

-- the section may come before these records of threads
pub record MayPrecede (s : Setting) (records : List (ℕ × Record)) (x : HelperSection) : Type 0 where
  pub object : x.guard.0 < s.objects
  pub fields : AreGuardedBy s x.guard.0 x.fields
  pub number : x.number < s.last
  pub before : IsJustBefore (first_taken x.guard.0 records) x.number

-- none of these sections has the guard
abbrev pub HasNone : (object : ℕ) → List HelperSection → Type 0
HasNone o [] = Unit {0}
HasNone o (x ∷ older) = (x.guard.0 ≢ o) × HasNone o older

-- each of the sections may come before these records, and each has a guard of its own
abbrev pub ArePreceding : Setting → (records : List (ℕ × Record)) → List HelperSection → Type 0
ArePreceding s records [] = Unit {0}
ArePreceding s records (x ∷ older) = MayPrecede s records x × HasNone x.guard.0 older × ArePreceding s records older
