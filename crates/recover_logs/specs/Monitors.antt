-- Who holds each object after a list of records, and at which number it stands (JLS 17.1; the numbers are this project's
-- own). What a record needs is as in a legal record list, but for the values, which undo records don't have. Lists of
-- (lane, record) have their newest element first.
use Rattle.std.specs.Prelude.{ℕ, ◌≡◌, ◌+◌, ◌<◌, ◌==◌, ◌↔◌, if◌then◌else◌, Bool, IsTrue, List, [], ◌∷◌, slice_index, slice_index_or, slice_set, Option, Some, None}
use Rattle.heap_model.specs.declared.ids.Lane.{Lane}
use Rattle.heap_model.specs.declared.ids.ObjectId.{ObjectId}
use Rattle.heap_model.specs.declared.record.UndoRecord.{UndoRecord}
use Rattle.heap_model.specs.declared.record.UndoRecord.TheVariants.{Acq, Rel, WaitRel, Put}
use Rattle.recover_logs.specs.declared.monitors.Monitors.{Monitors}

-- the lane that holds the object after these records
abbrev pub holder : (object : ℕ) → List (ℕ × UndoRecord) → Option Lane
holder o [] = None
holder o ((l, Acq p n) ∷ older) = if p.0 == o then Some (record { 0 = l }) else holder o older
holder o ((l, Rel p n) ∷ older) = if p.0 == o then None else holder o older
holder o ((l, WaitRel p n) ∷ older) = if p.0 == o then None else holder o older
holder o ((l, Put f before) ∷ older) = holder o older

-- the object's release number after these records, from its number at first
abbrev pub number : (first : ℕ → ℕ) → (object : ℕ) → List (ℕ × UndoRecord) → ℕ
number first o [] = first o
number first o ((l, Acq p n) ∷ older) = number first o older
number first o ((l, Rel p n) ∷ older) = if p.0 == o then n + 1 else number first o older
number first o ((l, WaitRel p n) ∷ older) = if p.0 == o then n + 1 else number first o older
number first o ((l, Put f before) ∷ older) = number first o older

-- the lane may store to a field with this guard: it holds that. Where there is none, no log keeps a store of the field
abbrev pub MayStore : (guard : Option ObjectId) → List (ℕ × UndoRecord) → (lane : ℕ) → Type 0
MayStore None older l = ⊥
MayStore (Some o) older l = holder o.0 older ≡ Some (record { 0 = l })

-- the lane takes a free object at its number, frees one that it holds from that number, or stores to a field whose guard it holds
abbrev pub IsAllowed : (guard : ℕ → Option ObjectId) → (first : ℕ → ℕ) → List (ℕ × UndoRecord) → (lane : ℕ) → UndoRecord → Type 0
IsAllowed guard first older l (Acq o n) = (holder o.0 older ≡ None) × (number first o.0 older ≡ n)
IsAllowed guard first older l (Rel o n) = (holder o.0 older ≡ Some (record { 0 = l })) × (number first o.0 older ≡ n)
IsAllowed guard first older l (WaitRel o n) = (holder o.0 older ≡ Some (record { 0 = l })) × (number first o.0 older ≡ n)
IsAllowed guard first older l (Put f before) = MayStore (guard f.0) older l

-- the lane that holds the object, and the object's number, by the tables
abbrev pub holder_at : Monitors → (object : ℕ) → Option Lane
holder_at t o = slice_index_or t.holders o None

abbrev pub number_at : Monitors → (object : ℕ) → ℕ
number_at t o = slice_index t.numbers o

-- the tables tell what these records have made of the monitors
pub record AreMonitors (first : ℕ → ℕ) (done : List (ℕ × UndoRecord)) (t : Monitors) : Type 0 where
  pub holders : (o : ℕ) → o < 4096 → holder_at t o ≡ holder o done
  pub numbers : (o : ℕ) → o < 4096 → number_at t o ≡ number first o done

-- the lane may store to a field with this guard, by the tables
abbrev pub MayStoreBy : (guard : Option ObjectId) → Monitors → (lane : ℕ) → Type 0
MayStoreBy None t l = ⊥
MayStoreBy (Some o) t l = holder_at t o.0 ≡ Some (record { 0 = l })

-- the record is allowed, by the tables
abbrev pub IsAllowedBy : (guard : ℕ → Option ObjectId) → Monitors → (lane : ℕ) → UndoRecord → Type 0
IsAllowedBy guard t l (Acq o n) = (holder_at t o.0 ≡ None) × (number_at t o.0 ≡ n)
IsAllowedBy guard t l (Rel o n) = (holder_at t o.0 ≡ Some (record { 0 = l })) × (number_at t o.0 ≡ n)
IsAllowedBy guard t l (WaitRel o n) = (holder_at t o.0 ≡ Some (record { 0 = l })) × (number_at t o.0 ≡ n)
IsAllowedBy guard t l (Put f before) = MayStoreBy (guard f.0) t l

-- who holds which object after the lane's record
abbrev pub holders_after : List (Option Lane) → (lane : ℕ) → UndoRecord → List (Option Lane)
holders_after holders l (Acq o n) = slice_set holders o.0 (Some (record { 0 = l }))
holders_after holders l (Rel o n) = slice_set holders o.0 None
holders_after holders l (WaitRel o n) = slice_set holders o.0 None
holders_after holders l (Put f before) = holders

-- the objects' numbers after it
abbrev pub numbers_after : List ℕ → UndoRecord → List ℕ
numbers_after numbers (Acq o n) = numbers
numbers_after numbers (Rel o n) = slice_set numbers o.0 (n + 1)
numbers_after numbers (WaitRel o n) = slice_set numbers o.0 (n + 1)
numbers_after numbers (Put f before) = numbers

-- after each list of records that the monitors are those of, the answer is whether the lane may do this record. For a store, `guard` is its field's
abbrev pub AnswersAllowed : Monitors → Lane → UndoRecord → (guard : Option ObjectId) → Bool → Type 0
AnswersAllowed m lane r guard result = (first : ℕ → ℕ) (log : List (ℕ × UndoRecord)) → AreMonitors first log m → IsTrue result ↔ IsAllowed (λ f. guard) first log lane.0 r

-- monitors of records become those of the records and this one of the lane
abbrev pub NotesRecord : (old : Monitors) → Lane → UndoRecord → (new : Monitors) → Type 0
NotesRecord old lane r new = (first : ℕ → ℕ) (log : List (ℕ × UndoRecord)) → AreMonitors first log old → AreMonitors first ((lane.0, r) ∷ log) new
