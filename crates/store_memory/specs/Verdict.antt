-- The same reasons, in terms of what is remembered.
use Rattle.std.specs.Prelude.{ℕ, ◌≡◌, ◌+◌, ◌<◌, ◌≤◌, ◌^◌, ◌⊎◌, true, None, Some, Result, Ok, Err, List, length}
use Rattle.heap_model.specs.declared.record.Record.{Record}
use Rattle.heap_model.specs.declared.record.Record.TheVariants.{Acq, Rel, WaitRel, Put}
use Rattle.heap_model.specs.Log.{MayFollow}
use Rattle.heap_model.specs.declared.store_error.StoreError.{StoreError}
use Rattle.heap_model.specs.declared.store_error.StoreError.TheVariants.{BadLane, BadId, Worn, NotNext, TooLong, LogFull}
use Rattle.store_memory.specs.declared.states.MonitorState.{MonitorState}
use Rattle.store_memory.specs.declared.states.FieldState.{FieldState}
use Rattle.store_memory.specs.declared.states.LaneState.{LaneState}
use Rattle.store_memory.specs.Limits.{section_records}
use Rattle.store_memory.specs.Memory.{holder_in, number_in, value_in, guard_in, is_logged_in, lane_in, held_after, object_number}
use Rattle.store_memory.specs.Apply.{HasLastNumber}

-- the record's object is one of so many, or its field is one of these whose stores are logged
abbrev pub IsNamed : (objects : ℕ) → List FieldState → Record → Type 0
IsNamed objects fields (Acq o n) = o.0 < objects
IsNamed objects fields (Rel o n) = o.0 < objects
IsNamed objects fields (WaitRel o n) = o.0 < objects
IsNamed objects fields (Put f before after) = (f.0 < length fields) × (is_logged_in fields f.0 ≡ true)

-- the lane takes a free object at its number, frees one that it holds, or stores to a field whose guard it holds
abbrev pub Allows : (last : ℕ) → List MonitorState → List FieldState → (lane : ℕ) → Record → Type 0
Allows last monitors fields l (Acq o n) = (holder_in monitors o.0 ≡ None) × (number_in monitors o.0 ≡ n) × (n < last)
Allows last monitors fields l (Rel o n) = (holder_in monitors o.0 ≡ Some l) × (number_in monitors o.0 ≡ n)
Allows last monitors fields l (WaitRel o n) = (holder_in monitors o.0 ≡ Some l) × (number_in monitors o.0 ≡ n)
Allows last monitors fields l (Put f before after) = (holder_in monitors (guard_in fields f.0) ≡ Some l) × (value_in fields f.0 ≡ before)

abbrev pub IsWornIn : (last : ℕ) → LaneState → Record → Type 0
IsWornIn last s r = HasLastNumber last r ⊎ ((s.held ≡ 0) × (2 ^ 62 ≤ s.place))

abbrev pub IsNextIn : (last : ℕ) → List MonitorState → List FieldState → (lane : ℕ) → LaneState → Record → Type 0
IsNextIn last monitors fields l s r = Allows last monitors fields l r × MayFollow (object_number s.awaited) r

abbrev pub IsTooLongIn : LaneState → Record → Type 0
IsTooLongIn s r = section_records < s.section + 1 + held_after r s.held

abbrev pub IsFullIn : (capacity : ℕ) → LaneState → Type 0
IsFullIn capacity s = (s.held ≡ 0) × (s.start + capacity < s.place + section_records)

-- the answer to a record whose lane and names are good
abbrev pub JudgesNamed : (last capacity : ℕ) → LaneState → List MonitorState → List FieldState → (lane : ℕ) → Record → Result (Unit {0}) StoreError → Type 0
JudgesNamed last capacity s monitors fields l r (Err Worn) = IsWornIn last s r
JudgesNamed last capacity s monitors fields l r (Err NotNext) = (¬ IsWornIn last s r) × (¬ IsNextIn last monitors fields l s r)
JudgesNamed last capacity s monitors fields l r (Err TooLong) = (¬ IsWornIn last s r) × IsNextIn last monitors fields l s r × IsTooLongIn s r
JudgesNamed last capacity s monitors fields l r (Err LogFull) = (¬ IsWornIn last s r) × IsNextIn last monitors fields l s r × (¬ IsTooLongIn s r) × IsFullIn capacity s
JudgesNamed last capacity s monitors fields l r (Ok done) = (¬ IsWornIn last s r) × IsNextIn last monitors fields l s r × (¬ IsTooLongIn s r) × (¬ IsFullIn capacity s)
JudgesNamed last capacity s monitors fields l r (Err _) = ⊥

-- the answer to any record
abbrev pub Judges : (last capacity : ℕ) → List LaneState → List MonitorState → List FieldState → (lane : ℕ) → Record → Result (Unit {0}) StoreError → Type 0
Judges last capacity lanes monitors fields l r (Err BadLane) = length lanes ≤ l
Judges last capacity lanes monitors fields l r (Err BadId) = (l < length lanes) × (¬ IsNamed (length monitors) fields r)
Judges last capacity lanes monitors fields l r (Err Worn) = (l < length lanes) × IsNamed (length monitors) fields r × JudgesNamed last capacity (lane_in lanes l) monitors fields l r (Err Worn)
Judges last capacity lanes monitors fields l r (Err NotNext) = (l < length lanes) × IsNamed (length monitors) fields r × JudgesNamed last capacity (lane_in lanes l) monitors fields l r (Err NotNext)
Judges last capacity lanes monitors fields l r (Err TooLong) = (l < length lanes) × IsNamed (length monitors) fields r × JudgesNamed last capacity (lane_in lanes l) monitors fields l r (Err TooLong)
Judges last capacity lanes monitors fields l r (Err LogFull) = (l < length lanes) × IsNamed (length monitors) fields r × JudgesNamed last capacity (lane_in lanes l) monitors fields l r (Err LogFull)
Judges last capacity lanes monitors fields l r (Ok done) = (l < length lanes) × IsNamed (length monitors) fields r × JudgesNamed last capacity (lane_in lanes l) monitors fields l r (Ok done)
Judges last capacity lanes monitors fields l r (Err _) = ⊥

-- one more than the record's release number, if it has one, fits a word
abbrev pub NumberFits : Record → Type 0
NumberFits (Acq o n) = Unit {0}
NumberFits (Rel o n) = n + 1 < 2 ^ 64
NumberFits (WaitRel o n) = n + 1 < 2 ^ 64
NumberFits (Put f before after) = Unit {0}
