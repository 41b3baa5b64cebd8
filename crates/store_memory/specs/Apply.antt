-- What a store answers to a record, and why (this project's own).
use Rattle.std.specs.Prelude.{ℕ, ◌≡◌, ◌+◌, ◌<◌, ◌≤◌, ◌^◌, ◌⊎◌, Result, Ok, Err, OnOk, OnErr, ◌∷◌, length}
use Rattle.heap_model.specs.declared.record.Record.{Record}
use Rattle.heap_model.specs.declared.record.Record.TheVariants.{Acq, Rel, WaitRel, Put}
use Rattle.heap_model.specs.Setting.{Setting}
use Rattle.heap_model.specs.Log.{lane, awaited, IsAllowed, MayFollow, IsRecordOf}
use Rattle.heap_model.specs.Sections.{action, actions, holding}
use Rattle.heap_model.specs.declared.store_error.StoreError.{StoreError}
use Rattle.heap_model.specs.declared.store_error.StoreError.TheVariants.{BadLane, BadId, Worn, NotNext, TooLong, LogFull}
use Rattle.heap_model.specs.Past.{Past, applied, after_apply}
use Rattle.store_memory.specs.Limits.{section_records}
use Rattle.store_memory.specs.Memory.{Memory, lane_in, KeepsLayout}
use Rattle.store_memory.specs.Remembers.{Remembers, held_of, section_of, place_of}

-- the record's release number, if it has one, is the last or more
abbrev pub HasLastNumber : (last : ℕ) → Record → Type 0
HasLastNumber last (Acq o n) = last ≤ n
HasLastNumber last (Rel o n) = last ≤ n
HasLastNumber last (WaitRel o n) = last ≤ n
HasLastNumber last (Put f before after) = ⊥

-- numbers or places have come to their end: a section's first record stands below place 2 ^ 62
abbrev pub IsWorn : Setting → Past → (lane : ℕ) → Record → Type 0
IsWorn s p l r = HasLastNumber s.last r ⊎ ((held_of p l ≡ 0) × (2 ^ 62 ≤ place_of p l))

-- the record is one that the lane may do next
abbrev pub IsNext : Setting → Past → (lane : ℕ) → Record → Type 0
IsNext s p l r = IsAllowed s (applied p) l r × MayFollow (awaited l (applied p)) r

-- a section's records, with this one and the releases that are then still needed, pass 1,000
abbrev pub IsTooLong : Past → (lane : ℕ) → Record → Type 0
IsTooLong p l r = section_records < section_of p l + 1 + length (holding (action r ∷ lane l (actions (applied p))))

-- a section would begin, and the records from the lane's start with 1,000 more pass its area
abbrev pub IsFull : Memory → Past → (lane : ℕ) → Type 0
IsFull m p l = (held_of p l ≡ 0) × ((lane_in m.lanes l).start + m.capacity < place_of p l + section_records)

-- Why a record is refused, in the order in which the reasons are tried, and when it is taken.
abbrev pub Answers : Setting → Memory → Past → (lane : ℕ) → Record → Result (Unit {0}) StoreError → Type 0
Answers s m p l r (Err BadLane) = length m.lanes ≤ l
Answers s m p l r (Err BadId) = (l < length m.lanes) × (¬ IsRecordOf s r)
Answers s m p l r (Err Worn) = (l < length m.lanes) × IsRecordOf s r × IsWorn s p l r
Answers s m p l r (Err NotNext) = (l < length m.lanes) × IsRecordOf s r × (¬ IsWorn s p l r) × (¬ IsNext s p l r)
Answers s m p l r (Err TooLong) = (l < length m.lanes) × IsRecordOf s r × (¬ IsWorn s p l r) × IsNext s p l r × IsTooLong p l r
Answers s m p l r (Err LogFull) = (l < length m.lanes) × IsRecordOf s r × (¬ IsWorn s p l r) × IsNext s p l r × (¬ IsTooLong p l r) × IsFull m p l
Answers s m p l r (Ok done) = (l < length m.lanes) × IsRecordOf s r × (¬ IsWorn s p l r) × IsNext s p l r × (¬ IsTooLong p l r) × (¬ IsFull m p l)
Answers s m p l r (Err _) = ⊥

-- A call that applies the lane's next record: `old` is the memory before it and `new` the one after it.
pub record Takes (lane : ℕ) (r : Record) (old new : Memory) (result : Result (Unit {0}) StoreError) : Type 0 where
  -- The answer is the one that the past calls for.
  pub answer : (s : Setting) (p : Past) → Remembers s old p → Answers s old p lane r result
  -- After a success the record is the newest that was applied.
  pub ok : (s : Setting) (p : Past) → Remembers s old p → OnOk result (Remembers s new (after_apply p lane r))
  -- A refusal changes nothing.
  pub err : OnErr result (new ≡ old)
  -- The bounds stay, how many lanes, objects and fields there are, and what was trimmed.
  pub kept : KeepsLayout old new
