-- The calls of a pool, as C makes them: the calls of `host_heap` on what a session's handle has (this project's own).
use Rattle.std.specs.Prelude.{ℕ, ◌≡◌, ◌+◌, ◌<◌, ◌≤◌, List, ◌++◌, length, map, slice_get, Result, Ok, Err}
use Rattle.std.specs.List.{range_with_len, slice_index_or}
use Rattle.std.specs.Result.{result_unwrap_or}
use Rattle.host_heap.specs.Sessions.{Seated}
use Rattle.pool.specs.FreeList.{Place, IsFreeList}
use Rattle.pool.specs.Numbered.{FitsHeap, cell_first}
use Rattle.pool.specs.declared.error.PoolError.{PoolError}
use Rattle.pool.specs.declared.error.PoolError.TheVariants as pools
use Rattle.pool.specs.declared.pool.TheConstants.{MOST_SLOTS}
use Rattle.pool.specs.SectionCalls.{GivesSlot, TakesSlot}
use Rattle.session.specs.declared.error.SessionError.{SessionError}
use Rattle.zelamiku.specs.SessionStatuses.{refusal_status}
use Rattle.zelamiku.specs.declared.pool_calls.TheConstants.{NO_SLOT}
use Rattle.zelamiku.specs.declared.status.TheConstants.{OK, UNKNOWN_FIELD, TOO_MANY, EMPTY, POOL_EMPTY, NOT_TAKEN, DAMAGED}
use Rattle.zelamiku.specs.declared.words.Field.{Field}

-- the status of a refusal
abbrev pub pool_refusal : PoolError SessionError → ℕ
pool_refusal pools.Empty = POOL_EMPTY
pool_refusal pools.NotTaken = NOT_TAKEN
pool_refusal pools.Damaged = DAMAGED
pool_refusal (pools.Cells e) = refusal_status e

-- the status of an answer
abbrev pub pool_status : {A : Type 0} → Result A (PoolError SessionError) → ℕ
pool_status (Ok value) = OK
pool_status (Err e) = pool_refusal e

-- the pool that C names by the field of its head and by its slots
abbrev pub pool_at : (head slots : ℕ) → Place
pool_at head slots = record { head = head; slots = slots }

-- A slot of the pool is taken: its number, or `NO_SLOT` where that is refused. A pool that no heap has room for is refused before all else.
pub data TakesAt (head slots slot : ℕ) (s t : Seated) (status : ℕ) : Type 0 where
  Takes : (answer : Result ℕ (PoolError SessionError)) → FitsHeap head slots → TakesSlot s.home s.session t.session (pool_at head slots) answer
      → slot ≡ result_unwrap_or answer NO_SLOT → status ≡ pool_status answer → TakesAt head slots slot s t status
  TakesOfNone : ¬ FitsHeap head slots → t ≡ s → slot ≡ NO_SLOT → status ≡ UNKNOWN_FIELD → TakesAt head slots slot s t status

-- A slot of the pool is given back, or that is refused: also where the pool has no slot of this number.
pub data GivesAt (head slots slot : ℕ) (s t : Seated) (status : ℕ) : Type 0 where
  Gives : (answer : Result (Unit {0}) (PoolError SessionError)) → FitsHeap head slots → slot < slots
      → GivesSlot s.home s.session t.session (pool_at head slots) slot answer → status ≡ pool_status answer → GivesAt head slots slot s t status
  GivesToNone : ¬ FitsHeap head slots → t ≡ s → status ≡ UNKNOWN_FIELD → GivesAt head slots slot s t status
  GivesNone : FitsHeap head slots → slots ≤ slot → t ≡ s → status ≡ NOT_TAKEN → GivesAt head slots slot s t status

-- a field of a pool of this object: a persistent one, which the object has and guards
abbrev pub pool_field : (object slots cell : ℕ) → Field
pool_field object slots cell = record { owner = object; guard = object; first = cell_first slots cell; transient = 0 }

-- so many of these fields are those of a pool
abbrev pub AreFieldsBelow : (object slots count : ℕ) → List Field → Type 0
AreFieldsBelow object slots count fields = (cell : ℕ) (d : Field) → cell < count → slice_index_or fields cell d ≡ pool_field object slots cell

-- these are the fields of a pool of so many slots: the head's, and after it those of the slots
pub record ArePoolFields (object slots : ℕ) (fields : List Field) : Type 0 where
  pub count : length fields ≡ slots + 1
  pub each : AreFieldsBelow object slots (slots + 1) fields

-- The fields of a pool are laid out: as many slots as there are fields after the first. Or there is no slot, or more than a pool has.
pub data LaysOutAt (object : ℕ) (before after : List Field) (status : ℕ) : Type 0 where
  LaysOut : (slots : ℕ) → 0 < slots → slots ≤ MOST_SLOTS → length before ≡ slots + 1 → ArePoolFields object slots after → status ≡ OK → LaysOutAt object before after status
  LaysOutNone : length before < 2 → after ≡ before → status ≡ EMPTY → LaysOutAt object before after status
  LaysOutTooMany : MOST_SLOTS + 1 < length before → after ≡ before → status ≡ TOO_MANY → LaysOutAt object before after status

-- Wherever they stand among a heap's fields, the values with which they begin spell a pool, all of whose slots are free, in their order.
abbrev pub AreFreeAnywhere : List Field → Type 0
AreFreeAnywhere fields = (slots : ℕ) (earlier later : List Field) → length fields ≡ slots + 1
    → IsFreeList (pool_at (length earlier) slots) (slice_get (map (λ (f : Field). f.first) (earlier ++ (fields ++ later)))) (range_with_len 0 slots)
