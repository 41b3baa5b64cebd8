-- What takes records from the rings: what it has taken, and what became of it.
use Rattle.std.specs.Prelude.{ℕ, ◌≡◌, ◌≢◌, ◌+◌, ◌<◌, ◌≤◌, ◌⊎◌, true, List, [], ◌++◌, length, Option, MatchOption}
use Rattle.thread_rings.specs.Rings.{Receiving}
use Rattle.heap_model.specs.declared.record.Record.{Record}
use Rattle.heap_model.specs.Setting.{Setting}
use Rattle.block_disk.specs.Device.{Device}
use Rattle.undo_log.specs.Dropped.{undo_logs, records_in}
use Rattle.heap_model.specs.Past.{Past, applied}
use Rattle.store_rounds.specs.Steps.{RefusesApply}
use Rattle.store_rounds.specs.Store as stores
use Rattle.store_rounds.specs.Store.{Known, HasPast}
use Rattle.heap_model.specs.declared.store_error.StoreError.{StoreError}
use Rattle.heap_model.specs.declared.store_error.StoreError.TheVariants.{Failed}
use Rattle.trim_helper.specs.Rings.{received_of, known_of, held_back, waiting_in, stream}
use Rattle.trim_helper.specs.Moves.{known_sum, held_sum, SameRings}
use Rattle.trim_helper.specs.Seen.{KeepsTold}

-- what takes records from the rings: the store, the rings' ends, and the record of each lane that was taken and waits to be next
pub record Taking (D : Type 0) : Type 0 where
  pub store : stores.Parts D
  pub rings : List Receiving
  pub waiting : List (Option Record)

-- these three
abbrev pub with_rings : {D : Type 0} → stores.Parts D → List Receiving → List (Option Record) → Taking D
with_rings store rings waiting = record { store = store; rings = rings; waiting = waiting }

-- at least so many of the lane's records were applied: those that were taken of its ring, less the one that waits
abbrev pub HasGone : {D : Type 0} → (part lane : ℕ) → (x y : Taking D) → Type 0
HasGone n l x y = (length (received_of x.rings l) + length (held_back (waiting_in y.waiting l))) + n ≤ length (received_of y.rings l) + length (held_back (waiting_in x.waiting l))

-- the past in which these were applied too, the newest first
abbrev pub applied_more : List (ℕ × Record) → Past → Past
applied_more newer p = record p { fresh = newer ++ p.fresh }

-- the first place of the lane that wasn't trimmed
abbrev pub trimmed_of : Past → (lane : ℕ) → ℕ
trimmed_of p l = records_in (p.base l) (undo_logs p.logged l)

-- the store refuses the lane's record, and not since it has failed
abbrev pub IsRefused : Known → Setting → Past → (lane : ℕ) → Record → Type 0
IsRefused x s p l r = (e : StoreError) × (e ≢ Failed) × RefusesApply x s p l r e

-- The lane doesn't go on: the store refuses the record that waits, as not next, for want of room or at an end of numbers, or none waits
-- and none is known to be in the ring.
abbrev pub IsLaneStuck : Known → List Receiving → List (Option Record) → Setting → Past → (lane : ℕ) → Type 0
IsLaneStuck x rings waiting s p l = MatchOption (waiting_in waiting l) (known_of rings l ≡ []) (λ r. IsRefused x s p l r)

module _ {D : Type 0} (device : D → Device) where
  -- The records applied of a lane are those that its consumer took, in order, but for at most one that waits to be next.
  pub record HasTaken (x : Taking D) (s : Setting) (p : Past) : Type 0 where
    pub has : HasPast x.store.known s p (device x.store.disk)
    -- The records applied of a lane are those taken from its ring, in order, but for at most one that waits.
    pub taken : (l : ℕ) → received_of x.rings l ≡ stream l (applied p) ++ held_back (waiting_in x.waiting l)

  -- So many records were applied, those of each lane in the order in which they were sent, and nothing was read of the rings but what was known.
  pub record Advances (x y : Taking D) (n : ℕ) : Type 0 where
    pub made : (s : Setting) (p : Past) → HasTaken x s p → (newer : List (ℕ × Record)) × (length newer ≡ n) × HasTaken y s (applied_more newer p)
    pub whole : (l : ℕ) → received_of y.rings l ++ known_of y.rings l ≡ received_of x.rings l ++ known_of x.rings l
    pub left : known_sum x.rings + held_sum x.waiting ≡ (known_sum y.rings + held_sum y.waiting) + n
    -- of no lane what was applied grows less
    pub rises : (l : ℕ) → HasGone 0 l x y
    pub same : SameRings x.rings y.rings
    -- where a ring keeps no witness now, no release was taken of it
    pub told : KeepsTold x.rings y.rings
    pub slots : length y.waiting ≡ length x.waiting
    pub layout : y.store.known.layout ≡ x.store.known.layout
    pub threads : y.store.known.threads ≡ x.store.known.threads
    pub running : y.store.known.has_failed ≡ x.store.known.has_failed
    -- the control is as it was, and the device wasn't called
    pub sequence : y.store.known.committed.sequence ≡ x.store.known.committed.sequence
    pub uncalled : device y.store.disk ≡ device x.store.disk
    -- A store that has failed stays as it is, and nothing is applied.
    pub still : x.store.known.has_failed ≡ true → (n ≡ 0) × (y.store ≡ x.store)

  -- whatever past the store has, the lane doesn't go on
  abbrev pub IsStuckAt : Taking D → (lane : ℕ) → Type 0
  IsStuckAt x lane = (s : Setting) (p : Past) → HasPast x.store.known s p (device x.store.disk) → IsLaneStuck x.store.known x.rings x.waiting s p lane

  -- no lane does
  abbrev pub AllStuck : Taking D → Type 0
  AllStuck x = (lane : ℕ) → lane < length x.rings → IsStuckAt x lane

  -- At some moment the lane couldn't go on.
  pub record RanOut (lane : ℕ) (x y : Taking D) : Type 0 where
    pub moment : Taking D
    pub before : ℕ
    pub since : ℕ
    pub first : Advances x moment before
    pub later : Advances moment y since
    pub stuck : IsStuckAt moment lane

  -- the lane had its turn: so many of its records were applied, or at some moment it couldn't go on
  abbrev pub HadTurn : (part lane : ℕ) → (x y : Taking D) → Type 0
  HadTurn n l x y = HasGone n l x y ⊎ RanOut l x y
