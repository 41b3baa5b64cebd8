-- How rings are drained: each function's call as one relation (this project's own).
use Rattle.std.specs.Prelude.{ℕ, ◌≡◌, ◌≢◌, ◌+◌, ◌*◌, ◌/◌, ◌<◌, ◌≤◌, ◌⊎◌, if◌then◌else◌, Bool, true, false, List, ◌++◌, length, Option, Result, Ok, Err, IfOk, IfErr, OnErr}
use Rattle.heap_model.specs.declared.event.Event.{Event}
use Rattle.thread_rings.specs.declared.ring_records.TheConstants.{MOST_RING_RECORDS}
use Rattle.heap_model.specs.declared.record.Record.{Record}
use Rattle.heap_model.specs.History.{log_of}
use Rattle.heap_model.specs.Log.{lane as lane_of}
use Rattle.heap_model.specs.Setting.{Setting}
use Rattle.block_disk.specs.Device.{Device}
use Rattle.heap_model.specs.Past.{Past, applied}
use Rattle.heap_model.specs.declared.store_error.StoreError.{StoreError}
use Rattle.heap_model.specs.declared.store_error.StoreError.TheVariants.{Failed}
use Rattle.trim_helper.specs.Bounds.{IsAt, IsBelow, IsWithin}
use Rattle.trim_helper.specs.Moves.{SameRings, most_room}
use Rattle.trim_helper.specs.Rings.{received_of, known_of}
use Rattle.trim_helper.specs.Seen.{KeepsTold}
use Rattle.trim_helper.specs.Serving.{HoldHistory}
use Rattle.trim_helper.specs.Taken.{Taking, HadTurn, HasGone, HasTaken, Advances, IsLaneStuck, IsStuckAt, AllStuck, applied_more}
use Rattle.trim_helper.specs.declared.draining.TheConstants.{LOOKS}

-- how many records went, where it answers whether one did
abbrev pub counted : Result Bool StoreError → Result ℕ StoreError
counted (Ok gone) = Ok (if gone then 1 else 0)
counted (Err e) = Err e

module _ {D : Type 0} (device : D → Device) where
  -- Records were applied, as many as it answers. It is refused only where the store had failed, and what was applied before stands.
  pub record Takes (x y : Taking D) (answer : Result ℕ StoreError) : Type 0 where
    pub ok : IfOk answer (λ n. Advances device x y n)
    pub kept : OnErr answer ((n : ℕ) × Advances device x y n)
    pub failed : IfErr answer (λ e. e ≡ Failed)
    pub why : (s : Setting) (p : Past) → HasTaken device x s p → OnErr answer (x.store.known.has_failed ≡ true)

  -- The lane doesn't go on: the store is as it was, and no other lane goes on that didn't before.
  pub record Rests (lane : ℕ) (x y : Taking D) : Type 0 where
    pub store : y.store ≡ x.store
    pub stuck : IsStuckAt device y lane
    pub others : (l : ℕ) (s : Setting) (p : Past) → lane ≢ l → IsLaneStuck x.store.known x.rings x.waiting s p l → IsLaneStuck y.store.known y.rings y.waiting s p l

  -- One lane's next record is applied, if one is known and it is next: it answers whether.
  pub record AppliesNext (lane : ℕ) (x y : Taking D) (answer : Result Bool StoreError) : Type 0 where
    pub takes : Takes x y (counted answer)
    pub gone : IfOk (counted answer) (λ n. HasGone n lane x y)
    pub rests : IfOk answer (λ gone. gone ≡ false → Rests lane x y)

  -- At most so many of one lane's records are applied, as long as the next one can be.
  pub record AppliesLane (lane most : ℕ) (x y : Taking D) (answer : Result ℕ StoreError) : Type 0 where
    pub takes : Takes x y answer
    pub within : IfOk answer (λ n. n ≤ most)
    pub gone : IfOk answer (λ n. HasGone n lane x y)
    pub stuck : IfOk answer (λ n. n < most → IsStuckAt device y lane)
    pub rests : IfOk answer (λ n. n ≡ 0 → 0 < most → Rests lane x y)

  -- each lane had its turn, for an equal part of so many records, rounded down
  abbrev pub HadParts : (most : ℕ) → (x y : Taking D) → Type 0
  HadParts most x y = (l : ℕ) → l < length x.rings → HadTurn device (most / length x.rings) l x y

  -- At most so many of the lanes' records are applied, in turn, as long as the next one can be. Where some might be and none was, none can
  -- be.
  pub record AppliesLanes (most : ℕ) (x y : Taking D) (answer : Result ℕ StoreError) : Type 0 where
    pub takes : Takes x y answer
    pub within : IfOk answer (λ n. n ≤ most)
    pub stuck : IfOk answer (λ n. n ≡ 0 → 0 < most → AllStuck device y)
    -- each lane could have an equal part, rounded down
    pub parts : IfOk answer (λ n. HadParts most x y)

  -- where the rings hold the logs of one legal history, all of it is applied
  abbrev pub HasAll : Taking D → Type 0
  HasAll y = (s : Setting) (p : Past) (h : List (ℕ × Event)) → HasTaken device y s p → HoldHistory y.rings y.store.known.layout s p h → (l : ℕ) → lane_of l (applied p) ≡ lane_of l (log_of s h)

  -- The lanes go on until none can, or so many records were applied.
  pub record Empties (most : ℕ) (x y : Taking D) (answer : Result ℕ StoreError) : Type 0 where
    pub takes : Takes x y answer
    pub within : IfOk answer (λ n. n ≤ most)
    pub stuck : IfOk answer (λ n. n < most → AllStuck device y)
    pub whole : IfOk answer (λ n. n < most → HasAll y)
    pub parts : IfOk answer (λ n. n ≡ most → HadParts most x y)

  -- So many records were applied of what the rings held in so many looks at them: of each lane at most a ring's a look.
  pub record Drained (looks : ℕ) (x y : Taking D) (n : ℕ) : Type 0 where
    -- The records that a drain applied are as many as it answers.
    pub made : (s : Setting) (p : Past) → HasTaken device x s p → (newer : List (ℕ × Record)) × (length newer ≡ n) × HasTaken device y s (applied_more newer p)
    -- more may be known of the rings, and what was known before is in its place
    pub whole : (l : ℕ) → (more : List Record) × (received_of y.rings l ++ known_of y.rings l ≡ (received_of x.rings l ++ known_of x.rings l) ++ more)
    -- A drain takes of each lane at most the records of the largest of its rings for each look at them.
    pub most : (l : ℕ) → length (received_of y.rings l) ≤ length (received_of x.rings l) + looks * most_room x.rings
    -- the largest ring's a look, and the one that waits, of each of 32 lanes
    pub few : n ≤ looks * (32 * (MOST_RING_RECORDS + 1))
    pub same : SameRings x.rings y.rings
    pub told : KeepsTold x.rings y.rings
    pub slots : length y.waiting ≡ length x.waiting
    pub layout : y.store.known.layout ≡ x.store.known.layout
    pub threads : y.store.known.threads ≡ x.store.known.threads
    pub running : y.store.known.has_failed ≡ x.store.known.has_failed
    -- the control is as it was, and the device wasn't called
    pub sequence : y.store.known.committed.sequence ≡ x.store.known.committed.sequence
    pub uncalled : device y.store.disk ≡ device x.store.disk
    -- A store that has failed stays as it is, and nothing is applied.
    pub still : x.store.known.has_failed ≡ true → (n ≡ 0) × (y.store ≡ x.store)

  -- At some moment of a drain the lane couldn't go on: nothing more was known of its ring, or the store refused the record that waits.
  pub record WasStuck (lane : ℕ) (x y : Taking D) : Type 0 where
    pub moment : Taking D
    pub before : ℕ
    pub since : ℕ
    pub first : Drained LOOKS x moment before
    pub later : Drained LOOKS moment y since
    pub stuck : IsStuckAt device moment lane

  -- Each lane had an equal part of so many records, rounded down: at least so many of its records were applied, or at some moment it
  -- couldn't go on.
  abbrev pub SharesBound : (most : ℕ) → (x y : Taking D) → Type 0
  SharesBound most x y = (l : ℕ) → l < length x.rings → HasGone (most / length x.rings) l x y ⊎ WasStuck l x y

  -- The rings are looked at, at most so often, and each time the lanes go on until none can, or so many records were applied.
  pub record DrainsRings (looks : ℕ) (most : Option ℕ) (x y : Taking D) (answer : Result ℕ StoreError) : Type 0 where
    pub ok : IfOk answer (λ n. Drained looks x y n)
    -- A drain with a bound applies at most so many records.
    pub within : IfOk answer (λ n. IsWithin most n)
    -- A drain that reaches its bound shares it equally: no lane is left out for another one.
    pub shares : IfOk answer (λ n. IsAt most n → SharesBound n x y)
    -- What a refused drain had applied stands.
    pub kept : OnErr answer ((n : ℕ) × Drained looks x y n)
    -- A drain that applied fewer than its bound leaves no lane that can go on.
    pub stuck : IfOk answer (λ n. IsBelow most n → AllStuck device y)
    -- A drain that isn't refused, and whose bound isn't reached, empties rings that hold the logs of one legal history
    -- within limits, in whatever order the lanes come.
    pub whole : IfOk answer (λ n. IsBelow most n → HasAll y)
    pub failed : IfErr answer (λ e. e ≡ Failed)
    pub why : (s : Setting) (p : Past) → HasTaken device x s p → OnErr answer (x.store.known.has_failed ≡ true)
