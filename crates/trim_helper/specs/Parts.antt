-- A helper, as contracts see it, and what it serves.
use Rattle.std.specs.Prelude.{ℕ, ◌≡◌, ◌<◌, ◌≤◌, Bool, true, false, List, Option, length}
use Rattle.thread_rings.specs.Rings.{Receiving}
use Rattle.heap_model.specs.declared.record.Record.{Record}
use Rattle.heap_model.specs.Setting.{Setting}
use Rattle.block_disk.specs.Device.{Device}
use Rattle.store_rounds.specs.Store as stores
use Rattle.heap_model.specs.Past.{Past, IsTrimmed}
use Rattle.monitor.specs.Seats.{Helping}
use Rattle.thread_rings.specs.declared.ring_records.TheConstants.{MOST_RING_RECORDS}
use Rattle.trim_helper.specs.Counts.{StandForCuts}
use Rattle.trim_helper.specs.Draining.{Drained}
use Rattle.trim_helper.specs.declared.draining.TheConstants.{LOOKS}
use Rattle.trim_helper.specs.Helping.{IsPublished, count_published, place_published}
use Rattle.trim_helper.specs.Moves.{most_room}
use Rattle.trim_helper.specs.Seen.{SeesFrom}
use Rattle.trim_helper.specs.Settled.{IsSettled}
use Rattle.trim_helper.specs.Taken.{Taking, HasTaken, trimmed_of}

-- a helper over whatever device: its store, its ends of the rings and the record that waits to be next, by lane, whether nothing was
-- applied since a round answered Ok, or since it began, and its seat
pub record Parts (D : Type 0) : Type 0 where
  pub store : stores.Parts D
  pub rings : List Receiving
  pub waiting : List (Option Record)
  pub is_settled : Bool
  pub seat : Helping

-- what takes records from the rings
abbrev pub taking_of : {D : Type 0} → Parts D → Taking D
taking_of x = record { store = x.store; rings = x.rings; waiting = x.waiting }

module _ {D : Type 0} (device : D → Device) where
  -- The store has this past, by what was received. By lane, a published count is at most what is acknowledged, and a published place at
  -- most what is trimmed. Where nothing was applied since all was settled, they are equal, all that is acknowledged is trimmed, and the
  -- store hasn't failed. Each count that was ever published as acknowledged is that of a whole, closed cut of what was applied.
  pub record IsServing (x : Parts D) (s : Setting) (p : Past) : Type 0 where
    pub taken : HasTaken device (taking_of x) s p
    -- A published count of sections is at most what is acknowledged of the lane.
    pub counts : (l : ℕ) → l < x.store.known.threads → count_published x.seat l ≤ p.cut l
    -- A published place is at most what is trimmed of the lane.
    pub places : (l : ℕ) → l < x.store.known.threads → place_published x.seat l ≤ trimmed_of p l
    pub running : x.is_settled ≡ true → x.store.known.has_failed ≡ false
    -- Where nothing was applied since the last good round, the acknowledged cut is the stable cut of all that was
    -- applied.
    pub settled : x.is_settled ≡ true → IsSettled s p
    -- Where nothing was applied since the last good round, all that is acknowledged is trimmed.
    pub trimmed : x.is_settled ≡ true → IsTrimmed p
    -- Where nothing was applied since the last good round, all that is acknowledged and trimmed is published.
    pub published : x.is_settled ≡ true → IsPublished x.seat x.store.known.threads p
    -- Each count of sections that was ever published is that of some whole, closed cut of what was applied.
    pub stand : StandForCuts x.seat x.store.known.threads p

  -- so many records were applied of what its rings held in a drain's looks at them
  abbrev pub HasDrained : (old new : Parts D) → ℕ → Type 0
  HasDrained x y n = Drained device LOOKS (taking_of x) (taking_of y) n

  -- each lane has a ring, of which the helper has seen what it heard, and the store has a past
  pub record IsWhole (x : Parts D) : Type 0 where
    pub lanes : length x.rings ≡ x.store.known.threads
    pub few : length x.rings ≤ 32
    pub rooms : most_room x.rings ≤ MOST_RING_RECORDS
    pub sees : SeesFrom x.seat 0 x.rings
    pub setting : Setting
    pub past : Past
    pub serving : IsServing x setting past
