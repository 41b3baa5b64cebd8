-- The sessions that meet the helper.
use Rattle.std.specs.Prelude.{ℕ, ◌≡◌, ◌≢◌, ◌⊎◌, true, false, ◌+◌, ◌-◌, ◌^◌, ◌<◌, ◌≤◌, ◌==◌, if◌then◌else◌, List, [], ◌∷◌, map, length}
use Rattle.thread_rings.specs.Rings.{Receiving, sent}
use Rattle.heap_model.specs.Setting.{Setting}
use Rattle.block_disk.specs.Device.{Device, HasFailed}
use Rattle.store_rounds.specs.Store.{Known, HasPast}
use Rattle.heap_model.specs.Past.{Past}
use Rattle.heap_model.specs.Own.{own_log, sent_of}
use Rattle.heap_model.specs.Sections.{action, holding}
use Rattle.monitor.specs.Words.{setting_of}
use Rattle.monitor.specs.Views.{lane_of, noted}
use Rattle.monitor.specs.Seats.{Home, Sitting, IsSeatOf}
use Rattle.trim_helper.specs.Limits.{KeepsLimits}
use Rattle.trim_helper.specs.Moves.{IsEndOf}
use Rattle.trim_helper.specs.Serving.{Part}
use Rattle.trim_helper.specs.declared.ended.Ended.{Ended}
use Rattle.trim_helper.specs.declared.close_error.CloseError.{CloseError}
use Rattle.trim_helper.specs.declared.close_error.CloseError.TheVariants.{Missing, Unfinished, Failed, Worn, Fault}

-- the rings of a helper
abbrev pub Rings : Type 0
Rings = List Receiving

-- the acknowledged count and the trimmed place that a seat last read of its lane, 0 before
abbrev pub count_read : Sitting → ℕ
count_read s = noted (lane_of s.view).0 s.view.notes

abbrev pub place_read : Sitting → ℕ
place_read s = noted (32 + (lane_of s.view).0) s.view.notes

-- a seat, as the lane that it is of
abbrev pub part_at : Sitting → Part
part_at s = record { lane = (lane_of s.view).0; events = s.view.events; count = count_read s; place = place_read s }

-- What is known of a session that has ended. Its seat's view has its lane. What it sent is the log of its events, within the limits by the
-- trimmed place that it last read. It counts what it holds, and its ring is the lane's.
pub record IsEnded (h : Home) (capacity : ℕ) (rings : Rings) (e : Ended) : Type 0 where
  pub seat : IsSeatOf h e.seat
  pub lane : e.lane.0 ≡ (lane_of e.seat.view).0
  pub all_sent : sent e.producer ≡ sent_of (setting_of h.plan) e.seat.view.events
  pub limits : KeepsLimits (place_read e.seat) capacity (own_log (setting_of h.plan) e.seat.view.events)
  pub held : e.held ≡ length (holding (map action (own_log (setting_of h.plan) e.seat.view.events)))
  pub ring : IsEndOf e.producer rings e.lane.0

-- each of them is one
abbrev pub AreEnded : (h : Home) (capacity : ℕ) (rings : Rings) → List Ended → Type 0
AreEnded h capacity rings [] = Unit {0}
AreEnded h capacity rings (e ∷ es) = IsEnded h capacity rings e × AreEnded h capacity rings es

-- the sessions' views
abbrev pub parts_of : List Ended → List Part
parts_of es = map (λ e. part_at e.seat) es

-- their lanes
abbrev pub lanes_ended : List Ended → List ℕ
lanes_ended es = map (λ e. e.lane.0) es

-- none of them holds a monitor
abbrev pub HoldNone : List Ended → Type 0
HoldNone [] = Unit {0}
HoldNone (e ∷ es) = (e.held ≡ 0) × HoldNone es

-- how many of them are of this lane
abbrev pub count_lane : (lane : ℕ) → List Ended → ℕ
count_lane l [] = 0
count_lane l (e ∷ es) = if e.lane.0 == l then count_lane l es + 1 else count_lane l es

-- the session of this lane holds a monitor
abbrev pub HasOpen : (lane : ℕ) → List Ended → Type 0
HasOpen l [] = ⊥
HasOpen l (e ∷ es) = ((e.lane.0 ≡ l) × (0 < e.held)) ⊎ HasOpen l es

-- there is just one session of each of these lanes
abbrev pub IsComplete : (lanes : ℕ) → List Ended → Type 0
IsComplete lanes es = (l : ℕ) → l < lanes → count_lane l es ≡ 1

-- Why the sessions don't close the heap down: the least lane that hasn't just one of them, or the least that holds a monitor.
abbrev pub RefusesEnded : (lanes : ℕ) → List Ended → CloseError → Type 0
RefusesEnded lanes es (Missing l) = (l.0 < lanes) × (count_lane l.0 es ≢ 1) × IsComplete l.0 es
RefusesEnded lanes es (Unfinished l) = IsComplete lanes es × HasOpen l.0 es × ((k : ℕ) → HasOpen k es → l.0 ≤ k)
RefusesEnded lanes es _ = ⊥

-- The device is that of a store whose control has the last sequence. The store runs: of one that has failed the device's control isn't known.
pub record IsWornOut (d : Device) : Type 0 where
  pub known : Known
  pub setting : Setting
  pub past : Past
  pub has : HasPast known setting past d
  pub runs : known.has_failed ≡ false
  pub last : known.committed.sequence ≡ 2 ^ 64 - 1

-- what of a store stops the closing
abbrev pub IsCloseStop : CloseError → Type 0
IsCloseStop e = (e ≡ Failed) ⊎ ((e ≡ Worn) ⊎ (e ≡ Fault))

-- Why a heap isn't closed down: by its sessions, or else by its store.
abbrev pub RefusesClosing : (lanes : ℕ) → List Ended → CloseError → Type 0
RefusesClosing lanes es (Missing l) = RefusesEnded lanes es (Missing l)
RefusesClosing lanes es (Unfinished l) = RefusesEnded lanes es (Unfinished l)
RefusesClosing lanes es _ = HoldNone es × IsComplete lanes es

-- the sessions stop the closing, and not the store
abbrev pub IsOfSessions : CloseError → Type 0
IsOfSessions (Missing l) = Unit {0}
IsOfSessions (Unfinished l) = Unit {0}
IsOfSessions _ = ⊥

-- why the store stops it: the device had failed before; a control that the device has is at its last sequence; or the device has failed since
pub record IsCloseWhy (old : Known) (before now : Device) (e : CloseError) : Type 0 where
  pub failed : e ≡ Failed → old.has_failed ≡ true
  pub worn : e ≡ Worn → IsWornOut now
  -- A closing answers `Worn` only where it began at most two sequences before the end.
  pub soon : e ≡ Worn → 2 ^ 64 ≤ old.committed.sequence + 3
  pub fault : e ≡ Fault → HasFailed before.failures now.failures
