-- What the helper knows of the one history once it has heard its rings (this project's own).
use Rattle.std.specs.Prelude.{ℕ, ◌≡◌, ◌<◌, List, length}
use Rattle.thread_rings.specs.Following.{to_release}
use Rattle.heap_model.specs.declared.event.Event.{Event}
use Rattle.heap_model.specs.History.{IsLegalHistory}
use Rattle.heap_model.specs.Setting.{Setting}
use Rattle.block_disk.specs.Device.{Device}
use Rattle.monitor.specs.Seats.{Home}
use Rattle.monitor.specs.Views.{GoesOn}
use Rattle.monitor.specs.Words.{setting_of}
use Rattle.trim_helper.specs.Hearing.{IsNoted, KeepsRecords}
use Rattle.trim_helper.specs.Helping.{IsHelper}
use Rattle.heap_model.specs.Past.{Past, applied}
use Rattle.trim_helper.specs.Parts.{IsServing, Parts}
use Rattle.trim_helper.specs.Rings.{received_of, stream}
use Rattle.trim_helper.specs.Seen.{BeginsLog}

-- The history that the helper has seen is legal; and of each lane, what was taken up to the last release is the beginning of what that history
-- logs of the lane.
pub record HasSeen {D : Type 0} (h : Home) (y : Parts D) : Type 0 where
  -- The history that the helper has seen is legal.
  pub legal : IsLegalHistory (setting_of h.plan) y.seat.view.history
  -- What was taken of each lane, up to the last release, is the beginning of what the seen history logs of the lane.
  pub logs : (l : ℕ) → l < length y.rings → BeginsLog h.plan l y.seat.view.history (to_release (received_of y.rings l))

-- The rings were heard, and nothing else was done: the helper has seen more of the history, or as much.
pub record Hears {D : Type 0} (h : Home) (x y : Parts D) : Type 0 where
  pub seen : HasSeen h y
  pub goes_on : GoesOn y.seat.view.history x.seat.view.history
  pub seat : IsHelper h y.seat
  pub noted : IsNoted x.seat y.seat
  pub records : KeepsRecords x.rings y.rings
  pub store : y.store ≡ x.store
  pub waiting : y.waiting ≡ x.waiting
  pub settled : y.is_settled ≡ x.is_settled

-- What was applied is of the history seen: of each of these lanes, what was applied up to its last release is the beginning of what that history
-- logs of it.
abbrev pub IsSeenOf : Home → (lanes : ℕ) → Past → List (ℕ × Event) → Type 0
IsSeenOf h lanes p seen = (l : ℕ) → l < lanes → BeginsLog h.plan l seen (to_release (stream l (applied p)))

module _ {D : Type 0} (device : D → Device) where
  -- what a helper has seen of what it took it has seen of what it applied
  abbrev pub SeenLaw : Type 0
  SeenLaw = (h : Home) (s : Setting) (p : Past) (y : Parts D) → HasSeen h y → IsServing device y s p → IsSeenOf h (length y.rings) p y.seat.view.history
