-- What a view says of its thread's log, by the thread's own events: what it holds, its sections, its place.
use Rattle.std.specs.Prelude.{ℕ, List, length}
use Rattle.heap_model.specs.declared.record.Record.{Record}
use Rattle.heap_model.specs.Own as by_events
use Rattle.heap_model.specs.OwnSections as sections
use Rattle.heap_model.specs.Sections.{Action}
use Rattle.thread_steps.specs.Views.{View}

-- its log, the newest record first
abbrev pub log_in : View → List Record
log_in v = by_events.own_log v.plan v.events

-- what it has sent to the helper: its log, the oldest record first
abbrev pub sent_in : View → List Record
sent_in v = by_events.sent_of v.plan v.events

-- what the records of its log do
abbrev pub actions_in : View → List Action
actions_in v = sections.own_actions v.plan v.events

-- the objects that it holds, the one that it took last first
abbrev pub held_objects : View → List ℕ
held_objects v = sections.held_objects v.plan v.events

-- how many monitors it holds
abbrev pub held_count : View → ℕ
held_count v = sections.held_in v.plan v.events

-- how many records its open section has
abbrev pub section_records : View → ℕ
section_records v = sections.open_records v.plan v.events

-- how many records it has logged
abbrev pub place : View → ℕ
place v = length (log_in v)

-- how many of its sections have ended
abbrev pub sections_ended : View → ℕ
sections_ended v = sections.sections_in v.plan v.events

-- How many records a lane's ring has room for, and how many the lane's area on the device.
pub record Rooms : Type 0 where
  pub ring : ℕ
  pub lane : ℕ

abbrev pub rooms : (ring lane : ℕ) → Rooms
rooms ring lane = record { ring = ring; lane = lane }
