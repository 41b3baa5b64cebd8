-- What a session's parts keep, whether it waits or not.
use Rattle.rtrb.specs.Ring.{known_free}
use Rattle.thread_rings.specs.Rings.{sent}
use Rattle.thread_steps.specs.Views.{view}
use Rattle.session.specs.declared.parts.Parts.{Parts}
use Rattle.session.specs.Sits.{HasRoom, Sits, Stays}

abbrev pub StaysIn : Parts → Type 0
StaysIn p = Stays (view p.seat) p.held.items (sent p.ring) (known_free p.ring) p.records p.place p.sections p.capacity p.trimmed

-- and while it doesn't wait
abbrev pub SitsIn : Parts → Type 0
SitsIn p = Sits (view p.seat) p.held.items (sent p.ring) (known_free p.ring) p.records p.place p.sections p.capacity p.trimmed

-- there is room for the rest of an open section
abbrev pub HasRoomIn : Parts → Type 0
HasRoomIn p = HasRoom p.records p.place p.capacity p.trimmed (known_free p.ring)
