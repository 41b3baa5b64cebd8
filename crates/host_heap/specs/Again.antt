-- A session that has ended is handed out again (this project's own).
use Rattle.std.specs.Prelude.{◌≡◌, ◌<◌, ℕ, List, All, Option, Some, MatchOption, length, set}
use Rattle.std.specs.List.{slice_index_or}
use Rattle.thread_heap.specs.Joined.{IsJoined}
use Rattle.session.specs.Logs.{held_count}
use Rattle.session.specs.Sessions.{view_of}
use Rattle.host_heap.specs.Closing.{GoesOn}
use Rattle.host_heap.specs.Hosting.{Hosting}
use Rattle.host_heap.specs.Lanes.{IsAwaitedBy, IsTaken}
use Rattle.host_heap.specs.Sessions.{Seated}
use Rattle.host_heap.specs.declared.lane_end.LaneEnd.{LaneEnd}

-- the heap goes on with the calls of its host as they were
pub record GoesOnQuietly (x y : Hosting) : Type 0 where
  pub goes_on : GoesOn x y
  pub calls : y.calls ≡ x.calls

-- At one of these ends, and no other, the session that had come back there is gone, and it is awaited there by a ring of its own.
pub record LetsGo (old new : List LaneEnd) (s : Seated) : Type 0 where
  pub place : ℕ
  pub low : place < length old
  -- A session that is handed out again is just as it came back.
  pub came : (d : LaneEnd) → (slice_index_or old place d).came ≡ Some s.session
  pub end : LaneEnd
  -- A session that is handed out again is awaited at the end of its lane, by the ring that it has.
  pub awaited : IsAwaitedBy s end
  pub others : new ≡ set old place end

-- A session that had ended is handed out again, just as it came back: it is of the heap, joined to its helper, and it holds no monitor.
-- The heap goes on, but for the end where that session was.
pub record HandsAgain (x y : Hosting) (s : Seated) : Type 0 where
  pub home : s.home ≡ x.home
  pub word : s.stop.word ≡ x.stop.word
  -- A session that is handed out again is joined to its helper, so that what its lane has sent is its log.
  pub joined : IsJoined x.home x.helper.store.known.layout.capacity x.helper.rings s.session
  -- A session that is handed out again holds no monitor.
  pub idle : held_count (view_of s.session) ≡ 0
  pub seen : List LaneEnd
  pub quietly : GoesOnQuietly x (record y { out = seen })
  pub out : LetsGo seen y.out s

-- No session that was handed out has ended without holding a monitor.
pub record HasNoneIdle (x y : Hosting) : Type 0 where
  -- No session is handed out again only where, after a look, each that was handed out is out or holds a monitor.
  pub taken : All IsTaken y.out
  pub quietly : GoesOnQuietly x y

-- one of those is handed out again, or there is none
abbrev pub HandsIfIdle : (x y : Hosting) → Option Seated → Type 0
HandsIfIdle x y handed = MatchOption handed (HasNoneIdle x y) (HandsAgain x y)
