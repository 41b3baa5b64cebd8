-- A session with the words of its heap, as contracts see it (this project's own).
use Rattle.std.specs.Prelude.{ℕ, ◌<◌, ◌≡◌, List, Result, Ok, Err, IsSome, MatchResult}
use Rattle.std.specs.Global.{Global}
use Rattle.monitor.specs.Seats.{Home}
use Rattle.rtrb.specs.declared.producer.Producer.{Producer}
use Rattle.session.specs.declared.session.Session.{Session}
use Rattle.session.specs.declared.waiting.Waiting.{Waiting}
use Rattle.session.specs.Sessions.{IsSessionOf, IsWaitingOf, SameRing, SameRingResumed, SameRingStill, SameRingWaiting}
use Rattle.host_heap.specs.Returning.{MayReturn, MayReturnWaiting}
use Rattle.host_heap.specs.Stopping.{Stopping}
use Rattle.host_heap.specs.declared.returning.Returning.{Returning}

-- the words of its heap, its session, the ring by which it comes back, and what it has seen of a stop
pub record Seated : Type 0 where
  pub home : Home
  pub session : Session
  pub back : Producer Session Global Returning
  pub stop : Stopping

pub record SeatedWaiting : Type 0 where
  pub home : Home
  pub waiting : Waiting
  pub back : Producer Session Global Returning
  pub stop : Stopping

-- After a call the session is of the same heap, with its lane and the ring to its helper, comes back by the same ring, and has seen the same of
-- its stop.
pub record SamePlace (s t : Seated) : Type 0 where
  pub home : t.home ≡ s.home
  pub stop_is : t.stop ≡ s.stop
  pub back_is : t.back ≡ s.back
  pub of : IsSessionOf s.home s.session → IsSessionOf s.home t.session
  pub ring : SameRing s.session t.session

-- so is one that began to wait, one that has resumed, and one that waits still
pub record WaitsInPlace (s : Seated) (w : SeatedWaiting) : Type 0 where
  pub home : w.home ≡ s.home
  pub stop_is : w.stop ≡ s.stop
  pub back_is : w.back ≡ s.back
  pub of : IsSessionOf s.home s.session → IsWaitingOf s.home w.waiting
  pub ring : SameRingWaiting s.session w.waiting

pub record ResumesInPlace (w : SeatedWaiting) (s : Seated) : Type 0 where
  pub home : s.home ≡ w.home
  pub stop_is : s.stop ≡ w.stop
  pub back_is : s.back ≡ w.back
  pub of : IsWaitingOf w.home w.waiting → IsSessionOf w.home s.session
  pub ring : SameRingResumed w.waiting s.session

pub record StillInPlace (w v : SeatedWaiting) : Type 0 where
  pub home : v.home ≡ w.home
  pub stop_is : v.stop ≡ w.stop
  pub back_is : v.back ≡ w.back
  pub of : IsWaitingOf w.home w.waiting → IsWaitingOf w.home v.waiting
  pub ring : SameRingStill w.waiting v.waiting

-- what a call that begins or ends a wait answers
abbrev pub SamePlaceWait : {E : Type 0} → Seated → Result SeatedWaiting (Seated × E) → Type 0
SamePlaceWait s r = MatchResult r (WaitsInPlace s) (λ e. SamePlace s e.0)

abbrev pub SamePlaceResume : {E : Type 0} → SeatedWaiting → Result Seated (SeatedWaiting × E) → Type 0
SamePlaceResume w r = MatchResult r (ResumesInPlace w) (λ e. StillInPlace w e.0)

-- A session has looked whether its heap has stopped, and nothing but what it has seen may be new. A stop that it had seen it sees again.
pub record HasLookedAt (s t : Seated) : Type 0 where
  pub home : t.home ≡ s.home
  pub session : t.session ≡ s.session
  pub back : t.back ≡ s.back
  pub word : t.stop.word ≡ s.stop.word
  -- A session that has seen its heap stopped sees it again at each later look.
  pub again : IsSome s.stop.seen → IsSome t.stop.seen

-- And one that waits.
pub record HasLookedWaiting (w v : SeatedWaiting) : Type 0 where
  pub home : v.home ≡ w.home
  pub waiting : v.waiting ≡ w.waiting
  pub back : v.back ≡ w.back
  pub word : v.stop.word ≡ w.stop.word
  pub again : IsSome w.stop.seen → IsSome v.stop.seen

-- the session is of these words and may come back, and its ring has room for it
pub record IsSeated (h : Home) (s : Session) (before : List Session) (free : ℕ) : Type 0 where
  pub of : IsSessionOf h s
  pub may : MayReturn before s
  pub room : 0 < free

pub record IsSeatedWaiting (h : Home) (w : Waiting) (before : List Session) (free : ℕ) : Type 0 where
  pub of : IsWaitingOf h w
  pub may : MayReturnWaiting before w
  pub room : 0 < free

-- what a wait answers of the session itself
abbrev pub inner_wait : {E : Type 0} → Result SeatedWaiting (Seated × E) → Result Waiting (Session × E)
inner_wait (Ok w) = Ok w.waiting
inner_wait (Err e) = Err (e.0.session, e.1)

abbrev pub inner_resume : {E : Type 0} → Result Seated (SeatedWaiting × E) → Result Session (Waiting × E)
inner_resume (Ok s) = Ok s.session
inner_resume (Err e) = Err (e.0.waiting, e.1)
