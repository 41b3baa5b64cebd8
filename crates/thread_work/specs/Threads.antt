-- What is known of a thread of a heap (this project's own).
use Rattle.std.specs.Prelude.{◌≡◌, ◌<◌, ◌≤◌, [], Option, None, Some, Result, Ok, Err}
use Rattle.monitor.specs.Seats.{Home}
use Rattle.session.specs.declared.session.Session.{Session}
use Rattle.session.specs.declared.error.SessionError.{SessionError}
use Rattle.session.specs.Calls.{IsQuiet}
use Rattle.session.specs.Logs.{sections_ended}
use Rattle.session.specs.Sessions.{IsSessionOf, SameRing, view_of}

-- it is this session after some calls: with its lane, the capacity of that, and its ring
abbrev pub IsFrom : (first : Option Session) → Session → Type 0
IsFrom None s = Unit {0}
IsFrom (Some x) s = SameRing x s

-- The session is of the heap of these words, which the thread shares, and was the first one when it was opened.
pub record IsThreadOf (home : Home) (first : Option Session) (shared : Home) (s : Session) : Type 0 where
  pub words : shared ≡ home
  pub of : IsSessionOf home s
  pub from : IsFrom first s

-- a session as it was opened: of a heap of these words, and told nothing
pub record IsFirst (h : Home) (s : Session) : Type 0 where
  pub of : IsSessionOf h s
  pub new : (view_of s).events ≡ []

-- nothing was told
abbrev pub IsStill : Session → Session → Type 0
IsStill x y = IsQuiet (view_of x) (view_of y)

-- The session has read how many of its sections are acknowledged: all that it has ended are. Nothing else was told.
pub record IsDurable (x y : Session) : Type 0 where
  pub quiet : IsStill x y
  pub looked : (view_of x).stable_looks < (view_of y).stable_looks
  pub all : sections_ended (view_of y) ≤ (view_of y).stable

-- It has read that, and not all of them are. Nothing else was told.
pub record IsUnsettled (x y : Session) : Type 0 where
  pub quiet : IsStill x y
  pub looked : (view_of x).stable_looks < (view_of y).stable_looks
  pub left : (view_of y).stable < sections_ended (view_of y)

-- the session after a wait, and its refusal where there was one, as the wait answers them
abbrev pub waited : Session → Result (Unit {0}) SessionError → Result Session (Session × SessionError)
waited y (Ok done) = Ok y
waited y (Err e) = Err (y, e)
