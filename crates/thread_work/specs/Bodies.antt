-- What bodies make of their threads' sessions (this project's own).
use Rattle.std.specs.Prelude.{ℕ, ◌≡◌, ◌⊎◌, List, [], ◌∷◌, map, All, Option, Some, None, Result, Ok, Err, IfOk, IfSome}
use Rattle.std.specs.declared.alloc.AllocError.{AllocError}
use Rattle.monitor.specs.Seats.{Home}
use Rattle.thread_heap.specs.Joined.{IsJoined}
use Rattle.session.specs.Sessions.{capacity_of, seat_of, view_of}
use Rattle.session.specs.declared.error.SessionError.{SessionError}
use Rattle.session.specs.declared.session.Session.{Session}
use Rattle.trim_helper.specs.Endings.{IsEnded, Rings, lanes_ended}
use Rattle.trim_helper.specs.declared.ended.Ended.{Ended}
pub use Rattle.thread_work.specs.Threads.{IsFirst}
use Rattle.thread_work.specs.declared.body.AllWorked.{AllWorked}
use Rattle.thread_work.specs.declared.body.Worked.{Worked}

-- what a body answers
abbrev pub Answer : Type 0
Answer = Result (Unit {0}) SessionError

-- the first refusal of two answers, where both are there
abbrev pub both_of : Option Answer → Option Answer → Option Answer
both_of (Some (Ok done)) (Some next) = Some next
both_of (Some (Err e)) (Some next) = Some (Err e)
both_of (Some first) None = None
both_of None next = None

-- the lanes of these sessions, in order
abbrev pub lanes_opened : List Session → List ℕ
lanes_opened sessions = map (λ s. (view_of s).lane.0) sessions

-- what a body does, in a heap of these words, with the session that it is given: the session as it leaves it, and its answer
module _ (does : Home → Session → Session → Answer → Type 0) (h : Home) where
  -- A thread has ended that had this session at first. Its body was called with that session and left another, which is the one that ended.
  pub record HasWorked (first : Session) (w : Worked) : Type 0 where
    pub left : Session
    pub did : IfSome w.answer (does h first left)
    pub seat : w.ended.seat ≡ seat_of left
    pub lane : (capacity : ℕ) (rings : Rings) → IsJoined h capacity rings first → w.ended.lane.0 ≡ (view_of first).lane.0
    pub ended : (capacity : ℕ) (rings : Rings) → IsJoined h capacity rings first → IsEnded h capacity rings w.ended

  -- A body was called with the session of this lane as it was opened, and answered this. What ended is the session as the body left it.
  pub record WasCalled (capacity : ℕ) (e : Ended) (answer : Answer) : Type 0 where
    pub first : Session
    pub is_first : IsFirst h first
    pub holds : capacity_of first ≡ capacity
    pub lane : (view_of first).lane.0 ≡ e.lane.0
    pub left : Session
    -- What a body does with its session, as its `Work` says, it has done of each lane.
    pub did : does h first left answer
    pub seat : e.seat ≡ seat_of left

  -- this is the refusal of the first of them that has answered one
  abbrev pub IsFirstRefusal : (capacity : ℕ) → SessionError → List Ended → Type 0
  IsFirstRefusal capacity r [] = ⊥
  IsFirstRefusal capacity r (e ∷ es) = WasCalled capacity e (Err r) ⊎ (WasCalled capacity e (Ok tt) × IsFirstRefusal capacity r es)

  -- A body was called for each of these, whose lanes hold so many records, and this is the first refusal, where there is one.
  abbrev pub WereCalled : (capacity : ℕ) → Answer → List Ended → Type 0
  WereCalled capacity (Ok done) es = All (λ e. WasCalled capacity e (Ok tt)) es
  WereCalled capacity (Err r) es = All (λ e. (answer : Answer) × WasCalled capacity e answer) es × IsFirstRefusal capacity r es

  -- What the threads of these sessions leave is ready to meet the helper to which they were joined, lane by lane.
  pub record AreWorked (capacity : ℕ) (rings : Rings) (sessions : List Session) (w : AllWorked) : Type 0 where
    pub ended : All (IsEnded h capacity rings) w.ended.items
    pub lanes : lanes_ended w.ended.items ≡ lanes_opened sessions
    pub called : IfSome w.answer (λ answer. WereCalled capacity answer w.ended.items)

  -- So it is of what they answer, unless memory ran out.
  abbrev pub HaveWorked : List Session → Result AllWorked AllocError → Type 0
  HaveWorked sessions answer = (capacity : ℕ) (rings : Rings) → All (IsJoined h capacity rings) sessions → IfOk answer (AreWorked capacity rings sessions)
