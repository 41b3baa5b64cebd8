-- A pool's calls, by a session in its section: what they answer, of what the session knows (this project's own).
use Rattle.std.specs.Prelude.{ℕ, List, Result}
use Rattle.monitor.specs.Seats.{Home}
use Rattle.pool.specs.Calls.{TakeAnswers, GiveAnswers}
use Rattle.pool.specs.FreeList.{Place}
use Rattle.pool.specs.Knowledge.{Access, Knowledge}
use Rattle.pool.specs.declared.error.PoolError.{PoolError}
use Rattle.pool.specs.Knowing.{TellsOfFields, knowledge_in}
use Rattle.session.specs.Sessions.{view_of}
use Rattle.session.specs.declared.error.SessionError.{SessionError}
use Rattle.session.specs.declared.session.Session.{Session}
use Rattle.thread_steps.specs.Views.{plan}

-- what a session knows of the fields
abbrev pub known_to : Home → Session → Knowledge SessionError
known_to h x = knowledge_in (plan h) (view_of x).events

-- A slot is taken, or that is refused, and the session was told just the loads and stores that the answer names.
pub record TakesSlot (h : Home) (x y : Session) (p : Place) (r : Result ℕ (PoolError SessionError)) : Type 0 where
  pub done : List Access
  -- A session takes a slot as the pool does, by what it knows from its own events.
  pub answer : TakeAnswers p (known_to h x) (known_to h y) done r
  -- A session that takes a slot is told just the loads and stores that the answer names.
  pub told : TellsOfFields (view_of x) (view_of y) done

-- A slot is given, or that is refused.
pub record GivesSlot (h : Home) (x y : Session) (p : Place) (slot : ℕ) (r : Result (Unit {0}) (PoolError SessionError)) : Type 0 where
  pub done : List Access
  -- A session gives a slot as the pool does, by what it knows from its own events.
  pub answer : GiveAnswers p (known_to h x) (known_to h y) done slot r
  -- A session that gives a slot is told just the loads and stores that the answer names.
  pub told : TellsOfFields (view_of x) (view_of y) done
