-- What threads and a helper leave, that were side by side.
use Rattle.std.specs.Prelude.{◌≡◌, ◌++◌, ◌∷◌, [], List, Result, Ok}
use Rattle.std.specs.declared.alloc.AllocError.{AllocError}
use Rattle.block_disk.specs.Device.{Device}
use Rattle.monitor.specs.Seats.{Home}
use Rattle.session.specs.declared.session.Session.{Session}
use Rattle.trim_helper.specs.Parts.{Parts}
use Rattle.thread_work.specs.Bodies.{Answer, HaveWorked, both_of}
use Rattle.thread_work.specs.Serving.{HasServed}
use Rattle.thread_work.specs.declared.beside.Beside.{Beside}
use Rattle.thread_work.specs.declared.body.AllWorked.{AllWorked}
use Rattle.thread_work.specs.declared.body.Worked.{Worked}

-- What the threads of the lanes before leave, and then what one more thread leaves.
pub record JoinsOne (before : Result AllWorked AllocError) (one : Worked) (all : AllWorked) : Type 0 where
  pub some : AllWorked
  pub is : before ≡ Ok some
  pub ended : all.ended.items ≡ some.ended.items ++ one.ended ∷ []
  pub answer : all.answer ≡ both_of some.answer one.answer

-- Bodies have worked with these sessions, each in a thread of its own, and this helper has served beside them.
pub record HaveWorkedBeside (does : Home → Session → Session → Answer → Type 0) {D : Type 0} (device : D → Device) (h : Home) (sessions : List Session) (helper : Parts D) (left : Beside D) : Type 0 where
  pub worked : HaveWorked does h sessions left.worked
  pub served : HasServed device h helper left.served.helper left.served.answer
