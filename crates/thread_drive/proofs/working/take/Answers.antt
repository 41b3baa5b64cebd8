use Rattle.session.specs.Sessions.{rooms_of, view_of}
use Rattle.thread_drive.proofs.Refusing.{enters}
use Rattle.thread_drive.proofs.working.take.Goals as goal

pub returns-clause-taken : goal.returns-clause-taken
returns-clause-taken g c = λ objects n may holds.
    let session = c.args.thread.now in
    let told = c.enter.ensures.told in
    enters g.J.Joint.home (rooms_of session) (view_of session) (view_of c.enter.new.self) c.args.object c.enter.result objects n
    session.sized c.requires.seat.1 c.enter.ensures.of.1 told.settled told.unknown told.first may holds
