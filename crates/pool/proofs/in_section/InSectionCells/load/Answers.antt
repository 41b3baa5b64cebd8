use Rattle.std.proofs.Common.{refl}
use Rattle.thread_steps.specs.Views.{plan}
use Rattle.session.specs.Sessions.{view_of}
use Rattle.pool.proofs.Loading.{when_ok, when_err, loads, tells_load, keeps_load}
use Rattle.pool.proofs.in_section.InSectionCells.load.Goals as goal

pub returns-clause-ok : goal.returns-clause-ok
returns-clause-ok c = let e = c.load.ensures.told in
    when_ok (plan c.args.self.now.shared.now) (view_of c.args.self.now.session) (view_of c.load.new.self) c.args.field c.load.result
    (loads (plan c.args.self.now.shared.now) (view_of c.args.self.now.session) (view_of c.load.new.self) c.args.field c.load.result e.unknown e.not_held e.held e.known)

pub returns-clause-fault : goal.returns-clause-fault
returns-clause-fault c = let e = c.load.ensures.told in
    when_err (plan c.args.self.now.shared.now) (view_of c.args.self.now.session) (view_of c.load.new.self) c.args.field c.load.result
    (loads (plan c.args.self.now.shared.now) (view_of c.args.self.now.session) (view_of c.load.new.self) c.args.field c.load.result e.unknown e.not_held e.held e.known)

pub returns-clause-keeps : goal.returns-clause-keeps
returns-clause-keeps c = let e = c.load.ensures.told in
    keeps_load _ _ c.args.field c.load.result refl c.load.ensures.ring
    (tells_load (plan c.args.self.now.shared.now) (view_of c.args.self.now.session) (view_of c.load.new.self) c.args.field c.load.result e.unknown e.not_held e.held)
