use Rattle.std.proofs.Common.{refl}
use Rattle.thread_steps.specs.Views.{plan}
use Rattle.session.specs.Sessions.{view_of}
use Rattle.pool.proofs.Storing.{when_ok, when_err, stores_two, tells_two, keeps_two}
use Rattle.pool.proofs.in_section.InSectionCells.store_two.Goals as goal

pub returns-clause-ok : goal.returns-clause-ok
returns-clause-ok c = let e = c.store_two.ensures.told in
    when_ok (plan c.args.self.now.shared.now) (view_of c.args.self.now.session) (view_of c.store_two.new.self) c.args.first c.args.one c.args.second c.args.two c.store_two.result
    (stores_two (plan c.args.self.now.shared.now) (view_of c.args.self.now.session) (view_of c.store_two.new.self) c.args.first c.args.one c.args.second c.args.two c.store_two.result
    c.args.self.now.seat.1 (record { unknown = e.unknown; not_held = e.not_held; held = e.held }))

pub returns-clause-fault : goal.returns-clause-fault
returns-clause-fault c = let e = c.store_two.ensures.told in
    when_err (plan c.args.self.now.shared.now) (view_of c.args.self.now.session) (view_of c.store_two.new.self) c.args.first c.args.one c.args.second c.args.two c.store_two.result
    (stores_two (plan c.args.self.now.shared.now) (view_of c.args.self.now.session) (view_of c.store_two.new.self) c.args.first c.args.one c.args.second c.args.two c.store_two.result
    c.args.self.now.seat.1 (record { unknown = e.unknown; not_held = e.not_held; held = e.held }))

pub returns-clause-keeps : goal.returns-clause-keeps
returns-clause-keeps c = let e = c.store_two.ensures.told in
    keeps_two _ _ c.args.first c.args.one c.args.second c.args.two c.store_two.result refl c.store_two.ensures.ring
    (tells_two (plan c.args.self.now.shared.now) (view_of c.args.self.now.session) (view_of c.store_two.new.self) c.args.first c.args.one c.args.second c.args.two c.store_two.result
    c.args.self.now.seat.1 (record { unknown = e.unknown; not_held = e.not_held; held = e.held }))
