use Rattle.std.proofs.Common.{◌+◌, ◌<◌, IfOk, subst, arith}
use Rattle.session.specs.Sessions.{view_of}
use Rattle.thread_steps.specs.Views.{IsHeld, plan}
use Rattle.thread_drive.specs.Working.{RefusesCount}
use Rattle.thread_drive.proofs.Holding.{weaker}
use Rattle.thread_drive.proofs.Refusing.{loads, stores, stores_all}
use Rattle.thread_drive.proofs.working.count.Goals as goal

pub returns-in-Ok-clause-held : goal.returns-in-Ok-clause-held
returns-in-Ok-clause-held g c = λ objects n some holds.
    let h = g.J.Joint.home in
    let f = c.args.field in
    let seen = view_of c.load.new.self in
    let one = loads h (view_of c.args.thread.now) seen f c.load.result objects n c.load.ensures.told.unknown c.load.ensures.told.not_held c.load.ensures.told.held holds in
    let ok = subst (λ r. IfOk r (λ value. (f.0 < (plan h).fields) × IsHeld seen ((plan h).guard f.0))) c.in-Ok.is one.ok in
    stores seen (view_of c.store.new.self) f _ objects n c.store.result one.holds (c.store.ensures.told.held ok.0 ok.1)

pub returns-in-Err-clause-held : goal.returns-in-Err-clause-held
returns-in-Err-clause-held g c = λ objects n some holds.
    let seen = view_of c.load.new.self in
    let one = loads g.J.Joint.home (view_of c.args.thread.now) seen c.args.field c.load.result objects n c.load.ensures.told.unknown c.load.ensures.told.not_held c.load.ensures.told.held holds in
    weaker seen.plan seen.events objects n (n + 1) (omega arith) one.holds

pub returns-in-Ok-clause-refused : goal.returns-in-Ok-clause-refused
returns-in-Ok-clause-refused g c = λ objects n room holds.
    let h = g.J.Joint.home in
    let f = c.args.field in
    let seen = view_of c.load.new.self in
    let one = loads h (view_of c.args.thread.now) seen f c.load.result objects n c.load.ensures.told.unknown c.load.ensures.told.not_held c.load.ensures.told.held holds in
    let ok = subst (λ r. IfOk r (λ value. (f.0 < (plan h).fields) × IsHeld seen ((plan h).guard f.0))) c.in-Ok.is one.ok in
    stores_all (RefusesCount h f objects) seen (view_of c.store.new.self) f _ objects n c.store.result room one.holds (c.store.ensures.told.held ok.0 ok.1)
