use Rattle.std.proofs.Common.{◌<◌, ◌∙◌, List, All, sym, subst}
use Rattle.heap_model.specs.declared.ids.Lane.{Lane}
use Rattle.script_monitors.specs.Table.{lanes_of, state_of}
use Rattle.script_monitors.proofs.WaitLemmas.{set-below, least-may, beyond-awake}
use Rattle.script_monitors.proofs.monitors.Monitors.notify.Goals as goal

pub returns-clause-allowed : goal.returns-clause-allowed
returns-clause-allowed c = λ awake mine.
    let m = c.args.self.now in
    (awake, mine, least-may (state_of m) c.args.object.0 (lanes_of m) (beyond-awake m))

pub wake_least-requires : goal.wake_least-requires
wake_least-requires c =
    let n = lanes_of c.args.self.now in
    subst (λ (us : List Lane). All (λ (u : Lane). u.0 < n) us) (sym (c.deref.ensures.value ∙ c.in_ok-set.ensures)) (set-below (state_of c.args.self.now) c.args.object.0 n)

pub returns-in_err-set-clause-allowed : goal.returns-in_err-set-clause-allowed
returns-in_err-set-clause-allowed c = λ awake mine.
    let m = c.args.self.now in
    (awake, mine, least-may (state_of m) c.args.object.0 (lanes_of m) (beyond-awake m))
