use Rattle.script_monitors.specs.Table.{lanes_of, state_of}
use Rattle.script_monitors.proofs.WaitLemmas.{all-may, beyond-awake}
use Rattle.script_monitors.proofs.monitors.Monitors.notify_all.Goals as goal

pub returns-clause-after : goal.returns-clause-after
returns-clause-after c = c.wake_all.ensures c.in_ok-set.set.items

pub returns-clause-allowed : goal.returns-clause-allowed
returns-clause-allowed c = λ awake mine.
    let m = c.args.self.now in
    (awake, mine, all-may (state_of m) c.args.object.0 (lanes_of m) (beyond-awake m))

pub returns-in_err-set-clause-allowed : goal.returns-in_err-set-clause-allowed
returns-in_err-set-clause-allowed c = λ awake mine.
    let m = c.args.self.now in
    (awake, mine, all-may (state_of m) c.args.object.0 (lanes_of m) (beyond-awake m))
