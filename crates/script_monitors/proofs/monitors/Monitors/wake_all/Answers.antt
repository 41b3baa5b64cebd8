use Rattle.std.proofs.Common.{rules, ◌≡◌, ◌∙◌, sym, ap, refl}
use Rattle.heap_model.specs.State.{State, with_at, woken_from}
use Rattle.script_monitors.specs.Table.{lanes_of, state_of}
use Rattle.script_monitors.proofs.WaitLemmas.{woken_below, woken-none, woken-more, woken-all, beyond-awake}
use Rattle.script_monitors.proofs.monitors.Monitors.wake_all.Goals as goal

pub loop-lane-init : goal.loop-lane-init
loop-lane-init c =
    let s = state_of c.args.self.now in
    (record { schema = refl; last = refl; lanes = refl }, sym (ap (λ w. record s { waiting = w }) (woken-none s.waiting c.args.object.0)))

pub loop-lane-preserved : goal.loop-lane-preserved
loop-lane-preserved c =
    let s = state_of c.args.self.now in
    let o = c.args.object.0 in
    let l = c.loop-lane.lane in
    let set = c.wake_from.ensures.setting in
    let was = c.loop-lane.invariant.0 in (
      record { schema = set.schema ∙ was.schema; last = set.last ∙ was.last; lanes = set.lanes ∙ was.lanes },
      c.wake_from.ensures.state ∙ ap (λ (x : State). record x { waiting = with_at x.waiting l (woken_from o (x.waiting l)) }) c.loop-lane.invariant.1
          ∙ ap (λ w. record s { waiting = w }) (woken-more s.waiting o l),
    )

pub returns : goal.returns
returns c = λ set.
    let s = state_of c.args.self.now in
    let o = c.args.object.0 in
    let end : c.loop-lane.lane ≡ lanes_of c.args.self.now = search rules in
    record {
      setting = c.loop-lane.invariant.0;
      state = c.loop-lane.invariant.1 ∙ ap (λ k. record s { waiting = woken_below s.waiting o k }) end
          ∙ ap (λ w. record s { waiting = w }) (woken-all s.waiting o (lanes_of c.args.self.now) (beyond-awake c.args.self.now));
    }
