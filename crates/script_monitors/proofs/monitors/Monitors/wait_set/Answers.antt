use Rattle.std.proofs.Common.{◌∙◌, ◌++◌, ◌∷◌, [], sym, ap, if◌then◌else◌}
use Rattle.script_monitors.specs.Table.{state_of}
use Rattle.script_monitors.specs.WaitSets.{is_in_set}
use Rattle.script_monitors.proofs.WaitLemmas.{wait_set-more}
use Rattle.script_monitors.proofs.monitors.Monitors.wait_set.Goals as goal

pub loop-lane-preserved : goal.loop-lane-preserved
loop-lane-preserved c =
    let s = state_of c.args.self.now in
    let o = c.args.object.0 in
    let l = c.loop-lane.lane in
    c.in_ok-push_member.ensures ∙ ap (λ set. set ++ (if is_in_set o (s.waiting l) then record { 0 = l } ∷ [] else [])) c.loop-lane.invariant ∙ sym (wait_set-more s o l)
