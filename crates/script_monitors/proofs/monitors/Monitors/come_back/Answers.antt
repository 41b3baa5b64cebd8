use Rattle.std.proofs.Common.{◌∙◌, sym, ap, set}
use Rattle.heap_model.specs.State.{kept_count}
use Rattle.script_monitors.specs.declared.pause.Pause.TheVariants.{Awake}
use Rattle.script_monitors.specs.Table.{Table, IsWhole}
use Rattle.script_monitors.specs.WaitSets.{waiting_in}
use Rattle.script_monitors.proofs.EventLemmas.{after-Resume}
use Rattle.script_monitors.proofs.monitors.Monitors.come_back.Goals as goal

pub returns : goal.returns
returns c =
    let t : Table = c.args.self.now in
    let whole : IsWhole t = c.whole_law.ensures in
    let again = c.again-again.result in
    let is = c.set_pause.ensures ∙ ap (λ (x : Table). record x { pauses = set x.pauses c.args.thread.0 Awake }) c.set_monitor.ensures in
    after-Resume t c.set_pause.new.self c.args.thread c.args.object again c.args.number whole c.requires.object c.requires.lane is
    (sym (ap (λ p. kept_count (waiting_in p)) c.pause.ensures.pause) ∙ c.again-again.ensures) c.requires.number
