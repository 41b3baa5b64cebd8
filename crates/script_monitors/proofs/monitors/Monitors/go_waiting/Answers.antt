use Rattle.std.proofs.Common.{◌+◌, ◌∙◌, sym, ap, set}
use Rattle.script_monitors.specs.declared.monitor.Monitor.TheVariants.{Free}
use Rattle.script_monitors.specs.declared.pause.Pause.TheVariants.{InSet}
use Rattle.script_monitors.specs.Monitor.{count_in, number_in}
use Rattle.script_monitors.specs.Table.{Table, IsWhole, state_of}
use Rattle.script_monitors.proofs.EventLemmas.{after-Wait}
use Rattle.script_monitors.proofs.monitors.Monitors.go_waiting.Goals as goal

pub returns : goal.returns
returns c =
    let t : Table = c.args.self.now in
    let whole : IsWhole t = c.whole_law.ensures in
    let found = c.monitor-monitor.ensures.monitor in
    let again = c.again-again.result in
    let p = InSet c.args.object again in
    let freed = c.freed.ensures ∙ ap (λ m. Free (number_in m + 1)) found in
    let is = c.set_pause.ensures ∙ ap (λ (x : Table). record x { pauses = set x.pauses c.args.thread.0 p }) c.set_monitor.ensures
    ∙ ap (λ m. record t { monitors = set t.monitors c.args.object.0 m; pauses = set t.pauses c.args.thread.0 p }) freed in
    after-Wait t c.set_pause.new.self c.args.thread.0 c.args.object again ((state_of t).number c.args.object.0) whole c.requires.object c.requires.lane is
    (sym (ap count_in found) ∙ c.again-again.ensures)
