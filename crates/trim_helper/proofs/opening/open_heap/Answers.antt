use Rattle.std.proofs.Common.{subst}
use Rattle.durable.specs.Begin.{IsSettingOf}
use Rattle.monitor.specs.Words.{setting_of}
use Rattle.trim_helper.proofs.SettingLemmas.{planned}
use Rattle.trim_helper.proofs.opening.open_heap.Goals as goal

pub returns-in-Ok-adopt-clause-past : goal.returns-in-Ok-adopt-clause-past
returns-in-Ok-adopt-clause-past g c =
    let r = c.args.recovered in
    let s = setting_of c.in-Ok.made.0.plan in
    c.in-Ok-adopt.ensures.past s
    (subst (λ heap. IsSettingOf r.layout r.guards heap c.args.last s) c.heap.ensures.heap (planned c.in-Ok.made.0.plan c.args.schema r.layout r.guards c.heap.result.now c.args.last _ c.in-Ok.ensures.plan c.requires.schema))
