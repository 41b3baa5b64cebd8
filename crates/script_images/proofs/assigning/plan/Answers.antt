use Rattle.std.proofs.Common.{inr, subst}
use Rattle.std.proofs.lemmas.Result.{IfErr-weaker, IfOk-weaker}
use Rattle.block_disk.specs.Memory.{Memory, device_of}
use Rattle.recover.specs.Study.{IsStudyOf}
use Rattle.script_images.proofs.assigning.plan.Goals as goal

pub returns-in-Ok-studied-clause-ok : goal.returns-in-Ok-studied-clause-ok
returns-in-Ok-studied-clause-ok c =
    let studied : IsStudyOf c.args.image.now c.in-Ok-studied.study = subst (λ (m : Memory). IsStudyOf (device_of m).now.bytes c.in-Ok-studied.study) c.in-Ok.ensures c.in-Ok-studied.ensures.exact in
    IfOk-weaker c.plan_study-planned.result _ _ (λ schema planned. record { study = c.in-Ok-studied.study; studied = studied; planned = planned }) c.plan_study-planned.ensures.ok

pub returns-in-Ok-studied-clause-refused : goal.returns-in-Ok-studied-clause-refused
returns-in-Ok-studied-clause-refused c =
    let studied : IsStudyOf c.args.image.now c.in-Ok-studied.study = subst (λ (m : Memory). IsStudyOf (device_of m).now.bytes c.in-Ok-studied.study) c.in-Ok.ensures c.in-Ok-studied.ensures.exact in
    IfErr-weaker c.plan_study-planned.result _ _ (λ fault refused. inr (record { study = c.in-Ok-studied.study; studied = studied; refused = refused })) c.plan_study-planned.ensures.refused
