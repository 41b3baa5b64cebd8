use Rattle.std.proofs.lemmas.Result.{IfErr-weaker, IfOk-weaker}
use Rattle.script_images.proofs.ValueLemmas.{none_of}
use Rattle.script_images.proofs.values.values_on.Goals as goal

pub returns-in-Ok-clause-ok : goal.returns-in-Ok-clause-ok
returns-in-Ok-clause-ok c =
    let studied = c.in-Ok.ensures.exact in
    IfOk-weaker c.studied_values-text.result _ _ (λ text told. record { study = c.in-Ok.study; studied = studied; told = told }) c.studied_values-text.ensures.ok

pub returns-in-Ok-clause-refused : goal.returns-in-Ok-clause-refused
returns-in-Ok-clause-refused c =
    IfErr-weaker c.studied_values-text.result _ _ (none_of c.args.given c.args.names.now c.args.disk.now.bytes c.in-Ok.study c.in-Ok.ensures.exact) c.studied_values-text.ensures.refused
