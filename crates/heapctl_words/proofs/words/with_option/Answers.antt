use Rattle.std.proofs.Common.{IfOk, ap, ◌∙◌, ◌≡◌, subst}
use Rattle.std.proofs.lemmas.Result.{IfOk-weaker}
use Rattle.clap.specs.Simple.{app_of, with_rule}
use Rattle.heapctl_words.proofs.OptionLemmas.{option_added}
use Rattle.heapctl_words.proofs.words.with_option.Goals as goal

pub returns-in-Ok : goal.returns-in-Ok
returns-in-Ok c = λ was rule is ruled.
    let there = subst (λ r. IfOk r (λ made. app_of made ≡ was)) c.in-Ok.is is in
    IfOk-weaker c.arg.result _ _ (λ made adds. option_added _ _ made _ there c.requires adds ∙ ap (with_rule was) ruled) c.arg.ensures
