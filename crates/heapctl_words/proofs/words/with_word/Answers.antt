use Rattle.std.proofs.Common.{◌≡◌, IfOk, subst}
use Rattle.std.proofs.lemmas.Result.{IfOk-weaker}
use Rattle.clap.specs.Simple.{app_of}
use Rattle.heapctl_words.proofs.OptionLemmas.{word_added}
use Rattle.heapctl_words.proofs.words.with_word.Goals as goal

pub returns-in-Ok-word : goal.returns-in-Ok-word
returns-in-Ok-word c = λ was added is more plain.
    let there = subst (λ r. IfOk r (λ made. app_of made ≡ was)) c.in-Ok.is is in
    let too = subst (λ r. IfOk r (λ made. app_of made ≡ added)) c.in-Ok-word.is more in
    IfOk-weaker c.subcommand.result _ _ (λ made adds. word_added _ _ made _ _ there too plain adds) c.subcommand.ensures
