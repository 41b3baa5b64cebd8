use Rattle.std.proofs.Common.{subst}
use Rattle.std.specs.Str.Parse.{ParsesUnsigned, ExplainsUnsignedError, HasUnsignedDigitsIfOk}
use Rattle.clap.specs.Matches.{found_of, one_text}
use Rattle.clap.proofs.WalkLemmas.{one_text-rows}
use Rattle.heapctl_words.specs.Words.{MayRead}
use Rattle.heapctl_words.proofs.OptionLemmas.{may_read_number}
use Rattle.heapctl_words.proofs.words.found_number.Goals as goal

pub returns : goal.returns
returns c =
    let f = found_of c.args.found.now in
    let id = c.args.name.now in
    let read = may_read_number (λ bs r. ParsesUnsigned 32 10 bs r × ExplainsUnsignedError 10 bs r × HasUnsignedDigitsIfOk bs r) 32 (one_text f id) c.get_one.result (λ u x g. g.0) c.get_one.ensures.none c.get_one.ensures.value in
    subst (λ o. MayRead 32 o c.get_one.result) (one_text-rows f id) read
