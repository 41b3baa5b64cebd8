use Rattle.std.proofs.Common.{sym, subst}
use Rattle.std.specs.Str.Parse.{ParsesUnsigned, ExplainsUnsignedError, HasUnsignedDigitsIfOk}
use Rattle.clap.specs.Matches.{found_of, one_text}
use Rattle.clap.proofs.WalkLemmas.{one_text-rows}
use Rattle.heapctl_words.specs.Words.{Reads}
use Rattle.heapctl_words.proofs.OptionLemmas.{reads_number}
use Rattle.heapctl_words.proofs.words.byte_of.Goals as goal

pub returns : goal.returns
returns c =
    let f = found_of c.args.found.now in
    let id = c.args.name.now in
    let read = reads_number (λ bs r. ParsesUnsigned 8 10 bs r × ExplainsUnsignedError 10 bs r × HasUnsignedDigitsIfOk bs r) 8 (one_text f id) c.get_one.result (λ u x g. g.0) c.get_one.ensures.value in
    subst (λ o. Reads 8 o c.unwrap_or.result) (one_text-rows f id) (subst (λ n. Reads 8 (one_text f id) n) (sym c.unwrap_or.ensures) read)
