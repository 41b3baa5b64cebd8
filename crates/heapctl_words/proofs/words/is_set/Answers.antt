use Rattle.std.proofs.Common.{◌≡◌, ◌↔◌, sym, subst, codes, Some}
use Rattle.std.specs.Prelude.{IsTrue}
use Rattle.clap.specs.Matches.{found_of, one_text}
use Rattle.clap.proofs.WalkLemmas.{one_text-rows}
use Rattle.heapctl_words.proofs.OptionLemmas.{reads_flag}
use Rattle.heapctl_words.proofs.words.is_set.Goals as goal

pub returns : goal.returns
returns c =
    let f = found_of c.args.found.now in
    let id = c.args.name.now in
    let read = reads_flag (one_text f id) c.get_one.result c.get_one.ensures.none c.get_one.ensures.value in
    subst (λ o. IsTrue c.unwrap_or.result ↔ (o ≡ Some (codes "true"))) (one_text-rows f id)
    (subst (λ b. IsTrue b ↔ (one_text f id ≡ Some (codes "true"))) (sym c.unwrap_or.ensures) read)
