use Rattle.std.proofs.Common.{codes, sym, subst}
use Rattle.clap.specs.Matches.{found_of}
use Rattle.clap.specs.Walk.{one_of, rows_of}
use Rattle.heapctl_words.specs.Words.{LastIs}
use Rattle.heapctl_words.proofs.OptionLemmas.{reads_last}
use Rattle.heapctl_words.proofs.words.last_of.Goals as goal

pub returns : goal.returns
returns c =
    let o = one_of (codes "last") (rows_of (found_of c.args.found.now)) in
    subst (LastIs o) (sym c.unwrap_or.ensures) (reads_last o c.found_number.result c.found_number.ensures)
