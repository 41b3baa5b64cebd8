use Rattle.std.proofs.Common.{◌∙◌}
use Rattle.clap.specs.Matches.{found_of}
use Rattle.clap.specs.Walk.{first_of, rows_of}
use Rattle.clap.proofs.WalkLemmas.{first_value-rows}
use Rattle.heapctl_words.proofs.OptionLemmas.{text_there, text_missing}
use Rattle.heapctl_words.proofs.words.text_of.Goals as goal

pub returns-in-Some : goal.returns-in-Some
returns-in-Some c =
    let f = found_of c.args.found.now in
    text_there c.get_str.result c.in-Some.text (first_of c.args.name.now (rows_of f)) c.in-Some.is (c.get_str.ensures ∙ first_value-rows f c.args.name.now)

pub returns-in-None : goal.returns-in-None
returns-in-None c =
    let f = found_of c.args.found.now in
    text_missing c.get_str.result (first_of c.args.name.now (rows_of f)) c.in-None.is (c.get_str.ensures ∙ first_value-rows f c.args.name.now)
