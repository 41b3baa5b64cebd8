use Rattle.std.proofs.lemmas.Str.{IsUtf8-from_ascii}
use Rattle.script_lines.proofs.TermLemmas.{ok_unless}
use Rattle.script_lines.proofs.terms.ascii.Goals as goal

pub unwrap-requires : goal.unwrap-requires
unwrap-requires c = ok_unless _ _ c.from_utf8.result c.from_utf8.ensures.cases (λ e h. h.0 (IsUtf8-from_ascii c.args.word.now c.requires))
