use Rattle.std.proofs.Common.{refl, sym, subst}
use Rattle.image_parts.specs.NumberedRows.{RefusesRows}
use Rattle.image_parts.proofs.Numbered.{empty_of}
use Rattle.image_parts.proofs.numbered_rows.declare.Goals as goal

pub returns-in-Err-build-clause-refused : goal.returns-in-Err-build-clause-refused
returns-in-Err-build-clause-refused c =
    subst (RefusesRows c.args.objects c.args.rows.now) (sym c.in-Err-build.ensures.back.1)
    (empty_of c.args.objects c.args.rows.now c.declare_all.new.builder c.in-Ok.ensures.ok (c.in-Err-build.ensures.empty.0 refl))
