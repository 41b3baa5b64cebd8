use Rattle.std.proofs.Common.{subst, sym}
use Rattle.guards.specs.Schema.{Declarations}
use Rattle.image_schema.specs.OfImage.{FitsImage}
use Rattle.image_schema.proofs.FitLemmas.{numbered_fits}
use Rattle.image_salvage.specs.Cells.{named_by}
use Rattle.image_salvage.proofs.naming.schema_for.Goals as goal

pub returns-in-Ok-clause-fits : goal.returns-in-Ok-clause-fits
returns-in-Ok-clause-fits c =
    subst (λ (schema : Declarations). FitsImage schema c.args.layout.now c.args.rows.now) (sym c.in-Ok.ensures) (numbered_fits c.args.layout.now c.args.rows.now c.requires)

pub returns-in-Ok-clause-other : goal.returns-in-Ok-clause-other
returns-in-Ok-clause-other c = (
  (λ e. absurd cc),
  (λ other. absurd (other (subst (λ given. FitsImage (named_by given c.args.layout.now c.args.rows.now) c.args.layout.now c.args.rows.now) (sym c.in_default.is) (numbered_fits c.args.layout.now c.args.rows.now c.requires)))),
)

pub returns-in-Err-clause-other : goal.returns-in-Err-clause-other
returns-in-Err-clause-other c = (
  (λ e. absurd cc),
  (λ other. absurd (other (subst (λ given. FitsImage (named_by given c.args.layout.now c.args.rows.now) c.args.layout.now c.args.rows.now) (sym c.in_default.is) (numbered_fits c.args.layout.now c.args.rows.now c.requires)))),
)
