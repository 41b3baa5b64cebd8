use Rattle.std.proofs.Common.{subst, sym}
use Rattle.guards.specs.Schema.{Declarations}
use Rattle.image_schema.specs.OfImage.{FitsImage, named_as}
use Rattle.image_schema.proofs.FitLemmas.{study_fits}
use Rattle.image_schema.proofs.naming.schema_of.Goals as goal

pub returns-in-Ok-clause-fits : goal.returns-in-Ok-clause-fits
returns-in-Ok-clause-fits c =
    subst (λ (schema : Declarations). FitsImage schema c.args.study.now.layout c.args.study.now.guards.items) (sym c.in-Ok.ensures) (study_fits c.args.study.now c.requires)

pub returns-in-Ok-clause-other : goal.returns-in-Ok-clause-other
returns-in-Ok-clause-other c = (
  (λ e. absurd cc),
  (λ other. absurd (other (subst (λ given. FitsImage (named_as given c.args.study.now) c.args.study.now.layout c.args.study.now.guards.items) (sym c.in_default.is) (study_fits c.args.study.now c.requires)))),
)

pub returns-in-Err-clause-other : goal.returns-in-Err-clause-other
returns-in-Err-clause-other c = (
  (λ e. absurd cc),
  (λ other. absurd (other (subst (λ given. FitsImage (named_as given c.args.study.now) c.args.study.now.layout c.args.study.now.guards.items) (sym c.in_default.is) (study_fits c.args.study.now c.requires)))),
)
