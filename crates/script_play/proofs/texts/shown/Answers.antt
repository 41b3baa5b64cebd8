use Rattle.std.proofs.Common.{sym, subst}
use Rattle.image_parts.specs.Layout.{IsLayout}
use Rattle.recover.specs.Fits.{FitsNumbers}
use Rattle.recover.proofs.StudyLimits.{fits_of, limits_of}
use Rattle.recover.specs.declared.studied.Study.{Study}
use Rattle.script_play.proofs.texts.shown.Goals as goal

pub write_study-requires-clause-limits : goal.write_study-requires-clause-limits
write_study-requires-clause-limits c =
    let is = c.study.ensures.studied in
    subst (λ (s : Study). IsLayout s.layout) (sym c.study.ensures.study) (limits_of is.image _ is.studied)

pub write_study-requires-clause-numbers : goal.write_study-requires-clause-numbers
write_study-requires-clause-numbers c =
    let is = c.study.ensures.studied in
    subst FitsNumbers (sym c.study.ensures.study) (fits_of is.image _ is.studied)
