-- Studies that are shown.
use Rattle.std.specs.Prelude.{ℕ, List}
use Rattle.recover.specs.Study.{IsStudyOf}
use Rattle.recover.specs.declared.studied.Study.{Study}

-- there is an image that it is the study of
pub record IsStudied (s : Study) : Type 0 where
  pub image : List ℕ
  pub studied : IsStudyOf image s
