-- What recovery accepts (this project's own).
use Rattle.std.specs.Prelude.{ℕ, List}
use Rattle.recover.specs.Recovery.{RefusesRecovery}
use Rattle.recover.specs.Study.{IsStudyOf}
use Rattle.recover_heap.specs.declared.error.RecoverError.{RecoverError}
use Rattle.recover.specs.declared.studied.Study.{Study}
use Rattle.law_survival.specs.WholeRun.{CannotRecover}

-- Recovery accepts the image. It fails only if a device call fails, memory runs out, or the sequence of controls is used up. This is its study.
pub record IsTaken (image : List ℕ) : Type 0 where
  pub study : Study
  pub of : IsStudyOf image study
  -- Recovery accepts the image, unless one of its own calls fails, memory runs out, or the sequence of controls is at
  -- its end.
  pub taken : (e : RecoverError) → RefusesRecovery image e → CannotRecover image e
