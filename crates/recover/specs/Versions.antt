-- What the tests of an image's version say (this project's own).
use Rattle.std.specs.Prelude.{ℕ, ◌≡◌, ◌≢◌, true, false, List, Result, MatchResult}
use Rattle.image_parts.specs.declared.control.Control.{Control}
use Rattle.image_parts.specs.declared.guard_row.GuardRow.{GuardRow}
use Rattle.undo_log.specs.StandsFor.{is_transient_in}
use Rattle.recover_heap.specs.declared.error.RecoverError.{RecoverError}
use Rattle.recover.specs.declared.versions.Versions.{Versions}
use Rattle.recover.specs.declared.versions.Versions.TheVariants.{Current}

-- a control of version 1 stands with no marked row
abbrev pub TestsMarks : {T : Type 0} → Control → List GuardRow → Result T RecoverError → Type 0
TestsMarks c guards result = MatchResult result
    (λ _. c.version ≡ 1 → (f : ℕ) → is_transient_in guards f ≡ false)
    (λ _. (c.version ≡ 1) × ((f : ℕ) × (is_transient_in guards f ≡ true)))

-- the control's version is one of these
abbrev pub TestsVersion : {T : Type 0} → Control → Versions → Result T RecoverError → Type 0
TestsVersion c versions result = MatchResult result
    (λ _. versions ≡ Current → c.version ≢ 1)
    (λ _. (versions ≡ Current) × (c.version ≡ 1))
