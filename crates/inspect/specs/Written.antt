-- What was written of a text.
use Rattle.std.specs.Prelude.{ℕ, ◌≡◌, ◌<◌, Option, Result, OnOk, OnErr, IfErr, List, [], length, take}
use Rattle.std.specs.Io.KnownBytes.{Appends}
use Rattle.inspect.specs.declared.error.ShowError.{ShowError}
use Rattle.inspect.specs.declared.error.ShowError.TheVariants.{NoMemory, Write}

-- a beginning of the text was written, and not all
abbrev pub AppendsPart : Option (List ℕ) → Option (List ℕ) → List ℕ → Type 0
AppendsPart old new text = (count : ℕ) × (count < length text) × Appends old new (take count text)

-- what each answer says of a text that was to be written, by what the writer has had and has: all of the text, or after a fault of
-- the writer a beginning of it
pub record Writes {W T E : Type 0} (contents : W → Option (List ℕ)) (old new : W) (text : List ℕ) (result : Result T E) : Type 0 where
  -- After Ok the text is written.
  pub ok : OnOk result (Appends (contents old) (contents new) text)
  -- After a fault of the writer a beginning of the text is written, and not all.
  pub part : OnErr result (AppendsPart (contents old) (contents new) text)

-- the same of a text for which memory may be wanting
pub record Shows {W T : Type 0} (contents : W → Option (List ℕ)) (old new : W) (text : List ℕ) (result : Result T ShowError) : Type 0 where
  -- After Ok the text is written.
  pub ok : OnOk result (Appends (contents old) (contents new) text)
  -- Where memory runs out nothing is written.
  pub no_memory : IfErr result (λ e. e ≡ NoMemory → Appends (contents old) (contents new) [])
  -- After a fault of the writer a beginning of the text is written, and not all.
  pub part : IfErr result (λ e. e ≡ Write → AppendsPart (contents old) (contents new) text)

-- what each answer says that tells by itself what was written
pub record WritesOr {W T E : Type 0} (writes : Option (List ℕ) → Option (List ℕ) → Type 0) (refuses : Option (List ℕ) → Option (List ℕ) → E → Type 0)
    (contents : W → Option (List ℕ)) (old new : W) (result : Result T E) : Type 0 where
  pub ok : OnOk result (writes (contents old) (contents new))
  pub refused : IfErr result (refuses (contents old) (contents new))
