-- How a run over an image at a path ends (docs/SCRIPTS.md, "A script over an image file").
use Rattle.std.specs.Prelude.{ℕ, ◌≡◌, ◌⊎◌, Bool, Option, List, [], Result, Ok, Err}
use Rattle.std.specs.Io.KnownBytes.{Appends}
use Rattle.guards.specs.Schema.{Declarations}
use Rattle.image_file.specs.Images.{IsThere}
use Rattle.image_file.specs.Naming.{IsNamedBy}
use Rattle.image_file.specs.Showing.{told_of_attaching}
use Rattle.image_file.specs.declared.error.FileFault.{FileFault}
use Rattle.image_file.specs.declared.error.NamedFault.TheVariants.{Image}
use Rattle.script_lines.specs.Endings.{OfScript}
use Rattle.script_lines.specs.declared.reader.Ending.{Ending}
use Rattle.script_play.specs.Runs.{AppendsPart}
use Rattle.script_images.specs.Playing.{PlaysOver, RefusesToPlay}
use Rattle.script_images.specs.declared.error.RunFault.{RunFault}
use Rattle.script_images.specs.declared.error.RunFault.TheVariants.{Named, Refused, Script, Write}

module _ (given : Option Declarations) (lines : List (List ℕ)) (ending : Ending) (is_strict : Bool) where
  -- the image that was there was read, and the lines played over it
  pub record PlaysHeld (had : Option (List ℕ)) (left text : List ℕ) : Type 0 where
    pub image : List ℕ
    pub was : IsThere image had
    pub plays : PlaysOver given lines ending is_strict image left text

  -- the image that was there isn't had
  abbrev pub IsNotRead : RunFault → Type 0
  IsNotRead fault = (why : FileFault) × (fault ≡ Named (Image (told_of_attaching why)))

  -- it was read, and the lines aren't played over it
  pub record IsNotPlayed (had : Option (List ℕ)) (fault : RunFault) : Type 0 where
    pub image : List ℕ
    pub was : IsThere image had
    pub refused : RefusesToPlay given lines ending is_strict image fault

  abbrev pub RefusesHeld : (had : Option (List ℕ)) → RunFault → Type 0
  RefusesHeld had fault = IsNotRead fault ⊎ IsNotPlayed had fault

  -- what the lines left of it was not put in its place: the old one is there still, or the whole new one, which may not be durable
  pub record IsNotPut (had has : Option (List ℕ)) (fault : RunFault) : Type 0 where
    pub left : List ℕ
    pub text : List ℕ
    pub played : PlaysHeld had left text
    pub unput : IsNotRead fault
    pub stays : (has ≡ had) ⊎ IsThere left has

  -- what they left of it was, and what they print was written
  pub record IsDone (had has old new : Option (List ℕ)) : Type 0 where
    pub left : List ℕ
    pub text : List ℕ
    pub played : PlaysHeld had left text
    pub is_there : IsThere left has
    pub written : Appends old new text

  -- it was, and a beginning of what they print was written, and not all
  pub record IsHalfTold (had has old new : Option (List ℕ)) : Type 0 where
    pub left : List ℕ
    pub text : List ℕ
    pub played : PlaysHeld had left text
    pub is_there : IsThere left has
    pub part : AppendsPart old new text

  -- how the run ends, by the image that was there before and is now, where it is known, and by what was written before and is now. But
  -- where the image was replaced, nothing is written
  abbrev pub RunsHeld : Result (Unit {0}) RunFault → (had has old new : Option (List ℕ)) → Type 0
  RunsHeld (Ok done) had has old new = IsDone had has old new
  RunsHeld (Err Write) had has old new = IsHalfTold had has old new
  RunsHeld (Err (Script error)) had has old new = RefusesHeld had (Script error) × (has ≡ had) × Appends old new []
  RunsHeld (Err (Refused line why)) had has old new = RefusesHeld had (Refused line why) × (has ≡ had) × Appends old new []
  RunsHeld (Err (Named fault)) had has old new = ((RefusesHeld had (Named fault) × (has ≡ had)) ⊎ IsNotPut had has (Named fault)) × Appends old new []

-- by the names of the schema file, where one is named
pub record RunsNamed {P : Type 0} (path : Option P) (lines : List (List ℕ)) (ending : Ending) (is_strict : Bool)
    (result : Result (Unit {0}) RunFault) (had has old new : Option (List ℕ)) : Type 0 where
  pub given : Option Declarations
  pub is_named : IsNamedBy path given
  pub runs : RunsHeld given lines ending is_strict result had has old new

-- the schema file isn't had: nothing is done
abbrev pub IsUnnamed : Result (Unit {0}) RunFault → (had has old new : Option (List ℕ)) → Type 0
IsUnnamed (Err (Named fault)) had has old new = (has ≡ had) × Appends old new []
IsUnnamed _ had has old new = ⊥

-- how the run of a script ends, by the image that was there before and is now, what was read of the script and what was written
abbrev pub RunsAt : {P : Type 0} (path : Option P) (is_strict : Bool) → Result (Unit {0}) RunFault → (had has read unread old new : Option (List ℕ)) → Type 0
RunsAt path is_strict result had has read unread old new =
    IsUnnamed result had has old new ⊎ OfScript read unread (λ lines ending. RunsNamed path lines ending is_strict result had has old new)
