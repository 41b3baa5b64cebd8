-- What drawing an image writes.
use Rattle.std.specs.Prelude.{ℕ, ◌≡◌, ◌⊎◌, Option, List, Result, Ok, Err}
use Rattle.guards.specs.Schema.{Declarations}
use Rattle.image_schema.specs.Drawing.{Draws, RefusesDrawing}
use Rattle.image_schema.specs.declared.error.DumpError.{DumpError}
use Rattle.image_file.specs.Images.{BeginsThere}
use Rattle.image_file.specs.Naming.{IsNamedBy, IsNotNamed, IsNotHadToName, told_of_naming}
use Rattle.image_file.specs.declared.error.NamedFault.{NamedFault}

-- the image that is there was drawn
pub record DrawsThere (given : Option Declarations) (last : ℕ) (had old new : Option (List ℕ)) : Type 0 where
  pub image : List ℕ
  pub begins : BeginsThere image had
  pub drawn : Draws given last image old new

-- it is refused, or the schema is another one's, or the writer failed
pub record IsNotDrawn (given : Option Declarations) (last : ℕ) (had old new : Option (List ℕ)) (fault : NamedFault) : Type 0 where
  pub image : List ℕ
  pub begins : BeginsThere image had
  pub reason : DumpError
  pub told : fault ≡ told_of_naming reason
  pub refused : RefusesDrawing given last image old new reason

-- what a refusal says of it, and of what was written
abbrev pub RefusesToDraw : Option Declarations → (last : ℕ) → (had old new : Option (List ℕ)) → NamedFault → Type 0
RefusesToDraw given last had old new fault = IsNotHadToName had old new fault ⊎ IsNotDrawn given last had old new fault

-- by the names of the schema file, where one is named
pub record DrawsAt {P : Type 0} (path : Option P) (last : ℕ) (had old new : Option (List ℕ)) : Type 0 where
  pub given : Option Declarations
  pub named : IsNamedBy path given
  pub drawn : DrawsThere given last had old new

pub record IsNotDrawnAt {P : Type 0} (path : Option P) (last : ℕ) (had old new : Option (List ℕ)) (fault : NamedFault) : Type 0 where
  pub given : Option Declarations
  pub named : IsNamedBy path given
  pub refused : RefusesToDraw given last had old new fault

-- how it ends, by the image that was there before and is now, and by what was written before and is now
abbrev pub DrawsBy : {P : Type 0} (path : Option P) (last : ℕ) → Result (Unit {0}) NamedFault → (had has old new : Option (List ℕ)) → Type 0
DrawsBy path last (Ok done) had has old new = DrawsAt path last had old new × (has ≡ had)
DrawsBy path last (Err fault) had has old new = (IsNotNamed old new fault ⊎ IsNotDrawnAt path last had old new fault) × (has ≡ had)
