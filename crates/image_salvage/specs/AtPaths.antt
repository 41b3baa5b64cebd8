-- How a dump of the image at a path ends, by what a dump writes of an image and by how it is refused (this project's own).
use Rattle.std.specs.Prelude.{ℕ, ◌≡◌, ◌⊎◌, Option, List, Result, Ok, Err}
use Rattle.guards.specs.Schema.{Declarations}
use Rattle.image_file.specs.Images.{BeginsThere}
use Rattle.image_file.specs.Naming.{IsNamedBy, IsNotHadToName, IsNotNamed, told_of_naming}
use Rattle.image_file.specs.declared.error.NamedFault.{NamedFault}
use Rattle.image_schema.specs.declared.error.DumpError.{DumpError}

-- what a dump writes of an image by the schema that is given: that by which the writer's bytes then differ
abbrev pub Dump : Type 1
Dump = (given : Option Declarations) (image : List ℕ) (old new : Option (List ℕ)) → Type 0

-- what its refusal says of them
abbrev pub Refusal : Type 1
Refusal = (given : Option Declarations) (image : List ℕ) (old new : Option (List ℕ)) → DumpError → Type 0

-- the image that is there was dumped
pub record DumpsThere (dumps : Dump) (given : Option Declarations) (had old new : Option (List ℕ)) : Type 0 where
  pub image : List ℕ
  pub begins : BeginsThere image had
  pub dumped : dumps given image old new

-- it is refused, or the schema is another one's, or the writer failed
pub record IsNotDumped (refuses : Refusal) (given : Option Declarations) (had old new : Option (List ℕ)) (fault : NamedFault) : Type 0 where
  pub image : List ℕ
  pub begins : BeginsThere image had
  pub reason : DumpError
  pub told : fault ≡ told_of_naming reason
  pub refused : refuses given image old new reason

-- what a refusal says of it, and of what was written
abbrev pub RefusesThere : Refusal → Option Declarations → (had old new : Option (List ℕ)) → NamedFault → Type 0
RefusesThere refuses given had old new fault = IsNotHadToName had old new fault ⊎ IsNotDumped refuses given had old new fault

-- by the names of the schema file, where one is named
pub record DumpsAt {P : Type 0} (dumps : Dump) (path : Option P) (had old new : Option (List ℕ)) : Type 0 where
  pub given : Option Declarations
  pub named : IsNamedBy path given
  pub dumped : DumpsThere dumps given had old new

pub record IsNotDumpedAt {P : Type 0} (refuses : Refusal) (path : Option P) (had old new : Option (List ℕ)) (fault : NamedFault) : Type 0 where
  pub given : Option Declarations
  pub named : IsNamedBy path given
  pub refused : RefusesThere refuses given had old new fault

-- how it ends, by the image that was there before and is now, and by what was written before and is now: nothing is written to the image
abbrev pub EndsBy : {P : Type 0} (dumps : Dump) (refuses : Refusal) (path : Option P) → Result (Unit {0}) NamedFault
    → (had has old new : Option (List ℕ)) → Type 0
EndsBy dumps refuses path (Ok done) had has old new = DumpsAt dumps path had old new × (has ≡ had)
EndsBy dumps refuses path (Err fault) had has old new = (IsNotNamed old new fault ⊎ IsNotDumpedAt refuses path had old new fault) × (has ≡ had)
