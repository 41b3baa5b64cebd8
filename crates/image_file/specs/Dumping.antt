-- What writing an image's heap as a schema file writes.
use Rattle.std.specs.Prelude.{ℕ, ◌≡◌, ◌⊎◌, Option, List, Result, Ok, Err}
use Rattle.guards.specs.Schema.{Declarations}
use Rattle.image_schema.specs.Dumping.{Dumps, RefusesDump}
use Rattle.image_schema.specs.declared.error.DumpError.{DumpError}
use Rattle.image_file.specs.Images.{BeginsThere}
use Rattle.image_file.specs.Naming.{IsNamedBy, IsNotNamed, IsNotHadToName, told_of_naming}
use Rattle.image_file.specs.declared.error.NamedFault.{NamedFault}

-- the image that is there was dumped
pub record DumpsThere (given : Option Declarations) (had old new : Option (List ℕ)) : Type 0 where
  pub image : List ℕ
  pub begins : BeginsThere image had
  pub dumped : Dumps given image old new

-- it is refused, or the schema is another one's, or the writer failed
pub record IsNotDumped (given : Option Declarations) (had old new : Option (List ℕ)) (fault : NamedFault) : Type 0 where
  pub image : List ℕ
  pub begins : BeginsThere image had
  pub reason : DumpError
  pub told : fault ≡ told_of_naming reason
  pub refused : RefusesDump given image old new reason

-- what a refusal says of it, and of what was written
abbrev pub RefusesToDump : Option Declarations → (had old new : Option (List ℕ)) → NamedFault → Type 0
RefusesToDump given had old new fault = IsNotHadToName had old new fault ⊎ IsNotDumped given had old new fault

-- by the names of the schema file, where one is named
pub record DumpsAt {P : Type 0} (path : Option P) (had old new : Option (List ℕ)) : Type 0 where
  pub given : Option Declarations
  pub named : IsNamedBy path given
  pub dumped : DumpsThere given had old new

pub record IsNotDumpedAt {P : Type 0} (path : Option P) (had old new : Option (List ℕ)) (fault : NamedFault) : Type 0 where
  pub given : Option Declarations
  pub named : IsNamedBy path given
  pub refused : RefusesToDump given had old new fault

-- how it ends, by the image that was there before and is now, and by what was written before and is now
abbrev pub DumpsBy : {P : Type 0} (path : Option P) → Result (Unit {0}) NamedFault → (had has old new : Option (List ℕ)) → Type 0
DumpsBy path (Ok done) had has old new = DumpsAt path had old new × (has ≡ had)
DumpsBy path (Err fault) had has old new = (IsNotNamed old new fault ⊎ IsNotDumpedAt path had old new fault) × (has ≡ had)
