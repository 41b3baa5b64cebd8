-- What is told of an image's fields by their names (docs/SCRIPTS.md, "The program's words").
use Rattle.std.specs.Prelude.{ℕ, ◌≡◌, ◌⊎◌, Option, Some, List, [], ◌∷◌, ◌++◌, Result, Ok, Err, codes, slice_get}
use Rattle.std.specs.Borrow.{Bor}
use Rattle.std.specs.Fmt.{decimal}
use Rattle.std.specs.Io.KnownBytes.{Appends}
use Rattle.guards.specs.Schema.{Declarations, names_of}
use Rattle.image_file.specs.Images.{BeginsThere, MayNotBeHad}
use Rattle.image_file.specs.Naming.{IsNamedBy, IsOfSchemaFile}
use Rattle.image_file.specs.Showing.{told_of_attaching}
use Rattle.image_file.specs.declared.error.FileFault.{FileFault}
use Rattle.image_file.specs.declared.error.ImageFault.TheVariants as images
use Rattle.image_file.specs.declared.error.NamedFault.{NamedFault}
use Rattle.image_file.specs.declared.error.NamedFault.TheVariants as named
use Rattle.image_schema.specs.OfImage.{FitsImage, FitsStudy, named_as}
use Rattle.recover.specs.Reading.{RefusesImage}
use Rattle.recover.specs.Study.{IsStudyOf}
use Rattle.recover_heap.specs.declared.error.RecoverError.TheVariants.{NoMemory}
use Rattle.recover.specs.declared.studied.Study.{Study}
use Rattle.script_play.specs.Runs.{AppendsPart}
use Rattle.script_images.specs.declared.error.ValueFault.{ValueFault}
use Rattle.script_images.specs.declared.error.ValueFault.TheVariants as values

-- the line of a field and its value
abbrev pub value_line : (name : List ℕ) → (value : ℕ) → List ℕ
value_line name value = name ++ (codes "=" ++ (decimal value ++ codes "\n"))

-- the field has this name, and the line of its value was added
pub record HasLine (schema : Declarations) (heap name old new : List ℕ) : Type 0 where
  pub field : ℕ
  pub named : slice_get (names_of schema.fields) field ≡ Some name
  pub value : ℕ
  pub there : slice_get heap field ≡ Some value
  pub line : new ≡ old ++ value_line name value

-- the lines of these fields were added, in their order
abbrev pub HasLines : (schema : Declarations) (heap : List ℕ) → List (Bor (List ℕ)) → (old new : List ℕ) → Type 0
HasLines schema heap [] old new = new ≡ old
HasLines schema heap (name ∷ names) old new = (middle : List ℕ) × HasLine schema heap name.now old middle × HasLines schema heap names middle new

-- there is no field of this name with a value
abbrev pub IsNoField : (schema : Declarations) (heap name : List ℕ) → Type 0
IsNoField schema heap name = (field value : ℕ) → slice_get (names_of schema.fields) field ≡ Some name → slice_get heap field ≡ Some value → ⊥

-- the name at this place is that of no field
pub record HasNoField (schema : Declarations) (heap : List ℕ) (names : List (Bor (List ℕ))) (place : ℕ) : Type 0 where
  pub name : Bor (List ℕ)
  pub there : slice_get names place ≡ Some name
  pub none : IsNoField schema heap name.now

-- the lines of the fields of an image that was studied, by the names of its schema
pub record IsToldOfStudy (given : Option Declarations) (names : List (Bor (List ℕ))) (s : Study) (text : List ℕ) : Type 0 where
  pub fits : FitsImage (named_as given s) s.layout s.guards.items
  pub lines : HasLines (named_as given s) s.heap.items names [] text

-- the lines of the fields of an image, with the values that recovery gives
pub record IsTold (given : Option Declarations) (names : List (Bor (List ℕ))) (image text : List ℕ) : Type 0 where
  pub study : Study
  pub studied : IsStudyOf image study
  pub told : IsToldOfStudy given names study text

-- those of the image that is there
pub record IsHeldTold (given : Option Declarations) (names : List (Bor (List ℕ))) (had : Option (List ℕ)) (text : List ℕ) : Type 0 where
  pub image : List ℕ
  pub begins : BeginsThere image had
  pub told : IsTold given names image text

-- and by the names of the schema file, where one is named
pub record TellsAt {P : Type 0} (path : Option P) (names : List (Bor (List ℕ))) (had : Option (List ℕ)) (text : List ℕ) : Type 0 where
  pub given : Option Declarations
  pub is_named : IsNamedBy path given
  pub told : IsHeldTold given names had text

-- they were written
pub record GetsAt {P : Type 0} (path : Option P) (names : List (Bor (List ℕ))) (had old new : Option (List ℕ)) : Type 0 where
  pub text : List ℕ
  pub told : TellsAt path names had text
  pub written : Appends old new text

-- or a beginning of them, and not all
pub record TellsLessAt {P : Type 0} (path : Option P) (names : List (Bor (List ℕ))) (had old new : Option (List ℕ)) : Type 0 where
  pub text : List ℕ
  pub told : TellsAt path names had text
  pub written : AppendsPart old new text

-- what the refusals say of the image that was studied, and of the names
abbrev pub RefusesNames : (schema : Declarations) (heap : List ℕ) (names : List (Bor (List ℕ))) → ValueFault → Type 0
RefusesNames schema heap names (values.Unknown place) = HasNoField schema heap names place
RefusesNames schema heap names (values.Named fault) = fault ≡ named.Image (images.Image NoMemory)
RefusesNames schema heap names values.Write = ⊥

-- the schema that is given isn't that of the study
abbrev pub RefusesStudy : (given : Option Declarations) (s : Study) → NamedFault → Type 0
RefusesStudy given s (named.Image (images.Image why)) = why ≡ NoMemory
RefusesStudy given s named.OtherSchema = FitsStudy (named_as given s) s → ⊥
RefusesStudy given s _ = ⊥

abbrev pub RefusesStudied : (given : Option Declarations) (names : List (Bor (List ℕ))) (s : Study) → ValueFault → Type 0
RefusesStudied given names s (values.Unknown place) = HasNoField (named_as given s) s.heap.items names place
RefusesStudied given names s (values.Named fault) = RefusesStudy given s fault
RefusesStudied given names s values.Write = ⊥

-- of the image
pub record RefusesOfStudy (given : Option Declarations) (names : List (Bor (List ℕ))) (image : List ℕ) (place : ℕ) : Type 0 where
  pub study : Study
  pub studied : IsStudyOf image study
  pub none : HasNoField (named_as given study) study.heap.items names place

-- the schema that is given isn't the image's
pub record IsOfOtherSchema (given : Option Declarations) (image : List ℕ) : Type 0 where
  pub study : Study
  pub studied : IsStudyOf image study
  pub other : FitsStudy (named_as given study) study → ⊥

-- the image is refused, for what is wrong with it, or the schema isn't its
abbrev pub RefusesToTell : (given : Option Declarations) (image : List ℕ) → NamedFault → Type 0
RefusesToTell given image (named.Image (images.Image why)) = RefusesImage image why
RefusesToTell given image named.OtherSchema = IsOfOtherSchema given image
RefusesToTell given image _ = ⊥

abbrev pub RefusesValues : (given : Option Declarations) (names : List (Bor (List ℕ))) (image : List ℕ) → ValueFault → Type 0
RefusesValues given names image (values.Unknown place) = RefusesOfStudy given names image place
RefusesValues given names image (values.Named fault) = RefusesToTell given image fault
RefusesValues given names image values.Write = ⊥

-- of the one that is there
pub record HasNoFieldThere (given : Option Declarations) (names : List (Bor (List ℕ))) (had : Option (List ℕ)) (place : ℕ) : Type 0 where
  pub image : List ℕ
  pub begins : BeginsThere image had
  pub refused : RefusesOfStudy given names image place

-- it was not had
pub record IsNotHad (had : Option (List ℕ)) (fault : NamedFault) : Type 0 where
  pub why : FileFault
  pub may : MayNotBeHad why had
  pub told : fault ≡ named.Image (told_of_attaching why)

-- or it is refused, or the schema isn't its
pub record IsNotTold (given : Option Declarations) (had : Option (List ℕ)) (fault : NamedFault) : Type 0 where
  pub image : List ℕ
  pub begins : BeginsThere image had
  pub refused : RefusesToTell given image fault

abbrev pub RefusesHeldValues : (given : Option Declarations) (names : List (Bor (List ℕ))) (had : Option (List ℕ)) → ValueFault → Type 0
RefusesHeldValues given names had (values.Unknown place) = HasNoFieldThere given names had place
RefusesHeldValues given names had (values.Named fault) = IsNotHad had fault ⊎ IsNotTold given had fault
RefusesHeldValues given names had values.Write = ⊥

-- a name is refused where no field has it, by the names of the schema file, where one is named
pub record HasNoFieldAt {P : Type 0} (path : Option P) (names : List (Bor (List ℕ))) (had : Option (List ℕ)) (place : ℕ) : Type 0 where
  pub given : Option Declarations
  pub is_named : IsNamedBy path given
  pub none : HasNoFieldThere given names had place

-- the image can't be had, or is refused, or the schema isn't its
pub record IsNotToldAt {P : Type 0} (path : Option P) (had : Option (List ℕ)) (fault : NamedFault) : Type 0 where
  pub given : Option Declarations
  pub is_named : IsNamedBy path given
  pub refused : IsNotHad had fault ⊎ IsNotTold given had fault

-- how it ends, by the image that was there before and is now, and by what was written before and is now
abbrev pub GetsBy : {P : Type 0} (path : Option P) (names : List (Bor (List ℕ))) → Result (Unit {0}) ValueFault → (had has old new : Option (List ℕ)) → Type 0
GetsBy path names (Ok done) had has old new = GetsAt path names had old new × (has ≡ had)
GetsBy path names (Err values.Write) had has old new = TellsLessAt path names had old new × (has ≡ had)
GetsBy path names (Err (values.Unknown place)) had has old new = HasNoFieldAt path names had place × (has ≡ had) × Appends old new []
GetsBy path names (Err (values.Named fault)) had has old new = (IsOfSchemaFile fault ⊎ IsNotToldAt path had fault) × (has ≡ had) × Appends old new []
