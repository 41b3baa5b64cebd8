-- What setting fields of an image leaves of it, and what is refused (docs/SCRIPTS.md, "The program's words").
use Rattle.std.specs.Prelude.{ℕ, ◌≡◌, ◌⊎◌, ◌<◌, ◌^◌, ◌==◌, true, false, Option, Some, List, [], ◌∷◌, ◌++◌, Result, Ok, Err, codes, length, set, slice_get}
use Rattle.std.specs.List.{after_first, before_first, position_or_len}
use Rattle.std.specs.Borrow.{Bor}
use Rattle.std.specs.Fmt.{decimal}
use Rattle.std.specs.Io.KnownBytes.{Appends}
use Rattle.std.specs.Str.Parse.{IsNumeral, digits_value, without_leading_plus}
use Rattle.guards.specs.Schema.{Declarations, guard_of, is_transient_of, names_of}
use Rattle.image_file.specs.Images.{IsThere}
use Rattle.image_file.specs.Naming.{IsNamedBy}
use Rattle.image_file.specs.Showing.{told_of_attaching}
use Rattle.image_file.specs.declared.error.FileFault.{FileFault}
use Rattle.image_file.specs.declared.error.ImageFault.TheVariants as images
use Rattle.image_file.specs.declared.error.NamedFault.{NamedFault}
use Rattle.image_file.specs.declared.error.NamedFault.TheVariants as named
use Rattle.image_schema.specs.OfImage.{named_as}
use Rattle.recover.specs.Reading.{RefusesImage}
use Rattle.recover.specs.Study.{IsStudyOf}
use Rattle.recover_heap.specs.declared.error.RecoverError.{RecoverError}
use Rattle.recover_heap.specs.declared.error.RecoverError.TheVariants.{NoMemory}
use Rattle.recover.specs.declared.studied.Study.{Study}
use Rattle.script_lines.specs.Lines.{lines_of}
use Rattle.script_lines.specs.declared.reader.Ending.TheVariants.{Whole}
use Rattle.script_play.specs.Runs.{AppendsPart}
use Rattle.script_images.specs.Playing.{IsNotNamed, PlaysOver, RefusesToPlay}
use Rattle.script_images.specs.Schemas.{IsSchemaOf}
use Rattle.script_images.specs.declared.assigning.Miss.{Miss}
use Rattle.script_images.specs.declared.assigning.Miss.TheVariants as miss
use Rattle.script_images.specs.declared.error.RunFault.{RunFault}
use Rattle.script_images.specs.declared.error.RunFault.TheVariants as runs
use Rattle.script_images.specs.declared.error.SetFault.{SetFault}
use Rattle.script_images.specs.declared.error.SetFault.TheVariants as sets

-- what a word says

-- what stands before the first `=` of a word (61), and what behind it
abbrev pub name_of : List ℕ → List ℕ
name_of text = before_first (λ b. b == 61) text

abbrev pub digits_of : List ℕ → List ℕ
digits_of text = without_leading_plus (after_first (λ b. b == 61) text)

-- behind it is a number below 2^64
abbrev pub IsNumber : List ℕ → Type 0
IsNumber digits = IsNumeral 10 digits × (digits_value 10 digits < 2 ^ 64)

-- the word assigns this value to this name
pub record IsAssignment (text name : List ℕ) (value : ℕ) : Type 0 where
  pub parted : position_or_len (λ b. b == 61) text < length text
  pub name_is : name ≡ name_of text
  pub number : IsNumber (digits_of text)
  pub value_is : value ≡ digits_value 10 (digits_of text)

-- the word assigns nothing: it has no `=`, or behind the first of them is no number
abbrev pub NoAssignment : List ℕ → Type 0
NoAssignment text = (position_or_len (λ b. b == 61) text ≡ length text) ⊎ (IsNumber (digits_of text) → ⊥)

-- the lines

-- those that store a value into a field behind its guard
abbrev pub storing : (guard name : List ℕ) (value : ℕ) → List ℕ
storing guard name value = codes "t1 enter " ++ guard ++ codes "\nt1 store " ++ name ++ codes " " ++ decimal value ++ codes "\n"

-- that by which the guard is left
abbrev pub exiting : (guard : List ℕ) → List ℕ
exiting guard = codes "t1 exit " ++ guard ++ codes "\n"

-- those that acknowledge what was stored
abbrev pub acknowledging : List ℕ
acknowledging = codes "log\nhome\nsettle\n"

-- the word assigns a value to a persistent field: the lines that store it were added, and it was put into the heap
pub record IsAssigned (schema : Declarations) (text : List ℕ) (lines ends heap lines_new ends_new heap_new : List ℕ) : Type 0 where
  pub name : List ℕ
  pub value : ℕ
  pub assigns : IsAssignment text name value
  pub field : ℕ
  pub is_named : slice_get (names_of schema.fields) field ≡ Some name
  pub persistent : is_transient_of schema field ≡ false
  pub guard : List ℕ
  pub guarded : slice_get schema.objects (guard_of schema field) ≡ Some guard
  pub stored : lines_new ≡ lines ++ storing guard name value
  pub exits : ends_new ≡ ends ++ exiting guard
  pub within : field < length heap
  pub changed : heap_new ≡ set heap field value

-- so it is of each of these words, in their order
abbrev pub HasAssignments : (schema : Declarations) → List (Bor (List ℕ)) → (lines ends heap lines_new ends_new heap_new : List ℕ) → Type 0
HasAssignments schema [] lines ends heap lines_new ends_new heap_new = (lines_new ≡ lines) × (ends_new ≡ ends) × (heap_new ≡ heap)
HasAssignments schema (text ∷ texts) lines ends heap lines_new ends_new heap_new =
    (l : List ℕ) × (e : List ℕ) × (h : List ℕ) × IsAssigned schema text.now lines ends heap l e h × HasAssignments schema texts l e h lines_new ends_new heap_new

-- a section stores what these words assign, and is acknowledged then: the guards are entered, and left at the end; and what that makes of the heap
pub record HasSection (schema : Declarations) (before : List ℕ) (texts : List (Bor (List ℕ))) (lines heap : List ℕ) : Type 0 where
  pub begins : List ℕ
  pub ends : List ℕ
  pub assigned : HasAssignments schema texts [] [] before begins ends heap
  pub lines_are : lines ≡ begins ++ (ends ++ acknowledging)

-- of an image that was studied, by the names of its schema
pub record IsPlannedOf (given : Option Declarations) (texts : List (Bor (List ℕ))) (s : Study) (schema : Declarations) (lines heap : List ℕ) : Type 0 where
  pub schema_is : schema ≡ named_as given s
  pub fits : IsSchemaOf (named_as given s) s
  pub section : HasSection schema s.heap.items texts lines heap

-- of an image
pub record IsPlanned (given : Option Declarations) (texts : List (Bor (List ℕ))) (image : List ℕ) (schema : Declarations) (lines heap : List ℕ) : Type 0 where
  pub study : Study
  pub studied : IsStudyOf image study
  pub planned : IsPlannedOf given texts study schema lines heap

-- recovery of the image gives this heap
pub record HasHeap (heap image : List ℕ) : Type 0 where
  pub study : Study
  pub studied : IsStudyOf image study
  pub heap_is : study.heap.items ≡ heap

-- these lines were played over the image, and none was refused; they left this, of which recovery gives this heap
pub record IsPlayedPlan (schema : Declarations) (lines heap image left text : List ℕ) : Type 0 where
  pub plays : PlaysOver (Some schema) (lines_of lines) Whole true image left text
  pub has : HasHeap heap left

-- The lines of the section were played over the image, and none was refused; they left this, of which recovery gives the changed heap
pub record IsSetOver (given : Option Declarations) (texts : List (Bor (List ℕ))) (image left text : List ℕ) : Type 0 where
  pub schema : Declarations
  pub lines : List ℕ
  pub heap : List ℕ
  pub planned : IsPlanned given texts image schema lines heap
  pub played : IsPlayedPlan schema lines heap image left text

-- of the image that was there
pub record SetsThere (given : Option Declarations) (texts : List (Bor (List ℕ))) (had : Option (List ℕ)) (left text : List ℕ) : Type 0 where
  pub image : List ℕ
  pub was : IsThere image had
  pub set_over : IsSetOver given texts image left text

-- what is refused

-- the word assigns nothing, or not to a persistent field of this schema
abbrev pub Misses : (schema : Declarations) (text : List ℕ) → Miss → Type 0
Misses schema text miss.Word = NoAssignment text
Misses schema text miss.Unknown = (name : List ℕ) × (value : ℕ) × IsAssignment text name value × ((field : ℕ) → slice_get (names_of schema.fields) field ≡ Some name → ⊥)
Misses schema text miss.Transient =
    (name : List ℕ) × (value : ℕ) × IsAssignment text name value × (field : ℕ) × (slice_get (names_of schema.fields) field ≡ Some name) × (is_transient_of schema field ≡ true)
Misses schema text miss.NoMemory = Unit {0}

-- the word at this place does so
pub record MissesAt (schema : Declarations) (texts : List (Bor (List ℕ))) (place : ℕ) (why : Miss) : Type 0 where
  pub text : Bor (List ℕ)
  pub there : slice_get texts place ≡ Some text
  pub misses : Misses schema text.now why

-- how it is told of the word at this place
abbrev pub told_of_miss : Miss → (place : ℕ) → SetFault
told_of_miss miss.Word place = sets.Word place
told_of_miss miss.Unknown place = sets.Unknown place
told_of_miss miss.Transient place = sets.Transient place
told_of_miss miss.NoMemory place = sets.Run (runs.Named (named.Image (images.Image NoMemory)))

-- there was no memory
abbrev pub IsNoMemory : RunFault → Type 0
IsNoMemory fault = fault ≡ runs.Named (named.Image (images.Image NoMemory))

-- no lines are made of these words
abbrev pub RefusesTexts : (schema : Declarations) → List (Bor (List ℕ)) → SetFault → Type 0
RefusesTexts schema texts (sets.Word place) = MissesAt schema texts place miss.Word
RefusesTexts schema texts (sets.Unknown place) = MissesAt schema texts place miss.Unknown
RefusesTexts schema texts (sets.Transient place) = MissesAt schema texts place miss.Transient
RefusesTexts schema texts sets.OtherHeap = ⊥
RefusesTexts schema texts (sets.Run fault) = IsNoMemory fault

-- it is a fault of the image or of the schema that has P
abbrev pub IsNamedFault : (P : NamedFault → Type 0) → SetFault → Type 0
IsNamedFault P fault = (why : NamedFault) × (fault ≡ sets.Run (runs.Named why)) × P why

-- no lines are made for an image that was studied
abbrev pub RefusesStudied : (given : Option Declarations) (texts : List (Bor (List ℕ))) (s : Study) → SetFault → Type 0
RefusesStudied given texts s fault = RefusesTexts (named_as given s) texts fault ⊎ IsNamedFault (IsNotNamed given s) fault

-- for an image
pub record IsUnplanned (given : Option Declarations) (texts : List (Bor (List ℕ))) (image : List ℕ) (fault : SetFault) : Type 0 where
  pub study : Study
  pub studied : IsStudyOf image study
  pub refused : RefusesStudied given texts study fault

-- the image is refused for this reason
abbrev pub IsRefusedImage : (image : List ℕ) → SetFault → Type 0
IsRefusedImage image fault = (why : RecoverError) × (fault ≡ sets.Run (runs.Named (named.Image (images.Image why)))) × RefusesImage image why

abbrev pub RefusesPlan : (given : Option Declarations) (texts : List (Bor (List ℕ))) (image : List ℕ) → SetFault → Type 0
RefusesPlan given texts image fault = IsRefusedImage image fault ⊎ IsUnplanned given texts image fault

-- recovery doesn't give the heap that it is to give, or there was no memory to see it
abbrev pub IsUnchecked : SetFault → Type 0
IsUnchecked fault = (fault ≡ sets.OtherHeap) ⊎ (fault ≡ sets.Run (runs.Named (named.Image (images.Image NoMemory))))

-- these lines aren't played over the image, or recovery doesn't give the heap
abbrev pub RefusesPlayed : (schema : Declarations) (lines image : List ℕ) → SetFault → Type 0
RefusesPlayed schema lines image fault =
    ((why : RunFault) × (fault ≡ sets.Run why) × RefusesToPlay (Some schema) (lines_of lines) Whole true image why) ⊎ IsUnchecked fault

-- so it is of the lines of the section
pub record IsUnplayed (given : Option Declarations) (texts : List (Bor (List ℕ))) (image : List ℕ) (fault : SetFault) : Type 0 where
  pub schema : Declarations
  pub lines : List ℕ
  pub heap : List ℕ
  pub planned : IsPlanned given texts image schema lines heap
  pub refused : RefusesPlayed schema lines image fault

abbrev pub RefusesToSet : (given : Option Declarations) (texts : List (Bor (List ℕ))) (image : List ℕ) → SetFault → Type 0
RefusesToSet given texts image fault = RefusesPlan given texts image fault ⊎ IsUnplayed given texts image fault

-- the image that was there isn't had
abbrev pub IsNotHad : SetFault → Type 0
IsNotHad fault = (why : FileFault) × (fault ≡ sets.Run (runs.Named (named.Image (told_of_attaching why))))

-- it was read, and its fields aren't set
pub record IsUnset (given : Option Declarations) (texts : List (Bor (List ℕ))) (had : Option (List ℕ)) (fault : SetFault) : Type 0 where
  pub image : List ℕ
  pub was : IsThere image had
  pub refused : RefusesToSet given texts image fault

abbrev pub RefusesThere : (given : Option Declarations) (texts : List (Bor (List ℕ))) (had : Option (List ℕ)) → SetFault → Type 0
RefusesThere given texts had fault = IsNotHad fault ⊎ IsUnset given texts had fault

-- how it ends

module _ (given : Option Declarations) (texts : List (Bor (List ℕ))) (had has old new : Option (List ℕ)) where
  -- what was left of the image is there, and what the lines print was written
  pub record IsDone : Type 0 where
    pub left : List ℕ
    pub text : List ℕ
    pub fields : SetsThere given texts had left text
    pub is_there : IsThere left has
    pub written : Appends old new text

  -- it is there, and a beginning of what they print was written, and not all
  pub record IsHalfTold (fault : SetFault) : Type 0 where
    pub write : fault ≡ sets.Run runs.Write
    pub left : List ℕ
    pub text : List ℕ
    pub fields : SetsThere given texts had left text
    pub is_there : IsThere left has
    pub part : AppendsPart old new text

  -- it was not put in its place: the old image is there still, or the whole new one, which may not be durable
  pub record IsNotPut (fault : SetFault) : Type 0 where
    pub left : List ℕ
    pub text : List ℕ
    pub fields : SetsThere given texts had left text
    pub unput : IsNotHad fault
    pub stays : (has ≡ had) ⊎ IsThere left has
    pub silent : Appends old new []

  -- nothing was set: the image is as it was, and nothing was written
  pub record IsRefused (fault : SetFault) : Type 0 where
    pub refused : RefusesThere given texts had fault
    pub same : has ≡ had
    pub silent : Appends old new []

  abbrev pub SetsHeld : Result (Unit {0}) SetFault → Type 0
  SetsHeld (Ok done) = IsDone
  SetsHeld (Err fault) = IsRefused fault ⊎ (IsNotPut fault ⊎ IsHalfTold fault)

-- by the names of the schema file, where one is named
pub record SetsNamed {P : Type 0} (path : Option P) (texts : List (Bor (List ℕ))) (result : Result (Unit {0}) SetFault) (had has old new : Option (List ℕ)) : Type 0 where
  pub given : Option Declarations
  pub is_named : IsNamedBy path given
  pub ends : SetsHeld given texts had has old new result

-- the schema file isn't had: nothing is done
abbrev pub IsUnnamed : Result (Unit {0}) SetFault → (had has old new : Option (List ℕ)) → Type 0
IsUnnamed (Ok done) had has old new = ⊥
IsUnnamed (Err fault) had has old new = IsNamedFault (λ why. Unit {0}) fault × (has ≡ had) × Appends old new []

abbrev pub SetsAt : {P : Type 0} (path : Option P) (texts : List (Bor (List ℕ))) → Result (Unit {0}) SetFault → (had has old new : Option (List ℕ)) → Type 0
SetsAt path texts result had has old new = IsUnnamed result had has old new ⊎ SetsNamed path texts result had has old new
