-- Which words the program takes, and what they ask for (this project's own; read as clap 4 reads them).
use Rattle.std.specs.Prelude.{◌≡◌, ◌≢◌, ◌↔◌, ◌⊎◌, ℕ, Bool, IsTrue, ◌^◌, ◌<◌, List, [], ◌∷◌, true, false, codes, pos, Option, None, Some, Result, Ok, Err, option_map, unwrap_or}
use Rattle.std.specs.Str.Parse.{IsNumeral, digits_value, without_leading_plus}
use Rattle.clap.specs.Simple.{App, new_app, new_shape, new_rule, subcommand_of, with_rule, with_subcommand}
use Rattle.clap.specs.Faults.{fault_of}
use Rattle.clap.specs.Kinds.{HasKind}
use Rattle.clap.specs.Values.{kind_of}
use Rattle.clap.specs.declared.error.Error.{Error}
use Rattle.clap.specs.declared.error.kind.ErrorKind.TheVariants.{ArgumentConflict}
use Rattle.clap.specs.Lexer.{usize_max}
use Rattle.clap.specs.Walk.{Row, Rule, Text, all_of, first_of, one_of}
use Rattle.clap.specs.declared.builder.action.ArgAction.TheVariants.{SetTrue}
use Rattle.clap.specs.declared.builder.value_parser.ValueParser.TheVariants.{Signed}
use Rattle.heapctl_words.specs.declared.words.Asked.{Asked}
use Rattle.heapctl_words.specs.declared.words.Words.{Words}
use Rattle.heapctl_words.specs.declared.words.Words.TheVariants as words
use Rattle.heapctl_words.specs.declared.words.Kind.{Kind}
use Rattle.heapctl_words.specs.declared.words.Kind.TheVariants as kinds
use Rattle.heapctl_words.specs.declared.words.Part.{Part}
use Rattle.heapctl_words.specs.declared.words.Part.TheVariants as parts

-- an option that has to be there, with a path
abbrev pub path_option : Text → Rule
path_option name = record (new_rule name) { long = Some name; value_names = 1; required = true }

-- an option with a path, which may be missing
abbrev pub file_option : Text → Rule
file_option name = record (new_rule name) { long = Some name; value_names = 1 }

-- the number of lanes, 1 to 32, and 4 where nothing is said
abbrev pub lanes_option : Rule
lanes_option = record (new_rule (codes "lanes")) {
  long = Some (codes "lanes");
  value_names = 1;
  defaults = codes "4" ∷ [];
  parser = Some (Signed (pos 1) (pos 32));
}

-- the records of a lane, 2,000 to 1,048,576, and 4,000 where nothing is said
abbrev pub capacity_option : Rule
capacity_option = record (new_rule (codes "capacity")) {
  long = Some (codes "capacity");
  value_names = 1;
  defaults = codes "4000" ∷ [];
  parser = Some (Signed (pos 2000) (pos 1048576));
}

-- the number of workers, 1 to 32, and 2 where nothing is said
abbrev pub workers_option : Rule
workers_option = record (new_rule (codes "workers")) {
  long = Some (codes "workers");
  value_names = 1;
  defaults = codes "2" ∷ [];
  parser = Some (Signed (pos 1) (pos 32));
}

-- the sections that each works, 1 to 10,000, which may be missing
abbrev pub rounds_option : Rule
rounds_option = record (new_rule (codes "rounds")) {
  long = Some (codes "rounds");
  value_names = 1;
  parser = Some (Signed (pos 1) (pos 10000));
}

-- the seconds that all work, 1 to 3,600, which may be missing
abbrev pub seconds_option : Rule
seconds_option = record (new_rule (codes "seconds")) {
  long = Some (codes "seconds");
  value_names = 1;
  parser = Some (Signed (pos 1) (pos 3600));
}

-- the bytes of a sector, which may be missing; 512 to 4,096, of which only the last is taken
abbrev pub sectors_option : Rule
sectors_option = record (new_rule (codes "sectors")) {
  long = Some (codes "sectors");
  value_names = 1;
  parser = Some (Signed (pos 512) (pos 4096));
}

-- how many of a thread's sections are drawn, the last ones, which may be missing
abbrev pub last_option : Rule
last_option = record (new_rule (codes "last")) {
  long = Some (codes "last");
  value_names = 1;
  parser = Some (Signed (pos 1) (pos 1000000000));
}

-- an option that is met or isn't
abbrev pub flag_option : Text → Rule
flag_option name = record (new_rule name) { long = Some name; action = Some SetTrue }

-- the flag `--atomic-sectors`
abbrev pub atomic_sectors_option : Rule
atomic_sectors_option = flag_option (codes "atomic-sectors")

-- by which slot of the control values are dumped, which may be missing
abbrev pub slot_option : Rule
slot_option = record (new_rule (codes "slot")) { long = Some (codes "slot"); value_names = 1 }

-- words that are no options, one at least
abbrev pub names_option : Rule
names_option = record (new_rule (codes "names")) {
  range = Some (record { start_inclusive = 1; end_inclusive = usize_max });
  value_names = 1;
  required = true;
}

-- the word `format` with its options, without the last three
abbrev pub plain_format_words : App
plain_format_words = with_rule (with_rule (with_rule (with_rule (new_app (codes "format"))
    (path_option (codes "image"))) (path_option (codes "schema"))) lanes_option) capacity_option

-- and with them
abbrev pub format_words : App
format_words = with_rule (with_rule (with_rule plain_format_words sectors_option) atomic_sectors_option) (flag_option (codes "force"))

-- the word `show` with its options
abbrev pub show_words : App
show_words = with_rule (with_rule (with_rule (with_rule (new_app (codes "show")) (path_option (codes "image")))
    (flag_option (codes "dot"))) last_option) (file_option (codes "schema"))

-- the word `dump` with its options
abbrev pub dump_words : App
dump_words = with_rule (with_rule (with_rule (with_rule (new_app (codes "dump")) (path_option (codes "image")))
    (file_option (codes "schema"))) (flag_option (codes "cells"))) slot_option

-- the words `get` and `set` with their options, and the names behind them
abbrev pub get_words : App
get_words = with_rule (with_rule (with_rule (new_app (codes "get")) (path_option (codes "image"))) (file_option (codes "schema")))
    names_option

abbrev pub set_words : App
set_words = with_rule (with_rule (with_rule (new_app (codes "set")) (path_option (codes "image"))) (file_option (codes "schema")))
    names_option

-- the word `recover` with its option
abbrev pub recover_words : App
recover_words = with_rule (new_app (codes "recover")) (path_option (codes "image"))

-- the word `upgrade` with its option
abbrev pub upgrade_words : App
upgrade_words = with_rule (new_app (codes "upgrade")) (path_option (codes "image"))

-- the word `drive` with its options
abbrev pub drive_words : App
drive_words = with_rule (with_rule (with_rule (with_rule (new_app (codes "drive")) workers_option) rounds_option)
    seconds_option) (file_option (codes "image"))

-- the word `run` with its options
abbrev pub run_words : App
run_words = with_rule (with_rule (with_rule (new_app (codes "run")) (file_option (codes "image")))
    (file_option (codes "schema"))) (flag_option (codes "strict"))

-- `heapctl` alone, with a version, and with the word `help` that clap gives
abbrev pub top : App
top = record {
  top = record (new_shape (codes "heapctl")) { has_version = true };
  subs = [];
}

-- with all its words
abbrev pub program : App
program = with_subcommand (with_subcommand (with_subcommand (with_subcommand (with_subcommand (with_subcommand
    (with_subcommand (with_subcommand (with_subcommand top run_words.top) format_words.top) show_words.top) recover_words.top)
    upgrade_words.top) drive_words.top) dump_words.top) get_words.top) set_words.top

-- the number that an option's text spells, where it spells one that fits
abbrev pub Reads : (bits : ℕ) → Option Text → ℕ → Type 0
Reads bits None number = Unit {0}
Reads bits (Some text) number = IsNumeral 10 (without_leading_plus text) → digits_value 10 (without_leading_plus text) < 2 ^ bits
    → number ≡ digits_value 10 (without_leading_plus text)

-- the number of an option that may be missing: none where it is
abbrev pub MayRead : (bits : ℕ) → Option Text → Option ℕ → Type 0
MayRead bits None number = number ≡ None
MayRead bits (Some text) number = IsNumeral 10 (without_leading_plus text) → digits_value 10 (without_leading_plus text) < 2 ^ bits
    → number ≡ Some (digits_value 10 (without_leading_plus text))

-- how many sections are drawn, by the option's text: 50 where it is missing
abbrev pub LastIs : Option Text → ℕ → Type 0
LastIs None last = last ≡ 50
LastIs (Some text) last = IsNumeral 10 (without_leading_plus text) → digits_value 10 (without_leading_plus text) < 2 ^ 32
    → last ≡ digits_value 10 (without_leading_plus text)

-- the flag was met: it reads as `true`
abbrev pub IsSet : Text → List Row → Type 0
IsSet name options = one_of name options ≡ Some (codes "true")

-- the path behind `--image`
abbrev pub image_of : List Row → Text
image_of options = unwrap_or (first_of (codes "image") options) []

-- the path behind `--schema`
abbrev pub schema_of : List Row → Text
schema_of options = unwrap_or (first_of (codes "schema") options) []

-- the bytes behind `--sectors`, where some are there, and the flag `--atomic-sectors` ask for an image of this kind
abbrev pub IsAskedKind : (sectors : Option ℕ) (atomic : Type 0) → Kind → Type 0
IsAskedKind sectors atomic kinds.Plain = (sectors ≡ None) × (atomic → ⊥)
IsAskedKind sectors atomic kinds.Placed = (sectors ≡ Some 4096) × (atomic → ⊥)
IsAskedKind sectors atomic kinds.Journaled = (sectors ≡ None) × atomic
IsAskedKind sectors atomic kinds.OtherSectors = (sectors ≢ None) × (sectors ≢ Some 4096) × (atomic → ⊥)
IsAskedKind sectors atomic kinds.Both = (sectors ≢ None) × atomic

-- so do the options behind the word
abbrev pub AsksForKind : List Row → Kind → Type 0
AsksForKind options kind =
    (sectors : Option ℕ) × MayRead 32 (one_of (codes "sectors") options) sectors
    × IsAskedKind sectors (IsSet (codes "atomic-sectors") options) kind

-- an image file is to be made, as the options behind the word say
pub record AsksToFormat (options : List Row) (image schema : Text) (lanes capacity : ℕ) (kind : Kind)
    (is_forced : Bool) : Type 0 where
  pub image_is : image ≡ image_of options
  pub schema_is : schema ≡ schema_of options
  pub lanes_are : Reads 8 (one_of (codes "lanes") options) lanes
  pub capacity_is : Reads 32 (one_of (codes "capacity") options) capacity
  pub kind_is : AsksForKind options kind
  pub force_is : IsTrue is_forced ↔ IsSet (codes "force") options

-- what an image holds is to be printed, as the options behind the word say
pub record AsksToShow (options : List Row) (image : Text) (last : Option ℕ) (schema : Option Text) : Type 0 where
  pub image_is : image ≡ image_of options
  pub last_is : MayRead 32 (one_of (codes "last") options) last
  pub schema_is : schema ≡ first_of (codes "schema") options
  pub plain : IsSet (codes "dot") options → ⊥

-- sections are to be drawn, as the options behind the word say
pub record AsksToDraw (options : List Row) (image : Text) (last : ℕ) (schema : Option Text) : Type 0 where
  pub image_is : image ≡ image_of options
  pub last_is : LastIs (one_of (codes "last") options) last
  pub schema_is : schema ≡ first_of (codes "schema") options
  pub dot : IsSet (codes "dot") options

-- fields of an image are to be told or set, as the options behind the word say
pub record AsksByName (options : List Row) (image : Text) (schema : Option Text) : Type 0 where
  pub image_is : image ≡ image_of options
  pub schema_is : schema ≡ first_of (codes "schema") options

-- the slot of this name is asked for, or it is none
abbrev pub NamesSlot : (slot : Text) → Part → Type 0
NamesSlot slot parts.SlotA = slot ≡ codes "a"
NamesSlot slot parts.SlotB = slot ≡ codes "b"
NamesSlot slot parts.Unclear = (slot ≢ codes "a") × (slot ≢ codes "b")
NamesSlot slot _ = ⊥

-- the flag `--cells` and the text behind `--slot`, where one is there, ask for these values
abbrev pub IsAskedBy : (cells : Type 0) (slot : Option Text) → Part → Type 0
IsAskedBy cells None parts.Heap = cells → ⊥
IsAskedBy cells None parts.Cells = cells
IsAskedBy cells None _ = ⊥
IsAskedBy cells (Some slot) part = (cells × (part ≡ parts.Unclear)) ⊎ ((cells → ⊥) × NamesSlot slot part)

-- so do the options behind the word
abbrev pub AsksForPart : List Row → Part → Type 0
AsksForPart options part = IsAskedBy (IsSet (codes "cells") options) (first_of (codes "slot") options) part

-- values of an image are to be printed as a schema file, as the options behind the word say
pub record AsksToDump (options : List Row) (image : Text) (schema : Option Text) (part : Part) : Type 0 where
  pub image_is : image ≡ image_of options
  pub schema_is : schema ≡ first_of (codes "schema") options
  pub part_is : AsksForPart options part

-- workers are to work, as the options behind the word say
pub record AsksToDrive (options : List Row) (workers : ℕ) (rounds seconds : Option ℕ) (image : Option Text) : Type 0 where
  pub workers_are : Reads 8 (one_of (codes "workers") options) workers
  pub rounds_are : MayRead 32 (one_of (codes "rounds") options) rounds
  pub seconds_are : MayRead 32 (one_of (codes "seconds") options) seconds
  pub image_is : image ≡ first_of (codes "image") options

-- a script is to be played, as the options behind the word say: in memory, or over an image file
pub record AsksToPlay (options : List Row) (image schema : Option Text) (is_strict : Bool) : Type 0 where
  pub image_is : image ≡ first_of (codes "image") options
  pub schema_is : schema ≡ first_of (codes "schema") options
  pub strict_is : IsTrue is_strict ↔ IsSet (codes "strict") options

-- no word of the program's was met
pub record IsNoWord (found : Option (Text × List Row)) (image schema : Option Text) (is_strict : Bool) : Type 0 where
  pub others : (options : List Row) → (found ≢ Some (codes "format", options))
      × (found ≢ Some (codes "show", options)) × (found ≢ Some (codes "recover", options)) × (found ≢ Some (codes "upgrade", options))
      × (found ≢ Some (codes "drive", options)) × (found ≢ Some (codes "dump", options)) × (found ≢ Some (codes "get", options))
      × (found ≢ Some (codes "set", options)) × (found ≢ Some (codes "run", options))
  pub in_memory : image ≡ None
  pub by_number : schema ≡ None
  pub to_the_end : is_strict ≡ false

-- the word that was met with its options, if one was, asks for this
abbrev pub AsksFor : Option (Text × List Row) → Words → Type 0
AsksFor found (words.Run image schema is_strict) =
    IsNoWord found (option_map (λ path. path.now) image) (option_map (λ path. path.now) schema) is_strict
    ⊎ ((options : List Row) × (found ≡ Some (codes "run", options))
    × AsksToPlay options (option_map (λ path. path.now) image) (option_map (λ path. path.now) schema) is_strict)
AsksFor found (words.Format image schema lanes capacity kind is_forced) =
    (options : List Row) × (found ≡ Some (codes "format", options))
    × AsksToFormat options image.now schema.now lanes capacity kind is_forced
AsksFor found (words.Show image last schema) =
    (options : List Row) × (found ≡ Some (codes "show", options))
    × AsksToShow options image.now last (option_map (λ path. path.now) schema)
AsksFor found (words.Draw image last schema) =
    (options : List Row) × (found ≡ Some (codes "show", options))
    × AsksToDraw options image.now last (option_map (λ path. path.now) schema)
AsksFor found (words.Dump image schema part) =
    (options : List Row) × (found ≡ Some (codes "dump", options)) × AsksToDump options image.now (option_map (λ path. path.now) schema) part
AsksFor found (words.Get image schema) =
    (options : List Row) × (found ≡ Some (codes "get", options)) × AsksByName options image.now (option_map (λ path. path.now) schema)
AsksFor found (words.Set image schema) =
    (options : List Row) × (found ≡ Some (codes "set", options)) × AsksByName options image.now (option_map (λ path. path.now) schema)
AsksFor found (words.Recover image) =
    (options : List Row) × (found ≡ Some (codes "recover", options)) × (image.now ≡ image_of options)
AsksFor found (words.Upgrade image) =
    (options : List Row) × (found ≡ Some (codes "upgrade", options)) × (image.now ≡ image_of options)
AsksFor found (words.Drive workers rounds seconds image) =
    (options : List Row) × (found ≡ Some (codes "drive", options))
    × AsksToDrive options workers rounds seconds (option_map (λ path. path.now) image)

-- the names of fields that stand behind the word that was met
abbrev pub names_asked : Option (Text × List Row) → List Text
names_asked None = []
names_asked (Some met) = unwrap_or (all_of (codes "names") met.1) []

-- an image file is to be made in the place of its own schema file
abbrev pub HasOnePath : Words → Type 0
HasOnePath (words.Format image schema lanes capacity kind is_forced) = image.now ≡ schema.now
HasOnePath _ = ⊥

-- it is said in two ways how long workers are to work
abbrev pub HasBothLengths : Words → Type 0
HasBothLengths (words.Drive workers (Some rounds) (Some seconds) image) = Unit {0}
HasBothLengths _ = ⊥

-- an image is to lie on sectors of other than 4,096 bytes, or in two ways
abbrev pub HasNoKind : Words → Type 0
HasNoKind (words.Format image schema lanes capacity kinds.OtherSectors is_forced) = Unit {0}
HasNoKind (words.Format image schema lanes capacity kinds.Both is_forced) = Unit {0}
HasNoKind _ = ⊥

-- an option is named that does nothing: names for a script in memory, or what a graph has a use for where none is asked for
abbrev pub HasIdleOptions : Words → Type 0
HasIdleOptions (words.Run None (Some schema) is_strict) = Unit {0}
HasIdleOptions (words.Show image (Some last) schema) = Unit {0}
HasIdleOptions (words.Show image None (Some schema)) = Unit {0}
HasIdleOptions _ = ⊥

-- it isn't clear which values are to be dumped
abbrev pub HasUnclearPart : Words → Type 0
HasUnclearPart (words.Dump image schema parts.Unclear) = Unit {0}
HasUnclearPart _ = ⊥

-- the words are those of `format`, with one path behind `--image` and `--schema`
pub record NamesOneFile (texts : List Text) : Type 0 where
  pub options : List Row
  pub found : subcommand_of program texts ≡ Some (codes "format", options)
  pub same : image_of options ≡ schema_of options

-- the words are those of `drive`, with both `--rounds` and `--seconds`
pub record SaysBothLengths (texts : List Text) : Type 0 where
  pub options : List Row
  pub found : subcommand_of program texts ≡ Some (codes "drive", options)
  pub rounds : one_of (codes "rounds") options ≢ None
  pub seconds : one_of (codes "seconds") options ≢ None

-- the words are those of `format`, with another number than 4,096 behind `--sectors`, or with both `--sectors` and `--atomic-sectors`
pub record SaysNoKind (texts : List Text) : Type 0 where
  pub options : List Row
  pub found : subcommand_of program texts ≡ Some (codes "format", options)
  pub kind : AsksForKind options kinds.OtherSectors ⊎ AsksForKind options kinds.Both

-- the words are those of `run`, with `--schema` and without `--image`
pub record NamesNoImage (texts : List Text) : Type 0 where
  pub options : List Row
  pub found : subcommand_of program texts ≡ Some (codes "run", options)
  pub no_image : first_of (codes "image") options ≡ None
  pub schema : first_of (codes "schema") options ≢ None

-- the words are those of `show`, with `--last` or `--schema` and without `--dot`
pub record DrawsNothing (texts : List Text) : Type 0 where
  pub options : List Row
  pub found : subcommand_of program texts ≡ Some (codes "show", options)
  pub plain : IsSet (codes "dot") options → ⊥
  pub idle : (one_of (codes "last") options ≢ None) ⊎ (first_of (codes "schema") options ≢ None)

-- the words name an option that does nothing
abbrev pub SaysIdleOptions : List Text → Type 0
SaysIdleOptions texts = NamesNoImage texts ⊎ DrawsNothing texts

-- the words are those of `dump`, with both `--cells` and `--slot`, or with another slot than the two
pub record SaysNoPart (texts : List Text) : Type 0 where
  pub options : List Row
  pub found : subcommand_of program texts ≡ Some (codes "dump", options)
  pub unclear : AsksForPart options parts.Unclear

-- clap takes these words, and the program doesn't: they name one file twice, say two lengths, other sectors or two kinds of image,
-- name an option that does nothing, or don't say clearly which values are to be dumped
abbrev pub ClashesWith : List Text → Type 0
ClashesWith texts = NamesOneFile texts ⊎ SaysBothLengths texts ⊎ SaysNoKind texts ⊎ SaysIdleOptions texts ⊎ SaysNoPart texts

-- the answer's kind is one that clap gives to such words; or only the program refuses them
abbrev pub Refuses : List Text → Error → Type 0
Refuses texts answer = HasKind (fault_of program texts) answer
    ⊎ ((fault_of program texts ≡ []) × ClashesWith texts × (kind_of answer ≡ ArgumentConflict))

-- clap takes the words, no file is named twice, no run has two lengths, an image is of one kind and no sector of another size,
-- each option does something, and it is clear which values are dumped
pub record IsTaken (texts : List Text) (asked : Words) : Type 0 where
  pub well_formed : fault_of program texts ≡ []
  pub two_files : NamesOneFile texts → ⊥
  pub one_length : HasBothLengths asked → ⊥
  pub one_kind : HasNoKind asked → ⊥
  pub busy : HasIdleOptions asked → ⊥
  pub clear : HasUnclearPart asked → ⊥

-- such words are taken, and else they are refused; or memory was wanting
abbrev pub IsAnsweredBy : List Text → Result Asked Error → Type 0
IsAnsweredBy texts (Ok asked) = IsTaken texts asked.words
IsAnsweredBy texts (Err answer) = Refuses texts answer
