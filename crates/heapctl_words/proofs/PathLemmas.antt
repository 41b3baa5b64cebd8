-- Whether `format` is asked for with one path for both of its files, with other sectors or with two kinds of image, `drive` with two lengths,
-- `run` or `show` with an option that does nothing, and `dump` without telling clearly which values.
use Rattle.std.proofs.Common.{◌≡◌, ◌≢◌, ℕ, List, [], ◌∷◌, Option, None, Some, inl, inr, refl, sym, ◌∙◌, ap, arith, codes, length}
use Rattle.clap.proofs.OnLiterals.{clap_on_literals}
use Rattle.clap.specs.Simple.{subcommand_of}
use Rattle.clap.specs.Walk.{Row, Text, first_of}
use Rattle.clap.specs.declared.builder.value_parser.Reading.TheVariants.{AsWritten}
use Rattle.clap.specs.declared.parser.matches.ValueSource.TheVariants.{DefaultValue}
use Rattle.heapctl_words.specs.declared.words.Words.{Words}
use Rattle.heapctl_words.specs.declared.words.Words.TheVariants as words
use Rattle.heapctl_words.specs.declared.words.Kind.TheVariants as kinds
use Rattle.heapctl_words.specs.declared.words.Part.TheVariants as parts
use Rattle.heapctl_words.specs.Words.{AsksFor, HasBothLengths, HasIdleOptions, HasNoKind, HasOnePath, HasUnclearPart, MayRead, NamesOneFile, SaysBothLengths, SaysIdleOptions, SaysNoKind, SaysNoPart, image_of, program, schema_of}

pub one_file : (texts : List Text) (asked : Words) → AsksFor (subcommand_of program texts) asked → HasOnePath asked → NamesOneFile texts
one_file texts (words.Run image schema is_strict) asks same = elim same [ ]
one_file texts (words.Format image schema lanes capacity kind is_forced) (options, found, asks) same =
    record { options = options; found = found; same = sym asks.image_is ∙ same ∙ asks.schema_is }
one_file texts (words.Show image last schema) asks same = elim same [ ]
one_file texts (words.Draw image last schema) asks same = elim same [ ]
one_file texts (words.Dump image schema part) asks same = elim same [ ]
one_file texts (words.Get image schema) asks same = elim same [ ]
one_file texts (words.Set image schema) asks same = elim same [ ]
one_file texts (words.Recover image) asks same = elim same [ ]
one_file texts (words.Upgrade image) asks same = elim same [ ]
one_file texts (words.Drive workers rounds seconds image) asks same = elim same [ ]

-- an option whose number was read was met
was_met : (bits number : ℕ) (text : Option Text) → MayRead bits text (Some number) → text ≢ None
was_met bits number None reads none = absurd cc
was_met bits number (Some t) reads none = absurd cc

pub both_lengths : (texts : List Text) (asked : Words) → AsksFor (subcommand_of program texts) asked → HasBothLengths asked → SaysBothLengths texts
both_lengths texts (words.Run image schema is_strict) asks both = elim both [ ]
both_lengths texts (words.Format image schema lanes capacity kind is_forced) asks both = elim both [ ]
both_lengths texts (words.Show image last schema) asks both = elim both [ ]
both_lengths texts (words.Draw image last schema) asks both = elim both [ ]
both_lengths texts (words.Dump image schema part) asks both = elim both [ ]
both_lengths texts (words.Get image schema) asks both = elim both [ ]
both_lengths texts (words.Set image schema) asks both = elim both [ ]
both_lengths texts (words.Recover image) asks both = elim both [ ]
both_lengths texts (words.Upgrade image) asks both = elim both [ ]
both_lengths texts (words.Drive workers None seconds image) asks both = elim both [ ]
both_lengths texts (words.Drive workers (Some rounds) None image) asks both = elim both [ ]
both_lengths texts (words.Drive workers (Some rounds) (Some seconds) image) (options, found, asks) both =
    record { options = options; found = found; rounds = was_met 32 rounds _ asks.rounds_are; seconds = was_met 32 seconds _ asks.seconds_are }

pub no_kind : (texts : List Text) (asked : Words) → AsksFor (subcommand_of program texts) asked → HasNoKind asked → SaysNoKind texts
no_kind texts (words.Run image schema is_strict) asks none = elim none [ ]
no_kind texts (words.Format image schema lanes capacity kinds.Plain is_forced) asks none = elim none [ ]
no_kind texts (words.Format image schema lanes capacity kinds.Placed is_forced) asks none = elim none [ ]
no_kind texts (words.Format image schema lanes capacity kinds.Journaled is_forced) asks none = elim none [ ]
no_kind texts (words.Format image schema lanes capacity kinds.OtherSectors is_forced) (options, found, asks) none =
    record { options = options; found = found; kind = inl asks.kind_is }
no_kind texts (words.Format image schema lanes capacity kinds.Both is_forced) (options, found, asks) none =
    record { options = options; found = found; kind = inr asks.kind_is }
no_kind texts (words.Show image last schema) asks none = elim none [ ]
no_kind texts (words.Draw image last schema) asks none = elim none [ ]
no_kind texts (words.Dump image schema part) asks none = elim none [ ]
no_kind texts (words.Get image schema) asks none = elim none [ ]
no_kind texts (words.Set image schema) asks none = elim none [ ]
no_kind texts (words.Recover image) asks none = elim none [ ]
no_kind texts (words.Upgrade image) asks none = elim none [ ]
no_kind texts (words.Drive workers rounds seconds image) asks none = elim none [ ]

-- the word that was met, and what stands behind it
abbrev word_in : Option (Text × List Row) → Text
word_in None = []
word_in (Some x) = x.0

abbrev rows_in : Option (Text × List Row) → List Row
rows_in None = []
rows_in (Some x) = x.1

longer : (n : ℕ) → n ≡ 4 → n ≡ 6 → ⊥
longer n is lengths = omega (arith, is, lengths)

shorter : (n : ℕ) → n ≡ 7 → n ≡ 6 → ⊥
shorter n is lengths = omega (arith, is, lengths)

five : (n : ℕ) → n ≡ 5 → n ≡ 6 → ⊥
five n is lengths = omega (arith, is, lengths)

none : (n : ℕ) → n ≡ 0 → n ≡ 6 → ⊥
none n is lengths = omega (arith, is, lengths)

run : (n : ℕ) → n ≡ 3 → n ≡ 6 → ⊥
run n is lengths = omega (arith, is, lengths)

-- no word is met, or another than `format`
pub not_none : (texts : List Text) → subcommand_of program texts ≡ None → NamesOneFile texts → ⊥
not_none texts is one = none (length (word_in (subcommand_of program texts))) (ap (λ found. length (word_in found)) is) (ap (λ found. length (word_in found)) one.found)

pub not_run : (texts : List Text) (options : List Row) → subcommand_of program texts ≡ Some (codes "run", options) → NamesOneFile texts → ⊥
not_run texts options is one = run (length (word_in (subcommand_of program texts))) (ap (λ found. length (word_in found)) is) (ap (λ found. length (word_in found)) one.found)

not_show : (texts : List Text) (options : List Row) → subcommand_of program texts ≡ Some (codes "show", options) → NamesOneFile texts → ⊥
not_show texts options is one = longer (length (word_in (subcommand_of program texts))) (ap (λ found. length (word_in found)) is) (ap (λ found. length (word_in found)) one.found)

not_recover : (texts : List Text) (options : List Row) → subcommand_of program texts ≡ Some (codes "recover", options) → NamesOneFile texts → ⊥
not_recover texts options is one = shorter (length (word_in (subcommand_of program texts))) (ap (λ found. length (word_in found)) is) (ap (λ found. length (word_in found)) one.found)

not_upgrade : (texts : List Text) (options : List Row) → subcommand_of program texts ≡ Some (codes "upgrade", options) → NamesOneFile texts → ⊥
not_upgrade texts options is one = shorter (length (word_in (subcommand_of program texts))) (ap (λ found. length (word_in found)) is) (ap (λ found. length (word_in found)) one.found)

not_drive : (texts : List Text) (options : List Row) → subcommand_of program texts ≡ Some (codes "drive", options) → NamesOneFile texts → ⊥
not_drive texts options is one = five (length (word_in (subcommand_of program texts))) (ap (λ found. length (word_in found)) is) (ap (λ found. length (word_in found)) one.found)

not_dump : (texts : List Text) (options : List Row) → subcommand_of program texts ≡ Some (codes "dump", options) → NamesOneFile texts → ⊥
not_dump texts options is one = longer (length (word_in (subcommand_of program texts))) (ap (λ found. length (word_in found)) is) (ap (λ found. length (word_in found)) one.found)

not_get : (texts : List Text) (options : List Row) → subcommand_of program texts ≡ Some (codes "get", options) → NamesOneFile texts → ⊥
not_get texts options is one = run (length (word_in (subcommand_of program texts))) (ap (λ found. length (word_in found)) is) (ap (λ found. length (word_in found)) one.found)

not_set : (texts : List Text) (options : List Row) → subcommand_of program texts ≡ Some (codes "set", options) → NamesOneFile texts → ⊥
not_set texts options is one = run (length (word_in (subcommand_of program texts))) (ap (λ found. length (word_in found)) is) (ap (λ found. length (word_in found)) one.found)

pub two_files : (texts : List Text) (asked : Words) → AsksFor (subcommand_of program texts) asked → (HasOnePath asked → ⊥) → NamesOneFile texts → ⊥
two_files texts (words.Run image schema is_strict) (inl none) two one = (none.others one.options).0 one.found
two_files texts (words.Run image schema is_strict) (inr (options, found, asks)) two one = not_run texts options found one
two_files texts (words.Format image schema lanes capacity kind is_forced) (options, found, asks) two one =
    let same : options ≡ one.options = ap rows_in (sym found ∙ one.found) in
    two (asks.image_is ∙ ap image_of same ∙ one.same ∙ ap schema_of (sym same) ∙ sym asks.schema_is)
two_files texts (words.Show image last schema) (options, found, asks) two one = not_show texts options found one
two_files texts (words.Draw image last schema) (options, found, asks) two one = not_show texts options found one
two_files texts (words.Dump image schema part) (options, found, asks) two one = not_dump texts options found one
two_files texts (words.Get image schema) (options, found, asks) two one = not_get texts options found one
two_files texts (words.Set image schema) (options, found, asks) two one = not_set texts options found one
two_files texts (words.Recover image) (options, found, path) two one = not_recover texts options found one
two_files texts (words.Upgrade image) (options, found, path) two one = not_upgrade texts options found one
two_files texts (words.Drive workers rounds seconds image) (options, found, asks) two one = not_drive texts options found one

pub none_says_no_kind : (texts : List Text) → subcommand_of program texts ≡ None → SaysNoKind texts → ⊥
none_says_no_kind texts is says = none (length (word_in (subcommand_of program texts))) (ap (λ found. length (word_in found)) is) (ap (λ found. length (word_in found)) says.found)

pub run_says_no_kind : (texts : List Text) (options : List Row) → subcommand_of program texts ≡ Some (codes "run", options) → SaysNoKind texts → ⊥
run_says_no_kind texts options is says = run (length (word_in (subcommand_of program texts))) (ap (λ found. length (word_in found)) is) (ap (λ found. length (word_in found)) says.found)

-- no word is met, or another than `drive`

no_word : (n : ℕ) → n ≡ 0 → n ≡ 5 → ⊥
no_word n is lengths = omega (arith, is, lengths)

other_word : (n : ℕ) → n ≡ 3 → n ≡ 5 → ⊥
other_word n is lengths = omega (arith, is, lengths)

pub none_says_both : (texts : List Text) → subcommand_of program texts ≡ None → SaysBothLengths texts → ⊥
none_says_both texts is both = no_word (length (word_in (subcommand_of program texts))) (ap (λ found. length (word_in found)) is) (ap (λ found. length (word_in found)) both.found)

pub run_says_both : (texts : List Text) (options : List Row) → subcommand_of program texts ≡ Some (codes "run", options) → SaysBothLengths texts → ⊥
run_says_both texts options is both = other_word (length (word_in (subcommand_of program texts))) (ap (λ found. length (word_in found)) is) (ap (λ found. length (word_in found)) both.found)

-- an option that does nothing

pub idle_options : (texts : List Text) (asked : Words) → AsksFor (subcommand_of program texts) asked → HasIdleOptions asked → SaysIdleOptions texts
idle_options texts (words.Run None None is_strict) asks idle = elim idle [ ]
idle_options texts (words.Run None (Some schema) is_strict) (inl none) idle =
    let no : Some schema.now ≡ None = none.by_number in
    absurd cc
idle_options texts (words.Run None (Some schema) is_strict) (inr (options, found, asks)) idle =
    inl (record {
      options = options;
      found = found;
      no_image = sym asks.image_is;
      schema = λ is. let no : Some schema.now ≡ None = asks.schema_is ∙ is in absurd cc;
    })
idle_options texts (words.Run (Some image) schema is_strict) asks idle = elim idle [ ]
idle_options texts (words.Format image schema lanes capacity kind is_forced) asks idle = elim idle [ ]
idle_options texts (words.Show image (Some last) schema) (options, found, asks) idle =
    inr (record { options = options; found = found; plain = asks.plain; idle = inl (was_met 32 last _ asks.last_is) })
idle_options texts (words.Show image None (Some schema)) (options, found, asks) idle =
    inr (record {
      options = options;
      found = found;
      plain = asks.plain;
      idle = inr (λ is. let no : Some schema.now ≡ None = asks.schema_is ∙ is in absurd cc);
    })
idle_options texts (words.Show image None None) asks idle = elim idle [ ]
idle_options texts (words.Draw image last schema) asks idle = elim idle [ ]
idle_options texts (words.Dump image schema part) asks idle = elim idle [ ]
idle_options texts (words.Get image schema) asks idle = elim idle [ ]
idle_options texts (words.Set image schema) asks idle = elim idle [ ]
idle_options texts (words.Recover image) asks idle = elim idle [ ]
idle_options texts (words.Upgrade image) asks idle = elim idle [ ]
idle_options texts (words.Drive workers rounds seconds image) asks idle = elim idle [ ]

none_run : (n : ℕ) → n ≡ 0 → n ≡ 3 → ⊥
none_run n is lengths = omega (arith, is, lengths)

none_show : (n : ℕ) → n ≡ 0 → n ≡ 4 → ⊥
none_show n is lengths = omega (arith, is, lengths)

run_show : (n : ℕ) → n ≡ 3 → n ≡ 4 → ⊥
run_show n is lengths = omega (arith, is, lengths)

pub none_says_idle : (texts : List Text) → subcommand_of program texts ≡ None → SaysIdleOptions texts → ⊥
none_says_idle texts is (inl names) = none_run (length (word_in (subcommand_of program texts))) (ap (λ found. length (word_in found)) is) (ap (λ found. length (word_in found)) names.found)
none_says_idle texts is (inr draws) = none_show (length (word_in (subcommand_of program texts))) (ap (λ found. length (word_in found)) is) (ap (λ found. length (word_in found)) draws.found)

-- `run` alone has no option: the flag reads as `false`
abbrev pub run_rows : List Row
run_rows = record {
  id = codes "strict";
  values = codes "false" ∷ [];
  count = None;
  source = Some DefaultValue;
  reading = AsWritten;
} ∷ []

no_schema : first_of (codes "schema") run_rows ≡ None
unfolding clap_on_literals
no_schema = refl

pub run_says_idle : (texts : List Text) → subcommand_of program texts ≡ Some (codes "run", run_rows) → SaysIdleOptions texts → ⊥
run_says_idle texts is (inl names) =
    let same : run_rows ≡ names.options = ap rows_in (sym is ∙ names.found) in
    names.schema (ap (first_of (codes "schema")) (sym same) ∙ no_schema)
run_says_idle texts is (inr draws) = run_show (length (word_in (subcommand_of program texts))) (ap (λ found. length (word_in found)) is) (ap (λ found. length (word_in found)) draws.found)

-- values that aren't clear

pub unclear_part : (texts : List Text) (asked : Words) → AsksFor (subcommand_of program texts) asked → HasUnclearPart asked → SaysNoPart texts
unclear_part texts (words.Run image schema is_strict) asks unclear = elim unclear [ ]
unclear_part texts (words.Format image schema lanes capacity kind is_forced) asks unclear = elim unclear [ ]
unclear_part texts (words.Show image last schema) asks unclear = elim unclear [ ]
unclear_part texts (words.Draw image last schema) asks unclear = elim unclear [ ]
unclear_part texts (words.Dump image schema parts.Heap) asks unclear = elim unclear [ ]
unclear_part texts (words.Dump image schema parts.Cells) asks unclear = elim unclear [ ]
unclear_part texts (words.Dump image schema parts.SlotA) asks unclear = elim unclear [ ]
unclear_part texts (words.Dump image schema parts.SlotB) asks unclear = elim unclear [ ]
unclear_part texts (words.Dump image schema parts.Unclear) (options, found, asks) unclear =
    record { options = options; found = found; unclear = asks.part_is }
unclear_part texts (words.Get image schema) asks unclear = elim unclear [ ]
unclear_part texts (words.Set image schema) asks unclear = elim unclear [ ]
unclear_part texts (words.Recover image) asks unclear = elim unclear [ ]
unclear_part texts (words.Upgrade image) asks unclear = elim unclear [ ]
unclear_part texts (words.Drive workers rounds seconds image) asks unclear = elim unclear [ ]

pub none_says_no_part : (texts : List Text) → subcommand_of program texts ≡ None → SaysNoPart texts → ⊥
none_says_no_part texts is says = none_show (length (word_in (subcommand_of program texts))) (ap (λ found. length (word_in found)) is) (ap (λ found. length (word_in found)) says.found)

pub run_says_no_part : (texts : List Text) (options : List Row) → subcommand_of program texts ≡ Some (codes "run", options) → SaysNoPart texts → ⊥
run_says_no_part texts options is says = run_show (length (word_in (subcommand_of program texts))) (ap (λ found. length (word_in found)) is) (ap (λ found. length (word_in found)) says.found)
