-- The first line of what is salvaged is skipped.
use Rattle.std.proofs.Common.{◌≡◌, ℕ, zero, suc, Bool, true, List, [], ◌∷◌, ◌++◌, length, ltb, leb, refl, sym, subst, inl, inr, arith}
use Rattle.std.specs.Prelude.{slice_index}
use Rattle.std.specs.List.{list_all}
use Rattle.std.specs.Str.{IsAscii}
use Rattle.std.proofs.lemmas.Bool.{and_parts, leb-true, ltb-true}
use Rattle.image_parts.specs.declared.slot.Slot.{Slot}
use Rattle.image_parts.specs.declared.slot.Slot.TheVariants.{A, B}
use Rattle.script_declarations.specs.SchemaFiles.{DeclaresLines}
use Rattle.script_declarations.specs.SchemaText.{ended}
use Rattle.script_lines.specs.Lines.{IsText, lines_of}
use Rattle.script_lines.specs.declared.line.TheConstants.{LONGEST_LINE}
use Rattle.image_salvage.specs.Notes.{IsIdle, NoteLaw, cells_note, slot_note}

abbrev is_low : ℕ → Bool
is_low b = ltb b 128

ascii : (bytes : List ℕ) → list_all is_low bytes ≡ true → IsAscii bytes
ascii [] h i = omega arith
ascii (b ∷ bs) h zero = ltb-true b 128 (and_parts (is_low b) (list_all is_low bs) h).0
ascii (b ∷ bs) h (suc i) = ascii bs (and_parts (is_low b) (list_all is_low bs) h).1 i

-- a line of ASCII that isn't too long and begins as a comment, and stands before the others
record IsFirst (note : List ℕ) : Type 0 where
  low : list_all is_low note ≡ true
  short : leb (length note) LONGEST_LINE ≡ true
  begins : slice_index note 0 ≡ 35
  cut : (text : List ℕ) → lines_of (ended note ++ text) ≡ note ∷ lines_of text

idle : (note : List ℕ) → IsFirst note → IsIdle note
idle note is old new text declares =
    let comment : IsText note = (leb-true (length note) LONGEST_LINE is.short, ascii note is.low) in
    subst (λ (lines : List (List ℕ)). DeclaresLines old lines new) (sym (is.cut text)) (old, inl (comment, inr is.begins, refl), declares)

cells_first : IsFirst cells_note
cells_first = record { low = refl; short = refl; begins = refl; cut = λ text. refl }

slot_first : (slot : Slot) → IsFirst (slot_note slot)
slot_first A = record { low = refl; short = refl; begins = refl; cut = λ text. refl }
slot_first B = record { low = refl; short = refl; begins = refl; cut = λ text. refl }

pub skipped : NoteLaw
skipped = record { cells = idle cells_note cells_first; slots = λ slot. idle (slot_note slot) (slot_first slot) }
