-- The lines of a text, and what is wrong with one (docs/SCRIPTS.md, "Text" and "Errors").
use Rattle.std.specs.Prelude.{◌≡◌, ◌≢◌, ◌⊎◌, ℕ, ◌-◌, ◌<◌, ◌≤◌, Bool, false, ◌&&◌, ◌==◌, List, [], ◌∷◌, length, slice_index, if◌then◌else◌}
use Rattle.std.specs.List.{onto_first}
use Rattle.std.specs.Str.{IsAscii}
use Rattle.script_lines.specs.declared.error.ScriptErrorKind.{ScriptErrorKind}
use Rattle.script_lines.specs.declared.error.ScriptErrorKind.TheVariants as kinds
use Rattle.script_lines.specs.declared.line.TheConstants.{LONGEST_LINE, COMMENT}
use Rattle.script_lines.specs.declared.lines.TheConstants.{LINE_FEED, CARRIAGE_RETURN}
use Rattle.script_lines.specs.Grammar.{Asks}
use Rattle.script_lines.specs.Orders.{Order}

abbrev pub begins_with_line_feed : List ℕ → Bool
begins_with_line_feed [] = false
begins_with_line_feed (byte ∷ bytes) = byte == LINE_FEED

-- the lines: a line feed ends one, and so does a carriage return right before it; the last end may be missing
abbrev pub lines_of : List ℕ → List (List ℕ)
lines_of [] = []
lines_of (byte ∷ bytes) =
    if byte == LINE_FEED then [] ∷ lines_of bytes
    else (if byte == CARRIAGE_RETURN && begins_with_line_feed bytes then lines_of bytes
    else onto_first byte (lines_of bytes))

-- the first bytes of a text, so many, are those of its lines that are ended
pub record EndedLines (text : List ℕ) (count : ℕ) : Type 0 where
  pub within : count ≤ length text
  pub ended : 0 < count → slice_index text (count - 1) ≡ LINE_FEED
  pub others : (at : ℕ) → count ≤ at → at < length text → slice_index text at ≢ LINE_FEED

-- a line of at most 200 bytes, all ASCII
abbrev pub IsText : List ℕ → Type 0
IsText line = (length line ≤ LONGEST_LINE) × IsAscii line

-- an empty line, or one that begins with `#`
abbrev pub IsSkipped : List ℕ → Type 0
IsSkipped line = (length line ≡ 0) ⊎ (slice_index line 0 ≡ COMMENT)

-- a line asks for nothing but this
abbrev pub AsksOnly : Order → List ℕ → Type 0
AsksOnly order line = (other : Order) → Asks other line → other ≡ order

-- a line with nothing wrong
abbrev pub IsFit : List ℕ → Type 0
IsFit line = IsText line × (IsSkipped line ⊎ ((order : Order) × Asks order line))

-- what is wrong with a line
abbrev pub HasFault : List ℕ → ScriptErrorKind → Type 0
HasFault line kinds.TooLong = LONGEST_LINE < length line
HasFault line kinds.NotText = (length line ≤ LONGEST_LINE) × (IsAscii line → ⊥)
HasFault line kinds.Syntax = IsText line × (IsSkipped line → ⊥) × ((order : Order) → Asks order line → ⊥)
HasFault line kinds.Read = ⊥
HasFault line kinds.Write = ⊥
HasFault line kinds.Memory = ⊥
