-- What was read of a text, and how it ended (docs/SCRIPTS.md, "Text").
use Rattle.std.specs.Prelude.{◌≡◌, ℕ, ◌<◌, ◌≤◌, Option, List, ◌++◌, length, take}
use Rattle.std.specs.Io.KnownBytes.{Consumes, IsAtEnd}
use Rattle.script_lines.specs.declared.reader.Ending.{Ending}
use Rattle.script_lines.specs.declared.reader.Ending.TheVariants as endings
use Rattle.script_lines.specs.declared.reader.TheConstants.{LONGEST_TEXT}
use Rattle.script_lines.specs.Lines.{lines_of, EndedLines}

-- it was read to its end
abbrev pub IsWhole : Ending → Type 0
IsWhole ending = ending ≡ endings.Whole

-- the bytes that the reader gave were taken, and reading ended so
abbrev pub Took : Option (List ℕ) → Option (List ℕ) → List ℕ → Ending → Type 0
Took old new text endings.Whole = Consumes old new text × IsAtEnd new × (length text ≤ LONGEST_TEXT)
Took old new text endings.TooLong = Consumes old new text × (LONGEST_TEXT < length text)
Took old new text endings.Fault = Consumes old new text × (length text ≤ LONGEST_TEXT)
Took old new text endings.NoMemory = (lost : List ℕ) × Consumes old new (text ++ lost) × (length text ≤ LONGEST_TEXT)

-- those lines of a text that are ended
abbrev pub AreEnded : List ℕ → List ℕ → Type 0
AreEnded text lines = (count : ℕ) × EndedLines text count × (lines ≡ take count text)

-- the lines to be played: all, or those that are ended
abbrev pub AreToPlay : List ℕ → List ℕ → Ending → Type 0
AreToPlay text lines endings.Whole = lines ≡ text
AreToPlay text lines endings.TooLong = AreEnded (take LONGEST_TEXT text) lines
AreToPlay text lines endings.Fault = AreEnded text lines
AreToPlay text lines endings.NoMemory = AreEnded text lines

abbrev pub Reads : Option (List ℕ) → Option (List ℕ) → List ℕ → Ending → Type 0
Reads old new lines ending = (text : List ℕ) × Took old new text ending × AreToPlay text lines ending

-- it holds of the lines that were read, and of how the text ended
abbrev pub OfScript : Option (List ℕ) → Option (List ℕ) → (List (List ℕ) → Ending → Type 0) → Type 0
OfScript old new P = (lines : List ℕ) × (ending : Ending) × Reads old new lines ending × P (lines_of lines) ending
