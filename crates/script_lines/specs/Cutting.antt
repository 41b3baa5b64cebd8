-- A text cut into lines, and a line into words, from the left, as functions: what the proofs compare with "Lines" and
-- "Words".
use Rattle.std.specs.Prelude.{ℕ, suc, ◌&&◌, drop, List, [], ◌∷◌, ◌==◌, length, Option, None, Some, if◌then◌else◌}
use Prim.Native.Nat.{zero}
use Rattle.std.specs.Option.{option_map}
use Rattle.script_lines.specs.declared.words.Words.{Words}
use Rattle.script_lines.specs.declared.words.Words.TheVariants.{One, Two, Three, Four, Five}
use Rattle.script_lines.specs.declared.lines.TheConstants.{LINE_FEED, CARRIAGE_RETURN}
use Rattle.script_lines.specs.declared.words.TheConstants.{SPACE}
use Rattle.script_lines.specs.Lines.{begins_with_line_feed}

-- the bytes before the first space
abbrev pub word_of : List ℕ → List ℕ
word_of [] = []
word_of (byte ∷ bytes) = if byte == SPACE then [] else byte ∷ word_of bytes

-- the bytes from the first space on
abbrev pub after_word : List ℕ → List ℕ
after_word [] = []
after_word (byte ∷ bytes) = if byte == SPACE then byte ∷ bytes else after_word bytes

-- the bytes after the spaces at the front
abbrev pub after_spaces : List ℕ → List ℕ
after_spaces [] = []
after_spaces (byte ∷ bytes) = if byte == SPACE then after_spaces bytes else byte ∷ bytes

-- the words, where there are so many at most
abbrev pub words_in : ℕ → List ℕ → Option (List (List ℕ))
words_in zero line = None
words_in (suc most) line =
    if length (word_of line) == 0 then None
    else (if length (after_word line) == 0 then Some (word_of line ∷ [])
    else option_map (λ others. word_of line ∷ others) (words_in most (after_spaces (after_word line))))

-- the words, as a list
abbrev pub list_of : Words → List (List ℕ)
list_of (One a) = a.now ∷ []
list_of (Two a b) = a.now ∷ b.now ∷ []
list_of (Three a b c) = a.now ∷ b.now ∷ c.now ∷ []
list_of (Four a b c d) = a.now ∷ b.now ∷ c.now ∷ d.now ∷ []
list_of (Five a b c d e) = a.now ∷ b.now ∷ c.now ∷ d.now ∷ e.now ∷ []

-- how many bytes of a line's end these bytes begin with
abbrev pub end_length : List ℕ → ℕ
end_length [] = 0
end_length (byte ∷ bytes) = if byte == LINE_FEED then 1 else (if byte == CARRIAGE_RETURN && begins_with_line_feed bytes then 2 else 0)

-- the bytes before the first end of a line
abbrev pub first_line : List ℕ → List ℕ
first_line [] = []
first_line (byte ∷ bytes) = if end_length (byte ∷ bytes) == 0 then byte ∷ first_line bytes else []

-- the bytes after the first end of a line
abbrev pub other_lines : List ℕ → List ℕ
other_lines [] = []
other_lines (byte ∷ bytes) = if end_length (byte ∷ bytes) == 0 then other_lines bytes else drop (end_length (byte ∷ bytes)) (byte ∷ bytes)
