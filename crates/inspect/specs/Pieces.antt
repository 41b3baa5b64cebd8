-- How lines are made of words and numbers.
use Rattle.std.specs.Prelude.{ℕ, ◌+◌, List, [], ◌∷◌, ◌++◌, codes}
use Rattle.std.specs.Fmt.{decimal}
use Rattle.std.specs.List.{flat_map, concat}
use Rattle.heap_model.specs.declared.ids.Lane.{Lane}
use Rattle.inspect.specs.declared.pieces.Piece.{Piece}
use Rattle.inspect.specs.declared.pieces.Piece.TheVariants.{Words, Number}

-- these parts, one after the other, and the line's end
abbrev pub line : List (List ℕ) → List ℕ
line parts = concat parts ++ codes "\n"

-- the numbers, each after a space
abbrev pub numbers_text : List ℕ → List ℕ
numbers_text numbers = flat_map (λ number. concat (codes " " ∷ decimal number ∷ [])) numbers

-- a word and numbers, each after a space
abbrev pub list_line : (word numbers : List ℕ) → List ℕ
list_line word numbers = word ++ numbers_text numbers ++ codes "\n"

-- the number of a lane's thread
abbrev pub thread_of : Lane → ℕ
thread_of lane = lane.0 + 1

-- what a piece spells
abbrev pub piece_text : Piece → List ℕ
piece_text (Words words) = words.now
piece_text (Number number) = decimal number

abbrev pub pieces_text : List Piece → List ℕ
pieces_text pieces = flat_map piece_text pieces

abbrev pub line_text : List Piece → List ℕ
line_text pieces = pieces_text pieces ++ codes "\n"
