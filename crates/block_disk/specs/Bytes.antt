-- Bytes at a place of an image; places count bytes from 0.
use Rattle.std.specs.Prelude.{ℕ, ◌+◌, List, ◌++◌, length, take, drop}

-- the n bytes from this place on
abbrev pub part : ℕ → ℕ → List ℕ → List ℕ
part at n image = take n (drop at image)

-- the image with these bytes at this place
abbrev pub spliced : List ℕ → ℕ → List ℕ → List ℕ
spliced image at bytes = take at image ++ bytes ++ drop (at + length bytes) image
