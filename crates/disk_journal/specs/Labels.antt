-- The label, with which a journaled device begins (docs/FORMAT.md, "A journal in two halves").
use Rattle.std.specs.Prelude.{◌≡◌, ◌≢◌, ℕ, ◌^◌, ◌<◌, List, take, replicate, [], ◌∷◌, ◌++◌}
use Rattle.std.specs.Int.{to_be_bytes, w64}
use Rattle.journal_batches.specs.declared.areas.Areas.{Areas}

-- `MONIHALF` in ASCII, and how many pages a half and the image have
abbrev pub label_bytes : Areas → List ℕ
label_bytes a = (77 ∷ 79 ∷ 78 ∷ 73 ∷ 72 ∷ 65 ∷ 76 ∷ 70 ∷ []) ++ to_be_bytes w64 a.half ++ to_be_bytes w64 a.image

-- the bytes begin with this label
abbrev pub HasLabel : Areas → List ℕ → Type 0
HasLabel a bytes = take 24 bytes ≡ label_bytes a

-- with this label, whose numbers have eight bytes
pub record IsLabelled (a : Areas) (bytes : List ℕ) : Type 0 where
  pub half : a.half < 2 ^ 64
  pub image : a.image < 2 ^ 64
  pub label : HasLabel a bytes

-- they begin with no label
abbrev pub HasNoLabel : List ℕ → Type 0
HasNoLabel bytes = (a : Areas) → a.half < 2 ^ 64 → a.image < 2 ^ 64 → take 24 bytes ≢ label_bytes a

-- the first sector, with a label
abbrev pub label_sector : Areas → List ℕ
label_sector a = label_bytes a ++ replicate 488 0
