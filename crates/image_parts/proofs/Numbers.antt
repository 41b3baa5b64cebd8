-- Numbers in bytes, one behind the other.
use Rattle.std.proofs.Common.{◌≡◌, ℕ, ◌+◌, ◌<◌, ◌≤◌, List, [], ◌++◌, length, get_or, take, drop, sym, ap, ◌∙◌, inl, inr, arith, length-take}
use Rattle.std.specs.List.{flat_map}
use Rattle.std.specs.Int.{w32, w64, from_be_bytes, to_be_bytes}
use Rattle.std.proofs.lemmas.Bool.{cases_lt}
use Rattle.std.proofs.lemmas.List.{take_more, flat_map_more, take-append-drop, drop-drop, get_or-take, get_or-drop, get_or_past}
use Rattle.std.proofs.lemmas.Nat.{be_bytes_4, be_bytes_8}
use Rattle.block_disk.specs.Bytes.{part}
use Rattle.block_disk.proofs.Bytes.{length_part}

pub flat_map_next : {X A : Type 0} (f : X → List A) (xs : List X) (i : ℕ) (d : X) → i < length xs → flat_map f (take (i + 1) xs) ≡ flat_map f (take i xs) ++ f (get_or xs i d)
flat_map_next f xs i d below = ap (flat_map f) (take_more xs i d below) ∙ sym (flat_map_more f [] (take i xs) (get_or xs i d))

-- numbers that are bytes
abbrev pub AreBytes : List ℕ → Type 0
AreBytes bs = (i : ℕ) → get_or bs i 0 < 256

pub bytes-part : (at n : ℕ) (bs : List ℕ) → AreBytes bs → AreBytes (part at n bs)
bytes-part at n bs small i = elim (cases_lt i n) [
  | inl within ↦ rw (get_or-take n (drop at bs) i 0 within, get_or-drop at bs i 0) (small (at + i))
  | inr past ↦ rw (get_or_past (part at n bs) i 0 (omega (arith, length-take n (drop at bs)))) (omega arith)
]

-- what is left from a place on, cut behind its first n bytes
pub cut : (at n : ℕ) (bs : List ℕ) → drop at bs ≡ part at n bs ++ drop (at + n) bs
cut at n bs = sym (take-append-drop n (drop at bs)) ∙ ap (λ (l : List ℕ). part at n bs ++ l) (drop-drop n at bs)

module _ (bs : List ℕ) (small : AreBytes bs) (at n : ℕ) where
  pub is_32 : at + 4 ≤ length bs → n ≡ from_be_bytes w32 (part at 4 bs) → to_be_bytes w32 n ≡ part at 4 bs
  is_32 fits is = be_bytes_4 (part at 4 bs) n (length_part at 4 bs fits) (bytes-part at 4 bs small) is

  pub is_64 : at + 8 ≤ length bs → n ≡ from_be_bytes w64 (part at 8 bs) → to_be_bytes w64 n ≡ part at 8 bs
  is_64 fits is = be_bytes_8 (part at 8 bs) n (length_part at 8 bs fits) (bytes-part at 8 bs small) is
