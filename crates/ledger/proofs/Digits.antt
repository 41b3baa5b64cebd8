-- A number, a slash and what follows it.
use Rattle.std.proofs.Common.{ℕ, ◌≡◌, ◌<◌, ◌==◌, ◌^◌, ◌+◌, cond, not, List, [], ◌∷◌, ◌++◌, length, suc, take, drop, decimal, Bool, false, refl, sym, ap, ◌∙◌, subst, arith}
use Rattle.std.specs.List.{position_or_len, prefix_len, before_first, after_first}
use Rattle.std.specs.Str.Parse.{AllDigits}
use Rattle.std.proofs.lemmas.Bool.{ne_eqb}
use Rattle.std.proofs.lemmas.Fmt.{decimal_is_IsNumeral}
use Rattle.std.proofs.lemmas.List.{length-append}
use Rattle.std.proofs.Math.Seq.{take-append_seam}
use Rattle.std.specs.Char.{digit_value}

abbrev is_slash : ℕ → Bool
is_slash b = b == 47

-- a digit is no slash
no_slash : (b : ℕ) → digit_value b < 10 → is_slash b ≡ false
no_slash b low = ne_eqb b 47 (λ same. let slash : digit_value 47 < 10 = subst (λ (c : ℕ). digit_value c < 10) same low in absurd (omega (arith, slash)))

-- the first slash is the one after the digits
slash_at : (digits rest : List ℕ) → AllDigits 10 digits → position_or_len is_slash (digits ++ 47 ∷ rest) ≡ length digits
slash_at [] rest all = refl
slash_at (b ∷ bs) rest all =
    let later = slash_at bs rest all.1 in
    subst (λ (t : Bool). cond (not t) (1 + prefix_len (λ c. not (is_slash c)) (bs ++ 47 ∷ rest)) 0 ≡ length (b ∷ bs)) (sym (no_slash b all.0)) (omega (arith, later))

behind : (digits rest : List ℕ) → drop (length digits + 1) (digits ++ 47 ∷ rest) ≡ rest
behind [] rest = refl
behind (b ∷ bs) rest = let more : length (b ∷ bs) + 1 ≡ suc (length bs + 1) = omega arith in ap (λ (k : ℕ). drop k (b ∷ (bs ++ 47 ∷ rest))) more ∙ behind bs rest

-- what `split_once` says of it
pub record IsSplit (n : ℕ) (rest words : List ℕ) : Type 0 where
  pub at : position_or_len (λ b. b == 47) words ≡ length (decimal n)
  pub longer : length (decimal n) < length words
  pub before : before_first (λ b. b == 47) words ≡ decimal n
  pub after : after_first (λ b. b == 47) words ≡ rest

is_split : (n : ℕ) (rest : List ℕ) → n < 2 ^ 64 → IsSplit n rest (decimal n ++ 47 ∷ rest)
is_split n rest low =
    let at = slash_at (decimal n) rest (decimal_is_IsNumeral n low).0.1 in
    let both = length-append (decimal n) (47 ∷ rest) in
    record {
      at = at;
      longer = omega (arith, both);
      before = ap (λ (k : ℕ). take k (decimal n ++ 47 ∷ rest)) at ∙ take-append_seam (decimal n) (47 ∷ rest);
      after = ap (λ (k : ℕ). drop (k + 1) (decimal n ++ 47 ∷ rest)) at ∙ behind (decimal n) rest;
    }

pub splits : (n : ℕ) (rest words : List ℕ) → n < 2 ^ 64 → words ≡ decimal n ++ 47 ∷ rest → IsSplit n rest words
splits n rest words low same = subst (IsSplit n rest) (sym same) (is_split n rest low)
