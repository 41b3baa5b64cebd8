-- A list that is taken one by one from the front.
use Rattle.std.proofs.Common.{◌≡◌, ℕ, zero, suc, length-drop, ◌+◌, ◌-◌, ◌<◌, ◌≤◌, true, false, List, [], ◌∷◌, ◌++◌, ◌==◌, Some, length, take, drop, refl, sym, ap, ◌∙◌, append-nil, take-append-drop, arith}
use Rattle.std.proofs.Math.Seq.{take-add}
use Rattle.std.proofs.lemmas.Bool.{eqb-true}
use Rattle.std.proofs.lemmas.List.{drop-drop}
use Rattle.std.specs.Prelude.{slice_get}

-- one more
pub drop_one : (lines : List (List ℕ)) (n : ℕ) (line : List ℕ) (others : List (List ℕ)) → drop n lines ≡ line ∷ others → drop (n + 1) lines ≡ others
drop_one lines n line others e = sym (drop-drop 1 n lines) ∙ ap (drop 1) e

pub take_one : (lines : List (List ℕ)) (n : ℕ) (line : List ℕ) (others : List (List ℕ)) → drop n lines ≡ line ∷ others → take (n + 1) lines ≡ take n lines ++ line ∷ []
take_one lines n line others e = take-add n 1 lines ∙ ap (λ l. take n lines ++ take 1 l) e

pub one_fewer : (lines : List (List ℕ)) (n : ℕ) (line : List ℕ) (others : List (List ℕ)) → drop n lines ≡ line ∷ others → n + 1 ≤ length lines
one_fewer lines n line others e =
    let len : length (drop n lines) ≡ length lines - n = length-drop n lines in
    let some : length (drop n lines) ≡ length others + 1 = ap length e ∙ omega arith in
    omega arith

pub found_at : (lines : List (List ℕ)) (n : ℕ) (line : List ℕ) (others : List (List ℕ)) → drop n lines ≡ line ∷ others → slice_get lines n ≡ Some line
found_at [] zero line others e = absurd cc
found_at [] (suc n) line others e = absurd cc
found_at (l ∷ ls) zero line others e = let same : l ≡ line = cc in ap Some same
found_at (l ∷ ls) (suc n) line others e = found_at ls n line others e

-- none is left
pub no_rest : (rest : List ℕ) → (length rest == 0) ≡ true → rest ≡ []
no_rest [] e = refl
no_rest (b ∷ bs) e = absurd (omega (arith, eqb-true (length (b ∷ bs)) 0 e))

pub some_left : (rest : List ℕ) → (length rest == 0) ≡ false → 0 < length rest
some_left [] e = absurd cc
some_left (b ∷ bs) e = omega arith

pub all_taken : {X : Type 0} (lines : List X) (n : ℕ) → drop n lines ≡ [] → take n lines ≡ lines
all_taken lines n e = sym (append-nil (take n lines)) ∙ ap (λ l. take n lines ++ l) (sym e) ∙ take-append-drop n lines

pub played_count : (lines : List (List ℕ)) (n : ℕ) → drop n lines ≡ [] → n ≤ length lines → n ≡ length lines
played_count lines n e short = let len : length (drop n lines) ≡ length lines - n = length-drop n lines in
    let none : length (drop n lines) ≡ 0 = ap length e in omega arith
