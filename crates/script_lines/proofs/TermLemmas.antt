-- What the words of a line are read as.
use Rattle.std.proofs.Common.{◌≡◌, ℕ, ◌<◌, ◌^◌, Bool, true, List, ◌&&◌, Option, None, Some, Result, Ok, Err, length, ltb, refl, sym, ap, ◌∙◌, rules, inl, inr, if◌then◌else◌}
use Rattle.std.proofs.lemmas.Bool.{cases_Bool, and_parts, lt-ltb, ltb-true}
use Rattle.std.proofs.lemmas.Str.Parse.{IsNumeralModel, numerals_by_value, parse_digits}
use Rattle.std.specs.Char.{is_ascii_digit}
use Rattle.std.specs.List.{list_all}
use Rattle.std.specs.Result.{IsOk, MatchResult, result_ok}
use Rattle.std.specs.Str.Parse.{digits_value, ParsesUnsigned}
use Rattle.script_lines.specs.Reading.{number_in}

pub ok_unless : {A E : Type 0} (P : A → Type 0) (Q : E → Type 0) (r : Result A E) → MatchResult r P Q → ((e : E) → Q e → ⊥) → IsOk r
ok_unless P Q (Ok x) h never = refl
ok_unless P Q (Err e) h never = absurd (never e h)

both : {x y : Bool} → x ≡ true → y ≡ true → (x && y) ≡ true
both e f = cc

-- the digits that `parse` reads
digits : IsNumeralModel (λ ds. list_all is_ascii_digit ds ≡ true) (digits_value 10)
digits = numerals_by_value _ (search rules)

few_digits : List ℕ → Bool
few_digits bs = list_all is_ascii_digit bs && ltb 0 (length bs) && ltb (digits_value 10 bs) (2 ^ 64)

read_if : Bool → ℕ → Option ℕ
read_if b n = if b then Some n else None

pub number-parsed : {E : Type 0} (bs : List ℕ) (r : Result ℕ E) → ParsesUnsigned 64 10 bs r → list_all is_ascii_digit bs ≡ true → result_ok r ≡ number_in bs
unfolding few_digits read_if
number-parsed {E = E} bs (Ok n) h e =
    let got : ((0 < length bs) × (digits_value 10 bs < 2 ^ 64)) × (n ≡ digits_value 10 bs) = parse_digits digits {E = E} 64 bs (Ok n) h e in
    let some : 0 < length bs = got.0.0 in
    let fits : digits_value 10 bs < 2 ^ 64 = got.0.1 in
    let all : few_digits bs ≡ true = both (both e (lt-ltb _ _ some)) (lt-ltb _ _ fits) in
    ap Some got.1 ∙ sym (ap (λ b. read_if b (digits_value 10 bs)) all)
number-parsed {E = E} bs (Err x) h e =
    let got : (0 < length bs) × (digits_value 10 bs < 2 ^ 64) → ⊥ = parse_digits digits {E = E} 64 bs (Err x) h e in
    elim (cases_Bool (few_digits bs)) [
      | inl t ↦ absurd (got (ltb-true _ _ (and_parts _ _ (and_parts _ _ t).0).1, ltb-true _ _ (and_parts _ _ t).1))
      | inr f ↦ sym (ap (λ b. read_if b (digits_value 10 bs)) f)
    ]
