-- The lanes' new records are all that there are.
use Rattle.std.proofs.Common.{◌≡◌, ◌≢◌, inl, inr, ℕ, zero, suc, ◌+◌, ◌<◌, ◌≤◌, if◌then◌else◌, List, [], ◌∷◌, length, refl, sym, ◌∙◌, ap, arith}
use Rattle.std.proofs.lemmas.Bool.{cases_lt, ne_eqb}
use Rattle.heap_model.specs.declared.record.Record.{Record}
use Rattle.heap_model.specs.Log.{lane}
use Rattle.law_cuts.proofs.Stores.{lane_same}
use Rattle.store_image.specs.NewRecords.{sum_below}

pub same_sum : (f g : ℕ → ℕ) (n : ℕ) → ((k : ℕ) → k < n → f k ≡ g k) → sum_below f n ≡ sum_below g n
same_sum f g zero same = refl
same_sum f g (suc n) same = omega (arith, same_sum f g n (λ k less. same k (omega arith)), same n (omega arith))

-- one more in one lane
sum_more : (f g : ℕ → ℕ) (m n : ℕ) → m < n → f m ≡ g m + 1 → ((k : ℕ) → k ≢ m → f k ≡ g k) → sum_below f n ≡ sum_below g n + 1
sum_more f g m zero less one same = absurd (omega arith)
sum_more f g m (suc n) less one same = elim (cases_lt m n) [
  | inl lt ↦ omega (arith, sum_more f g m n lt one same, same n (λ is. omega (arith, is, lt)))
  | inr from ↦
      let is : m ≡ n = omega arith in
      omega (arith, same_sum f g n (λ k lt. same k (λ e. omega (arith, e, from, lt))), one, ap f is, ap g is)
]

-- the sum over the lanes that have records
pub lanes_sum : (xs : List (ℕ × Record)) (n : ℕ) → ((k : ℕ) → n ≤ k → length (lane k xs) ≡ 0) → sum_below (λ k. length (lane k xs)) n ≡ length xs
lanes_sum [] n none = zeros n
  where
    zeros : (n : ℕ) → sum_below (λ k. 0) n ≡ 0
    zeros zero = refl
    zeros (suc n) = omega (arith, zeros n)
lanes_sum ((m, r) ∷ xs) n none =
    let here : length (lane m ((m, r) ∷ xs)) ≡ length (lane m xs) + 1 = ap (λ (ys : List Record). length ys) (lane_same m m r xs refl) ∙ omega arith in
    let others : (k : ℕ) → k ≢ m → length (lane k ((m, r) ∷ xs)) ≡ length (lane k xs) = λ k ne.
    ap (λ b. length (if b then r ∷ lane k xs else lane k xs)) (ne_eqb m k (λ is. ne (sym is))) in
    elim (cases_lt m n) [
      | inl less ↦ omega (
        arith,
        sum_more (λ k. length (lane k ((m, r) ∷ xs))) (λ k. length (lane k xs)) m n less here others,
        lanes_sum xs n (λ k from. sym (others k (λ is. omega (arith, is, from, less))) ∙ none k from),
      )
      | inr from ↦ absurd (omega (arith, here, none m from))
    ]
