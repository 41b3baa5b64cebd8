-- Chains of the lanes' steps.
use Rattle.std.proofs.Common.{ℕ, ◌≡◌, ◌≢◌, ◌+◌, ◌<◌, List, [], ◌∷◌, ◌++◌, length, slice_index, slice_set, sym, ap, ◌∙◌, inl, inr, arith, get_or-set_same, get_or-set_other}
use Rattle.std.proofs.lemmas.Bool.{cases_eq, cases_lt}
use Rattle.dependence.specs.Kept.{IsChained}
use Rattle.dependence.proofs.Places.{at_old, at_new, length_snoc}

module _ (lanes newest before : List ℕ) (l : ℕ) (rows : length newest ≡ 32) (low : l < 32) (old : IsChained lanes newest before) where
  abbrev more : List ℕ
  more = lanes ++ l ∷ []

  abbrev tops : List ℕ
  tops = slice_set newest l (length lanes + 1)

  abbrev links : List ℕ
  links = before ++ slice_index newest l ∷ []

  top_same : slice_index tops l ≡ length lanes + 1
  top_same = get_or-set_same newest l (length lanes + 1) 0 (omega arith)

  top_other : (m : ℕ) → m ≢ l → slice_index tops m ≡ slice_index newest m
  top_other m ne = get_or-set_other newest l m (length lanes + 1) 0 ne

  lane_old : (i : ℕ) → i < length lanes → slice_index more i ≡ slice_index lanes i
  lane_old i lt = at_old lanes l 0 i lt

  lane_new : (i : ℕ) → i ≡ length lanes → slice_index more i ≡ l
  lane_new i e = at_new lanes l 0 i e

  link_old : (i : ℕ) → i < length lanes → slice_index links i ≡ slice_index before i
  link_old i lt = at_old before (slice_index newest l) 0 i (omega (arith, old.count))

  link_new : (i : ℕ) → i ≡ length lanes → slice_index links i ≡ slice_index newest l
  link_new i e = at_new before (slice_index newest l) 0 i (e ∙ sym old.count)

  newest_is : (m c : ℕ) → slice_index tops m ≡ c + 1 → (c < length more) × (slice_index more c ≡ m)
  newest_is m c h = elim (cases_eq m l) [
    | inl e ↦
        let top : slice_index tops m ≡ length lanes + 1 = ap (slice_index tops) e ∙ top_same in
        let here : c ≡ length lanes = omega arith in
        (omega (arith, length_snoc lanes l), lane_new c here ∙ sym e)
    | inr ne ↦
        let was : (c < length lanes) × (slice_index lanes c ≡ m) = old.newest_is m c (sym (top_other m ne) ∙ h) in
        let lt : c < length lanes = was.0 in
        (omega (arith, length_snoc lanes l), lane_old c lt ∙ was.1)
  ]

  newest_last : (i : ℕ) → i < length more → i < slice_index tops (slice_index more i)
  newest_last i lt = elim (cases_eq (slice_index more i) l) [
    | inl e ↦ let top : slice_index tops (slice_index more i) ≡ length lanes + 1 = ap (slice_index tops) e ∙ top_same in omega (arith, length_snoc lanes l)
    | inr ne ↦ elim (cases_lt i (length lanes)) [
      | inl early ↦
          let top : slice_index tops (slice_index more i) ≡ slice_index newest (slice_index lanes i) = top_other (slice_index more i) ne ∙ ap (slice_index newest) (lane_old i early) in
          omega (arith, old.newest_last i early)
      | inr late ↦ absurd (ne (lane_new i (omega (arith, length_snoc lanes l))))
    ]
  ]

  before_is : (i c : ℕ) → i < length more → slice_index links i ≡ c + 1 → (c < i) × (slice_index more c ≡ slice_index more i)
  before_is i c lt h = elim (cases_lt i (length lanes)) [
    | inl early ↦
        let was : (c < i) × (slice_index lanes c ≡ slice_index lanes i) = old.before_is i c early (sym (link_old i early) ∙ h) in
        let less : c < i = was.0 in
        (less, lane_old c (omega arith) ∙ was.1 ∙ sym (lane_old i early))
    | inr late ↦
        let here : i ≡ length lanes = omega (arith, length_snoc lanes l) in
        let was : (c < length lanes) × (slice_index lanes c ≡ l) = old.newest_is l c (sym (link_new i here) ∙ h) in
        let less : c < length lanes = was.0 in
        (omega arith, lane_old c less ∙ was.1 ∙ sym (lane_new i here))
  ]

  before_last : (i j : ℕ) → i < length more → j < i → slice_index more j ≡ slice_index more i → j < slice_index links i
  before_last i j lt less same = elim (cases_lt i (length lanes)) [
    | inl early ↦ omega (arith, old.before_last i j early less (sym (lane_old j (omega arith)) ∙ same ∙ lane_old i early), link_old i early)
    | inr late ↦
        let here : i ≡ length lanes = omega (arith, length_snoc lanes l) in
        let early : j < length lanes = omega arith in
        let of_l : slice_index lanes j ≡ l = sym (lane_old j early) ∙ same ∙ lane_new i here in
        let top : slice_index newest (slice_index lanes j) ≡ slice_index newest l = ap (slice_index newest) of_l in
        omega (arith, old.newest_last j early, link_new i here)
  ]

  pub chained_push : IsChained more tops links
  chained_push = record {
    count = omega (arith, length_snoc lanes l, length_snoc before (slice_index newest l), old.count);
    newest_is = newest_is;
    newest_last = newest_last;
    before_is = before_is;
    before_last = before_last;
  }
