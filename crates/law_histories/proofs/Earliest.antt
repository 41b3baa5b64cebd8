-- The earliest of a list's elements that another list doesn't have yet.
use Rattle.std.proofs.Common.{ℕ, ◌≡◌, ◌≤◌, ◌⊎◌, ◌==◌, if◌then◌else◌, Bool, true, false, List, [], ◌∷◌, ◌++◌, length, refl, sym, ap, ◌∙◌, inl, inr, arith, length-append}
use Rattle.std.proofs.lemmas.Bool.{cases_lt}
use Rattle.std.proofs.lemmas.Bool.Decides.{eqb_tells}
use Rattle.std.proofs.lemmas.List.{append_assoc}
use Rattle.heap_model.specs.Log.{lane, IsLaneWisePrefix}
use Rattle.heap_model.specs.Earliest.{Earliest}
use Rattle.law_cuts.proofs.Lanes.{lane_append}

module _ {A : Type 0} where
  lane_own : (l m : ℕ) (x : A) (older : List (ℕ × A)) → (m == l) ≡ true → lane l ((m, x) ∷ older) ≡ x ∷ lane l older
  lane_own l m x older same = ap (λ (b : Bool). if b then x ∷ lane l older else lane l older) same

  lane_other : (l m : ℕ) (x : A) (older : List (ℕ × A)) → (m == l) ≡ false → lane l ((m, x) ∷ older) ≡ lane l older
  lane_other l m x older apart = ap (λ (b : Bool). if b then x ∷ lane l older else lane l older) apart

  -- the shorter of two ends of one list is an end of the longer one
  an_end : (more ys more' zs : List A) → more ++ ys ≡ more' ++ zs → length ys ≤ length zs → (k : List A) × (zs ≡ k ++ ys)
  an_end more ys [] zs is le = (more, sym is)
  an_end [] ys (y ∷ more') zs is le = absurd (omega (arith, ap (λ (xs : List A). length xs) is, length-append more' zs))
  an_end (x ∷ more) ys (y ∷ more') zs is le = let rest : more ++ ys ≡ more' ++ zs = cc in an_end more ys more' zs rest le

  none_more : (k ys zs : List A) → zs ≡ k ++ ys → length zs ≤ length ys → zs ≡ ys
  none_more [] ys zs is le = is
  none_more (x ∷ k) ys zs is le = absurd (omega (arith, ap (λ (xs : List A). length xs) is, length-append k ys))

  -- the same, by how long the lanes are
  record First (all done : List (ℕ × A)) : Type 0 where
    newer : List (ℕ × A)
    of : ℕ
    next : A
    older : List (ℕ × A)
    stands : all ≡ newer ++ (of, next) ∷ older
    before : (l : ℕ) → length (lane l older) ≤ length (lane l done)
    own : length (lane of done) ≡ length (lane of older)

  first : (all done : List (ℕ × A)) → ((l : ℕ) → length (lane l all) ≤ length (lane l done)) ⊎ First all done
  first [] done = inl (λ l. omega arith)
  first ((m, x) ∷ older) done = elim (first older done) [
    | inr e ↦ inr (record { newer = (m, x) ∷ e.newer; of = e.of; next = e.next; older = e.older; stands = ap (λ (xs : List (ℕ × A)). (m, x) ∷ xs) e.stands; before = e.before; own = e.own })
    | inl all ↦ elim (cases_lt (length (lane m older)) (length (lane m done))) [
      | inl lt ↦ inl (λ l. elim (eqb_tells m l) [
        | inl e ↦ omega (arith, ap (λ (xs : List A). length xs) (lane_own l m x older e.0), ap (λ (k : ℕ). length (lane k older)) e.1, ap (λ (k : ℕ). length (lane k done)) e.1, lt)
        | inr e ↦ omega (arith, ap (λ (xs : List A). length xs) (lane_other l m x older e.0), all l)
      ])
      | inr le ↦ inr (record { newer = []; of = m; next = x; older = older; stands = refl; before = all; own = omega (arith, le, all m) })
    ]
  ]

  pub earliest : (all done : List (ℕ × A)) → IsLaneWisePrefix done all → ((l : ℕ) → lane l done ≡ lane l all) ⊎ Earliest all done
  earliest all done prefix = elim (first all done) [
    | inl long ↦ inl (λ l. sym (none_more (prefix l).0 (lane l done) (lane l all) (prefix l).1 (long l)))
    | inr e ↦
        let ends : (l : ℕ) → (k : List A) × (lane l done ≡ k ++ lane l e.older) = λ l.
        let whole : lane l all ≡ (lane l e.newer ++ lane l ((e.of, e.next) ∷ [])) ++ lane l e.older =
        ap (lane l) e.stands ∙ lane_append l e.newer ((e.of, e.next) ∷ e.older) ∙ ap (λ (xs : List A). lane l e.newer ++ xs) (lane_append l ((e.of, e.next) ∷ []) e.older) ∙ sym (append_assoc (lane l e.newer) (lane l ((e.of, e.next) ∷ [])) (lane l e.older)) in
        an_end (lane l e.newer ++ lane l ((e.of, e.next) ∷ [])) (lane l e.older) (prefix l).0 (lane l done) (sym whole ∙ (prefix l).1) (e.before l) in
        inr (record {
          newer = e.newer;
          of = e.of;
          next = e.next;
          older = e.older;
          stands = e.stands;
          before = ends;
          own = none_more (ends e.of).0 (lane e.of e.older) (lane e.of done) (ends e.of).1 (omega (arith, e.own));
        })
  ]
