-- A step that gets another partner.
use Rattle.std.proofs.Common.{ℕ, zero, suc, ◌≡◌, ◌-◌, ◌<◌, List, [], ◌∷◌, get_or, slice_set, refl, ap, ◌∙◌, arith}
use Rattle.std.proofs.lemmas.List.{map-set}
use Rattle.dependence.specs.declared.neighbours.Neighbours.{Neighbours}
use Rattle.dependence.specs.Links.{before_in, partner_in, with_release}

-- the steps before stay
pub same_before : (beside : List Neighbours) (i p : ℕ) (d : Neighbours) → before_in (slice_set beside i (record { before = (get_or beside i d).before; partner = p })) ≡ before_in beside
same_before [] i p d = refl
same_before (n ∷ beside) zero p d = refl
same_before (n ∷ beside) (suc i) p d = ap (λ (xs : List ℕ). n.before ∷ xs) (same_before beside i p d)

-- the partner is another
pub other_partner : (beside : List Neighbours) (release p : ℕ) (n : Neighbours) → 0 < release → n.partner ≡ p → partner_in (slice_set beside (release - 1) n) ≡ with_release (partner_in beside) release p
other_partner beside zero p n some e = absurd (omega arith)
other_partner beside (suc i) p n some e =
    let place : suc i - 1 ≡ i = omega arith in
    ap (λ (k : ℕ). partner_in (slice_set beside k n)) place ∙ map-set (λ (m : Neighbours). m.partner) beside i n ∙ ap (slice_set (partner_in beside) i) e
