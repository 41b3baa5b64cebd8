use Rattle.std.proofs.Common.{◌≡◌, ◌∙◌, sym, inl, inr, codes, true}
use Rattle.std.proofs.lemmas.Slice.Eq.{bytes_eq-Decides}
use Rattle.pool.proofs.NameLemmas.{is_own, not_behind, no_dot, own_cell}
use Rattle.pool.proofs.names.is_cell_name.Goals as goal

pub returns-in_default : goal.returns-in_default
returns-in_default c = (λ t. absurd cc, λ h. absurd (not_behind c.args.name.now c.args.text.now c.args.slots c.in_default.ensures h))

pub returns-in_default-rest_after : goal.returns-in_default-rest_after
returns-in_default-rest_after c = (λ t. absurd cc, λ h. absurd (no_dot c.args.name.now c.args.text.now c.in-Some.rest.now c.args.slots c.in-Some.ensures c.in_default-rest_after.ensures h))

pub returns-then-eq : goal.returns-then-eq
returns-then-eq c =
    let head : c.in-Some-rest_after.cell.now ≡ codes "head" = (bytes_eq-Decides c.in-Some-rest_after.cell.now (codes "head")).0 (sym c.if-eq.ensures) in (
      λ t. is_own c.args.name.now c.args.text.now c.in-Some.rest.now c.in-Some-rest_after.cell.now c.args.slots c.in-Some.ensures c.in-Some-rest_after.ensures (inl head),
      λ h. c.if-eq.true,
    )

pub returns-else-eq : goal.returns-else-eq
returns-else-eq c = (
  λ t. is_own c.args.name.now c.args.text.now c.in-Some.rest.now c.in-Some-rest_after.cell.now c.args.slots c.in-Some.ensures c.in-Some-rest_after.ensures (inr (c.is_slot.ensures.0 t)),
  λ h. c.is_slot.ensures.1 (elim (own_cell c.args.name.now c.args.text.now c.in-Some.rest.now c.in-Some-rest_after.cell.now c.args.slots c.in-Some.ensures c.in-Some-rest_after.ensures h) [
    | inl head ↦ absurd (let e : c.eq.result ≡ true = c.eq.ensures ∙ (bytes_eq-Decides c.in-Some-rest_after.cell.now (codes "head")).1 head in cc)
    | inr slot ↦ slot
  ]),
)
