use Rattle.std.proofs.Common.{◌≡◌, ◌∙◌, sym, ap, Ok, ℕ, decimal, nat_lt, true, false, arith}
use Rattle.std.proofs.lemmas.Bool.{le-ltb}
use Rattle.std.proofs.lemmas.Slice.Eq.{bytes_eq-Decides}
use Rattle.pool.proofs.NameLemmas.{read_back}
use Rattle.pool.proofs.names.is_slot.Goals as goal

pub returns-in_default : goal.returns-in_default
returns-in_default c = (λ f. absurd cc, λ h. let e : c.parse.result ≡ Ok h.0 = read_back c.args.cell.now c.parse.result h.0 c.args.slots c.parse.ensures.value.0 h.1 (omega arith) h.2 in absurd cc)

pub returns-then-slot-slots : goal.returns-then-slot-slots
returns-then-slot-slots c = (
  λ t. (c.in-Ok.slot, c.if-slot-slots.true, sym ((bytes_eq-Decides c.format.result.now c.args.cell.now).0 (sym c.eq.ensures ∙ t)) ∙ c.format.ensures.text),
  λ h.
      let e : c.parse.result ≡ Ok h.0 = read_back c.args.cell.now c.parse.result h.0 c.args.slots c.parse.ensures.value.0 h.1 (omega arith) h.2 in
      let same : c.in-Ok.slot ≡ h.0 = cc in
      c.eq.ensures ∙ (bytes_eq-Decides c.format.result.now c.args.cell.now).1 (c.format.ensures.text ∙ ap (λ (s : ℕ). decimal s) same ∙ sym h.2),
)

pub returns-else-slot-slots : goal.returns-else-slot-slots
returns-else-slot-slots c = (
  λ t.
      let passed : nat_lt c.in-Ok.slot c.args.slots ≡ true = t in
      let failed : nat_lt c.in-Ok.slot c.args.slots ≡ false = le-ltb c.in-Ok.slot c.args.slots c.if-slot-slots.false in absurd cc,
  λ h.
      let e : c.parse.result ≡ Ok h.0 = read_back c.args.cell.now c.parse.result h.0 c.args.slots c.parse.ensures.value.0 h.1 (omega arith) h.2 in
      let same : c.in-Ok.slot ≡ h.0 = cc in
      let low = h.1 in absurd (omega arith),
)
