use Rattle.std.proofs.Common.{◌≡◌, ◌≢◌, inl, inr, ℕ, ◌+◌, ◌-◌, ◌*◌, take, drop, sym, subst, arith, get_or, get_or-set_other, length-set}
use Rattle.std.proofs.lemmas.Bool.{cases_lt}
use Rattle.std.proofs.lemmas.Grind.{get_or-set_at}
use Rattle.image_parts.specs.Blocks.{HoldsRow}
use Rattle.image_parts.specs.Guards.{SpellsGuard, no_row}
use Rattle.image_parts.proofs.guard_rows.decode_guards.Goals as goal

pub loop-i-preserved : goal.loop-i-preserved
loop-i-preserved c = λ k d less.
    let bytes = c.args.bytes.now in
    let rows = c.loop-i.rows in
    let i = c.loop-i.i in
    let row = c.in-Some.found in
    let wide : 16 * i + 16 - 16 * i ≡ 16 = omega arith in
    let one : HoldsRow bytes i row = subst (λ (n : ℕ). SpellsGuard (take n (drop (16 * i) bytes)) row) wide c.in-Some.ensures.some in
    elim (cases_lt k i) [
      | inl below ↦
          let apart : k ≢ i = omega arith in
          subst (HoldsRow bytes k) (sym (get_or-set_other rows i k row d apart)) (c.loop-i.invariant k d below)
      | inr from ↦
          let is : k ≡ i = omega arith in
          subst (HoldsRow bytes k) (sym (get_or-set_at rows i k row d is (omega arith))) (subst (λ (j : ℕ). HoldsRow bytes j row) (sym is) one)
    ]

pub returns-in_default-clause-none : goal.returns-in_default-clause-none
returns-in_default-clause-none c = λ _.
    let bytes = c.args.bytes.now in
    let i = c.loop-i.i in
    let wide : 16 * i + 16 - 16 * i ≡ 16 = omega arith in
    (i, omega (arith, length-set c.loop-i.rows i (get_or c.loop-i.rows i no_row)), λ r spelled. c.in_default.ensures.none r (subst (λ (n : ℕ). SpellsGuard (take n (drop (16 * i) bytes)) r) (sym wide) spelled))
