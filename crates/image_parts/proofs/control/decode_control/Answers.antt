use Rattle.std.proofs.Common.{◌≡◌, ◌-◌, ◌++◌, drop, length, sym, ap, subst, ◌∙◌, arith, length-drop}
use Rattle.std.specs.Int.{to_be_bytes, w32}
use Rattle.std.proofs.lemmas.List.{take_all}
use Rattle.image_parts.proofs.Numbers.{cut}
use Rattle.image_parts.proofs.Controls.{one_control}
use Rattle.image_parts.specs.Rows.{rows_bytes}
use Rattle.image_parts.specs.Control.{IsControl}
use Rattle.image_parts.proofs.control.decode_control.Goals as goal

pub returns-then-not-is_control-clause-none : goal.returns-then-not-is_control-clause-none
returns-then-not-is_control-clause-none c = λ d s.
    let bs = c.args.body.now in
    let rest : drop 16 bs ≡ rows_bytes c.decode_rows.new.rows = sym (take_all (length bs - 16) (drop 16 bs) (omega (arith, length-drop 16 bs))) ∙ c.decode_rows.ensures.spelled in
    let same = one_control c.args.layout.now bs d c.u64_at.result c.u32_at-2.result c.decode_rows.new.rows s c.u64_at.ensures.number c.u32_at-2.ensures.number rest c.decode_rows.ensures.fits c.decode_rows.auto.rows in
    let yes = c.is_control.ensures.1 (subst (IsControl c.args.layout.now) same s.valid) in
    let no = c.if-not-is_control.true in cc

pub returns-clause-some : goal.returns-clause-some
returns-clause-some c =
    let bs = c.args.body.now in
    let a = c.u64_at.ensures.spelled in
    let b = c.u32_at-2.ensures.spelled in
    let z = ap (to_be_bytes w32) (sym c.if-u32_at-ne0.false) ∙ c.u32_at.ensures.spelled in
    let rest : drop 16 bs ≡ rows_bytes c.decode_rows.new.rows = sym (take_all (length bs - 16) (drop 16 bs) (omega (arith, length-drop 16 bs))) ∙ c.decode_rows.ensures.spelled in
    record {
      bytes = cut 0 8 bs ∙ (λ i. sym a i ++ (cut 8 4 bs ∙ (λ j. sym b j ++ (cut 12 4 bs ∙ (λ k. sym z k ++ rest k)) j)) i);
      valid = c.is_control.ensures.0 c.if-not-is_control.false;
    }
