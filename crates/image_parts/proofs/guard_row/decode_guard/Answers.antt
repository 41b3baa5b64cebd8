use Rattle.std.proofs.Common.{◌∙◌, ap, arith}
use Rattle.std.specs.Int.{to_be_bytes, w16}
use Rattle.image_parts.proofs.GuardLemmas.{guard_spelled, mark_read}
use Rattle.image_parts.proofs.guard_row.decode_guard.Goals as goal

pub returns-clause-some : goal.returns-clause-some
returns-clause-some c = record {
  spelled = guard_spelled c.args.bytes.now _ c.requires c.u32_at.ensures.spelled (mark_read _ (omega arith)) (omega arith)
      (ap (to_be_bytes w16) c.from.ensures ∙ c.u16_at.ensures.spelled) c.u64_at.ensures.spelled;
  fits = record { guard = c.u32_at.type_inv; owner = omega arith; first = c.u64_at.type_inv };
}
