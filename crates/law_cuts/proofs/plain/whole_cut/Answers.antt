use Rattle.std.proofs.Common.{◌∙◌, arith, below_more, get_or-set_same, get_or-set_other, length-set, ◌≢◌}
use Rattle.law_cuts.proofs.plain.whole_cut.Goals as goal

pub loop-l-preserved : goal.loop-l-preserved
loop-l-preserved c = record {
  long = length-set c.loop-l.cut.counts c.loop-l.l c.in_ok-cut.field-0 ∙ c.loop-l.invariant.long;
  counts = below_more _ _
      (λ k h. let ne : k ≢ c.loop-l.l = omega arith in get_or-set_other c.loop-l.cut.counts c.loop-l.l k c.in_ok-cut.field-0 0 ne ∙ c.loop-l.invariant.counts k h)
      (get_or-set_same c.loop-l.cut.counts c.loop-l.l c.in_ok-cut.field-0 0 (omega (arith, c.loop-l.invariant.long)) ∙ c.in_ok-cut.ensures.count);
}
