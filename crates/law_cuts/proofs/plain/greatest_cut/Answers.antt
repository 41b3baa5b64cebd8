use Rattle.std.proofs.Common.{◌≤◌, arith}
use Rattle.heap_model.specs.Cuts.{counts_of}
use Rattle.law_cuts.specs.Plain.{reading}
use Rattle.law_cuts.proofs.Greatest.{blocked_stays_out, blocked_is_counted, lowered_below, lowered_above, free_is_closed}
use Rattle.law_cuts.proofs.plain.greatest_cut.Goals as goal

pub lower-requires : goal.lower-requires
lower-requires c = blocked_is_counted reading c.args.steps.now (counts_of c.loop-step.cut) c.in-Some.step c.in-Some.ensures.1

pub loop-step-smaller : goal.loop-step-smaller
loop-step-smaller c = c.lower.ensures.smaller

pub loop-step-preserved : goal.loop-step-preserved
loop-step-preserved c =
    let counted : c.in-Some.step.section ≤ counts_of c.loop-step.cut c.in-Some.step.entry.lane.0 =
    blocked_is_counted reading c.args.steps.now (counts_of c.loop-step.cut) c.in-Some.step c.in-Some.ensures.1 in
    record {
      below = λ m. omega (
        arith,
        c.loop-step.invariant.below m,
        lowered_below (counts_of c.loop-step.cut) (counts_of c.lower.new.cut) c.in-Some.step.entry.lane.0 c.in-Some.step.section counted c.lower.ensures.lowered c.lower.ensures.others m,
      );
      greatest = λ other below closed. lowered_above (counts_of c.loop-step.cut) (counts_of c.lower.new.cut) other c.in-Some.step.entry.lane.0 c.in-Some.step.section
          (blocked_stays_out reading c.args.steps.now (counts_of c.loop-step.cut) other c.in-Some.step c.in-Some.ensures.0 c.in-Some.ensures.1 closed (c.loop-step.invariant.greatest other below closed))
          c.lower.ensures.lowered c.lower.ensures.others (c.loop-step.invariant.greatest other below closed);
    }

pub returns : goal.returns
returns c = record {
  below = c.loop-step.invariant.below;
  closed = free_is_closed reading c.args.steps.now (counts_of c.loop-step.cut) c.in_default.ensures;
  greatest = c.loop-step.invariant.greatest;
}
