use Rattle.std.proofs.Common.{◌∙◌, refl}
use Rattle.host_journal.proofs.taking.take_all.Goals as goal
use Rattle.host_journal.proofs.Turning.{below_then, counted_step, take_none, take_step}

pub returns-then-not-take_one-clause-keeps : goal.returns-then-not-take_one-clause-keeps
returns-then-not-take_one-clause-keeps c = λ heap base is on.
    let held = c.loop-parts.invariant.keeps heap base is on in
    take_none heap base c.loop-parts.parts c.take_one.new.parts (c.if-not-take_one.ensures.none refl) (c.if-not-take_one.ensures.same refl) held.0

pub returns-clause-keeps : goal.returns-clause-keeps
returns-clause-keeps c = λ heap base is on. (c.loop-parts.invariant.keeps heap base is on).0

pub loop-parts-preserved : goal.loop-parts-preserved
loop-parts-preserved c =
    let t = c.if-not-take_one.ensures.taken refl in
    record {
      counted = counted_step c.loop-parts.parts c.take_one.new.parts t c.loop-parts.invariant.counted;
      keeps = λ heap base is on.
          let held = c.loop-parts.invariant.keeps heap base is on in take_step heap base c.loop-parts.parts c.take_one.new.parts t held.0 held.1;
      below = below_then c.args.parts.now.disk c.loop-parts.parts.disk c.take_one.new.parts.disk c.loop-parts.invariant.below t.write.below;
      words = t.words ∙ c.loop-parts.invariant.words;
      turns = t.turns ∙ c.loop-parts.invariant.turns;
    }
