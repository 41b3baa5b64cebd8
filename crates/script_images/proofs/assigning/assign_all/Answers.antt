use Rattle.std.proofs.Common.{sym, subst}
use Rattle.script_images.specs.Assigning.{RefusesTexts}
use Rattle.script_images.proofs.ValueLemmas.{assigned_next, misses_here, told_refuses}
use Rattle.script_images.proofs.assigning.assign_all.Goals as goal

pub loop-place-preserved : goal.loop-place-preserved
loop-place-preserved c = λ lines ends heap rest.
    c.loop-place.invariant lines ends heap (assigned_next c.args.schema.now c.args.texts.now c.loop-place.place _ c.loop-place-test.true _ _ _ _ _ _ c.in_default.ensures.ok lines ends heap rest)

pub returns-in-Err-clause-refused : goal.returns-in-Err-clause-refused
returns-in-Err-clause-refused c =
    let here = misses_here c.args.schema.now c.args.texts.now c.loop-place.place _ c.loop-place-test.true c.in-Err.why c.in-Err.ensures.refused in
    subst (RefusesTexts c.args.schema.now c.args.texts.now) (sym c.missed.ensures) (told_refuses c.args.schema.now c.args.texts.now c.in-Err.why c.loop-place.place here)
