use Rattle.std.proofs.Common.{refl, arith, rules}
use Rattle.image_schema.proofs.FitLemmas.{one_row_more}
use Rattle.image_schema.proofs.fitting.are_rows_of.Goals as goal

pub loop-field-init : goal.loop-field-init
loop-field-init c = λ f low. absurd (omega (arith, low))

pub loop-field-preserved : goal.loop-field-preserved
loop-field-preserved c = one_row_more c.args.schema.now c.args.rows.now c.loop-field.field c.loop-field.invariant (search rules)

pub returns : goal.returns
returns c = ((λ _ f low. c.loop-field.invariant f (omega (arith, low, c.loop-field-test.false, c.fields-field-end.ensures.count))), λ _. refl)
