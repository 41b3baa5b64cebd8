use Rattle.std.proofs.Common.{◌≡◌, ◌∙◌, sym, false, subst, arith, All}
use Rattle.std.specs.List.{list_any}
use Rattle.std.proofs.lemmas.List.Elements.{All-more}
use Rattle.std.proofs.lemmas.List.{take_all}
use Rattle.law_cuts.specs.declared.step.Step.{Step}
use Rattle.heap_model.specs.Cuts.{counts_of}
use Rattle.law_cuts.specs.Plain.{reading, is_blocked_by}
use Rattle.law_cuts.proofs.plain.find_blocked.Goals as goal

pub loop-step-preserved : goal.loop-step-preserved
loop-step-preserved c =
    let P : Step → Type 0 = λ s. list_any (λ t. is_blocked_by reading (counts_of c.args.cut.now) s t) c.args.steps.now ≡ false in
    let h : P c.step-item.result = sym c.is_blocked.ensures ∙ c.if-is_blocked.false in
    All-more P c.args.steps.now c.loop-step.step-index c.step-item.result (omega arith) c.loop-step.invariant (subst P c.step-item.is h)

pub returns : goal.returns
returns c =
    let P : Step → Type 0 = λ s. list_any (λ t. is_blocked_by reading (counts_of c.args.cut.now) s t) c.args.steps.now ≡ false in
    subst (All P) (take_all c.loop-step.step-index c.args.steps.now (omega arith)) c.loop-step.invariant
