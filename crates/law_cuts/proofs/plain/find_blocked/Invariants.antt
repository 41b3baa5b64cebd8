use Rattle.std.proofs.Common.{◌≡◌, false, All, take}
use Rattle.std.specs.List.{list_any}
use Rattle.heap_model.specs.Cuts.{counts_of}
use Rattle.law_cuts.specs.Plain.{reading, is_blocked_by}
use Rattle.law_cuts.proofs.plain.find_blocked.Given as goal

abbrev pub invariant-loop-step : goal.invariant-loop-step
invariant-loop-step l = All (λ s. list_any (λ t. is_blocked_by reading (counts_of l.cut) s t) l.steps ≡ false) (take l.step-index l.steps)
