use Rattle.std.proofs.Common.{ℕ, ◌≡◌, ◌<◌, length, slice_index, take, reverse}
use Rattle.heap_model.specs.Cuts.{counts_of}
use Rattle.heap_model.specs.KeptHeap.{kept_value}
use Rattle.law_cuts.specs.Plain.{steps_log}
use Rattle.law_cuts.proofs.plain.replay_steps.Given as goal

abbrev pub invariant-loop-step : goal.invariant-loop-step
invariant-loop-step l = (f : ℕ) → f < length l.fn.heap → slice_index l.heap f ≡ kept_value (λ g. slice_index l.fn.heap g) (counts_of l.cut) f (steps_log (reverse (take l.step-index l.steps)))
