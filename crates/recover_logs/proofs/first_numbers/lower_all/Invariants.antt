use Rattle.std.proofs.Common.{take}
use Rattle.recover_logs.specs.First.{IsLowered}
use Rattle.recover_logs.proofs.first_numbers.lower_all.Given as goal

abbrev pub invariant-loop-entry : goal.invariant-loop-entry
invariant-loop-entry l = IsLowered l.initial.numbers (take l.entry-index l.records) l.numbers
