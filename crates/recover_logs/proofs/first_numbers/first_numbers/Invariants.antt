use Rattle.recover_logs.specs.First.{IsLowestOf}
use Rattle.recover_logs.proofs.first_numbers.first_numbers.Given as goal

abbrev pub invariant-loop-lane : goal.invariant-loop-lane
invariant-loop-lane l = IsLowestOf l.logs l.lane l.numbers
