use Rattle.law_cuts.proofs.PartTrimmed.{part_trim_stable}
use Rattle.law_cuts.proofs.laws.part_trim_law.Goals as goal

pub returns : goal.returns
returns c log top base cut whole closed part stable = part_trim_stable log top base cut whole closed part stable
