use Rattle.std.proofs.Common.{◌-◌, ◌+◌, refl, arith}
use Rattle.dependence.proofs.Beside.{same_before, other_partner}
use Rattle.dependence.proofs.links.pair.Goals as goal

pub returns-then-release-gt0-clause-before : goal.returns-then-release-gt0-clause-before
returns-then-release-gt0-clause-before c = same_before c.args.beside.now (c.args.release - 1) (c.args.place + 1) (record { before = 0; partner = 0 })

pub returns-then-release-gt0-clause-partner : goal.returns-then-release-gt0-clause-partner
returns-then-release-gt0-clause-partner c = other_partner c.args.beside.now c.args.release (c.args.place + 1) _ (omega arith) refl
