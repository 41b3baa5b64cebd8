use Rattle.std.proofs.Common.{rules, ◌≡◌, take}
use Rattle.disk_sectors.proofs.LabelLemmas.{neither}
use Rattle.disk_sectors.proofs.label.Label.read.Goals as goal

pub returns-in-None-clause-none : goal.returns-in-None-clause-none
returns-in-None-clause-none c =
    let is : c.in-Some.spelled.now ≡ take 16 c.args.head.now = search rules in
    neither c.read_as-in-None.result c.in-Some.spelled.now c.args.head.now is c.in-None.ensures.none c.read_as-in-None.ensures.none
