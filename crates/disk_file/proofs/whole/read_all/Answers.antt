use Rattle.std.proofs.Common.{[]}
use Rattle.disk_file.proofs.WrittenBack.{may_unsettled}
use Rattle.disk_file.proofs.whole.read_all.Goals as goal

pub returns-in-Err-clause-loses : goal.returns-in-Err-clause-loses
returns-in-Err-clause-loses g c = may_unsettled [] (g.F.BackingFile.holds c.args.file.now) (g.F.BackingFile.holds c.settle.new.self) c.in-Err.ensures.err
