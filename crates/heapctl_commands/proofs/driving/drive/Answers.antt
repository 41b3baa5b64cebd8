use Rattle.heapctl_commands.proofs.TellingLemmas.{silent, told}
use Rattle.heapctl_commands.specs.Faults.{RefusedAt}
use Rattle.heapctl_commands.specs.Telling.{WorkedAt}
use Rattle.heapctl_commands.proofs.driving.drive.Goals as goal

pub returns-in-Ok-clause-ends : goal.returns-in-Ok-clause-ends
returns-in-Ok-clause-ends g c =
    let had = g.P.Images.holds c.args.images.now in
    let has = g.P.Images.holds c.drive_there.new.images in
    told (WorkedAt g.D.Disk.device c.args.image c.args.workers had has) (RefusedAt g.D.Disk.device c.args.image c.args.workers had has) c.in-Ok.driven c.tell-told.result (g.W.Write.contents c.args.writer.now) (g.W.Write.contents c.tell-told.new.writer)
    c.in-Ok.ensures.ok c.tell-told.ensures.ok c.tell-told.ensures.write c.tell-told.ensures.part

pub returns-in-Err-clause-ends : goal.returns-in-Err-clause-ends
returns-in-Err-clause-ends g c =
    let had = g.P.Images.holds c.args.images.now in
    let has = g.P.Images.holds c.drive_there.new.images in
    silent g.D.Disk.device c.args.image c.args.workers had has c.in-Err.fault (g.W.Write.contents c.args.writer.now) c.in-Err.ensures.refused
