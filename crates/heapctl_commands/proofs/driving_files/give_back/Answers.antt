use Rattle.std.proofs.Common.{ℕ, List, ap, subst}
use Rattle.image_file.proofs.PlaceLemmas.{reads_left}
use Rattle.image_file.specs.Images.{IsThere}
use Rattle.heapctl_commands.proofs.driving_files.give_back.Goals as goal

pub returns-clause-left : goal.returns-clause-left
returns-clause-left g c =
    let has = g.P.Images.holds c.close.new.self c.args.path.now in
    let disk = c.into_disk.result in
    let there = reads_left (g.D.Disk.device disk) has c.into_disk.ensures.recovered.durable c.close.ensures.left in
    subst (λ (bytes : List ℕ). IsThere bytes has) (ap (λ d. (g.D.Disk.device d).now.bytes) c.into_disk.ensures.disk) there
