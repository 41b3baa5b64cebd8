use Rattle.std.proofs.Common.{◌≡◌, false, subst}
use Rattle.atomic_sectors.specs.Left.{AlwaysWhole}
use Rattle.disk_journal.specs.Disks.{Layered}
use Rattle.disk_journal.specs.Stands.{StandsStill}
use Rattle.disk_journal.proofs.KeptLemmas.{stands_durable}
use Rattle.disk_journal.proofs.journaled.Journaled.possible_law.Goals as goal

pub returns-clause-settled : goal.returns-clause-settled
returns-clause-settled g c =
    let d = c.self.inside in
    subst (λ (l : Layered). l.is_over ≡ false → AlwaysWhole l.disk (StandsStill l.areas l.disk.now.bytes)) c.self.view_is
    (λ works. stands_durable d.areas (g.D.Disk.device d.disk) (c.self.invariant.0.works works).rest.durable)
