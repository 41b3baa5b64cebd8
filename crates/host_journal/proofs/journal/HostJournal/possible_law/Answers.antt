use Rattle.std.proofs.Common.{subst}
use Rattle.block_disk.specs.Device.{LeftSince}
use Rattle.atomic_sectors.specs.Left.{AlwaysWhole}
use Rattle.host_journal.specs.Hosted.{Hosted, StandsFor}
use Rattle.host_journal.proofs.journal.HostJournal.possible_law.Goals as goal

pub returns-clause-left : goal.returns-clause-left
returns-clause-left c =
    subst (λ (h : Hosted). AlwaysWhole h.disk (StandsFor h.areas (LeftSince h.base h.heap))) c.self.view_is c.self.invariant.gathers.crash
