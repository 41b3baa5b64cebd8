use Rattle.std.proofs.Common.{sym, subst}
use Rattle.block_disk.specs.Images.{Always}
use Rattle.block_disk.proofs.Images.{always_now}
use Rattle.store_image.specs.KeptHeap.{StandsForCut}
use Rattle.durable.specs.Store.{Parts}
use Rattle.durable.proofs.Closing.{rests}
use Rattle.durable.proofs.store.Store.disk.Goals as goal

pub returns-clause-at_rest : goal.returns-clause-at_rest
returns-clause-at_rest g c = λ s p has serves.
    subst (λ (x : Parts g.row.D.Denot). StandsForCut c.args.self.now.known.layout s p.logged p.cut (g.D.Disk.device x.disk).now.bytes) (sym c.self.view_is)
    (always_now (g.D.Disk.device c.args.self.now.disk) (StandsForCut c.args.self.now.known.layout s p.logged p.cut) (rests c.args.self.now.known s p (g.D.Disk.device c.args.self.now.disk) has serves))

pub returns-clause-crash : goal.returns-clause-crash
returns-clause-crash g c = λ s p has serves.
    subst (λ (x : Parts g.row.D.Denot). Always (g.D.Disk.device x.disk) (StandsForCut c.args.self.now.known.layout s p.logged p.cut)) (sym c.self.view_is)
    (rests c.args.self.now.known s p (g.D.Disk.device c.args.self.now.disk) has serves)
