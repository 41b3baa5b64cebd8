use Rattle.std.proofs.Common.{sym, subst}
use Rattle.block_disk.specs.Images.{Always}
use Rattle.store_image.specs.KeptHeap.{StandsForCut}
use Rattle.durable.specs.Store.{Parts, ShowsStep, StandsForStep}
use Rattle.durable.proofs.Closing.{rests}
use Rattle.durable.proofs.Showing.{past_stands}
use Rattle.durable.proofs.store.Store.into_disk.Goals as goal

pub returns-clause-shown : goal.returns-clause-shown
returns-clause-shown g c = λ s p has.
    subst (λ (x : Parts g.row.D.Denot). Always (g.D.Disk.device x.disk) (ShowsStep c.args.self.known.layout s p c.args.self.known.doubt)) (sym c.self.view_is) has.images

pub returns-clause-crash : goal.returns-clause-crash
returns-clause-crash g c = λ s p has.
    subst (λ (x : Parts g.row.D.Denot). Always (g.D.Disk.device x.disk) (StandsForStep c.args.self.known.layout s p c.args.self.known.doubt)) (sym c.self.view_is)
    (λ image left. past_stands c.args.self.known s p c.args.self.known.doubt (g.D.Disk.device c.args.self.disk) has image (has.images image left))

pub returns-clause-at_rest : goal.returns-clause-at_rest
returns-clause-at_rest g c = λ s p has serves.
    subst (λ (x : Parts g.row.D.Denot). Always (g.D.Disk.device x.disk) (StandsForCut c.args.self.known.layout s p.logged p.cut)) (sym c.self.view_is)
    (rests c.args.self.known s p (g.D.Disk.device c.args.self.disk) has serves)
