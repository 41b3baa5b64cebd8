use Rattle.std.proofs.Common.{sym, subst}
use Rattle.block_disk.specs.Images.{Always}
use Rattle.store_rounds.specs.Stops.{ShowsCut}
use Rattle.store_rounds.specs.Store.{Parts}
use Rattle.store_rounds.proofs.Shown.{is_home, rests}
use Rattle.store_rounds.proofs.store.RoundStore.into_disk.Goals as goal

pub returns-clause-at_rest : goal.returns-clause-at_rest
returns-clause-at_rest g c = λ s p has serves.
    subst (λ (x : Parts g.row.D.Denot). Always (g.D.Disk.device x.disk) (ShowsCut c.args.self.known.layout c.args.self.known.threads s p.logged p.cut)) (sym c.self.view_is)
    (rests c.args.self.known s p (g.D.Disk.device c.args.self.disk) has serves)

pub returns-clause-home : goal.returns-clause-home
returns-clause-home g c = λ s p has serves none f low logged. is_home c.args.self.known s p (g.D.Disk.device c.args.self.disk) has serves none f low logged
