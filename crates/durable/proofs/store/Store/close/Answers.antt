use Rattle.std.proofs.Common.{ℕ, ◌≡◌, ◌<◌, true, sym, subst}
use Rattle.heap_model.specs.Log.{value as value_of}
use Rattle.block_disk.specs.Images.{Always}
use Rattle.image_parts.specs.Cells.{HasCell}
use Rattle.undo_log.specs.StandsFor.{StandsFor}
use Rattle.heap_model.specs.Past.{applied}
use Rattle.durable.specs.Closed.{applied_heap}
use Rattle.durable.specs.Store.{Parts}
use Rattle.durable.proofs.Closing.{home_cells, home_stands}
use Rattle.durable.proofs.store.Store.close.Goals as goal

pub returns-in-Ok-clause-home : goal.returns-in-Ok-clause-home
returns-in-Ok-clause-home g c = λ s p has.
    let closes = c.in-Ok.ensures s p has in
    subst (λ (x : Parts g.row.D.Denot). (f : ℕ) → f < c.args.self.known.layout.fields → s.is_logged f ≡ true → HasCell c.args.self.known.layout f (g.D.Disk.device x.disk).now.bytes (value_of s.first f (applied p))) (sym c.self.view_is)
    (home_cells c.args.self.known s p (g.D.Disk.device c.args.self.disk) has closes.0 closes.1 closes.2)

pub returns-in-Ok-clause-stands : goal.returns-in-Ok-clause-stands
returns-in-Ok-clause-stands g c = λ s p has.
    let closes = c.in-Ok.ensures s p has in
    subst (λ (x : Parts g.row.D.Denot). Always (g.D.Disk.device x.disk) (λ image. StandsFor c.args.self.known.layout image (applied_heap c.args.self.known.layout s p))) (sym c.self.view_is)
    (home_stands c.args.self.known s p (g.D.Disk.device c.args.self.disk) has closes.0 closes.1 closes.2)
