use Rattle.std.proofs.Common.{sym, subst}
use Rattle.trim_helper.specs.Parts.{IsServing}
use Rattle.trim_helper.proofs.helper.Helper.acknowledged.Goals as goal

pub returns : goal.returns
returns g c = λ s p is. c.acknowledged.ensures s p (subst (λ x. IsServing g.D.Disk.device x s p) (sym c.self.view_is) is).taken.has
