use Rattle.std.proofs.Common.{List, ℕ, subst, sym}
use Rattle.std.proofs.lemmas.Result.{IfOk-weaker}
use Rattle.image_file.specs.Images.{IsThere}
use Rattle.script_images.proofs.assigning.set_there.Goals as goal

pub returns-in-Ok-clause-ok : goal.returns-in-Ok-clause-ok
returns-in-Ok-clause-ok g c =
    let was = subst (λ (l : List ℕ). IsThere l (g.P.Images.holds c.args.images.now c.args.path.now)) (sym c.deref.ensures.value) c.in-Ok.ensures.ok in
    IfOk-weaker c.set_over-played.result _ _ (λ played so. record { image = c.deref.result.now; was = was; set_over = so }) c.set_over-played.ensures.ok
