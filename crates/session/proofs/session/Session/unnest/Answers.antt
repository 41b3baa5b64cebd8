use Rattle.std.proofs.Common.{ap, refl}
use Rattle.heap_model.specs.declared.ids.ObjectId.{ObjectId}
use Rattle.thread_steps.specs.Views.{view}
use Rattle.session.proofs.Lengthening.{unnested_else}
use Rattle.session.proofs.Sitting.{sits_changed}
use Rattle.session.proofs.session.Session.unnest.Goals as goal

pub invariant_of-self-clause-sits : goal.invariant_of-self-clause-sits
invariant_of-self-clause-sits c =
    let s = c.args.self.now in let e = c.unnest-less.ensures in let t = e.told in
    sits_changed (view s.parts.seat) _ _ c.args.grip c.unnest-less.result c.args.grip.object.0 s.parts.held.items _ _ _ _ _ _ _ _
    c.put.ensures t.told e.grips t.keeps (ap (λ (o : ObjectId). o.0) t.object) c.requires.found.there e.clear refl refl (unnested_else (view s.parts.seat) c.args.grip.object) s.sits
