use Rattle.std.proofs.Common.{List, ◌++◌, length, take, drop, slice_set, ap, ◌∙◌}
use Rattle.thread_steps.specs.declared.grip.Grip.{Grip}
use Rattle.session.proofs.GripLists.{refill_set}
use Rattle.session.proofs.grips.put.Goals as goal

pub returns-then-place-len : goal.returns-then-place-len
returns-then-place-len c =
    let gs = c.args.held.now.items in
    let back : List Grip → List Grip = λ zs. take (length gs) (zs ++ drop (length zs) gs) in
    ap (λ (zs : List Grip). back (slice_set zs c.place_of-place.result c.args.grip)) c.deref_mut.ensures.value
    ∙ ap (λ k. back (slice_set gs k c.args.grip)) (c.place_of-place.ensures ∙ ap (λ (zs : List Grip). Rattle.session.specs.Grips.place_in c.args.grip.object.0 zs) c.as_slice.ensures.value)
    ∙ refill_set c.args.grip gs
