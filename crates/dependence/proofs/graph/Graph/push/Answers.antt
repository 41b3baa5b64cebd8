use Rattle.std.proofs.Common.{ℕ, ◌≡◌, ◌+◌, ◌-◌, ◌<◌, reverse, length, slice_index, vec_len, vec_capacity, sym, refl, subst, arith}
use Rattle.heap_model.specs.Sections.{undo_action}
use Rattle.dependence.specs.Trace.{Trace}
use Rattle.dependence.specs.Next.{IsNext}
use Rattle.dependence.specs.Steps.{log_of}
use Rattle.dependence.specs.Kept.{HasRoom}
use Rattle.dependence.proofs.Counted.{counted_push, held_short}
use Rattle.dependence.proofs.Keeping.{kept_push}
use Rattle.dependence.proofs.graph.Graph.push.Goals as goal

pub count-requires-clause-held_fits : goal.count-requires-clause-held_fits
count-requires-clause-held_fits c =
    let long : length c.self.inside.steps.items ≡ c.self.inside.steps.len = sym c.self.inside.steps.ok.0 in
    omega (arith, held_short c.self.inside.steps.items c.args.lane.0, c.self.invariant.counted.held c.args.lane.0, c.self.inside.steps.ok.1, c.self.inside.steps.small)

pub invariant_of-self : goal.invariant_of-self
invariant_of-self c =
    let next : IsNext (log_of (reverse c.self.inside.steps.items)) c.args.lane.0 (undo_action c.args.entry.now) = subst (λ (t : Trace). IsNext t.log c.args.lane.0 (undo_action c.args.entry.now)) (sym c.self.view_is) c.requires.next in
    let some : 0 < vec_capacity c.self.inside.steps - vec_len c.self.inside.steps = subst (λ (t : Trace). 0 < t.room) (sym c.self.view_is) c.requires.room in
    let low : c.args.lane.0 < c.self.inside.lanes = subst (λ (t : Trace). c.args.lane.0 < t.lanes) (sym c.self.view_is) c.requires.lane in
    let left : ℕ = vec_capacity c.push_reserved.new.self - vec_len c.push_reserved.new.self in
    let room : left + 1 ≡ vec_capacity c.self.inside.steps - vec_len c.self.inside.steps = omega (arith, c.push_reserved.ensures.len, c.push_reserved.ensures.capacity) in
    kept_push c.self.inside _ _ c.self.invariant refl refl c.push_reserved.ensures.items
    (c.add.ensures.room left (subst (λ (n : ℕ). HasRoom c.self.inside.links n) (sym room) c.self.invariant.links_room))
    c.deref.result.now c.deref.ensures.value c.add.ensures.linked
    low c.requires.object refl next
    (counted_push (slice_index c.self.inside.base) (log_of (reverse c.self.inside.steps.items)) c.self.inside.ended c.self.inside.held c.count.new.ended c.count.new.held c.args.lane.0 (undo_action c.args.entry.now)
    c.self.told.1 c.self.told.2 (omega (arith, c.self.invariant.lanes)) next c.self.invariant.counted c.count.ensures.held c.count.ensures.ended) refl refl refl
