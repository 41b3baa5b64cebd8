use Rattle.std.proofs.Common.{ℕ, ◌≡◌, ◌*◌, ◌<◌, ◌≤◌, [], List, length, Vec, Global, vec_capacity, sym, ap, ◌∙◌, subst, arith}
use Rattle.std.specs.Vec.{with_items}
use Rattle.std.proofs.lemmas.List.{with_items_is}
use Rattle.heap_model.specs.declared.record.LaneRecord.{LaneRecord}
use Rattle.heap_model.specs.declared.record.UndoRecord.{UndoRecord}
use Rattle.store_memory.specs.Fresh.{IsSorted, room_in}
use Rattle.store_memory.proofs.FreshLaws.{sorted_none}
use Rattle.store_memory.proofs.fresh.FreshRecords.clear.Goals as goal

pub invariant_of-self : goal.invariant_of-self
invariant_of-self c =
    let room : ℕ = c.self.inside.room in
    let new : List (Vec UndoRecord Global) = c.clear_all.new.logs in
    let logs : (with_items c.self.inside.logs new).items ≡ new = with_items_is c.self.inside.logs new (c.clear_all.auto.logs ∙ c.deref_mut.ensures.len) in
    let size : length new ≡ length c.self.inside.logs.items = c.clear_all.auto.logs ∙ ap (λ (xs : List (Vec UndoRecord Global)). length xs) c.deref_mut.ensures.value in
    let rooms : (l : ℕ) → l < length new → room ≤ room_in new l = λ l low.
    omega (arith, c.clear_all.ensures.rooms l, ap (λ (xs : List (Vec UndoRecord Global)). room_in xs l) c.deref_mut.ensures.value, c.self.invariant.rooms l (omega (arith, low, size))) in
    subst (λ (xs : List LaneRecord). IsSorted room xs (with_items c.self.inside.logs new).items (vec_capacity c.clear.new.self)) (sym c.clear.ensures.items)
    (subst (λ (xs : List (Vec UndoRecord Global)). IsSorted room [] xs (vec_capacity c.clear.new.self)) (sym logs)
    (sorted_none room new (vec_capacity c.clear.new.self) c.clear_all.ensures.empty rooms
    (omega (arith, c.self.invariant.held, c.clear.ensures.capacity, ap (λ (n : ℕ). n * room) size))))
