use Rattle.std.proofs.Common.{ℕ, ◌≡◌, ◌≢◌, ◌<◌, ◌∷◌, [], ◌++◌, List, length, Vec, Global, vec_len, vec_capacity, sym, ap, ◌∙◌, subst, arith}
use Rattle.std.specs.Vec.{with_items}
use Rattle.std.proofs.lemmas.List.{with_items_is}
use Rattle.heap_model.specs.declared.record.LaneRecord.{LaneRecord}
use Rattle.heap_model.specs.declared.record.UndoRecord.{UndoRecord}
use Rattle.heap_model.specs.Record.{undo_of}
use Rattle.heap_model.specs.Log.{lane, log_from}
use Rattle.store_memory.specs.Fresh.{FreshRecords, IsSorted, log_in, room_in}
use Rattle.store_memory.proofs.FreshLaws.{log_room, list_room, sorted_push}
use Rattle.store_memory.proofs.fresh.FreshRecords.push.Goals as goal

pub put-requires-clause-lane : goal.put-requires-clause-lane
put-requires-clause-lane c =
    let low : c.args.lane.0 < length c.self.inside.logs.items = subst (λ (f : FreshRecords). c.args.lane.0 < f.lanes) (sym c.self.view_is) c.requires.lane in
    omega (arith, low, ap (λ (xs : List (Vec UndoRecord Global)). length xs) c.deref_mut.ensures.value)

pub put-requires-clause-room : goal.put-requires-clause-room
put-requires-clause-room c =
    let low : c.args.lane.0 < length c.self.inside.logs.items = subst (λ (f : FreshRecords). c.args.lane.0 < f.lanes) (sym c.self.view_is) c.requires.lane in
    let free : length (lane c.args.lane.0 (log_from c.self.inside.records.items)) < c.self.inside.room = subst (λ (f : FreshRecords). length (lane c.args.lane.0 (log_from f.records)) < f.room) (sym c.self.view_is) c.requires.room in
    subst (λ (xs : List (Vec UndoRecord Global)). length (log_in xs c.args.lane.0) < room_in xs c.args.lane.0) (sym c.deref_mut.ensures.value)
    (log_room c.self.inside.room c.self.inside.records.items c.self.inside.logs.items (vec_capacity c.self.inside.records) c.self.invariant
    (record { lane = c.args.lane; «record» = c.args.next }) low free)

pub push_reserved-requires : goal.push_reserved-requires
push_reserved-requires c =
    let low : c.args.lane.0 < length c.self.inside.logs.items = subst (λ (f : FreshRecords). c.args.lane.0 < f.lanes) (sym c.self.view_is) c.requires.lane in
    let free : length (lane c.args.lane.0 (log_from c.self.inside.records.items)) < c.self.inside.room = subst (λ (f : FreshRecords). length (lane c.args.lane.0 (log_from f.records)) < f.room) (sym c.self.view_is) c.requires.room in
    let long : length c.self.inside.records.items ≡ vec_len c.self.inside.records = sym c.self.inside.records.ok.0 in
    omega (
      arith,
      list_room c.self.inside.room c.self.inside.records.items c.self.inside.logs.items (vec_capacity c.self.inside.records) c.self.invariant
          (record { lane = c.args.lane; «record» = c.args.next }) low free,
    )

pub invariant_of-self : goal.invariant_of-self
invariant_of-self c =
    let room : ℕ = c.self.inside.room in
    let old : List (Vec UndoRecord Global) = c.self.inside.logs.items in
    let new : List (Vec UndoRecord Global) = c.put.new.logs in
    let low : c.args.lane.0 < length old = subst (λ (f : FreshRecords). c.args.lane.0 < f.lanes) (sym c.self.view_is) c.requires.lane in
    let free : length (lane c.args.lane.0 (log_from c.self.inside.records.items)) < room = subst (λ (f : FreshRecords). length (lane c.args.lane.0 (log_from f.records)) < f.room) (sym c.self.view_is) c.requires.room in
    let next : LaneRecord = record { lane = c.args.lane; «record» = c.args.next } in
    let was : c.deref_mut.result.now ≡ old = c.deref_mut.ensures.value in
    let logs : (with_items c.self.inside.logs new).items ≡ new = with_items_is c.self.inside.logs new (c.put.auto.logs ∙ c.deref_mut.ensures.len) in
    let size : length new ≡ length old = c.put.auto.logs ∙ ap (λ (xs : List (Vec UndoRecord Global)). length xs) was in
    let put : log_in new c.args.lane.0 ≡ log_in old c.args.lane.0 ++ undo_of c.args.next ∷ [] =
    c.put.ensures.put ∙ ap (λ (xs : List (Vec UndoRecord Global)). log_in xs c.args.lane.0 ++ c.undo.result ∷ []) was
    ∙ ap (λ (u : UndoRecord). log_in old c.args.lane.0 ++ u ∷ []) c.undo.ensures in
    let others : (l : ℕ) → l ≢ c.args.lane.0 → log_in new l ≡ log_in old l = λ l ne. c.put.ensures.others l ne ∙ ap (λ (xs : List (Vec UndoRecord Global)). log_in xs l) was in
    let rooms : (l : ℕ) → room_in new l ≡ room_in old l = λ l. c.put.ensures.rooms l ∙ ap (λ (xs : List (Vec UndoRecord Global)). room_in xs l) was in
    subst (λ (xs : List LaneRecord). IsSorted room xs (with_items c.self.inside.logs new).items (vec_capacity c.push_reserved.new.self)) (sym c.push_reserved.ensures.items)
    (subst (λ (xs : List (Vec UndoRecord Global)). IsSorted room (c.self.inside.records.items ++ next ∷ []) xs (vec_capacity c.push_reserved.new.self)) (sym logs)
    (subst (λ (n : ℕ). IsSorted room (c.self.inside.records.items ++ next ∷ []) new n) (sym c.push_reserved.ensures.capacity)
    (sorted_push room c.self.inside.records.items old (vec_capacity c.self.inside.records) c.self.invariant next low free new size put others rooms)))
