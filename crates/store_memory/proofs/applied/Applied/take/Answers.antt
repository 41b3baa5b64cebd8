use Rattle.std.proofs.Common.{ℕ, ◌≡◌, ◌<◌, ◌≤◌, List, length, slice_set, true, false, Ok, Err, refl, sym, ap, ◌∙◌, subst}
use Rattle.std.specs.Vec.{with_items}
use Rattle.std.proofs.lemmas.List.{with_items_is, length-set}
use Rattle.heap_model.specs.declared.record.Record.{Record}
use Rattle.heap_model.specs.declared.record.LaneRecord.{LaneRecord}
use Rattle.heap_model.specs.Log.{lane, log_from}
use Rattle.store_memory.specs.declared.states.MonitorState.{MonitorState}
use Rattle.store_memory.specs.declared.states.FieldState.{FieldState}
use Rattle.store_memory.specs.declared.states.LaneState.{LaneState}
use Rattle.heap_model.specs.Past.{after_apply}
use Rattle.store_memory.specs.Memory.{Memory, lane_in, lane_after, monitors_after, fields_after, KeepsLayout}
use Rattle.store_memory.specs.Remembers.{Remembers}
use Rattle.store_memory.specs.Apply.{Answers}
use Rattle.store_memory.specs.Verdict.{Judges}
use Rattle.store_memory.specs.Limits.{IsWithin, FitWords}
use Rattle.store_memory.proofs.FreshLaws.{log_snoc}
use Rattle.store_memory.specs.Within.{memory_of}
use Rattle.store_memory.proofs.Remembering.{memory_after, keeps_after}
use Rattle.store_memory.proofs.Verdicts.{answers_from, remembers_next, within_next, all_within, start_within, fresh_free, judged_by}
use Rattle.store_memory.proofs.applied.Applied.take.Goals as goal

pub is_taken-requires-clause-start : goal.is_taken-requires-clause-start
is_taken-requires-clause-start c = subst (λ (ls : List LaneState). (l : ℕ) → l < length ls → (lane_in ls l).start ≤ (lane_in ls l).place) (sym c.deref.ensures.value)
    (start_within c.self.invariant.setting (memory_of c.self.inside) c.self.invariant.past c.self.invariant.remembers)

pub refusal-requires : goal.refusal-requires
refusal-requires c = record {
  refused = λ judged.
      let here : Judges c.self.inside.last c.self.inside.capacity c.self.inside.lanes.items c.self.inside.monitors.items c.self.inside.fields.items c.args.lane.0 c.args.«record» (Ok tt) =
      subst (λ (m : Memory). Judges m.last m.capacity m.lanes m.monitors m.fields c.args.lane.0 c.args.«record» (Ok tt)) (sym c.self.view_is)
      (subst (λ (r : Record). Judges c.args.self.now.last c.args.self.now.capacity c.args.self.now.lanes c.args.self.now.monitors c.args.self.now.fields c.args.lane.0 r (Ok tt)) c.again.ensures judged) in
      let taken : c.is_taken.result ≡ true =
      c.is_taken.ensures.1 (judged_by c.self.inside.last c.self.inside.capacity _ _ _ _ _ _ c.args.lane.0 c.args.«record» (Ok tt) (sym c.deref.ensures.value) (sym c.deref-2.ensures.value) (sym c.deref-3.ensures.value) here) in
      let no : true ≡ false = sym taken ∙ c.if-is_taken.false in
      absurd cc;
}

pub push-requires-clause-room : goal.push-requires-clause-room
push-requires-clause-room c =
    let j : Judges c.self.inside.last c.self.inside.capacity c.self.inside.lanes.items c.self.inside.monitors.items c.self.inside.fields.items c.args.lane.0 c.args.«record» (Ok tt) =
    judged_by c.self.inside.last c.self.inside.capacity _ _ _ _ _ _ c.args.lane.0 c.args.«record» (Ok tt) c.deref.ensures.value c.deref-2.ensures.value c.deref-3.ensures.value (c.is_taken.ensures.0 c.if-is_taken.true) in
    let next : IsWithin c.self.inside.capacity (lane_after c.args.«record» (lane_in c.self.inside.lanes.items c.args.lane.0)) =
    within_next c.self.inside.capacity c.self.inside.last c.args.«record» (lane_in c.self.inside.lanes.items c.args.lane.0) (c.self.invariant.within c.args.lane.0 j.0) j.2.0 j.2.2 j.2.3 in
    subst (λ n. length (lane c.args.lane.0 (log_from c.self.inside.fresh.records)) < n) (sym c.self.invariant.fresh_room)
    (fresh_free c.self.invariant.setting (memory_of c.self.inside) c.self.invariant.past c.self.invariant.remembers c.args.lane.0 j.0 next.room)

pub invariant_of-self : goal.invariant_of-self
invariant_of-self c =
    let j : Judges c.self.inside.last c.self.inside.capacity c.self.inside.lanes.items c.self.inside.monitors.items c.self.inside.fields.items c.args.lane.0 c.args.«record» (Ok tt) =
    judged_by c.self.inside.last c.self.inside.capacity _ _ _ _ _ _ c.args.lane.0 c.args.«record» (Ok tt) c.deref.ensures.value c.deref-2.ensures.value c.deref-3.ensures.value (c.is_taken.ensures.0 c.if-is_taken.true) in
    let lanes : (with_items c.self.inside.lanes c.note_lane.new.lanes).items ≡ slice_set c.self.inside.lanes.items c.args.lane.0 (lane_after c.args.«record» (lane_in c.self.inside.lanes.items c.args.lane.0)) =
    with_items_is c.self.inside.lanes c.note_lane.new.lanes (c.note_lane.auto.lanes ∙ c.deref_mut.ensures.len) ∙ c.note_lane.ensures
    ∙ ap (λ (xs : List LaneState). slice_set xs c.args.lane.0 (lane_after c.args.«record» (lane_in xs c.args.lane.0))) c.deref_mut.ensures.value in
    let monitors : (with_items c.self.inside.monitors c.note_monitor.new.monitors).items ≡ monitors_after c.args.lane c.args.«record» c.self.inside.monitors.items =
    with_items_is c.self.inside.monitors c.note_monitor.new.monitors (c.note_monitor.auto.monitors ∙ c.deref_mut-then-is_taken.ensures.len) ∙ c.note_monitor.ensures
    ∙ ap (λ (xs : List MonitorState). monitors_after c.args.lane c.args.«record» xs) c.deref_mut-then-is_taken.ensures.value in
    let fields : (with_items c.self.inside.fields c.note_store.new.fields).items ≡ fields_after c.args.«record» c.self.inside.fields.items =
    with_items_is c.self.inside.fields c.note_store.new.fields (c.note_store.auto.fields ∙ c.deref_mut-then-is_taken-2.ensures.len) ∙ c.note_store.ensures
    ∙ ap (λ (xs : List FieldState). fields_after c.args.«record» xs) c.deref_mut-then-is_taken-2.ensures.value in
    let same : memory_after c.args.lane c.args.«record» (memory_of c.self.inside) ≡ record { last = c.self.inside.last; capacity = c.self.inside.capacity; lanes = (with_items c.self.inside.lanes c.note_lane.new.lanes).items; monitors = (with_items c.self.inside.monitors c.note_monitor.new.monitors).items; fields = (with_items c.self.inside.fields c.note_store.new.fields).items; fresh = c.push.new.self.records; dirty = c.self.inside.dirty } =
    λ i. record { last = c.self.inside.last; capacity = c.self.inside.capacity; lanes = sym lanes i; monitors = sym monitors i; fields = sym fields i; fresh = sym c.push.ensures.records i; dirty = c.self.inside.dirty } in
    record {
      setting = c.self.invariant.setting;
      past = after_apply c.self.invariant.past c.args.lane.0 c.args.«record»;
      remembers = subst (λ (m : Memory). Remembers c.self.invariant.setting m (after_apply c.self.invariant.past c.args.lane.0 c.args.«record»)) same
          (remembers_next c.self.invariant.setting (memory_of c.self.inside) c.self.invariant.past c.self.invariant.remembers c.args.lane c.args.«record» j.0 j.1 j.2.1);
      within = subst (λ (ls : List LaneState). (k : ℕ) → k < length ls → IsWithin c.self.inside.capacity (lane_in ls k)) (sym lanes)
          (all_within c.self.inside.capacity c.self.inside.last c.args.«record» c.self.inside.lanes.items c.args.lane.0 c.self.invariant.within j.0 j.2.0 j.2.2 j.2.3);
      fresh_lanes = c.push.ensures.lanes ∙ c.self.invariant.fresh_lanes ∙ sym (length-set c.self.inside.lanes.items c.args.lane.0 (lane_after c.args.«record» (lane_in c.self.inside.lanes.items c.args.lane.0))) ∙ ap (λ (xs : List LaneState). length xs) (sym lanes);
      fresh_room = c.push.ensures.room ∙ c.self.invariant.fresh_room;
      words = subst (λ (xs : List LaneRecord). FitWords (log_from xs)) (sym c.push.ensures.records)
          (subst FitWords (sym (log_snoc c.self.inside.fresh.records (record { lane = c.args.lane; «record» = c.args.«record» }))) (c.word_law.ensures, c.self.invariant.words));
    }

pub returns-then-is_taken : goal.returns-then-is_taken
returns-then-is_taken c = record {
  answer = λ s p was.
      subst (λ (m : Memory). Answers s m p c.args.lane.0 c.args.«record» (Ok tt)) c.self.view_is
      (answers_from s (memory_of c.self.inside) p (subst (λ (m : Memory). Remembers s m p) (sym c.self.view_is) was) c.args.lane.0 c.args.«record» (Ok tt)
      (judged_by c.self.inside.last c.self.inside.capacity _ _ _ _ _ _ c.args.lane.0 c.args.«record» (Ok tt) c.deref.ensures.value c.deref-2.ensures.value c.deref-3.ensures.value (c.is_taken.ensures.0 c.if-is_taken.true)));
  ok = λ s p was.
      let j : Judges c.self.inside.last c.self.inside.capacity c.self.inside.lanes.items c.self.inside.monitors.items c.self.inside.fields.items c.args.lane.0 c.args.«record» (Ok tt) =
      judged_by c.self.inside.last c.self.inside.capacity _ _ _ _ _ _ c.args.lane.0 c.args.«record» (Ok tt) c.deref.ensures.value c.deref-2.ensures.value c.deref-3.ensures.value (c.is_taken.ensures.0 c.if-is_taken.true) in
      let lanes : (with_items c.self.inside.lanes c.note_lane.new.lanes).items ≡ slice_set c.self.inside.lanes.items c.args.lane.0 (lane_after c.args.«record» (lane_in c.self.inside.lanes.items c.args.lane.0)) =
      with_items_is c.self.inside.lanes c.note_lane.new.lanes (c.note_lane.auto.lanes ∙ c.deref_mut.ensures.len) ∙ c.note_lane.ensures
      ∙ ap (λ (xs : List LaneState). slice_set xs c.args.lane.0 (lane_after c.args.«record» (lane_in xs c.args.lane.0))) c.deref_mut.ensures.value in
      let monitors : (with_items c.self.inside.monitors c.note_monitor.new.monitors).items ≡ monitors_after c.args.lane c.args.«record» c.self.inside.monitors.items =
      with_items_is c.self.inside.monitors c.note_monitor.new.monitors (c.note_monitor.auto.monitors ∙ c.deref_mut-then-is_taken.ensures.len) ∙ c.note_monitor.ensures
      ∙ ap (λ (xs : List MonitorState). monitors_after c.args.lane c.args.«record» xs) c.deref_mut-then-is_taken.ensures.value in
      let fields : (with_items c.self.inside.fields c.note_store.new.fields).items ≡ fields_after c.args.«record» c.self.inside.fields.items =
      with_items_is c.self.inside.fields c.note_store.new.fields (c.note_store.auto.fields ∙ c.deref_mut-then-is_taken-2.ensures.len) ∙ c.note_store.ensures
      ∙ ap (λ (xs : List FieldState). fields_after c.args.«record» xs) c.deref_mut-then-is_taken-2.ensures.value in
      let same : memory_after c.args.lane c.args.«record» (memory_of c.self.inside) ≡ record { last = c.self.inside.last; capacity = c.self.inside.capacity; lanes = (with_items c.self.inside.lanes c.note_lane.new.lanes).items; monitors = (with_items c.self.inside.monitors c.note_monitor.new.monitors).items; fields = (with_items c.self.inside.fields c.note_store.new.fields).items; fresh = c.push.new.self.records; dirty = c.self.inside.dirty } =
      λ i. record { last = c.self.inside.last; capacity = c.self.inside.capacity; lanes = sym lanes i; monitors = sym monitors i; fields = sym fields i; fresh = sym c.push.ensures.records i; dirty = c.self.inside.dirty } in
      subst (λ (m : Memory). Remembers s m (after_apply p c.args.lane.0 c.args.«record»)) same
      (remembers_next s (memory_of c.self.inside) p (subst (λ (m : Memory). Remembers s m p) (sym c.self.view_is) was) c.args.lane c.args.«record» j.0 j.1 j.2.1);
  err = tt;
  kept =
      let j : Judges c.self.inside.last c.self.inside.capacity c.self.inside.lanes.items c.self.inside.monitors.items c.self.inside.fields.items c.args.lane.0 c.args.«record» (Ok tt) =
      judged_by c.self.inside.last c.self.inside.capacity _ _ _ _ _ _ c.args.lane.0 c.args.«record» (Ok tt) c.deref.ensures.value c.deref-2.ensures.value c.deref-3.ensures.value (c.is_taken.ensures.0 c.if-is_taken.true) in
      let lanes : (with_items c.self.inside.lanes c.note_lane.new.lanes).items ≡ slice_set c.self.inside.lanes.items c.args.lane.0 (lane_after c.args.«record» (lane_in c.self.inside.lanes.items c.args.lane.0)) =
      with_items_is c.self.inside.lanes c.note_lane.new.lanes (c.note_lane.auto.lanes ∙ c.deref_mut.ensures.len) ∙ c.note_lane.ensures
      ∙ ap (λ (xs : List LaneState). slice_set xs c.args.lane.0 (lane_after c.args.«record» (lane_in xs c.args.lane.0))) c.deref_mut.ensures.value in
      let monitors : (with_items c.self.inside.monitors c.note_monitor.new.monitors).items ≡ monitors_after c.args.lane c.args.«record» c.self.inside.monitors.items =
      with_items_is c.self.inside.monitors c.note_monitor.new.monitors (c.note_monitor.auto.monitors ∙ c.deref_mut-then-is_taken.ensures.len) ∙ c.note_monitor.ensures
      ∙ ap (λ (xs : List MonitorState). monitors_after c.args.lane c.args.«record» xs) c.deref_mut-then-is_taken.ensures.value in
      let fields : (with_items c.self.inside.fields c.note_store.new.fields).items ≡ fields_after c.args.«record» c.self.inside.fields.items =
      with_items_is c.self.inside.fields c.note_store.new.fields (c.note_store.auto.fields ∙ c.deref_mut-then-is_taken-2.ensures.len) ∙ c.note_store.ensures
      ∙ ap (λ (xs : List FieldState). fields_after c.args.«record» xs) c.deref_mut-then-is_taken-2.ensures.value in
      let same : memory_after c.args.lane c.args.«record» (memory_of c.self.inside) ≡ record { last = c.self.inside.last; capacity = c.self.inside.capacity; lanes = (with_items c.self.inside.lanes c.note_lane.new.lanes).items; monitors = (with_items c.self.inside.monitors c.note_monitor.new.monitors).items; fields = (with_items c.self.inside.fields c.note_store.new.fields).items; fresh = c.push.new.self.records; dirty = c.self.inside.dirty } =
      λ i. record { last = c.self.inside.last; capacity = c.self.inside.capacity; lanes = sym lanes i; monitors = sym monitors i; fields = sym fields i; fresh = sym c.push.ensures.records i; dirty = c.self.inside.dirty } in
      subst (λ (m : Memory). KeepsLayout m (record { last = c.self.inside.last; capacity = c.self.inside.capacity; lanes = (with_items c.self.inside.lanes c.note_lane.new.lanes).items; monitors = (with_items c.self.inside.monitors c.note_monitor.new.monitors).items; fields = (with_items c.self.inside.fields c.note_store.new.fields).items; fresh = c.push.new.self.records; dirty = c.self.inside.dirty })) c.self.view_is
      (subst (λ (m : Memory). KeepsLayout (memory_of c.self.inside) m) same (keeps_after c.args.lane c.args.«record» (memory_of c.self.inside) j.0));
}

pub returns-else-is_taken : goal.returns-else-is_taken
returns-else-is_taken c = record {
  answer = λ s p was.
      answers_from s c.args.self.now p was c.args.lane.0 c.args.«record» (Err c.refusal.result)
      (subst (λ (r : Record). Judges c.args.self.now.last c.args.self.now.capacity c.args.self.now.lanes c.args.self.now.monitors c.args.self.now.fields c.args.lane.0 r (Err c.refusal.result)) c.again.ensures c.refusal.ensures);
  ok = λ s p was. tt;
  err = refl;
  kept = record { last = refl; capacity = refl; lanes = refl; objects = refl; fields = refl; starts = λ l. refl };
}
