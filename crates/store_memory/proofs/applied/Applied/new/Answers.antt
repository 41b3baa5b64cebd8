use Rattle.std.proofs.Common.{◌≡◌, List, length, replicate, refl, sym, ◌∙◌, subst}
use Rattle.heap_model.specs.declared.record.LaneRecord.{LaneRecord}
use Rattle.heap_model.specs.Log.{log_from}
use Rattle.store_memory.specs.Limits.{FitWords}
use Rattle.heap_model.specs.Past.{no_past}
use Rattle.store_memory.specs.Memory.{Memory, new_monitor, new_lane}
use Rattle.store_memory.proofs.Begins.{setting_of, setting_is, begins, within_none, start_none}
use Rattle.store_memory.proofs.applied.Applied.new.Goals as goal

pub invariant_of-result : goal.invariant_of-result
invariant_of-result c =
    let lanes : c.in_ok-vec.field-0.items ≡ replicate c.args.lanes new_lane = c.in_ok-vec.ensures.items_if_clones_equal (λ y h. h) in
    let monitors : c.in_ok-vec-2.field-0.items ≡ replicate c.args.objects new_monitor = c.in_ok-vec-2.ensures.items_if_clones_equal (λ y h. h) in
    let memory : Memory = record { last = c.args.last; capacity = c.args.capacity; lanes = c.in_ok-vec.field-0.items; monitors = c.in_ok-vec-2.field-0.items; fields = c.args.fields.items; fresh = c.in_ok-new.field-0.records; dirty = c.in_ok-new-2.field-0 } in
    let lane_count : length c.in_ok-vec.field-0.items ≡ c.args.lanes = sym c.in_ok-vec.field-0.ok.0 ∙ c.in_ok-vec.ensures.len in
    let objects : length c.in_ok-vec-2.field-0.items ≡ c.args.objects = sym c.in_ok-vec-2.field-0.ok.0 ∙ c.in_ok-vec-2.ensures.len in
    record {
      setting = setting_of c.args.objects c.args.fields.items c.args.last;
      past = no_past;
      remembers = begins c.args.objects c.args.lanes c.args.last (setting_of c.args.objects c.args.fields.items c.args.last) memory
          (setting_is c.args.objects c.args.fields.items c.args.last) c.requires.guards c.requires.home refl monitors lanes
          c.in_ok-new.ensures.empty (c.in_ok-new-2.ensures.fields ∙ c.len-count.ensures ∙ c.args.fields.ok.0) c.in_ok-new-2.ensures.clean objects lane_count;
      within = within_none c.args.capacity c.args.lanes c.in_ok-vec.field-0.items lanes lane_count;
      fresh_lanes = c.in_ok-new.ensures.lanes ∙ sym lane_count;
      fresh_room = c.in_ok-new.ensures.room;
      words = subst (λ (xs : List LaneRecord). FitWords (log_from xs)) (sym c.in_ok-new.ensures.empty) tt;
    }

pub returns-clause-remembers : goal.returns-clause-remembers
returns-clause-remembers c = λ s are.
    let lanes : c.in_ok-vec.field-0.items ≡ replicate c.args.lanes new_lane = c.in_ok-vec.ensures.items_if_clones_equal (λ y h. h) in
    let monitors : c.in_ok-vec-2.field-0.items ≡ replicate c.args.objects new_monitor = c.in_ok-vec-2.ensures.items_if_clones_equal (λ y h. h) in
    let memory : Memory = record { last = c.args.last; capacity = c.args.capacity; lanes = c.in_ok-vec.field-0.items; monitors = c.in_ok-vec-2.field-0.items; fields = c.args.fields.items; fresh = c.in_ok-new.field-0.records; dirty = c.in_ok-new-2.field-0 } in
    let lane_count : length c.in_ok-vec.field-0.items ≡ c.args.lanes = sym c.in_ok-vec.field-0.ok.0 ∙ c.in_ok-vec.ensures.len in
    let objects : length c.in_ok-vec-2.field-0.items ≡ c.args.objects = sym c.in_ok-vec-2.field-0.ok.0 ∙ c.in_ok-vec-2.ensures.len in
    begins c.args.objects c.args.lanes c.args.last s memory are c.requires.guards c.requires.home refl monitors lanes
    c.in_ok-new.ensures.empty (c.in_ok-new-2.ensures.fields ∙ c.len-count.ensures ∙ c.args.fields.ok.0) c.in_ok-new-2.ensures.clean objects lane_count

pub returns-clause-starts : goal.returns-clause-starts
returns-clause-starts c = start_none c.args.lanes c.in_ok-vec.field-0.items (c.in_ok-vec.ensures.items_if_clones_equal (λ y h. h)) (sym c.in_ok-vec.field-0.ok.0 ∙ c.in_ok-vec.ensures.len)
