use Rattle.std.proofs.Common.{◌≡◌, ◌∙◌, ◌≤◌, ◌+◌, ◌++◌, [], ◌∷◌, List, length, take, get_or, sym, ap, arith}
use Rattle.std.specs.Prelude.{slice_index}
use Rattle.std.specs.Int.{to_be_bytes, w64}
use Rattle.std.proofs.lemmas.List.{take_more}
use Rattle.std.proofs.lemmas.List.Elements.{All-more}
use Rattle.heap_model.specs.declared.ids.FieldId.{FieldId}
use Rattle.block_disk.specs.Device.{Device, written}
use Rattle.image_parts.specs.Calls.{after}
use Rattle.image_parts.specs.Cells.{HasCell}
use Rattle.image_parts.specs.Layout.{cell_at, size_of}
use Rattle.recover_heap.specs.Putting.{put_calls}
use Rattle.recover_heap.proofs.PuttingLemmas.{calls_more, put_follows, put_always, put_holds, put_size}
use Rattle.recover_heap.proofs.putting.put_back.Goals as goal

-- no field
abbrev none : FieldId
none = record { 0 = 0 }

pub returns-in_err-put_value-clause-any_moment : goal.returns-in_err-put_value-clause-any_moment
returns-in_err-put_value-clause-any_moment g c =
    put_follows c.args.layout.now c.args.undone.now c.loop-field.field-index none c.loop-field-test.true (g.D.Disk.device c.args.disk.now) (g.D.Disk.device c.loop-field.disk)
    (g.D.Disk.device c.put_value.new.disk) c.loop-field.invariant.crash c.put_value.ensures.any_moment c.loop-field.invariant.any_moment

pub loop-field-preserved : goal.loop-field-preserved
loop-field-preserved g c =
    let l = c.args.layout.now in
    let heap = c.args.heap.now in
    let fields : List FieldId = c.args.undone.now in
    let i = c.loop-field.field-index in
    let d0 = g.D.Disk.device c.args.disk.now in
    let d1 = g.D.Disk.device c.loop-field.disk in
    let d2 = g.D.Disk.device c.put_value.new.disk in
    let before = c.loop-field.invariant in
    let lt = c.loop-field-test.true in
    let f : FieldId = get_or fields i none in
    let fits : size_of l ≤ length d1.now.bytes = omega (arith, before.size, c.requires.fits) in
    let below = c.requires.fields i none lt in
    let done : d2 ≡ written (cell_at l f.0) (to_be_bytes w64 (slice_index heap f.0)) d1 = c.in_ok-put_value.ensures.written in
    let more : take (i + 1) fields ≡ take i fields ++ f ∷ [] = take_more fields i none lt in
    record {
      made = done ∙ ap (λ (d : Device). written (cell_at l f.0) (to_be_bytes w64 (slice_index heap f.0)) d) before.made
          ∙ sym (calls_more l heap (take i fields) f d0) ∙ ap (λ (xs : List FieldId). after (put_calls l heap xs) d0) (sym more);
      has = All-more (λ g. HasCell l g.0 d2.now.bytes (slice_index heap g.0)) fields i none lt (put_holds l heap (take i fields) f d1 d2 fits below done c.in_ok-put_value.ensures.ok before.has) c.in_ok-put_value.ensures.ok;
      size = put_size l heap f d1 d2 fits below done ∙ before.size;
      later = omega (arith, before.later, c.put_value.ensures.cause.later);
      crash = put_always l fields i none lt d0 d1 d2 before.crash c.put_value.ensures.any_moment;
      any_moment = put_follows l fields i none lt d0 d1 d2 before.crash c.put_value.ensures.any_moment before.any_moment;
    }
