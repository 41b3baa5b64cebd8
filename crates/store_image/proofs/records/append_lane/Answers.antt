use Rattle.std.proofs.Common.{◌≡◌, List, [], length, refl, sym, ◌∙◌, subst}
use Rattle.std.proofs.lemmas.Bool.{eqb-true}
use Rattle.heap_model.specs.declared.record.UndoRecord.{UndoRecord}
use Rattle.block_disk.specs.Images.{ImageBut}
use Rattle.block_disk.proofs.Images.{begin}
use Rattle.image_parts.specs.Calls.{after}
use Rattle.undo_log.specs.Area.{HasRecords, record_ranges, record_writes}
use Rattle.store_image.proofs.Stands.{empty}
use Rattle.store_image.proofs.records.append_lane.Goals as goal

-- with no records no place is written
pub returns-then-is_empty-clause-written : goal.returns-then-is_empty-clause-written
returns-then-is_empty-clause-written g c =
    let none : c.args.records.now ≡ [] = empty c.args.records.now (eqb-true (length c.args.records.now) 0 (sym c.is_empty.ensures ∙ c.if-is_empty.true)) in
    let d = g.D.Disk.device c.args.disk.now in
    subst (λ (xs : List UndoRecord). d ≡ after (record_writes c.args.layout.now c.args.lane.0 c.args.row.now.logged xs) d) (sym none) refl

pub returns-then-is_empty-clause-ok : goal.returns-then-is_empty-clause-ok
returns-then-is_empty-clause-ok g c =
    let none : c.args.records.now ≡ [] = empty c.args.records.now (eqb-true (length c.args.records.now) 0 (sym c.is_empty.ensures ∙ c.if-is_empty.true)) in
    subst (HasRecords c.args.layout.now c.args.lane.0 c.args.row.now.logged (g.D.Disk.device c.args.disk.now).now.bytes) (sym none) tt

pub returns-then-is_empty-clause-any_moment : goal.returns-then-is_empty-clause-any_moment
returns-then-is_empty-clause-any_moment g c =
    let d = g.D.Disk.device c.args.disk.now in
    begin d (ImageBut d (record_ranges c.args.layout.now c.args.lane.0 c.args.row.now.logged (length c.args.records.now)))
