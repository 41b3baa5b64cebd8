use Rattle.std.proofs.Common.{List, ◌<◌, ◌≤◌, length, sym, subst, arith, Vec, Global}
use Rattle.heap_model.specs.declared.record.UndoRecord.{UndoRecord}
use Rattle.undo_log.specs.StandsFor.{guard_in, settled_of}
use Rattle.recover_heap.specs.Heap.{IsUndone}
use Rattle.recover_heap.specs.Logs.{AreLoggable, lanes_of}
use Rattle.recover.proofs.ReadingLemmas.{logs_loggable}
use Rattle.recover.proofs.StudyLemmas.{few_fields}
use Rattle.recover.proofs.studying.report_on.Goals as goal

pub dropped_sections-requires-clause-logs : goal.dropped_sections-requires-clause-logs
dropped_sections-requires-clause-logs c =
    let image = c.args.image.now in
    let holds = c.requires.holds in
    subst (λ (logs : List (Vec UndoRecord Global)). AreLoggable image.layout image.control.rows logs) (sym c.deref-2.ensures.value)
    (logs_loggable image.layout holds.0 image.control.rows image.records.items holds.1.logs)

pub overflow_cast-result : goal.overflow_cast-result
overflow_cast-result c =
    let image = c.args.image.now in
    let limits = c.requires.holds.1.control.front.layout.header.limits in
    let few : length c.args.undone.now ≤ image.layout.fields =
    few_fields image.layout.fields (λ f. (f < image.layout.fields) × IsUndone (guard_in image.guards.items f) f (lanes_of image.records.items) (settled_of image.control.rows)) c.args.undone.now
    c.requires.undone (λ f such. such.0) in
    omega (arith, few, limits.fields)
