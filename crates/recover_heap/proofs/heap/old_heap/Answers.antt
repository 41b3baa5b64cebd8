use Rattle.std.proofs.Common.{ℕ, ◌≡◌, ◌≢◌, ◌<◌, ◌↔◌, ◌∙◌, List, Option, None, length, sym, ap, subst, arith, slice_index}
use Rattle.std.specs.Prelude.{slice_index_or}
use Rattle.heap_model.specs.declared.record.UndoRecord.{UndoRecord}
use Rattle.image_parts.specs.Cells.{HasHome}
use Rattle.undo_log.specs.StandsFor.{guard_in, row_in, settled_of}
use Rattle.recover_heap.specs.Heap.{first_old, IsOldOrHome, IsUndone}
use Rattle.recover_heap.specs.Logs.{lanes_of, logged_guard_in}
use Rattle.recover_logs.specs.Tables.{log_of}
use Rattle.recover_heap.proofs.HomeLemmas.{logged_agrees}
use Rattle.recover_heap.proofs.HeapLemmas.{takes_back, undone_is, fields_as}
use Rattle.recover_heap.proofs.heap.old_heap.Goals as goal

pub returns-clause-takes : goal.returns-clause-takes
returns-clause-takes g c = λ f lt.
    let settled : ℕ → ℕ = settled_of c.args.rows.now in
    let IsHome : ℕ → Type 0 = HasHome c.args.layout.now (row_in c.args.guards.now f) f (g.D.Disk.device c.args.disk.now).now.bytes in
    let v : ℕ = slice_index c.in_ok-heap.heap.items f in
    let old : slice_index_or c.deref-2.result.now f None ≡ first_old settled f (log_of c.args.steps.now) = ap (λ (xs : List (Option ℕ)). slice_index_or xs f None) c.deref-2.ensures.value ∙ c.in_ok-before.ensures.each f lt in
    takes_back (logged_guard_in c.args.guards.now) (guard_in c.args.guards.now) (logged_agrees c.args.guards.now) settled (lanes_of c.args.logs.now) (log_of c.args.steps.now) f v IsHome c.requires.replayed
    (subst (λ (w : Option ℕ). IsOldOrHome w IsHome v) old (c.in_ok-heap.ensures.each f lt))

pub returns-clause-undone : goal.returns-clause-undone
returns-clause-undone g c =
    let guard : ℕ → ℕ = guard_in c.args.guards.now in
    let lanes : ℕ → List UndoRecord = lanes_of c.args.logs.now in
    let settled : ℕ → ℕ = settled_of c.args.rows.now in
    let n : ℕ = c.args.layout.now.fields in
    let before : List (Option ℕ) = c.deref.result.now in
    let long : length before ≡ n = ap (λ (xs : List (Option ℕ)). length xs) c.deref.ensures.value ∙ c.in_ok-before.ensures.size in
    let old : (f : ℕ) → f < n → slice_index_or before f None ≡ first_old settled f (log_of c.args.steps.now) = (λ f lt. ap (λ (xs : List (Option ℕ)). slice_index_or xs f None) c.deref.ensures.value ∙ c.in_ok-before.ensures.each f lt) in
    let one : (f : ℕ) → (first_old settled f (log_of c.args.steps.now) ≢ None) ↔ IsUndone (guard f) f lanes settled = (λ f. undone_is (logged_guard_in c.args.guards.now) guard (logged_agrees c.args.guards.now) settled lanes (log_of c.args.steps.now) f c.requires.replayed) in
    fields_as (λ (f : ℕ). (f < length before) × (slice_index_or before f None ≢ None)) (λ (f : ℕ). (f < n) × IsUndone (guard f) f lanes settled) c.in_ok-undone.undone.items
    (λ f. (
      (λ h. let lt : f < n = omega (arith, h.0) in (lt, (one f).0 (subst (λ (w : Option ℕ). w ≢ None) (old f lt) h.1))),
      (λ h. (omega (arith, h.0), subst (λ (w : Option ℕ). w ≢ None) (sym (old f h.0)) ((one f).1 h.1))),
    ))
    c.in_ok-undone.ensures.ok
