use Rattle.std.proofs.Common.{ℕ, ◌<◌, All, List, subst, sym, refl}
use Rattle.std.specs.Prelude.{slice_index}
use Rattle.heap_model.specs.declared.ids.FieldId.{FieldId}
use Rattle.block_disk.specs.Images.{ImageBut, LeavesOnly}
use Rattle.image_parts.specs.Cells.{HasCell}
use Rattle.recover_heap.specs.Putting.{cell_ranges}
use Rattle.recover.proofs.SurvivalLemmas.{undone_below}
use Rattle.recover.proofs.FinishLemmas.{put_on_the_way, put_shows, end_on_the_way, end_recovers}
use Rattle.recover.proofs.recovering.finish.Goals as goal

pub put_back-requires-clause-fields : goal.put_back-requires-clause-fields
put_back-requires-clause-fields g c =
    let s = c.args.found.now.study in
    subst (λ (fs : List FieldId). All (λ f. f.0 < s.layout.fields) fs) (sym c.deref-2.ensures.value) (undone_below s c.args.found.now.undone.items c.requires.undone)

pub returns-in_err-put_back-clause-any_moment : goal.returns-in_err-put_back-clause-any_moment
returns-in_err-put_back-clause-any_moment g c =
    let s = c.args.found.now.study in
    let old = g.D.Disk.device c.args.disk.now in
    let mid = g.D.Disk.device c.put_back.new.disk in
    put_on_the_way s c.args.found.now.undone.items c.requires.undone old mid c.requires.durable c.requires.study
    (subst (λ (fs : List FieldId). LeavesOnly old mid (ImageBut old (cell_ranges s.layout fs))) c.deref-2.ensures.value c.put_back.ensures.any_moment)

pub end_recovery-requires-clause-shows : goal.end_recovery-requires-clause-shows
end_recovery-requires-clause-shows g c =
    let s = c.args.found.now.study in
    let old = g.D.Disk.device c.args.disk.now in
    let mid = g.D.Disk.device c.put_back.new.disk in (
      s.control,
      refl,
      put_shows s c.args.found.now.undone.items c.requires.undone old mid c.requires.durable c.requires.study
          (subst (λ (fs : List FieldId). LeavesOnly old mid (ImageBut old (cell_ranges s.layout fs))) c.deref-2.ensures.value c.put_back.ensures.any_moment),
    )

pub returns-in_err-end_recovery-clause-any_moment : goal.returns-in_err-end_recovery-clause-any_moment
returns-in_err-end_recovery-clause-any_moment g c =
    let s = c.args.found.now.study in
    let old = g.D.Disk.device c.args.disk.now in
    let mid = g.D.Disk.device c.put_back.new.disk in
    let puts : LeavesOnly old mid (ImageBut old (cell_ranges s.layout c.args.found.now.undone.items)) =
    subst (λ (fs : List FieldId). LeavesOnly old mid (ImageBut old (cell_ranges s.layout fs))) c.deref-2.ensures.value c.put_back.ensures.any_moment in
    let put = subst (λ (heap : List ℕ). All (λ f. HasCell s.layout f.0 mid.now.bytes (slice_index heap f.0)) c.args.found.now.undone.items) c.deref.ensures.value
    (subst (λ (fs : List FieldId). All (λ f. HasCell s.layout f.0 mid.now.bytes (slice_index c.deref.result.now f.0)) fs) c.deref-2.ensures.value c.in_ok-put_back.ensures.ok) in
    end_on_the_way s c.args.found.now.undone.items c.requires.undone old mid c.requires.durable c.requires.study puts (g.D.Disk.device c.end_recovery.new.disk) put
    (c.end_recovery.ensures.any_moment s.control refl (put_shows s c.args.found.now.undone.items c.requires.undone old mid c.requires.durable c.requires.study puts))

pub returns-clause-ok : goal.returns-clause-ok
returns-clause-ok g c =
    let s = c.args.found.now.study in
    let old = g.D.Disk.device c.args.disk.now in
    let mid = g.D.Disk.device c.put_back.new.disk in
    let puts : LeavesOnly old mid (ImageBut old (cell_ranges s.layout c.args.found.now.undone.items)) =
    subst (λ (fs : List FieldId). LeavesOnly old mid (ImageBut old (cell_ranges s.layout fs))) c.deref-2.ensures.value c.put_back.ensures.any_moment in
    let put = subst (λ (heap : List ℕ). All (λ f. HasCell s.layout f.0 mid.now.bytes (slice_index heap f.0)) c.args.found.now.undone.items) c.deref.ensures.value
    (subst (λ (fs : List FieldId). All (λ f. HasCell s.layout f.0 mid.now.bytes (slice_index c.deref.result.now f.0)) fs) c.deref-2.ensures.value c.in_ok-put_back.ensures.ok) in
    end_recovers s c.args.found.now.undone.items c.requires.undone old mid c.requires.durable c.requires.study puts (g.D.Disk.device c.end_recovery.new.disk) put
    (c.end_recovery.ensures.any_moment s.control refl (put_shows s c.args.found.now.undone.items c.requires.undone old mid c.requires.durable c.requires.study puts))
    c.in_ok-end_recovery.ensures.durable c.in_ok-end_recovery.ensures.ok

pub returns-clause-any_moment : goal.returns-clause-any_moment
returns-clause-any_moment g c =
    let s = c.args.found.now.study in
    let old = g.D.Disk.device c.args.disk.now in
    let mid = g.D.Disk.device c.put_back.new.disk in
    let puts : LeavesOnly old mid (ImageBut old (cell_ranges s.layout c.args.found.now.undone.items)) =
    subst (λ (fs : List FieldId). LeavesOnly old mid (ImageBut old (cell_ranges s.layout fs))) c.deref-2.ensures.value c.put_back.ensures.any_moment in
    let put = subst (λ (heap : List ℕ). All (λ f. HasCell s.layout f.0 mid.now.bytes (slice_index heap f.0)) c.args.found.now.undone.items) c.deref.ensures.value
    (subst (λ (fs : List FieldId). All (λ f. HasCell s.layout f.0 mid.now.bytes (slice_index c.deref.result.now f.0)) fs) c.deref-2.ensures.value c.in_ok-put_back.ensures.ok) in
    end_on_the_way s c.args.found.now.undone.items c.requires.undone old mid c.requires.durable c.requires.study puts (g.D.Disk.device c.end_recovery.new.disk) put
    (c.end_recovery.ensures.any_moment s.control refl (put_shows s c.args.found.now.undone.items c.requires.undone old mid c.requires.durable c.requires.study puts))
