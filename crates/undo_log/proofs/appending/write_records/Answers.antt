use Rattle.std.proofs.Common.{◌≡◌, ◌+◌, ◌-◌, ◌≤◌, ◌∙◌, ℕ, List, length, take, drop, sym, ap, subst, arith, length-take, length-drop}
use Rattle.std.proofs.lemmas.List.{take_all}
use Rattle.heap_model.specs.declared.record.UndoRecord.{UndoRecord}
use Rattle.block_disk.specs.Device.{Device}
use Rattle.block_disk.specs.Images.{ImageBut, LeavesOnly}
use Rattle.image_parts.specs.Calls.{after}
use Rattle.image_parts.specs.declared.layout.Layout.{Layout}
use Rattle.undo_log.specs.Area.{HasRecords, record_ranges, record_writes}
use Rattle.undo_log.proofs.AppendRuns.{take_both, writes_append, run_follows, run_always, written_there}
use Rattle.undo_log.proofs.appending.write_records.Goals as goal

-- the records of a run
cut_is : (i k : ℕ) (xs : List UndoRecord) → take (i + k - i) (drop i xs) ≡ take k (drop i xs)
cut_is i k xs = let e : i + k - i ≡ k = omega arith in ap (λ (n : ℕ). take n (drop i xs)) e

cut_long : (i k : ℕ) (xs : List UndoRecord) → i + k ≤ length xs → length (take (i + k - i) (drop i xs)) ≡ k
cut_long i k xs le = omega (arith, length-take (i + k - i) (drop i xs), length-drop i xs)

-- their places
of_run : (l : Layout) (lane place i k : ℕ) (xs : List UndoRecord) (old new : Device) → i + k ≤ length xs → LeavesOnly old new (ImageBut old (record_ranges l lane place (length (take (i + k - i) (drop i xs)))))
    → LeavesOnly old new (ImageBut old (record_ranges l lane place k))
of_run l lane place i k xs old new le = subst (λ (n : ℕ). LeavesOnly old new (ImageBut old (record_ranges l lane place n))) (cut_long i k xs le)

pub returns-in_err-write_run-clause-any_moment : goal.returns-in_err-write_run-clause-any_moment
returns-in_err-write_run-clause-any_moment g c =
    let l = c.args.layout.now in
    let i = c.loop-done.done in
    let k = c.run_length-count.result in
    let records = c.args.records.now in
    let d0 : Device = g.D.Disk.device c.args.disk.now in
    let d1 : Device = g.D.Disk.device c.loop-done.disk in
    let d2 : Device = g.D.Disk.device c.write_run.new.disk in
    let le : i + k ≤ length records = omega (arith, c.loop-done-test.true, c.run_length-count.ensures.within) in
    run_follows l c.args.lane.0 c.args.place (length records) i k d0 d1 d2 le c.loop-done.invariant.crash c.loop-done.invariant.any_moment
    (of_run l c.args.lane.0 (c.args.place + i) i k records d1 d2 le c.write_run.ensures.any_moment)

pub returns-in_err-write_run-clause-crash : goal.returns-in_err-write_run-clause-crash
returns-in_err-write_run-clause-crash g c =
    let l = c.args.layout.now in
    let i = c.loop-done.done in
    let k = c.run_length-count.result in
    let records = c.args.records.now in
    let d0 : Device = g.D.Disk.device c.args.disk.now in
    let d1 : Device = g.D.Disk.device c.loop-done.disk in
    let d2 : Device = g.D.Disk.device c.write_run.new.disk in
    let le : i + k ≤ length records = omega (arith, c.loop-done-test.true, c.run_length-count.ensures.within) in
    run_always l c.args.lane.0 c.args.place (length records) i k d0 d1 d2 le c.loop-done.invariant.crash
    (of_run l c.args.lane.0 (c.args.place + i) i k records d1 d2 le c.write_run.ensures.any_moment)

pub loop-done-preserved : goal.loop-done-preserved
loop-done-preserved g c =
    let l = c.args.layout.now in
    let lane = c.args.lane.0 in
    let place = c.args.place in
    let i = c.loop-done.done in
    let k = c.run_length-count.result in
    let records = c.args.records.now in
    let d0 : Device = g.D.Disk.device c.args.disk.now in
    let d1 : Device = g.D.Disk.device c.loop-done.disk in
    let d2 : Device = g.D.Disk.device c.write_run.new.disk in
    let le : i + k ≤ length records = omega (arith, c.loop-done-test.true, c.run_length-count.ensures.within) in
    let xs : List UndoRecord = take i records in
    let ys : List UndoRecord = take k (drop i records) in
    let long : length xs ≡ i = omega (arith, length-take i records, c.loop-done.invariant.within) in
    let one = of_run l lane (place + i) i k records d1 d2 le c.write_run.ensures.any_moment in
    record {
      within = le;
      made = c.in_ok-write_run.ensures.written
          ∙ ap (λ (zs : List UndoRecord). after (record_writes l lane (place + i) zs) d1) (cut_is i k records)
          ∙ ap (λ (n : ℕ). after (record_writes l lane (place + n) ys) d1) (sym long)
          ∙ ap (λ (d : Device). after (record_writes l lane (place + length xs) ys) d) c.loop-done.invariant.made
          ∙ sym (writes_append l lane place xs ys d0)
          ∙ ap (λ (zs : List UndoRecord). after (record_writes l lane place zs) d0) (sym (take_both i k records));
      crash = run_always l lane place (length records) i k d0 d1 d2 le c.loop-done.invariant.crash one;
      any_moment = run_follows l lane place (length records) i k d0 d1 d2 le c.loop-done.invariant.crash c.loop-done.invariant.any_moment one;
      later = omega (arith, c.loop-done.invariant.later, c.write_run.ensures.cause.later);
    }

pub returns-clause-ok : goal.returns-clause-ok
returns-clause-ok g c =
    let l = c.args.layout.now in
    let lane = c.args.lane.0 in
    let place = c.args.place in
    let records = c.args.records.now in
    let d0 : Device = g.D.Disk.device c.args.disk.now in
    let all : take (length records) records ≡ records = take_all (length records) records (omega arith) in
    let done : take c.loop-done.done records ≡ records = take_all c.loop-done.done records (omega (arith, c.loop-done-test.false)) in
    let made = c.loop-done.invariant.made ∙ ap (λ (zs : List UndoRecord). after (record_writes l lane place zs) d0) done in
    subst (λ (d : Device). HasRecords l lane place d.now.bytes records) (sym made)
    (subst (λ (zs : List UndoRecord). HasRecords l lane place (after (record_writes l lane place zs) d0).now.bytes zs) all
    (written_there l c.requires.limits lane c.requires.lane place d0 records (length records) c.requires.fits c.requires.few c.requires.records (omega arith)))
