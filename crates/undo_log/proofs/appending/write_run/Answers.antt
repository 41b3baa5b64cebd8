use Rattle.std.proofs.Common.{◌∙◌, ℕ, List, length, ap, subst, arith}
use Rattle.block_disk.specs.Device.{Range, Device, unit_ranges, written_units}
use Rattle.block_disk.specs.Images.{ImageBut, LeavesOnly}
use Rattle.block_disk.proofs.InUnits.{units_failures}
use Rattle.image_parts.specs.Layout.{record_at}
use Rattle.undo_log.proofs.AppendRuns.{run_ranges, run_written}
use Rattle.undo_log.proofs.appending.write_run.Goals as goal

pub returns-in_err-write_units-clause-any_moment : goal.returns-in_err-write_units-clause-any_moment
returns-in_err-write_units-clause-any_moment g c =
    let old : Device = g.D.Disk.device c.args.disk.now in
    let new : Device = g.D.Disk.device c.write_units.new.self in
    let n = length c.args.run.now in
    subst (λ (rs : List Range). LeavesOnly old new (ImageBut old rs)) (ap (unit_ranges n) c.record.ensures ∙ run_ranges c.args.layout.now c.args.lane.0 c.args.place n c.requires.in_area) c.write_units.ensures.any_moment

pub returns-clause-written : goal.returns-clause-written
returns-clause-written g c =
    let old : Device = g.D.Disk.device c.args.disk.now in
    let l = c.args.layout.now in
    let lane = c.args.lane.0 in
    let place = c.args.place in
    let run = c.args.run.now in
    c.in_ok-write_units.ensures.ok
    ∙ ap (λ (k : ℕ). written_units (length run) k c.encode_run.new.bytes old) c.record.ensures
    ∙ ap (λ (xs : List ℕ). written_units (length run) (record_at l lane place) xs old) c.encode_run.ensures
    ∙ run_written l lane place run old c.requires.in_area

pub returns-clause-any_moment : goal.returns-clause-any_moment
returns-clause-any_moment g c =
    let old : Device = g.D.Disk.device c.args.disk.now in
    let new : Device = g.D.Disk.device c.write_units.new.self in
    let n = length c.args.run.now in
    subst (λ (rs : List Range). LeavesOnly old new (ImageBut old rs)) (ap (unit_ranges n) c.record.ensures ∙ run_ranges c.args.layout.now c.args.lane.0 c.args.place n c.requires.in_area) c.write_units.ensures.any_moment

pub returns-clause-cause : goal.returns-clause-cause
returns-clause-cause g c =
    let old : Device = g.D.Disk.device c.args.disk.now in
    let same = ap (λ (d : Device). d.failures) c.in_ok-write_units.ensures.ok ∙ units_failures (length c.args.run.now) c.record.result c.encode_run.new.bytes old in
    record { later = omega (arith, same); failed = λ is. absurd cc }
