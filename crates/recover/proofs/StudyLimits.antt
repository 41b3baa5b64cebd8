-- The numbers of an image's study are within its limits.
use Rattle.std.proofs.Common.{ℕ, ◌≡◌, ◌+◌, ◌-◌, ◌<◌, ◌≤◌, ◌^◌, List, length, reverse, subst, arith, length-take}
use Rattle.std.proofs.lemmas.List.{get_or-take, length-reverse}
use Rattle.heap_model.specs.declared.record.UndoRecord.{UndoRecord}
use Rattle.image_parts.specs.Control.{AreRows}
use Rattle.image_parts.specs.Layout.{IsLayout}
use Rattle.image_parts.specs.Rows.{IsRow, empty_row}
use Rattle.undo_log.specs.StandsFor.{row_of}
use Rattle.recover_heap.specs.Logs.{records_of}
use Rattle.recover.specs.Fits.{StudyLimitsLaw, StudyNumbersLaw}

pub limits_of : StudyLimitsLaw
limits_of image s is = is.holds.control.front.layout.header.limits

section_fits : (kept settled start logged records capacity : ℕ) → start ≤ settled → settled ≤ logged → logged ≤ 2 ^ 63 → kept ≤ settled → logged - start ≤ capacity → capacity ≤ 1048576 →
    start + records ≡ logged → kept + records + 1 < 2 ^ 64
section_fits kept settled start logged records capacity a b c d e f g = omega arith

pub fits_of : StudyNumbersLaw
fits_of image s is =
    let limits : IsLayout s.layout = limits_of image s is in
    let rows : AreRows s.layout s.control.rows = is.holds.control.shows.spells.valid.rows in
    record {
      lanes = limits.lanes.1;
      sections = λ l lt.
          let row : IsRow s.layout.capacity (row_of s.control.rows l) =
          subst (IsRow s.layout.capacity) (get_or-take s.layout.lanes s.control.rows l empty_row lt) (rows.lanes l empty_row (omega (arith, length-take s.layout.lanes s.control.rows, rows.size, limits.lanes.1))) in
          let span = is.holds.logs.live.live l lt in
          let records : List UndoRecord = records_of s.records.items l in
          section_fits (row_of s.control.rows l).kept (row_of s.control.rows l).settled (row_of s.control.rows l).start (row_of s.control.rows l).logged (length records) s.layout.capacity
          row.settled row.logged row.limit row.kept row.fits limits.capacity.1
          (omega (arith, span.size, length-reverse (reverse records), length-reverse records));
    }
