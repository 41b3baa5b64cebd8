use Rattle.std.proofs.Common.{◌≡◌, ◌+◌, ◌*◌, ◌<◌, ◌≤◌, ◌++◌, ◌∙◌, ℕ, List, length, take, get_or, sym, ap, arith}
use Rattle.std.proofs.lemmas.List.{take_more}
use Rattle.block_disk.specs.Bytes.{spliced}
use Rattle.block_disk.proofs.Bytes.{length_spliced}
use Rattle.heap_model.specs.declared.record.UndoRecord.{UndoRecord}
use Rattle.heap_model.specs.declared.record.UndoRecord.TheVariants.{Acq}
use Rattle.undo_log.specs.RecordBytes.{record_bytes, run_bytes}
use Rattle.undo_log.proofs.AppendRuns.{run_more, run_spliced}
use Rattle.undo_log.proofs.appending.encode_run.Goals as goal

-- nothing is written
abbrev none : UndoRecord
none = Acq (record { 0 = 0 }) 0

pub loop-i-preserved : goal.loop-i-preserved
loop-i-preserved c =
    let i = c.loop-i.i in
    let run = c.args.run.now in
    let bytes : List ℕ = c.loop-i.bytes in
    let less : i < length run = c.loop-i-test.true in
    let r : UndoRecord = get_or run i none in
    let now : c.overwrite.new.image ≡ spliced bytes (16 * i) (record_bytes r) = c.overwrite.ensures ∙ ap (λ (xs : List ℕ). spliced bytes (16 * i) xs) c.encode_record.ensures in
    let fits : 16 * i + 16 ≤ length bytes = omega (arith, c.loop-i.invariant.long) in
    let to : 16 * (i + 1) ≡ 16 * i + 16 = omega arith in
    record {
      long = ap (λ (xs : List ℕ). length xs) now ∙ length_spliced bytes (record_bytes r) (16 * i) fits ∙ c.loop-i.invariant.long;
      done = ap (λ (xs : List ℕ). take (16 * (i + 1)) xs) now ∙ run_spliced bytes (16 * i) (16 * (i + 1)) r to fits
          ∙ ap (λ (xs : List ℕ). xs ++ record_bytes r) c.loop-i.invariant.done ∙ sym (run_more (take i run) r)
          ∙ ap run_bytes (sym (take_more run i none less));
    }
