use Rattle.std.proofs.Common.{◌≡◌, ◌*◌, length, take}
use Rattle.undo_log.specs.RecordBytes.{run_bytes}
use Rattle.undo_log.proofs.appending.encode_run.Given as goal

abbrev pub invariant-loop-i : goal.invariant-loop-i
invariant-loop-i l = record {
  long : length l.bytes ≡ 16 * length l.run;
  done : take (16 * l.i) l.bytes ≡ run_bytes (take l.i l.run);
}
