use Rattle.std.proofs.Common.{ℕ, ◌≡◌, ◌<◌, ◌≤◌, length}
use Rattle.std.specs.Prelude.{vec_capacity}
use Rattle.block_disk.specs.Device.{SameMoments}
use Rattle.undo_log.specs.Area.{HasSpan}
use Rattle.undo_log.specs.StandsFor.{row_of}
use Rattle.recover_heap.specs.Logs.{records_of}
use Rattle.recover.proofs.logs.read_logs.Given as goal

abbrev pub invariant-loop-lane : goal.invariant-loop-lane
invariant-loop-lane g l = record {
  count : length l.logs.items ≡ l.lane;
  within : l.lane ≤ l.layout.lanes;
  room : l.layout.lanes ≤ vec_capacity l.logs;
  read : (m : ℕ) → m < l.lane → HasSpan l.layout m (row_of l.rows m).start (row_of l.rows m).logged (g.D.Disk.device l.initial.disk).now.bytes (records_of l.logs.items m);
  same : SameMoments (g.D.Disk.device l.initial.disk) (g.D.Disk.device l.disk);
  later : (g.D.Disk.device l.initial.disk).failures ≤ (g.D.Disk.device l.disk).failures;
}
