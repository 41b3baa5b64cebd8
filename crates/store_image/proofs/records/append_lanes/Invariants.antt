use Rattle.std.proofs.Common.{◌≤◌, ◌≡◌, length}
use Rattle.block_disk.specs.Images.{Always, ImageBut, LeavesOnly}
use Rattle.store_image.specs.NewRecords.{HasFresh, fresh_ranges}
use Rattle.store_image.proofs.records.append_lanes.Given as goal

-- the new records of the lanes so far stand there, and each image is one from before but for spare places
abbrev pub invariant-loop-lane : goal.invariant-loop-lane
invariant-loop-lane g l = record {
  fresh : HasFresh l.layout l.rows (g.F.NewRecords.fresh l.fresh) l.lane (g.D.Disk.device l.initial.disk).now.bytes (g.D.Disk.device l.disk).now.bytes;
  size : length (g.D.Disk.device l.disk).now.bytes ≡ length (g.D.Disk.device l.initial.disk).now.bytes;
  crash : Always (g.D.Disk.device l.disk) (ImageBut (g.D.Disk.device l.initial.disk) (fresh_ranges l.layout l.rows (g.F.NewRecords.fresh l.fresh) l.layout.lanes));
  any_moment : LeavesOnly (g.D.Disk.device l.initial.disk) (g.D.Disk.device l.disk) (ImageBut (g.D.Disk.device l.initial.disk) (fresh_ranges l.layout l.rows (g.F.NewRecords.fresh l.fresh) l.layout.lanes));
  later : (g.D.Disk.device l.initial.disk).failures ≤ (g.D.Disk.device l.disk).failures;
}
