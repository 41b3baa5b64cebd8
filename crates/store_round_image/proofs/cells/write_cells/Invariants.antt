use Rattle.std.proofs.Common.{ℕ, ◌≤◌, ◌<◌, get_or}
use Rattle.std.specs.Prelude.{All}
use Rattle.block_disk.specs.Device.{SameOutside}
use Rattle.block_disk.specs.Images.{Always, ImageBut, LeavesOnly}
use Rattle.image_parts.specs.Cells.{HasCell}
use Rattle.store_round_image.specs.Turning.{IsValueIn, cell_ranges}
use Rattle.store_round_image.specs.declared.cells.HomeValue.{HomeValue}
use Rattle.store_round_image.proofs.cells.write_cells.Given as goal

-- the cells so far have their values, and nothing but cells has changed
abbrev pub invariant-loop-cell : goal.invariant-loop-cell
invariant-loop-cell g l = record {
  has : (heap : ℕ → ℕ) → All (IsValueIn l.layout heap) l.cells → (k : ℕ) (d : HomeValue) → k < l.cell-index → HasCell l.layout (get_or l.cells k d).field.0 (g.D.Disk.device l.disk).now.bytes (heap (get_or l.cells k d).field.0);
  same : SameOutside (cell_ranges l.layout l.cells) (g.D.Disk.device l.initial.disk).now.bytes (g.D.Disk.device l.disk).now.bytes;
  crash : Always (g.D.Disk.device l.disk) (ImageBut (g.D.Disk.device l.initial.disk) (cell_ranges l.layout l.cells));
  any_moment : LeavesOnly (g.D.Disk.device l.initial.disk) (g.D.Disk.device l.disk) (ImageBut (g.D.Disk.device l.initial.disk) (cell_ranges l.layout l.cells));
  later : (g.D.Disk.device l.initial.disk).failures ≤ (g.D.Disk.device l.disk).failures;
}
