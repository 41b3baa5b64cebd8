-- A sector that a device has lies within it.
use Rattle.std.proofs.Common.{ℕ, ◌+◌, ◌*◌, ◌<◌, ◌≤◌, arith}
use Rattle.disk_sectors.specs.declared.size.SectorSize.{SectorSize}
use Rattle.disk_sectors.specs.declared.size.SectorSize.TheVariants.{Bytes512, Bytes4096}
use Rattle.disk_sectors.specs.Size.{bytes_in, place_of}

pub lies_in : (size : SectorSize) (number count n : ℕ) → number < count → count * bytes_in size ≤ n → place_of size number + bytes_in size ≤ n
lies_in Bytes512 number count n less le = omega arith
lies_in Bytes4096 number count n less le = omega arith
