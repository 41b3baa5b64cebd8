use Rattle.std.proofs.Common.{◌≡◌, ◌+◌, ◌++◌, map, take}
use Rattle.std.specs.Vec.{vec_capacity, vec_len}
use Rattle.store_round_making.proofs.HelperRecords.{put}
use Rattle.store_round_making.proofs.helper.push_section.Given as goal

-- the stores so far stand behind the acquire
abbrev pub invariant-loop-cell : goal.invariant-loop-cell
invariant-loop-cell l = record {
  items : l.records.items ≡ l.initial.records.items ++ map put (take l.cell-index l.cells);
  len : vec_len l.records ≡ vec_len l.initial.records + l.cell-index;
  capacity : vec_capacity l.records ≡ vec_capacity l.initial.records;
}
