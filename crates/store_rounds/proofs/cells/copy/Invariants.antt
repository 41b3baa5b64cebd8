use Rattle.std.proofs.Common.{◌≡◌, take}
use Rattle.std.specs.Vec.{vec_capacity, vec_len}
use Rattle.store_rounds.proofs.cells.copy.Given as goal

-- the values so far
abbrev pub invariant-loop-change : goal.invariant-loop-change
invariant-loop-change l = record {
  items : l.cells.items ≡ take l.change-index l.changed;
  len : vec_len l.cells ≡ l.change-index;
  capacity : vec_capacity l.cells ≡ vec_capacity l.fn.cells;
}
