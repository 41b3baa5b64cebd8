use Rattle.std.proofs.Common.{◌≡◌, ◌+◌, ◌-◌, ◌≤◌, ◌++◌, length, replicate, vec_len, vec_capacity}
use Rattle.store_memory.proofs.ends.note.Given as goal

-- so far the table has grown by zeros
abbrev pub invariant-loop : goal.invariant-loop
invariant-loop l = record {
  items : l.ends.items ≡ l.fn.ends.items ++ replicate (l.counter - length l.fn.ends.items) 0;
  len : vec_len l.ends ≡ l.counter;
  low : length l.fn.ends.items ≤ l.counter;
  upto : l.counter - length l.fn.ends.items ≤ l.slot + 1 - length l.fn.ends.items;
  capacity : vec_capacity l.ends ≡ vec_capacity l.fn.ends;
}
