use Rattle.std.proofs.Common.{◌≡◌, map, take}
use Rattle.journal_batches.specs.Entries.{AreOf}
use Rattle.journal_batches.proofs.codec.entries_at.Given as goal

abbrev pub invariant-loop-place : goal.invariant-loop-place
invariant-loop-place l = record {
  own : AreOf l.image l.entries.items;
  at : map (λ e. e.at) l.entries.items ≡ take l.place-index l.places;
}
