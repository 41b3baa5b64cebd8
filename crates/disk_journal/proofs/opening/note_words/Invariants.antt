use Rattle.std.proofs.Common.{◌≡◌, ◌<◌, ◌≤◌, ◌+◌, ℕ, get_or}
use Rattle.journal_batches.specs.declared.entry.Entry.{Entry}
use Rattle.disk_journal.specs.Kept.{AreWithin, Touches}
use Rattle.disk_journal.proofs.opening.note_words.Given as goal

abbrev pub invariant-loop-entry : goal.invariant-loop-entry
invariant-loop-entry l = record {
  within : AreWithin l.size l.places.items;
  kept : (i : ℕ) → Touches l.fn.places.items i → Touches l.places.items i;
  all : (k : ℕ) → k < l.entry-index → (e : Entry) → get_or l.entries k e ≡ e → (i : ℕ) → e.at + 8 ≤ l.size → e.at ≤ i → i < e.at + 8 → Touches l.places.items i;
}
