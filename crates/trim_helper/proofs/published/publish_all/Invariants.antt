use Rattle.std.proofs.Common.{ℕ, ◌≡◌, ◌<◌, ◌≤◌, ◌⊎◌}
use Rattle.heap_model.specs.Setting.{Setting}
use Rattle.monitor.specs.Views.{GoesOn}
use Rattle.heap_model.specs.Past.{Past}
use Rattle.store_rounds.specs.Store.{HasPast}
use Rattle.trim_helper.specs.Counts.{WasCount}
use Rattle.trim_helper.specs.Helping.{IsHelper, count_published, place_published, taken_in}
use Rattle.trim_helper.specs.Seen.{SameSight}
use Rattle.trim_helper.specs.Taken.{trimmed_of}
use Rattle.trim_helper.proofs.published.publish_all.Given as goal

abbrev pub invariant-loop-lane : goal.invariant-loop-lane
invariant-loop-lane g l = record {
  seat : IsHelper l.shared l.seat;
  done : (s : Setting) (p : Past) → HasPast l.store.known s p (g.D.Disk.device l.store.disk) → (k : ℕ) → k < l.lane → (count_published l.seat k ≡ p.cut k) × (place_published l.seat k ≡ trimmed_of p k);
  rest : (k : ℕ) → l.lane ≤ k → k < 32 → (count_published l.seat k ≡ count_published l.initial.seat k) × (place_published l.seat k ≡ place_published l.initial.seat k);
  counts : (s : Setting) (p : Past) → HasPast l.store.known s p (g.D.Disk.device l.store.disk) → (k n : ℕ) → k < 32 → WasCount l.seat k n → WasCount l.initial.seat k n ⊎ (n ≡ p.cut k);
  notes : GoesOn l.seat.view.notes l.initial.seat.view.notes;
  gathered : taken_in l.seat ≡ taken_in l.initial.seat;
  sight : SameSight l.initial.seat l.seat;
}
