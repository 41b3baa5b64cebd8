-- How the helper hears (this project's own).
use Rattle.std.specs.Prelude.{ℕ, ◌≡◌, List}
use Rattle.thread_rings.specs.Rings.{Receiving}
use Rattle.monitor.specs.Seats.{Helping}
use Rattle.trim_helper.specs.Moves.{SameRings}
use Rattle.trim_helper.specs.Rings.{received_of, known_of}

-- What the helper has published is as it was, and whom it took in; it may have seen more of the history.
pub record IsNoted (h k : Helping) : Type 0 where
  pub notes : k.view.notes ≡ h.view.notes
  pub gathered : k.view.gathered ≡ h.view.gathered
  pub plan : k.view.plan ≡ h.view.plan
  pub table : k.table ≡ h.table

-- They are the same rings, with the same records taken and known.
pub record KeepsRecords (rings rings' : List Receiving) : Type 0 where
  pub received : (l : ℕ) → received_of rings' l ≡ received_of rings l
  pub known : (l : ℕ) → known_of rings' l ≡ known_of rings l
  pub same : SameRings rings rings'
