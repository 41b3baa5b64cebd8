-- The laws that tie what undo logs put back to the heap that a cut keeps.
use Rattle.std.specs.Prelude.{ℕ, ◌≡◌, ◌-◌, ◌≤◌, ◌⊎◌, ◌↔◌, List}
use Rattle.heap_model.specs.declared.record.Record.{Record}
use Rattle.heap_model.specs.declared.record.UndoRecord.{UndoRecord}
use Rattle.heap_model.specs.Setting.{Setting}
use Rattle.heap_model.specs.Log.{value, IsLegal}
use Rattle.heap_model.specs.Sections.{actions}
use Rattle.heap_model.specs.Cuts.{IsWhole, IsClosed}
use Rattle.heap_model.specs.KeptHeap.{kept_value, put_back}
use Rattle.heap_model.specs.Base.{records_since}
use Rattle.undo_log.specs.OldValues.{TakesBack, Holds, IsUnsettled, IsBeyond}
use Rattle.undo_log.specs.Dropped.{undo_logs, records_in, IsDropped}

-- A field takes one value back, whatever the lanes' records are.
abbrev pub OneValueLaw : Type 0
OneValueLaw = (guard f : ℕ) (lanes : ℕ → List UndoRecord) (settled : ℕ → ℕ) (cell v w : ℕ) →
    TakesBack guard f lanes (IsUnsettled settled) (Holds cell) v → TakesBack guard f lanes (IsUnsettled settled) (Holds cell) w → v ≡ w

-- What the sections past a cut put back is what the records past its places put back.
abbrev pub PlaceLaw : Type 0
PlaceLaw = (guard f : ℕ) (lanes : ℕ → List UndoRecord) (cut : ℕ → ℕ) (cell v : ℕ) →
    TakesBack guard f lanes (IsBeyond cut) (Holds cell) v ↔ TakesBack guard f lanes (IsUnsettled (λ l. records_in (cut l) (lanes l))) (Holds cell) v

-- Putting back all that a cut drops, the newest first, ends with the value before a field's first dropped store.
abbrev pub FirstDroppedLaw : Type 0
FirstDroppedLaw = (s : Setting) (log : List (ℕ × Record)) → IsLegal s log → (cut : ℕ → ℕ) (f v : ℕ) →
    TakesBack (s.guard f) f (undo_logs log) (IsBeyond cut) (Holds v) (put_back cut f v log)

-- A field with no dropped store has in the kept heap its value after all stores.
abbrev pub KeptLaw : Type 0
KeptLaw = (s : Setting) (log : List (ℕ × Record)) → IsLegal s log → (cut : ℕ → ℕ) → IsClosed (actions log) cut → (f : ℕ) →
    IsDropped (s.guard f) f log cut ⊎ (value s.first f log ≡ kept_value s.first cut f log)

-- Putting back gives the heap that the cut keeps, whatever the home cells of fields with a dropped store hold.
abbrev pub StandsLaw : Type 0
StandsLaw = (s : Setting) (log : List (ℕ × Record)) → IsLegal s log → (cut : ℕ → ℕ) → IsClosed (actions log) cut → (f cell : ℕ) →
    IsDropped (s.guard f) f log cut ⊎ Holds cell (kept_value s.first cut f log) →
    TakesBack (s.guard f) f (undo_logs log) (IsBeyond cut) (Holds cell) (kept_value s.first cut f log)

-- The records since a base put back what all records do.
abbrev pub BackSinceLaw : Type 0
BackSinceLaw = (guard f : ℕ) (log : List (ℕ × Record)) (base cut : ℕ → ℕ) → IsWhole (actions log) base → ((l : ℕ) → base l ≤ cut l) → (cell v : ℕ) →
    TakesBack guard f (undo_logs log) (IsBeyond cut) (Holds cell) v → TakesBack guard f (undo_logs (records_since base log)) (IsBeyond (λ l. cut l - base l)) (Holds cell) v
