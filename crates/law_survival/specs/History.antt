-- What survives of a history of threads' events, whose records were applied in whatever order a store allows (this project's own).
use Rattle.std.specs.Prelude.{ℕ, ◌≡◌, List, [], ◌∷◌}
use Rattle.heap_model.specs.declared.event.Event.{Event}
use Rattle.heap_model.specs.declared.record.Record.{Record}
use Rattle.heap_model.specs.Setting.{Setting}
use Rattle.heap_model.specs.History.{IsLegalHistory, log_of}
use Rattle.heap_model.specs.Log.{IsLaneWisePrefix}
use Rattle.heap_model.specs.Sections.{actions}
use Rattle.heap_model.specs.Cuts.{IsWhole, IsClosed}
use Rattle.image_parts.specs.declared.layout.Layout.{Layout}
use Rattle.durable.specs.Store.{Known}
use Rattle.durable.specs.declared.store_call.StoreCall.{StoreCall}
use Rattle.durable.specs.declared.store_call.StoreCall.TheVariants.{Apply, Log, Home as HomeStep, Settle, Trim}
use Rattle.store_image.specs.KeptHeap.{kept_heap}
use Rattle.heap_model.specs.Past.{Past, applied}
use Rattle.law_survival.specs.WholeRun.{Survives}

-- all that was applied after these calls, where this was before them, the newest first
abbrev pub applied_by : List StoreCall → (before : List (ℕ × Record)) → List (ℕ × Record)
applied_by [] before = before
applied_by (Apply l r ∷ calls) before = applied_by calls ((l.0, r) ∷ before)
applied_by (Log ∷ calls) before = applied_by calls before
applied_by (HomeStep ∷ calls) before = applied_by calls before
applied_by (Settle ∷ calls) before = applied_by calls before
applied_by (Trim ∷ calls) before = applied_by calls before

-- What was applied before the calls and is by them is, thread by thread, the beginning of what the history logs. The threads'
-- records may come in any order among one another, and some of them not yet.
abbrev pub AppliesHistory : Setting → Past → List StoreCall → (history : List (ℕ × Event)) → Type 0
AppliesHistory s p calls history = IsLaneWisePrefix (applied_by calls (applied p)) (log_of s history)

-- the cut has whole sections of the history, each with all that it depends on there, and the heap has the values that these
-- stored, in the history's order
pub record KeepsHistory (l : Layout) (s : Setting) (history : List (ℕ × Event)) (cut : ℕ → ℕ) (heap : List ℕ) : Type 0 where
  pub whole : IsWhole (actions (log_of s history)) cut
  pub closed : IsClosed (actions (log_of s history)) cut
  pub heap_is : heap ≡ kept_heap l s (log_of s history) cut

-- What survives of calls that apply a legal history, in whatever order, is of the history.
abbrev pub HistoryLaw : Type 0
HistoryLaw = (x : Known) (s : Setting) (p : Past) (calls : List StoreCall) (history : List (ℕ × Event)) (heap : List ℕ) (kept : ℕ → ℕ) → IsLegalHistory s history → AppliesHistory s p calls history →
    (by : Survives x s p calls heap kept) → KeepsHistory x.layout s history by.cut heap
