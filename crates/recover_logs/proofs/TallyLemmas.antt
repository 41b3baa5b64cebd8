-- In a replay each lane frees what it holds.
use Rattle.std.proofs.Common.{ℕ, if◌then◌else◌, Bool, List, [], ◌∷◌, map, sym, subst, inl, inr, Option}
use Rattle.std.proofs.lemmas.Bool.Decides.{eqb_tells}
use Rattle.heap_model.specs.Log.{lane}
use Rattle.heap_model.specs.Sections.{undo_action}
use Rattle.heap_model.specs.declared.ids.ObjectId.{ObjectId}
use Rattle.heap_model.specs.declared.record.UndoRecord.{UndoRecord}
use Rattle.recover_logs.specs.Lanes.{FreesHeld}
use Rattle.recover_logs.proofs.HeldLemmas.{frees_one}
pub use Rattle.recover_logs.proofs.HeldLemmas.{held_by}
pub use Rattle.recover_logs.proofs.LaneCountLemmas.{frees_first}
use Rattle.recover_logs.specs.Replay.{IsGreedy}

pub frees_held : (guard : ℕ → Option ObjectId) (first : ℕ → ℕ) (lanes : ℕ → List UndoRecord) (done : List (ℕ × UndoRecord)) → IsGreedy guard first lanes done → (l : ℕ) → FreesHeld (map undo_action (lane l done))
frees_held guard first lanes [] h l = tt
frees_held guard first lanes ((m, r) ∷ older) h l = elim (eqb_tells m l) [
  | inl e ↦ subst (λ (t : Bool). FreesHeld (map undo_action (if t then r ∷ lane l older else lane l older))) (sym e.0)
      (subst (λ (k : ℕ). FreesHeld (undo_action r ∷ map undo_action (lane k older))) e.1 (frees_one guard first older m r h.1.allowed (frees_held guard first lanes older h.0 m)))
  | inr e ↦ subst (λ (t : Bool). FreesHeld (map undo_action (if t then r ∷ lane l older else lane l older))) (sym e.0) (frees_held guard first lanes older h.0 l)
]
