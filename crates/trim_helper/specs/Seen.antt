-- What the helper has seen of the one history, and what of it stands for what it took of the rings (this project's own).
use Rattle.std.specs.Prelude.{ℕ, zero, suc, ◌≡◌, List, [], ◌∷◌, ◌++◌, Some}
use Rattle.thread_rings.specs.Following.{Whose, to_release}
use Rattle.thread_rings.specs.Rings.{KeepsWitness, Receiving, received, whose_received}
use Rattle.heap_model.specs.declared.record.Record.{Record}
use Rattle.heap_model.specs.declared.event.Event.{Event}
use Rattle.heap_model.specs.Log.{lane}
use Rattle.heap_model.specs.Own.{sent_of}
use Rattle.monitor.specs.declared.view.Plan.{Plan}
use Rattle.monitor.specs.Seats.{Helping}
use Rattle.monitor.specs.Words.{setting_of}

-- a lane of the helper's own heap
abbrev pub own_lane : Helping → (lane : ℕ) → Whose
own_lane h l = record { table = h.table; plan = h.view.plan; lane = record { 0 = l } }

-- the helper has seen the same of the same heap
pub record SameSight (h k : Helping) : Type 0 where
  pub table : k.table ≡ h.table
  pub plan : k.view.plan ≡ h.view.plan
  pub history : k.view.history ≡ h.view.history

-- the history logs these of the lane, and then others
abbrev pub BeginsLog : Plan → (lane : ℕ) → List (ℕ × Event) → List Record → Type 0
BeginsLog k l h log = (later : List Record) × (sent_of (setting_of k) (lane l h) ≡ log ++ later)

-- The ring is of this lane of the helper's heap. Where it keeps no witness, what was taken of it up to the last release is the beginning of
-- what the seen history logs of the lane.
pub record SeesOne (h : Helping) (lane : ℕ) (c : Receiving) : Type 0 where
  pub whose : whose_received c ≡ Some (own_lane h lane)
  pub seen : c.told ≡ [] → BeginsLog h.view.plan lane h.view.history (to_release (received c))

-- so it is of each ring, the first being of this lane
abbrev pub SeesFrom : Helping → (lane : ℕ) → List Receiving → Type 0
SeesFrom h l [] = Unit {0}
SeesFrom h l (c ∷ cs) = SeesOne h l c × SeesFrom h (suc l) cs

-- What was taken of a ring: it is of the lane that it was of; and where it keeps no witness now, it kept none, and no release was taken.
abbrev pub KeepsOne : (old new : Receiving) → Type 0
KeepsOne c d = (whose_received d ≡ whose_received c) × KeepsWitness c d

-- and of each
abbrev pub KeepsTold : (old new : List Receiving) → Type 0
KeepsTold [] [] = Unit {0}
KeepsTold (c ∷ cs) (d ∷ ds) = KeepsOne c d × KeepsTold cs ds
KeepsTold _ _ = ⊥

-- none of the first ones keeps a witness
abbrev pub AreHeard : (count : ℕ) → List Receiving → Type 0
AreHeard zero cs = Unit {0}
AreHeard (suc n) [] = Unit {0}
AreHeard (suc n) (c ∷ cs) = (c.told ≡ []) × AreHeard n cs
