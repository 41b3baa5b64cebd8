-- Why a whole section isn't in the stable cut (Atlas; the order of the reasons is this project's own). Sections are numbered since what was forgotten.
use Rattle.std.specs.Prelude.{ℕ, ◌≡◌, ◌≢◌, ◌+◌, ◌<◌, ◌≤◌, List, ◌∷◌, ◌++◌}
use Rattle.heap_model.specs.Log.{lane}
use Rattle.heap_model.specs.Sections.{Action, Takes, Frees, ended, Section, Did}
use Rattle.heap_model.specs.Cuts.{Counts}

-- the section is whole, and isn't one of the cut's
pub record IsLeftOut (log : List (ℕ × Action)) (cut : ℕ → ℕ) (a : Section) : Type 0 where
  pub whole : a.number ≤ ended (lane a.lane log)
  pub outside : cut a.lane < a.number

-- where a's takes among these give a section other than a, that is one of the cut's
abbrev pub TookInside : (log : List (ℕ × Action)) (cut : ℕ → ℕ) (a : Section) → List (ℕ × Action) → Type 0
TookInside log cut a records = (o n : ℕ) (b : Section) → Did records a (Takes o (n + 1)) → Did log b (Frees o n) → a ≢ b → Counts cut b

-- a take of a's, the records before it, and b that freed what it took
pub record TookFrom (log : List (ℕ × Action)) (a b : Section) (older : List (ℕ × Action)) : Type 0 where
  pub newer : List (ℕ × Action)
  pub object : ℕ
  pub number : ℕ
  pub place : log ≡ newer ++ (a.lane, Takes object (number + 1)) ∷ older
  pub section : a.number ≡ ended (lane a.lane older) + 1
  pub freed : Did log b (Frees object number)
  pub other : a ≢ b

-- b is the first outside the cut of what a depends on: the lane's previous section, else the releaser of a's first take whose releaser is outside
pub data IsReason (log : List (ℕ × Action)) (cut : ℕ → ℕ) (a b : Section) : Type 0 where
  Previous : cut a.lane < b.number → b.lane ≡ a.lane → b.number + 1 ≡ a.number → IsReason log cut a b
  Releaser : a.number ≤ cut a.lane + 1 → (older : List (ℕ × Action)) → TookFrom log a b older → cut b.lane < b.number → TookInside log cut a older → IsReason log cut a b
