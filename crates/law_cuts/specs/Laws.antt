-- The laws of cuts.
use Rattle.std.specs.Prelude.{ℕ, ◌≡◌, ◌+◌, ◌≤◌, false, List, ◌++◌}
use Rattle.heap_model.specs.declared.record.Record.{Record}
use Rattle.heap_model.specs.Setting.{Setting}
use Rattle.heap_model.specs.Log.{value, IsLegal}
use Rattle.heap_model.specs.Sections.{Action, actions}
use Rattle.heap_model.specs.Cuts.{IsWhole, IsClosed, IsStable, union}
use Rattle.heap_model.specs.Base.{since}
use Rattle.heap_model.specs.KeptHeap.{kept_value}

-- The greater of two whole closed cuts, lane by lane, is one.
abbrev pub UnionLaw : Type 0
UnionLaw = (log : List (ℕ × Action)) (c d : ℕ → ℕ) → IsWhole log c → IsClosed log c → IsWhole log d → IsClosed log d →
    IsWhole log (union c d) × IsClosed log (union c d)

-- Each list has a stable cut.
abbrev pub StableLaw : Type 0
StableLaw = (log : List (ℕ × Action)) → (cut : ℕ → ℕ) × IsStable log cut

-- Stable cuts of one list are the same.
abbrev pub OneStableLaw : Type 0
OneStableLaw = (log : List (ℕ × Action)) (c d : ℕ → ℕ) → IsStable log c → IsStable log d → (l : ℕ) → c l ≡ d l

-- A whole closed cut stays one as the log grows.
abbrev pub StayLaw : Type 0
StayLaw = (s : Setting) (newer log : List (ℕ × Record)) (cut : ℕ → ℕ) → IsLegal s (newer ++ log) → IsWhole (actions log) cut → IsClosed (actions log) cut →
    IsWhole (actions (newer ++ log)) cut × IsClosed (actions (newer ++ log)) cut

-- The stable cut of all is the base and the stable cut of what was done since, where the base is inside of a whole closed cut: it needn't be closed itself.
abbrev pub PartTrimLaw : Type 0
PartTrimLaw = (log : List (ℕ × Action)) (top base cut : ℕ → ℕ) → IsWhole log top → IsClosed log top → ((l : ℕ) → base l ≤ top l) → IsStable (since base log) cut →
    IsStable log (λ l. base l + cut l)

-- A field whose stores logs don't keep has its first value after each legal log, and in each cut of it.
abbrev pub UnloggedLaw : Type 0
UnloggedLaw = (s : Setting) (log : List (ℕ × Record)) (f : ℕ) → IsLegal s log → s.is_logged f ≡ false →
    (value s.first f log ≡ s.first f) × ((cut : ℕ → ℕ) → kept_value s.first cut f log ≡ s.first f)
