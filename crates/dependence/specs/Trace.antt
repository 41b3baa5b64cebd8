-- What a graph of sections knows, as plain data (this project's own).
use Rattle.std.specs.Prelude.{ℕ, zero, suc, ◌≡◌, ◌+◌, ◌-◌, List, [], slice_index, refl}
use Rattle.std.specs.Coded.{Coded, code_by, coded×, coded⊎, coded_ℕ, coded_list}
use Rattle.std.proofs.Common.{inl, inr, ◌⊎◌}
use Rattle.heap_model.specs.declared.cut.Cut.{Cut}
use Rattle.heap_model.specs.Log.{lane}
use Rattle.heap_model.specs.Sections.{Action, Takes, Frees, Stores, Section, ended}
use Rattle.heap_model.specs.Cuts.{counts_of, IsStable}

-- the lanes, numbered from 0; by lane, how many of its sections were forgotten;
-- what the lanes' records did since, the newest first; how many records more there is room for;
-- by lane, how many of its sections the last answered cut has, or were forgotten since;
-- and the number that was told of the sections on which that answer decided
pub record Trace : Type 0 where
  pub lanes : ℕ
  pub base : List ℕ
  pub log : List (ℕ × Action)
  pub room : ℕ
  pub answered : List ℕ
  pub looks : ℕ

-- what was told, without what was answered
abbrev pub told_of : Trace → Trace
told_of t = record { lanes = t.lanes; base = t.base; log = t.log; room = t.room; answered = []; looks = 0 }

-- how many sections of the lane were forgotten
abbrev pub base_of : Trace → (lane : ℕ) → ℕ
base_of t l = slice_index t.base l

-- how many sections of the lane have ended, what was forgotten included
abbrev pub sections_of : Trace → (lane : ℕ) → ℕ
sections_of t l = base_of t l + ended (lane l t.log)

-- how many sections of the lane were answered
abbrev pub answered_of : Trace → (lane : ℕ) → ℕ
answered_of t l = slice_index t.answered l

-- the sum over the lanes
abbrev pub in_all : (lanes : ℕ) → (ℕ → ℕ) → ℕ
in_all zero count = 0
in_all (suc l) count = in_all l count + count l

-- how many sections the cut has beyond another
abbrev pub growth : (lanes : ℕ) → (cut before : ℕ → ℕ) → ℕ
growth lanes cut before = in_all lanes (λ l. cut l - before l)

-- how many whole sections there are beyond the cut that was answered
abbrev pub unanswered : Trace → ℕ
unanswered t = growth t.lanes (sections_of t) (answered_of t)

-- how far the cut goes past what was forgotten
abbrev pub beyond : Trace → Cut → (lane : ℕ) → ℕ
beyond t cut l = counts_of cut l - base_of t l

-- the lane's section, by its number since what was forgotten
abbrev pub section_since : Trace → (lane section : ℕ) → Section
section_since t l k = record { lane = l; number = k - base_of t l }

-- the stable cut of all: what was forgotten, and the stable cut since
pub record IsStableOf (t : Trace) (cut : ℕ → ℕ) : Type 0 where
  pub since : ℕ → ℕ
  pub stable : IsStable t.log since
  pub counts : (l : ℕ) → cut l ≡ base_of t l + since l

abbrev pub to_action : (ℕ × ℕ) ⊎ ((ℕ × ℕ) ⊎ ℕ) → Action
to_action (inl p) = Takes p.0 p.1
to_action (inr (inl p)) = Frees p.0 p.1
to_action (inr (inr n)) = Stores

abbrev pub from_action : Action → (ℕ × ℕ) ⊎ ((ℕ × ℕ) ⊎ ℕ)
from_action (Takes o n) = inl (o, n)
from_action (Frees o n) = inr (inl (o, n))
from_action Stores = inr (inr 0)

abbrev pub action_again : (a : Action) → to_action (from_action a) ≡ a
action_again (Takes o n) = refl
action_again (Frees o n) = refl
action_again Stores = refl

-- actions are stored as numbers
abbrev pub action_code : Coded Action
action_code = code_by ((ℕ × ℕ) ⊎ ((ℕ × ℕ) ⊎ ℕ)) (coded⊎ (coded× coded_ℕ coded_ℕ) (coded⊎ (coded× coded_ℕ coded_ℕ) coded_ℕ)) from_action to_action action_again

-- a trace is stored as the tuple of its parts
abbrev pub trace_code : Coded Trace
trace_code = code_by (ℕ × (List ℕ × (List (ℕ × Action) × (ℕ × (List ℕ × ℕ))))) (coded× coded_ℕ (coded× (coded_list coded_ℕ) (coded× (coded_list (coded× coded_ℕ action_code)) (coded× coded_ℕ (coded× (coded_list coded_ℕ) coded_ℕ)))))
    (λ t. (t.lanes, (t.base, (t.log, (t.room, (t.answered, t.looks)))))) (λ p. record { lanes = p.0; base = p.1.0; log = p.1.1.0; room = p.1.1.1.0; answered = p.1.1.1.1.0; looks = p.1.1.1.1.1 }) (λ _. refl)
