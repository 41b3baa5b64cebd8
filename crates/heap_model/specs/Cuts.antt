-- Cuts: the first sections of each lane. Which of them are consistent (Atlas), and which is stable.
use Rattle.std.specs.Prelude.{ℕ, ◌≤◌, nat_lt, max, Bool, List, slice_index}
use Rattle.heap_model.specs.declared.cut.Cut.{Cut}
use Rattle.heap_model.specs.Log.{lane}
use Rattle.heap_model.specs.Sections.{Action, ended, Section, DependsOn}

-- how many sections of each lane a `Cut` has
abbrev pub counts_of : Cut → ℕ → ℕ
counts_of cut l = slice_index cut.counts l

-- the section is one of the cut's
abbrev pub Counts : (cut : ℕ → ℕ) → Section → Type 0
Counts cut a = a.number ≤ cut a.lane

-- the section that the lane is in after these is one of the cut's
abbrev pub is_counted : (cut : ℕ → ℕ) → (lane : ℕ) → List (ℕ × Action) → Bool
is_counted cut l older = nat_lt (ended (lane l older)) (cut l)

-- all sections that have ended
abbrev pub all_ended : List (ℕ × Action) → ℕ → ℕ
all_ended log l = ended (lane l log)

-- the cut has whole sections alone: each has ended
abbrev pub IsWhole : List (ℕ × Action) → (cut : ℕ → ℕ) → Type 0
IsWhole log cut = (l : ℕ) → cut l ≤ ended (lane l log)

-- the cut has all that its sections depend on
abbrev pub IsClosed : List (ℕ × Action) → (cut : ℕ → ℕ) → Type 0
IsClosed log cut = (a b : Section) → Counts cut a → DependsOn log a b → Counts cut b

-- the stable cut: the greatest whole closed one
pub record IsStable (log : List (ℕ × Action)) (cut : ℕ → ℕ) : Type 0 where
  pub whole : IsWhole log cut
  pub closed : IsClosed log cut
  pub greatest : (other : ℕ → ℕ) → IsWhole log other → IsClosed log other → (l : ℕ) → other l ≤ cut l

-- the greater count of each lane
abbrev pub union : (ℕ → ℕ) → (ℕ → ℕ) → ℕ → ℕ
union c d l = max (c l) (d l)
