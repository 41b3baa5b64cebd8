-- The union of two cuts.
use Rattle.std.proofs.Common.{ℕ, ◌≤◌, ◌⊎◌, max, List, arith, inl, inr}
use Rattle.heap_model.specs.Sections.{Action}
use Rattle.heap_model.specs.Cuts.{IsWhole, IsClosed, union}

either_counts : (n x y : ℕ) → n ≤ max x y → (n ≤ x) ⊎ (n ≤ y)
either_counts n x y h = grind arith

pub union_whole : (log : List (ℕ × Action)) (c d : ℕ → ℕ) → IsWhole log c → IsWhole log d → IsWhole log (union c d)
union_whole log c d hc hd l = omega (arith, hc l, hd l)

pub union_closed : (log : List (ℕ × Action)) (c d : ℕ → ℕ) → IsClosed log c → IsClosed log d → IsClosed log (union c d)
union_closed log c d hc hd a b counted dep =
    elim (either_counts a.number (c a.lane) (d a.lane) counted) [
      | inl h ↦ omega (arith, hc a b h dep)
      | inr h ↦ omega (arith, hd a b h dep)
    ]
