-- A line that asks for nothing.
use Rattle.std.proofs.Common.{◌≡◌, ℕ, List, Option, None, Some, sym, ◌∙◌}
use Rattle.script_lines.specs.Grammar.{Asks}
use Rattle.script_lines.specs.Orders.{Order}

-- what was found of a line is what it asks for
abbrev pub Finds : List ℕ → Option Order → Type 0
Finds line found = (order : Order) → (found ≡ Some order → Asks order line) × (Asks order line → found ≡ Some order)

nothing : (order : Order) → None ≡ Some order → ⊥
nothing order e = absurd cc

pub no_form : (line : List ℕ) (found : Option Order) → found ≡ None → Finds line found → (order : Order) → Asks order line → ⊥
no_form line found none finds order asks = nothing order (sym none ∙ (finds order).1 asks)

-- what was found is all that the line asks for
pub only : (line : List ℕ) (found : Option Order) (order : Order) → found ≡ Some order → Finds line found → (other : Order) → Asks other line → other ≡ order
only line found order is finds other asks = let both : Some other ≡ Some order = sym ((finds other).1 asks) ∙ is in cc
