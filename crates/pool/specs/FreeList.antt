-- Free lists in cells (this project's own): the head's cell and that of each free slot hold a link, which is the number of
-- the next free slot plus 1, or 0 at the end. That of a taken slot holds 2^64 - 1.
use Rattle.std.specs.Prelude.{ℕ, ◌≡◌, ◌≢◌, ◌+◌, ◌<◌, ◌⊎◌, List, [], ◌∷◌, Option, Some, None}
use Rattle.pool.specs.Knowledge.{Values}

-- Where a pool lies: the field of its head, and how many slots it has.
pub record Place : Type 0 where
  pub head : ℕ
  pub slots : ℕ

-- the field of a slot: those of the slots follow the head's
abbrev pub cell_of : Place → (slot : ℕ) → ℕ
cell_of p s = p.head + 1 + s

-- these slots follow one another from this link on, as far as the cells are known
abbrev pub Spells : Place → Values → (link : Option ℕ) → List ℕ → Type 0
Spells p known link [] = (link ≡ None) ⊎ (link ≡ Some 0)
Spells p known link (s ∷ rest) = (link ≡ Some (s + 1)) × (s < p.slots) × Spells p known (known (cell_of p s)) rest

-- the slot is none of these
abbrev pub IsNoneOf : (slot : ℕ) → List ℕ → Type 0
IsNoneOf s [] = Unit {0}
IsNoneOf s (t ∷ rest) = (s ≢ t) × IsNoneOf s rest

-- no slot stands twice
abbrev pub AreDistinct : List ℕ → Type 0
AreDistinct [] = Unit {0}
AreDistinct (s ∷ rest) = IsNoneOf s rest × AreDistinct rest

-- The known cells spell these slots as the free list, as far as they go, and no slot twice.
pub record IsFreeList (p : Place) (known : Values) (slots : List ℕ) : Type 0 where
  pub spelled : Spells p known (known p.head) slots
  pub distinct : AreDistinct slots

-- it is the first of each list that was spelled, and the rest is spelled now
abbrev pub TakesFirst : Place → Values → Values → (slot : ℕ) → Type 0
TakesFirst p before after s = (slots : List ℕ) → IsFreeList p before slots → (rest : List ℕ) × (slots ≡ s ∷ rest) × IsFreeList p after rest

-- it stands before each list that was spelled
abbrev pub PutsFirst : Place → Values → Values → (slot : ℕ) → Type 0
PutsFirst p before after s = (slots : List ℕ) → IsFreeList p before slots → IsFreeList p after (s ∷ slots)
