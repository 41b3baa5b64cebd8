-- The names that belong to a pool's fields.
use Rattle.std.specs.Prelude.{ℕ, ◌≡◌, ◌≢◌, ◌<◌, ◌⊎◌, ◌++◌, List, Option, MatchOption, codes, decimal}
use Rattle.std.specs.Borrow.{Bor}
use Rattle.pool.specs.LaidOut.{head_name, slot_name}

-- the head's or a slot's name of its own
abbrev pub IsCell : (slots : ℕ) → List ℕ → Type 0
IsCell n cell = (cell ≡ codes "head") ⊎ ((s : ℕ) × (s < n) × (cell ≡ decimal s))

-- what follows the prefix in the text, if it begins so
abbrev pub IsRest : (text prefix : List ℕ) → Option (Bor (List ℕ)) → Type 0
IsRest text prefix r = MatchOption r ((rest : List ℕ) → text ≢ prefix ++ rest) (λ rest. text ≡ prefix ++ rest.now)

-- one of the pool's names
abbrev pub IsCellName : List ℕ → (slots : ℕ) → List ℕ → Type 0
IsCellName name n text = (text ≡ head_name name) ⊎ ((s : ℕ) × (s < n) × (text ≡ slot_name name s))
