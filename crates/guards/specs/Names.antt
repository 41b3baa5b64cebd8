-- Names in a map that keeps the order of declaration.
use Rattle.std.specs.Prelude.{◌≡◌, ℕ, List, [], ◌∷◌, ◌++◌, map, String, string_bytes}
use Rattle.std.specs.Global.{Global}

module _ {V : Type 0} where
  -- the names, in the order of declaration
  abbrev pub names_in : List (String Global × V) → List (List ℕ)
  names_in entries = map (λ entry. string_bytes entry.0) entries

  -- what is declared under them
  abbrev pub values_in : List (String Global × V) → List V
  values_in entries = map (λ entry. entry.1) entries

  -- a name and its value were put behind the entries
  pub record AddsEntry (old new : List (String Global × V)) (name : List ℕ) (value : V) : Type 0 where
    pub key : String Global
    pub spelled : string_bytes key ≡ name
    pub entries : new ≡ old ++ (key, value) ∷ []
