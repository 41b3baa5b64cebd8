-- What is known of cells, and what a load and a store make of it (this project's own).
use Rattle.std.specs.Prelude.{ℕ, ◌≡◌, ◌==◌, if◌then◌else◌, Option, Some, None}

-- the values of the cells that are known, by field
abbrev pub Values : Type 0
Values = ℕ → Option ℕ

-- what was done to a field's cell
pub data Access : Type 0 where
  Loaded : (field value : ℕ) → Access
  Stored : (field value : ℕ) → Access

-- The values that are known, and why a load of a field, or a store to two, would fail now, if it would.
pub record Knowledge (F : Type 0) : Type 0 where
  pub value : Values
  pub load_fault : ℕ → Option F
  pub store_fault : ℕ → ℕ → Option F

-- with this field's value
abbrev pub with_value : Values → (field value : ℕ) → Values
with_value known f v = λ g. if f == g then Some v else known g

-- A load gives the value, which was the known one where the cell was known. Its cell is known now, and nothing else changed.
pub record Reads {F : Type 0} (k : Knowledge F) (f v : ℕ) (l : Knowledge F) : Type 0 where
  pub due : k.load_fault f ≡ None
  pub agrees : (w : ℕ) → k.value f ≡ Some w → v ≡ w
  pub learned : l ≡ record k { value = with_value k.value f v }

-- A store to two fields puts the first value and then the second, and no other cell changed.
pub record Stores {F : Type 0} (k : Knowledge F) (f v g w : ℕ) (l : Knowledge F) : Type 0 where
  pub due : k.store_fault f g ≡ None
  pub learned : l.value ≡ with_value (with_value k.value f v) g w

-- A load fails, and nothing changed.
pub record FailsToLoad {F : Type 0} (k : Knowledge F) (f : ℕ) (why : F) (l : Knowledge F) : Type 0 where
  pub due : k.load_fault f ≡ Some why
  pub same : l ≡ k

-- A store to two fields fails, and nothing changed.
pub record FailsToStore {F : Type 0} (k : Knowledge F) (f g : ℕ) (why : F) (l : Knowledge F) : Type 0 where
  pub due : k.store_fault f g ≡ Some why
  pub same : l ≡ k
