-- What the parts of laying out a pool answer: `d` is declared before, and `e` after.
use Rattle.std.specs.Prelude.{ℕ, ◌≡◌, ◌≢◌, ◌<◌, ◌≤◌, ◌⊎◌, List, [], Contains, Result, Ok, Err, IfErr}
use Rattle.heap_model.specs.declared.limits.TheConstants.{MOST_OBJECTS}
use Rattle.guards.specs.declared.error.SchemaError.{SchemaError}
use Rattle.guards.specs.declared.error.SchemaError.TheVariants.{Empty, DoubleName, UnknownObject, TooMany, NoMemory}
use Rattle.guards.specs.Schema.{Declarations, object_count, names_of, with_field}
use Rattle.pool.specs.LaidOut.{cell_field, cell_name, slot_name, with_slots, with_part, NamesACell, IsNewPool, IsPart}

-- the test of the names
abbrev pub NamesAnswer : Declarations → List ℕ → (slots : ℕ) → Result (Unit {0}) SchemaError → Type 0
NamesAnswer d name n (Ok done) = IsNewPool d name n
NamesAnswer d name n (Err Empty) = name ≡ []
NamesAnswer d name n (Err DoubleName) = (name ≢ []) × (Contains d.objects name ⊎ NamesACell (names_of d.fields) name n)
NamesAnswer d name n (Err UnknownObject) = ⊥
NamesAnswer d name n (Err TooMany) = ⊥
NamesAnswer d name n (Err NoMemory) = ⊥

-- the declarations, where the names are new and the fields have room
abbrev pub DeclareAnswer : (d e : Declarations) → List ℕ → (slots : ℕ) → Result (Unit {0}) SchemaError → Type 0
DeclareAnswer d e name n (Ok done) = (object_count d ≢ MOST_OBJECTS) × (e ≡ with_part d name n n)
DeclareAnswer d e name n (Err Empty) = ⊥
DeclareAnswer d e name n (Err DoubleName) = ⊥
DeclareAnswer d e name n (Err UnknownObject) = ⊥
DeclareAnswer d e name n (Err TooMany) = (object_count d ≡ MOST_OBJECTS) × (e ≡ d)
DeclareAnswer d e name n (Err NoMemory) = (object_count d ≢ MOST_OBJECTS) × IsPart d e name n

-- some of the slots are declared, and memory ran out for the next
abbrev pub IsPartOfSlots : (d e : Declarations) → List ℕ → (object slots : ℕ) → Type 0
IsPartOfSlots d e name o n = (k : ℕ) × (k ≤ n) × (e ≡ with_slots d name o n k)

-- memory ran out for one of the slots
abbrev pub StopsAtPart : (d e : Declarations) → List ℕ → (object slots : ℕ) → Result (Unit {0}) SchemaError → Type 0
StopsAtPart d e name o n r = IfErr r (λ why. (why ≡ NoMemory) × IsPartOfSlots d e name o n)

-- with a field of the pool's more
abbrev pub with_cell : Declarations → (name cell : List ℕ) → (object first : ℕ) → Declarations
with_cell d name cell o first = with_field d (cell_field (cell_name name cell) o first)

-- none of these slots has a name that stands
abbrev pub AreNewSlots : Declarations → List ℕ → (slots : ℕ) → Type 0
AreNewSlots d name n = (s : ℕ) → s < n → Contains (names_of d.fields) (slot_name name s) → ⊥
