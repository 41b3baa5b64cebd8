-- A schema whose objects and fields are numbered alone (this project's own).
use Rattle.std.specs.Prelude.{ℕ, zero, suc, ◌≡◌, ◌<◌, ◌≤◌, ◌⊎◌, List, [], ◌∷◌, ◌++◌, length, codes, decimal}
use Rattle.std.specs.List.{slice_index_or}
use Rattle.guards.specs.Schema.{Declarations, Field, field_of}
use Rattle.guards.specs.declared.error.SchemaError.{SchemaError}
use Rattle.guards.specs.declared.error.SchemaError.TheVariants.{Empty, DoubleName, UnknownObject, TooMany, NoMemory}
use Rattle.heap_model.specs.declared.limits.TheConstants.{MOST_FIELDS, MOST_OBJECTS}
use Rattle.image_parts.specs.declared.guard_row.GuardRow.{GuardRow}

abbrev pub object_name : ℕ → List ℕ
object_name k = codes "o" ++ decimal k

abbrev pub field_name : ℕ → List ℕ
field_name k = codes "f" ++ decimal k

-- the names of the objects below this one
abbrev pub names_below : ℕ → List (List ℕ)
names_below zero = []
names_below (suc k) = names_below k ++ object_name k ∷ []

-- the fields of these rows, numbered from here on
abbrev pub fields_from : ℕ → List GuardRow → List Field
fields_from k [] = []
fields_from k (r ∷ rows) = field_of (field_name k) r.owner r.guard r.first r.transient ∷ fields_from (suc k) rows

-- so many objects, and a field for each row
abbrev pub numbered : ℕ → List GuardRow → Declarations
numbered objects rows = record { objects = names_below objects; fields = fields_from 0 rows }

-- so many objects aren't declared
abbrev pub RefusesObject : (objects : ℕ) → SchemaError → Type 0
RefusesObject objects TooMany = MOST_OBJECTS < objects
RefusesObject objects NoMemory = Unit {0}
RefusesObject objects _ = ⊥

-- owner or guard isn't one of so many objects
abbrev pub NamesOther : (objects : ℕ) → GuardRow → Type 0
NamesOther objects r = (objects ≤ r.owner.0) ⊎ (objects ≤ r.guard.0)

-- a field behind those of the rows before isn't declared
abbrev pub RefusesRow : (objects : ℕ) (before : List GuardRow) (row : GuardRow) → SchemaError → Type 0
RefusesRow objects before row UnknownObject = NamesOther objects row
RefusesRow objects before row TooMany = length before ≡ MOST_FIELDS
RefusesRow objects before row NoMemory = Unit {0}
RefusesRow objects before row _ = ⊥

-- so many objects and these fields make no schema
abbrev pub RefusesRows : (objects : ℕ) (rows : List GuardRow) → SchemaError → Type 0
RefusesRows objects rows Empty = (objects ≡ 0) ⊎ (length rows ≡ 0)
RefusesRows objects rows DoubleName = ⊥
RefusesRows objects rows UnknownObject = (f : ℕ) × (d : GuardRow) × (f < length rows) × NamesOther objects (slice_index_or rows f d)
RefusesRows objects rows TooMany = (MOST_OBJECTS < objects) ⊎ (MOST_FIELDS < length rows)
RefusesRows objects rows NoMemory = Unit {0}
