-- What a schema declares (this project's own).
--
-- Objects and fields have a name each. They are numbered from 0, in the order of declaration.
use Rattle.std.specs.Prelude.{◌≢◌, ℕ, ◌^◌, ◌<◌, ◌≤◌, Bool, false, not, List, [], ◌∷◌, ◌++◌, length, map, Contains, slice_index}
use Rattle.std.specs.List.{slice_index_or}
use Rattle.heap_model.specs.declared.limits.TheConstants.{MOST_OBJECTS, MOST_FIELDS}
use Rattle.heap_model.specs.declared.ids.ObjectId.{ObjectId}
use Rattle.heap_model.specs.Setting.{Setting}

-- a field: its name, the object that has it, the object whose monitor guards it, the value with
-- which it begins, and whether it is transient: it then begins with that value at each open
pub record Field : Type 0 where
  pub name : List ℕ
  pub owner : ℕ
  pub guard : ℕ
  pub first : ℕ
  pub is_transient : Bool

-- the names of the fields
abbrev pub names_of : List Field → List (List ℕ)
names_of fields = map (λ field. field.name) fields

-- the objects that have the fields
abbrev pub owners_of : List Field → List ℕ
owners_of fields = map (λ field. field.owner) fields

-- the objects whose monitors guard the fields
abbrev pub guards_of : List Field → List ℕ
guards_of fields = map (λ field. field.guard) fields

-- the values with which the fields begin
abbrev pub firsts_of : List Field → List ℕ
firsts_of fields = map (λ field. field.first) fields

-- which fields are transient
abbrev pub marks_of : List Field → List Bool
marks_of fields = map (λ field. field.is_transient) fields

-- the names of the objects, and the fields, each by number
pub record Declarations : Type 0 where
  pub objects : List (List ℕ)
  pub fields : List Field

-- how many objects there are
abbrev pub object_count : Declarations → ℕ
object_count schema = length schema.objects

-- how many fields there are
abbrev pub field_count : Declarations → ℕ
field_count schema = length schema.fields

-- the object that has the field of this number
abbrev pub owner_of : Declarations → ℕ → ℕ
owner_of schema field = slice_index (owners_of schema.fields) field

-- the object whose monitor guards the field of this number
abbrev pub guard_of : Declarations → ℕ → ℕ
guard_of schema field = slice_index (guards_of schema.fields) field

-- the value with which the field of this number begins
abbrev pub first_of : Declarations → ℕ → ℕ
first_of schema field = slice_index (firsts_of schema.fields) field

-- whether the field of this number is transient
abbrev pub is_transient_of : Declarations → ℕ → Bool
is_transient_of schema field = slice_index_or (marks_of schema.fields) field false

-- what events and records are judged by, where the fields begin with the values of this heap and no monitor is taken at
-- the number `last`. Logs keep the stores of each field that isn't transient
abbrev pub setting_of : Declarations → (heap : List ℕ) → (last : ℕ) → Setting
setting_of schema heap last = record {
  objects = object_count schema;
  fields = field_count schema;
  guard = guard_of schema;
  first = λ field. slice_index heap field;
  is_logged = λ field. not (is_transient_of schema field);
  last = last;
}

-- nothing is declared
abbrev pub nothing : Declarations
nothing = record { objects = []; fields = [] }

-- one more object, behind the others
abbrev pub with_object : Declarations → List ℕ → Declarations
with_object schema name = record schema { objects = schema.objects ++ name ∷ [] }

-- one more field, behind the others
abbrev pub with_field : Declarations → Field → Declarations
with_field schema field = record schema { fields = schema.fields ++ field ∷ [] }

-- the field that these parts declare
abbrev pub field_of : List ℕ → ObjectId → ObjectId → ℕ → (is_transient : Bool) → Field
field_of name owner guard first is_transient = record { name = name; owner = owner.0; guard = guard.0; first = first; is_transient = is_transient }

-- a name that may be declared beside these
abbrev pub IsNewName : List (List ℕ) → List ℕ → Type 0
IsNewName names name = (name ≢ []) × (Contains names name → ⊥)

-- no limit is passed, and each field has an owner and a guard that are declared
pub record IsWithinLimits (schema : Declarations) : Type 0 where
  pub objects : object_count schema ≤ MOST_OBJECTS
  pub fields : field_count schema ≤ MOST_FIELDS
  pub owners : (field : ℕ) → field < field_count schema → owner_of schema field < object_count schema
  pub guards : (field : ℕ) → field < field_count schema → guard_of schema field < object_count schema
  pub firsts : (field : ℕ) → field < field_count schema → first_of schema field < 2 ^ 64

-- what holds of each schema that was built
pub record IsSchema (schema : Declarations) : Type 0 where
  pub some_object : 0 < object_count schema
  pub some_field : 0 < field_count schema
  pub limits : IsWithinLimits schema
