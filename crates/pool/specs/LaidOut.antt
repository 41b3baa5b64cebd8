-- A pool as a schema declares it (this project's own): an object, the field of its head, and a field of each slot.
use Rattle.std.specs.Prelude.{ℕ, zero, suc, ◌≡◌, ◌≢◌, ◌+◌, ◌==◌, ◌<◌, ◌≤◌, ◌⊎◌, if◌then◌else◌, false, List, [], ◌++◌, Contains, Result, Ok, Err, codes, decimal, slice_get}
use Rattle.std.specs.List.{range_with_len}
use Rattle.heap_model.specs.declared.limits.TheConstants.{MOST_OBJECTS, MOST_FIELDS}
use Rattle.guards.specs.declared.error.SchemaError.{SchemaError}
use Rattle.guards.specs.declared.error.SchemaError.TheVariants.{Empty, DoubleName, UnknownObject, TooMany, NoMemory}
use Rattle.guards.specs.Schema.{Field, Declarations, object_count, field_count, names_of, firsts_of, with_object, with_field}
use Rattle.pool.specs.Knowledge.{Values}
use Rattle.pool.specs.FreeList.{Place, IsFreeList}

-- a field's name: the pool's, a dot, and what tells the field from the pool's others
abbrev pub cell_name : (name cell : List ℕ) → List ℕ
cell_name name cell = name ++ codes "." ++ cell

-- the head's field is `NAME.head`
abbrev pub head_name : List ℕ → List ℕ
head_name name = cell_name name (codes "head")

-- that of slot 7 is `NAME.7`
abbrev pub slot_name : List ℕ → (slot : ℕ) → List ℕ
slot_name name s = cell_name name (decimal s)

-- the link with which a slot begins: the next slot follows it, and none the last one
abbrev pub first_link : (slots slot : ℕ) → ℕ
first_link n s = if s + 1 == n then 0 else s + 2

-- a persistent field that the pool's object owns and guards
abbrev pub cell_field : (name : List ℕ) → (object first : ℕ) → Field
cell_field name o first = record { name = name; owner = o; guard = o; first = first; is_transient = false }

-- the first `k` of the slots' fields are declared, in order
abbrev pub with_slots : Declarations → List ℕ → (object slots : ℕ) → (k : ℕ) → Declarations
with_slots d name o n zero = d
with_slots d name o n (suc k) = with_field (with_slots d name o n k) (cell_field (slot_name name k) o (first_link n k))

-- the object and the head's field are declared
abbrev pub with_head : Declarations → List ℕ → Declarations
with_head d name = with_field (with_object d name) (cell_field (head_name name) (object_count d) 1)

-- so are the head and the first `k` slots
abbrev pub with_part : Declarations → List ℕ → (slots k : ℕ) → Declarations
with_part d name n k = with_slots (with_head d name) name (object_count d) n k

-- one of the pool's fields has a name that stands among these
abbrev pub NamesACell : List (List ℕ) → List ℕ → (slots : ℕ) → Type 0
NamesACell names name n = Contains names (head_name name) ⊎ ((s : ℕ) × (s < n) × Contains names (slot_name name s))

-- the pool has no name that stands already
pub record IsNewPool (d : Declarations) (name : List ℕ) (n : ℕ) : Type 0 where
  pub named : name ≢ []
  pub object : Contains d.objects name → ⊥
  pub cells : NamesACell (names_of d.fields) name n → ⊥

-- there is room for an object more, and for the fields of a head and so many slots
abbrev pub HasRoom : Declarations → (slots : ℕ) → Type 0
HasRoom d n = (object_count d ≢ MOST_OBJECTS) × (field_count d + n < MOST_FIELDS)

-- the values with which the fields begin
abbrev pub first_values : Declarations → Values
first_values d = λ f. slice_get (firsts_of d.fields) f

-- The pool is declared, and its fields are those after what was declared before: with the values with which they begin, all
-- slots are free, in their order.
pub record LaysOut (d e : Declarations) (name : List ℕ) (n : ℕ) (p : Place) : Type 0 where
  pub new : IsNewPool d name n
  pub room : HasRoom d n
  pub place : p ≡ record { head = field_count d; slots = n }
  -- A pool is declared with the documented names, guards and first values.
  pub declared : e ≡ with_part d name n n
  -- The first values of a pool's fields spell all its slots free, in order.
  pub free : IsFreeList p (first_values e) (range_with_len 0 n)

-- what was declared before memory ran out: nothing, the object, or the head and some slots too
abbrev pub IsPart : Declarations → Declarations → List ℕ → (slots : ℕ) → Type 0
IsPart d e name n = ((e ≡ d) ⊎ (e ≡ with_object d name)) ⊎ ((k : ℕ) × (k ≤ n) × (e ≡ with_part d name n k))

-- what `lay_out` answers: `d` is declared before the call, and `e` after it
abbrev pub LayOutAnswers : (d e : Declarations) → List ℕ → (slots : ℕ) → Result Place SchemaError → Type 0
LayOutAnswers d e name n (Ok p) = LaysOut d e name n p
LayOutAnswers d e name n (Err Empty) = (name ≡ []) × (e ≡ d)
LayOutAnswers d e name n (Err DoubleName) = (name ≢ []) × (Contains d.objects name ⊎ NamesACell (names_of d.fields) name n) × (e ≡ d)
LayOutAnswers d e name n (Err UnknownObject) = ⊥
LayOutAnswers d e name n (Err TooMany) = IsNewPool d name n × ((object_count d ≡ MOST_OBJECTS) ⊎ (MOST_FIELDS ≤ field_count d + n)) × (e ≡ d)
LayOutAnswers d e name n (Err NoMemory) = IsNewPool d name n × HasRoom d n × IsPart d e name n
