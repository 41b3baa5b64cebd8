-- What the declaration of a field answers, and what it leaves (this project's own).
use Rattle.std.specs.Prelude.{◌≡◌, ◌≢◌, ◌<◌, ◌≤◌, ◌↔◌, ◌⊎◌, ℕ, Bool, List, [], Contains, Result, IfOk, OnErr, IsErrOf}
use Rattle.heap_model.specs.declared.limits.TheConstants.{MOST_FIELDS}
use Rattle.heap_model.specs.declared.ids.ObjectId.{ObjectId}
use Rattle.heap_model.specs.declared.ids.FieldId.{FieldId}
use Rattle.guards.specs.declared.error.SchemaError.{SchemaError}
use Rattle.guards.specs.declared.error.SchemaError.TheVariants as refusal
use Rattle.guards.specs.Schema.{Declarations, object_count, field_count, names_of, with_field, field_of, IsNewName}

-- The field stands behind the others, and has the next number; or it is refused, and nothing is declared. The refusals are
-- tried in this order; want of memory comes last.
pub record Declares (owner : ObjectId) (name : List ℕ) (guard : ObjectId) (first : ℕ) (is_transient : Bool)
    (old : Declarations) (result : Result FieldId SchemaError) (new : Declarations) : Type 0 where
  -- An accepted field gets the next number, and stands after the fields before it, with just what was declared of it.
  pub ok : IfOk result (λ id. (id.0 ≡ field_count old) × (new ≡ with_field old (field_of name owner guard first is_transient)))
  -- A field is refused as `Empty` exactly where its name is empty.
  pub empty : IsErrOf result refusal.Empty ↔ (name ≡ [])
  -- A field is refused as `DoubleName` exactly where its name isn't empty and another field has it.
  pub double_name : IsErrOf result refusal.DoubleName ↔ ((name ≢ []) × Contains (names_of old.fields) name)
  -- A field is refused as `UnknownObject` exactly where its name is new and its owner or its guard isn't declared.
  pub unknown_object : IsErrOf result refusal.UnknownObject
      ↔ (IsNewName (names_of old.fields) name × ((object_count old ≤ owner.0) ⊎ (object_count old ≤ guard.0)))
  -- A field is refused as `TooMany` exactly where nothing before is wrong and there are as many fields as a schema may
  -- have.
  pub too_many : IsErrOf result refusal.TooMany
      ↔ (IsNewName (names_of old.fields) name × (owner.0 < object_count old) × (guard.0 < object_count old) × (field_count old ≡ MOST_FIELDS))
  -- A refused field leaves the builder as it was.
  pub err : OnErr result (new ≡ old)
