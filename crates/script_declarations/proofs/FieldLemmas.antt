-- A field's declaration, as the lines of a script tell it.
use Rattle.std.proofs.Common.{◌≡◌, ◌≢◌, ℕ, Bool, ◌<◌, ◌≤◌, inl, inr, List, [], Contains, slice_get, Some, Result, Ok, Err, IfOk, OnErr, MatchResult, refl, ap, ◌∙◌, subst, arith}
use Rattle.std.proofs.lemmas.Option.{slice_get_within}
use Rattle.std.specs.declared.alloc.AllocError.{AllocError}
use Rattle.guards.specs.Schema.{Declarations, object_count, field_count, names_of, field_of, with_field}
use Rattle.guards.specs.Declaring.{Declares}
use Rattle.guards.specs.declared.error.SchemaError.{SchemaError}
use Rattle.guards.specs.declared.error.SchemaError.TheVariants as schema
use Rattle.heap_model.specs.declared.ids.ObjectId.{ObjectId}
use Rattle.heap_model.specs.declared.ids.FieldId.{FieldId}
use Rattle.script_declarations.specs.Declares.{Refuses, DeclaresField}
use Rattle.script_declarations.specs.Telling.{told_of_schema}
use Rattle.script_declarations.specs.declared.declared.Declared.{Declared}
use Rattle.script_declarations.specs.declared.declared.Declared.TheVariants.{Added, Refused}
use Rattle.script_declarations.specs.declared.declared.DeclarationRefusal.{DeclarationRefusal}
use Rattle.script_declarations.specs.declared.declared.DeclarationRefusal.TheVariants as why

-- the object of this number
abbrev pub object_of : ℕ → ObjectId
object_of number = record { 0 = number }

-- the object that a name stands for
pub record StandsForName (d : Declarations) (name : List ℕ) (o : ObjectId) : Type 0 where
  pub known : (k : ℕ) → slice_get d.objects k ≡ Some name → o ≡ object_of k
  pub unknown : ¬ Contains d.objects name → object_count d ≤ o.0

-- what is told
abbrev pub Told : Result FieldId SchemaError → Result Declared AllocError → Type 0
Told r told = MatchResult r (λ id. told ≡ Ok Added) (λ e. told ≡ told_of_schema e)

module _ (d new : Declarations) (o g : ObjectId) (name owner guard : List ℕ) (first : ℕ) (is_transient : Bool) (r : Result FieldId SchemaError) (said : Declared)
    (owns : StandsForName d owner o) (guards : StandsForName d guard g) (builds : Declares o name g first is_transient d r new) (is_told : Told r (Ok said)) where
  -- a refusal of the builder's
  refuse : (e : SchemaError) (w : DeclarationRefusal) → told_of_schema e ≡ Ok (Refused w) → r ≡ Err e → Refuses d said new w
  refuse e w told is =
      let kept : new ≡ d = subst (λ (x : Result FieldId SchemaError). OnErr x (new ≡ d)) is builds.err in
      let tells : ◌≡◌ {A = Result Declared AllocError} (Ok said) (told_of_schema e) = subst (λ (x : Result FieldId SchemaError). Told x (Ok said)) is is_told in
      let same : ◌≡◌ {A = Result Declared AllocError} (Ok said) (Ok (Refused w)) = tells ∙ told in
      let v : said ≡ Refused w = cc in
      (v, kept)

  -- what no reason refuses is done
  done : (k l : ℕ) → o ≡ object_of k → g ≡ object_of l → name ≢ [] → ¬ Contains (names_of d.fields) name → o.0 < object_count d → g.0 < object_count d → field_count d ≢ 16384
      → (said ≡ Added) × (new ≡ with_field d (record { name = name; owner = k; guard = l; first = first; is_transient = is_transient }))
  done k l ok gl some fresh in-o in-g room = by r refl
    where
      by : (x : Result FieldId SchemaError) → r ≡ x → (said ≡ Added) × (new ≡ with_field d (record { name = name; owner = k; guard = l; first = first; is_transient = is_transient }))
      by (Ok id) is =
          let made = subst (λ (y : Result FieldId SchemaError). IfOk y (λ id. (id.0 ≡ field_count d) × (new ≡ with_field d (field_of name o g first is_transient)))) is builds.ok in
          let tells : ◌≡◌ {A = Result Declared AllocError} (Ok said) (Ok Added) = subst (λ (y : Result FieldId SchemaError). Told y (Ok said)) is is_told in
          let added : said ≡ Added = cc in
          (added, made.1 ∙ ap (λ x. with_field d (field_of name x g first is_transient)) ok ∙ ap (λ x. with_field d (field_of name (object_of k) x first is_transient)) gl)
      by (Err schema.Empty) is = absurd (some (builds.empty.0 is))
      by (Err schema.DoubleName) is = absurd (fresh (builds.double_name.0 is).1)
      by (Err schema.UnknownObject) is = elim (builds.unknown_object.0 is).1 [ inl past ↦ absurd (omega arith) | inr past ↦ absurd (omega arith) ]
      by (Err schema.TooMany) is = absurd (room (builds.too_many.0 is).3)
      by (Err schema.NoMemory) is =
          let never : ◌≡◌ {A = Result Declared AllocError} (Ok said) (told_of_schema schema.NoMemory) = subst (λ (x : Result FieldId SchemaError). Told x (Ok said)) is is_told in absurd cc

  within : (x : ObjectId) (n : List ℕ) (k : ℕ) → slice_get d.objects k ≡ Some n → x ≡ object_of k → x.0 < object_count d
  within x n k here is = let below = slice_get_within d.objects k n here in let same : x.0 ≡ k = ap (λ (y : ObjectId). y.0) is in omega arith

  pub declared_field : DeclaresField d said new name owner guard first is_transient
  declared_field = record {
    refused = λ empty. refuse schema.Empty why.Empty refl (builds.empty.1 empty);
    passed = λ some. record {
      refused = λ double. refuse schema.DoubleName why.DoubleName refl (builds.double_name.1 (some, double));
      passed = λ fresh. record {
        unknown = λ absent. refuse schema.UnknownObject why.Unknown refl (builds.unknown_object.1 ((some, fresh), inl (owns.unknown absent)));
        known = λ k here. record {
          unknown = λ absent. refuse schema.UnknownObject why.Unknown refl (builds.unknown_object.1 ((some, fresh), inr (guards.unknown absent)));
          known = λ l there.
              let ok = owns.known k here in
              let gl = guards.known l there in
              record {
                refused = λ full. refuse schema.TooMany why.TooMany refl (builds.too_many.1 ((some, fresh), within o owner k here ok, within g guard l there gl, full));
                passed = λ room. done k l ok gl some fresh (within o owner k here ok) (within g guard l there gl) room;
              };
        };
      };
    };
  }

-- the same of what is told, if there is memory
pub if_declared_field : (d new : Declarations) (o g : ObjectId) (name owner guard : List ℕ) (first : ℕ) (is_transient : Bool) (r : Result FieldId SchemaError) (told : Result Declared AllocError)
    → StandsForName d owner o → StandsForName d guard g → Declares o name g first is_transient d r new → Told r told
    → IfOk told (λ said. DeclaresField d said new name owner guard first is_transient)
if_declared_field d new o g name owner guard first is_transient r (Ok said) owns guards builds is_told = declared_field d new o g name owner guard first is_transient r said owns guards builds is_told
if_declared_field d new o g name owner guard first is_transient r (Err none) owns guards builds is_told = tt
