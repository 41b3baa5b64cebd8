-- What a declaration makes of what was declared, and which are refused, and why (docs/SCRIPTS.md, "Lines" and "Refusals").
use Rattle.std.specs.Prelude.{ℕ, ◌≡◌, Bool, List, [], Some, Result, IfOk, OnOk, Contains, slice_get}
use Rattle.guards.specs.Schema.{Declarations, object_count, field_count, names_of, with_object, with_field}
use Rattle.heap_model.specs.declared.limits.TheConstants.{MOST_OBJECTS, MOST_FIELDS}
use Rattle.script_lines.specs.Orders.{Order}
use Rattle.script_lines.specs.Orders as order
use Rattle.script_declarations.specs.declared.declared.Declared.{Declared}
use Rattle.script_declarations.specs.declared.declared.Declared.TheVariants.{Added, Refused}
use Rattle.script_declarations.specs.declared.declared.DeclarationRefusal.{DeclarationRefusal}
use Rattle.script_declarations.specs.declared.declared.DeclarationRefusal.TheVariants as why

-- it is refused so where the test holds; where it doesn't, the rest is so
pub record Tests (test refused_so rest : Type 0) : Type 0 where
  pub refused : test → refused_so
  pub passed : ¬ test → rest

-- it is refused so where the name isn't declared; where it is, the rest is so of its number
pub record Named (names : List (List ℕ)) (name : List ℕ) (refused_so : Type 0) (rest : ℕ → Type 0) : Type 0 where
  pub unknown : ¬ Contains names name → refused_so
  pub known : (number : ℕ) → slice_get names number ≡ Some name → rest number

module _ (old : Declarations) (said : Declared) (new : Declarations) where
  -- the declaration is refused for this reason, and changes nothing
  abbrev pub Refuses : DeclarationRefusal → Type 0
  Refuses reason = (said ≡ Refused reason) × (new ≡ old)

  -- one more object
  abbrev pub DeclaresObject : (name : List ℕ) → Type 0
  DeclaresObject name =
      Tests (name ≡ []) (Refuses why.Empty) (
      Tests (Contains old.objects name) (Refuses why.DoubleName) (
      Tests (object_count old ≡ MOST_OBJECTS) (Refuses why.TooMany) (
      (said ≡ Added) × (new ≡ with_object old name))))

  -- one more field, persistent or transient
  abbrev pub DeclaresField : (name owner guard : List ℕ) (first : ℕ) (is_transient : Bool) → Type 0
  DeclaresField name owner guard first is_transient =
      Tests (name ≡ []) (Refuses why.Empty) (
      Tests (Contains (names_of old.fields) name) (Refuses why.DoubleName) (
      Named old.objects owner (Refuses why.Unknown) (λ o.
      Named old.objects guard (Refuses why.Unknown) (λ g.
      Tests (field_count old ≡ MOST_FIELDS) (Refuses why.TooMany) (
      (said ≡ Added) × (new ≡ with_field old (record { name = name; owner = o; guard = g; first = first; is_transient = is_transient })))))))

-- what is declared becomes the second by this, and it is told so; no other order declares anything
abbrev pub Declares : (old : Declarations) → Order → Declared → (new : Declarations) → Type 0
Declares old (order.Object name) said new = DeclaresObject old said new name
Declares old (order.Field name owner guard first is_transient) said new = DeclaresField old said new name owner guard first is_transient
Declares _ _ _ _ = ⊥

-- one more field, where there is an answer
abbrev pub FieldIs : {E : Type 0} (old new : Declarations) (name owner guard : List ℕ) (first : ℕ) (is_transient : Bool) → Result Declared E → Type 0
FieldIs old new name owner guard first is_transient result = IfOk result (λ said. DeclaresField old said new name owner guard first is_transient)

-- where the answer is a refusal, nothing is declared
abbrev pub KeepsWhatItRefuses : {E : Type 0} (old new : Declarations) → Result Declared E → Type 0
KeepsWhatItRefuses old new result = IfOk result (λ said. (reason : DeclarationRefusal) → said ≡ Refused reason → new ≡ old)

-- the order declares something, where nothing has failed
abbrev pub Adds : {E : Type 0} (old : Declarations) → Order → (new : Declarations) → Result Unit E → Type 0
Adds old order new result = OnOk result (Declares old order Added new)

abbrev pub AddsField : {E : Type 0} (old : Declarations) (name owner guard : List ℕ) (first : ℕ) (is_transient : Bool) (new : Declarations)
    → Result Unit E → Type 0
AddsField old name owner guard first is_transient new result = Adds old (order.Field name owner guard first is_transient) new result
