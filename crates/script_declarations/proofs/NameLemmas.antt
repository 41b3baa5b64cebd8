-- What a file declares has names that a file may have.
use Rattle.std.proofs.Common.{◌≡◌, ◌≢◌, ◌⊎◌, ℕ, zero, suc, ◌<◌, Bool, true, false, List, [], ◌∷◌, ◌++◌, Some, ap, length, get_or, refl, sym, subst, ◌∙◌, inl, inr, append_assoc, append-nil, arith}
use Rattle.std.specs.Prelude.{slice_get, Contains}
use Rattle.std.specs.Str.{bytes_eq}
use Rattle.std.proofs.lemmas.Bool.{cases_Bool}
use Rattle.std.proofs.lemmas.Bool.Decides.{not_from_Decides}
use Rattle.std.proofs.lemmas.Slice.Eq.{bytes_eq-Decides}
use Rattle.guards.specs.Schema.{Declarations, Field, names_of, nothing, with_field, with_object}
use Rattle.script_lines.specs.Grammar.{Asks, IsName}
use Rattle.script_lines.specs.Orders as order
use Rattle.script_lines.specs.Orders.{Order}
use Rattle.script_declarations.specs.Declares.{Declares, DeclaresField, DeclaresObject}
use Rattle.script_declarations.specs.declared.declared.Declared.{Declared}
use Rattle.script_declarations.specs.declared.declared.Declared.TheVariants.{Added, Refused}
use Rattle.script_declarations.specs.declared.declared.DeclarationRefusal.{DeclarationRefusal}
use Rattle.script_declarations.specs.SchemaFiles.{DeclaresLine, DeclaresLines}
use Rattle.script_declarations.specs.SchemaText.{AreNames, HasNames, NamesLaw}
use Rattle.script_declarations.proofs.TextLemmas.{names-push}

clash : (why : DeclarationRefusal) → Added ≡ Refused why → ⊥
clash why e = absurd cc

-- one name more, behind the others
pub names_more : (before names : List (List ℕ)) (x : List ℕ) → AreNames before names → IsName x → (Contains (before ++ names) x → ⊥) → AreNames before (names ++ x ∷ [])
names_more before [] x h is free = (is, (λ c. free (subst (λ xs. Contains xs x) (sym (append-nil before)) c)), tt)
names_more before (y ∷ names) x h is free =
    (h.0, h.1, names_more (before ++ y ∷ []) names x h.2 is (λ c. free (subst (λ xs. Contains xs x) (append_assoc before (y ∷ []) names) c)))

-- where a name stands, or that it stands nowhere
find_name : (names : List (List ℕ)) (x : List ℕ) → ((k : ℕ) × (slice_get names k ≡ Some x)) ⊎ (Contains names x → ⊥)
find_name [] x = inr (λ c. let low : c.0 < 0 = c.1 in absurd (omega (arith, low)))
find_name (y ∷ names) x = elim (cases_Bool (bytes_eq y x)) [
  | inl same ↦ inl (zero, ap Some ((bytes_eq-Decides y x).0 same))
  | inr other ↦ elim (find_name names x) [
    | inl there ↦ inl (suc there.0, there.1)
    | inr none ↦ inr (λ c. by_place y names x other none c.0 c.1 c.2)
  ]
]
  where
    by_place : (y : List ℕ) (names : List (List ℕ)) (x : List ℕ) → bytes_eq y x ≡ false → (Contains names x → ⊥) → (k : ℕ) → k < length (y ∷ names) → get_or (y ∷ names) k x ≡ x → ⊥
    by_place y names x other none zero low e = not_from_Decides (bytes_eq y x) (bytes_eq-Decides y x) other e
    by_place y names x other none (suc k) low e = none (k, omega (arith, low), e)

-- what an object's line adds
object_added : (old new : Declarations) (name : List ℕ) → (name ≢ []) → DeclaresObject old Added new name
    → (Contains old.objects name → ⊥) × (new ≡ with_object old name)
object_added old new name some h =
    let named = h.passed some in
    let free : Contains old.objects name → ⊥ = λ c. clash _ (named.refused c).0 in
    let room = named.passed free in
    (free, (room.passed (λ full. clash _ (room.refused full).0)).1)

-- what a field's line adds
field_added : (old new : Declarations) (name owner guard : List ℕ) (first : ℕ) (is_transient : Bool) → (name ≢ []) → DeclaresField old Added new name owner guard first is_transient
    → (Contains (names_of old.fields) name → ⊥) × ((f : Field) × (f.name ≡ name) × (new ≡ with_field old f))
field_added old new name owner guard first is_transient some h =
    let named = h.passed some in
    let free : Contains (names_of old.fields) name → ⊥ = λ c. clash _ (named.refused c).0 in
    let owned = named.passed free in (
      free,
      elim (find_name old.objects owner) [
        | inr none ↦ absurd (clash _ (owned.unknown none).0)
        | inl o ↦ elim (find_name old.objects guard) [
          | inr none ↦ absurd (clash _ ((owned.known o.0 o.1).unknown none).0)
          | inl g ↦
              let room = (owned.known o.0 o.1).known g.0 g.1 in
              (record { name = name; owner = o.0; guard = g.0; first = first; is_transient = is_transient }, refl, (room.passed (λ full. clash _ (room.refused full).0)).1)
        ]
      ],
    )

named : (name : List ℕ) → IsName name → name ≢ []
named name is e = let none : IsName [] = subst IsName e is in absurd cc

line_keeps : (order : Order) (old new : Declarations) (line : List ℕ) → Asks order line → Declares old order Added new → HasNames old → HasNames new
line_keeps (order.Object name) old new line asks h is =
    let added = object_added old new name (named name asks.2.0) h in
    subst HasNames (sym added.1) (record { objects = names_more [] old.objects name is.objects asks.2.0 added.0; fields = is.fields })
line_keeps (order.Field name owner guard first is_transient) old new line asks h is =
    let added = field_added old new name owner guard first is_transient (named name asks.2.0) h in
    let f : Field = added.1.0 in
    let more : AreNames [] (names_of old.fields ++ f.name ∷ []) = names_more [] (names_of old.fields) f.name is.fields (subst IsName (sym added.1.1) asks.2.0) (subst (λ x. Contains (names_of old.fields) x → ⊥) (sym added.1.1) added.0) in
    subst HasNames (sym added.1.2) (record { objects = is.objects; fields = subst (AreNames []) (sym (names-push old.fields f)) more })
line_keeps (order.Format lanes capacity) old new line asks h is = absurd h
line_keeps (order.Act lane action) old new line asks h is = absurd h
line_keeps order.Log old new line asks h is = absurd h
line_keeps order.Home old new line asks h is = absurd h
line_keeps order.Settle old new line asks h is = absurd h
line_keeps order.Trim old new line asks h is = absurd h
line_keeps order.Heap old new line asks h is = absurd h
line_keeps (order.Crash fill back) old new line asks h is = absurd h
line_keeps order.Show old new line asks h is = absurd h
line_keeps order.Recover old new line asks h is = absurd h
line_keeps order.Upgrade old new line asks h is = absurd h

lines_keep : (lines : List (List ℕ)) (old new : Declarations) → DeclaresLines old lines new → HasNames old → HasNames new
lines_keep [] old new h is = subst HasNames (sym h) is
lines_keep (line ∷ lines) old new h is = lines_keep lines h.0 new h.2 (elim h.1 [
  | inl skipped ↦ subst HasNames (sym skipped.2) is
  | inr declares ↦ line_keeps declares.order old h.0 line declares.asks declares.declares is
])

pub lines_have_names : NamesLaw
lines_have_names lines schema h = lines_keep lines nothing schema h (record { objects = tt; fields = tt })
