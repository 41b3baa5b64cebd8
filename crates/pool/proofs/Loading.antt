-- A session's load, as that of a cell.
use Rattle.std.proofs.Common.{ℕ, ◌≡◌, ◌<◌, ◌≤◌, if◌then◌else◌, Bool, true, false, inl, inr, ◌∷◌, [], Option, Some, None, Result, Ok, Err, MatchResult, IfOk, IfErr, refl, sym, ap, ◌∙◌, subst}
use Rattle.std.proofs.lemmas.Bool.{cases_lt, lt-ltb, le-ltb}
use Rattle.heap_model.specs.declared.ids.FieldId.{FieldId}
use Rattle.heap_model.specs.declared.event.Event.TheVariants.{Load}
use Rattle.heap_model.specs.Setting.{Setting}
use Rattle.heap_model.specs.Own.{Hold}
use Rattle.heap_model.specs.Known.{known_value}
use Rattle.thread_steps.specs.Views.{View, Lengthens, hold, IsHeld}
use Rattle.session.specs.declared.error.SessionError.{SessionError}
use Rattle.session.specs.declared.error.SessionError.TheVariants.{UnknownField, NotHeld}
use Rattle.session.specs.Calls.{IsQuiet}
use Rattle.session.specs.Sessions.{SameRing, view_of}
use Rattle.pool.specs.Knowledge.{Loaded, Reads, FailsToLoad}
use Rattle.pool.specs.declared.in_section.InSection.{InSection}
use Rattle.pool.specs.Knowing.{session_of, home_of, where_held, knowledge_in, TellsOfFields, Keeps}

-- what a load answers
abbrev pub Answers : Setting → View → View → FieldId → Result ℕ SessionError → Type 0
Answers g v w f r = MatchResult r (λ x. Reads (knowledge_in g v.events) f.0 x (knowledge_in g w.events)) (λ e. FailsToLoad (knowledge_in g v.events) f.0 e (knowledge_in g w.events))

-- a test that holds, and one that doesn't
pub where_true : {A : Type 0} (b : Bool) (x y : A) → b ≡ true → (if b then x else y) ≡ x
where_true b x y e = ap (λ (c : Bool). if c then x else y) e

pub where_false : {A : Type 0} (b : Bool) (x y : A) → b ≡ false → (if b then x else y) ≡ y
where_false b x y e = ap (λ (c : Bool). if c then x else y) e

unok : {x y : ℕ} → ◌≡◌ {A = Result ℕ SessionError} (Ok x) (Ok y) → x ≡ y
unok {x} {y} e = cc

of_known_field : (g : Setting) (v w : View) (f : FieldId) (r : Result ℕ SessionError) → f.0 < g.fields →
    (hold v (g.guard f.0) ≡ None → (r ≡ Err NotHeld) × IsQuiet v w) →
    (IsHeld v (g.guard f.0) → (x : ℕ) × (r ≡ Ok x) × Lengthens v w (Load f x ∷ [])) →
    ((x : ℕ) → IsHeld v (g.guard f.0) → known_value g v.events f.0 ≡ Some x → r ≡ Ok x) →
    (h : Option Hold) → hold v (g.guard f.0) ≡ h → Answers g v w f r
of_known_field g v w f r low not_held held known None e =
    let n = not_held e in subst (Answers g v w f) (sym n.0) (record {
      due = where_true _ (where_held (hold v (g.guard f.0)) None) (Some UnknownField) (lt-ltb f.0 g.fields low) ∙ ap (λ (h : Option Hold). where_held h None) e;
      same = ap (knowledge_in g) n.1.events;
    })
of_known_field g v w f r low not_held held known (Some k) e =
    let x = held (k, e) in subst (Answers g v w f) (sym x.1) (record {
      due = where_true _ (where_held (hold v (g.guard f.0)) None) (Some UnknownField) (lt-ltb f.0 g.fields low) ∙ ap (λ (h : Option Hold). where_held h None) e;
      agrees = λ y is. unok (sym x.1 ∙ known y (k, e) is);
      learned = ap (knowledge_in g) x.2.events;
    })

pub loads : (g : Setting) (v w : View) (f : FieldId) (r : Result ℕ SessionError) →
    (g.fields ≤ f.0 → (r ≡ Err UnknownField) × IsQuiet v w) →
    (f.0 < g.fields → hold v (g.guard f.0) ≡ None → (r ≡ Err NotHeld) × IsQuiet v w) →
    (f.0 < g.fields → IsHeld v (g.guard f.0) → (x : ℕ) × (r ≡ Ok x) × Lengthens v w (Load f x ∷ [])) →
    ((x : ℕ) → f.0 < g.fields → IsHeld v (g.guard f.0) → known_value g v.events f.0 ≡ Some x → r ≡ Ok x) →
    Answers g v w f r
loads g v w f r unknown not_held held known = elim (cases_lt f.0 g.fields) [
  | inl low ↦ of_known_field g v w f r low (not_held low) (held low) (λ x. known x low) (hold v (g.guard f.0)) refl
  | inr high ↦ let u = unknown high in subst (Answers g v w f) (sym u.0) (record {
    due = where_false _ (where_held (hold v (g.guard f.0)) None) (Some UnknownField) (le-ltb f.0 g.fields high);
    same = ap (knowledge_in g) u.1.events;
  })
]

pub when_ok : (g : Setting) (v w : View) (f : FieldId) (r : Result ℕ SessionError) → Answers g v w f r → IfOk r (λ x. Reads (knowledge_in g v.events) f.0 x (knowledge_in g w.events))
when_ok g v w f (Ok x) a = a
when_ok g v w f (Err e) a = tt

pub when_err : (g : Setting) (v w : View) (f : FieldId) (r : Result ℕ SessionError) → Answers g v w f r → IfErr r (λ e. FailsToLoad (knowledge_in g v.events) f.0 e (knowledge_in g w.events))
when_err g v w f (Ok x) a = tt
when_err g v w f (Err e) a = a

-- and it tells of the load, or of nothing
abbrev pub Tells : View → View → FieldId → Result ℕ SessionError → Type 0
Tells v w f r = MatchResult r (λ x. TellsOfFields v w (Loaded f.0 x ∷ [])) (λ e. TellsOfFields v w [])

pub quiet_tells : (v w : View) → IsQuiet v w → TellsOfFields v w []
quiet_tells v w quiet = ([], tt, refl, quiet)

tells_of_known_field : (g : Setting) (v w : View) (f : FieldId) (r : Result ℕ SessionError) →
    (hold v (g.guard f.0) ≡ None → (r ≡ Err NotHeld) × IsQuiet v w) →
    (IsHeld v (g.guard f.0) → (x : ℕ) × (r ≡ Ok x) × Lengthens v w (Load f x ∷ [])) →
    (h : Option Hold) → hold v (g.guard f.0) ≡ h → Tells v w f r
tells_of_known_field g v w f r not_held held None e = let n = not_held e in subst (Tells v w f) (sym n.0) (quiet_tells v w n.1)
tells_of_known_field g v w f r not_held held (Some k) e = let x = held (k, e) in subst (Tells v w f) (sym x.1) (Load f x.0 ∷ [], tt, refl, x.2)

pub tells_load : (g : Setting) (v w : View) (f : FieldId) (r : Result ℕ SessionError) →
    (g.fields ≤ f.0 → (r ≡ Err UnknownField) × IsQuiet v w) →
    (f.0 < g.fields → hold v (g.guard f.0) ≡ None → (r ≡ Err NotHeld) × IsQuiet v w) →
    (f.0 < g.fields → IsHeld v (g.guard f.0) → (x : ℕ) × (r ≡ Ok x) × Lengthens v w (Load f x ∷ [])) →
    Tells v w f r
tells_load g v w f r unknown not_held held = elim (cases_lt f.0 g.fields) [
  | inl low ↦ tells_of_known_field g v w f r (not_held low) (held low) (hold v (g.guard f.0)) refl
  | inr high ↦ let u = unknown high in subst (Tells v w f) (sym u.0) (quiet_tells v w u.1)
]

pub keeps_load : (u v : InSection) (f : FieldId) (r : Result ℕ SessionError) → home_of v ≡ home_of u → SameRing (session_of u) (session_of v) →
    Tells (view_of (session_of u)) (view_of (session_of v)) f r → MatchResult r (λ x. Keeps u v (Loaded f.0 x ∷ [])) (λ e. Keeps u v [])
keeps_load u v f (Ok x) home ring told = record { home = home; ring = ring; told = told }
keeps_load u v f (Err e) home ring told = record { home = home; ring = ring; told = told }
