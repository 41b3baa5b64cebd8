-- A session's store to two fields, as that to two cells.
use Rattle.std.proofs.Common.{ℕ, ◌≡◌, ◌+◌, ◌<◌, ◌≤◌, ◌⊎◌, nat_lt, if◌then◌else◌, inl, inr, [], ◌∷◌, Option, Some, None, Result, Ok, Err, MatchResult, OnOk, IfErr, refl, sym, ap, ◌∙◌, subst}
use Rattle.std.proofs.lemmas.Bool.{cases_lt, lt-ltb, le-ltb}
use Rattle.heap_model.specs.declared.limits.TheConstants.{SECTION_RECORDS}
use Rattle.heap_model.specs.declared.ids.FieldId.{FieldId}
use Rattle.heap_model.specs.declared.event.Event.TheVariants.{Store}
use Rattle.heap_model.specs.Setting.{Setting}
use Rattle.heap_model.specs.Own.{Hold}
use Rattle.thread_steps.specs.Views.{View, hold, IsHeld}
use Rattle.session.specs.declared.error.SessionError.{SessionError}
use Rattle.session.specs.declared.error.SessionError.TheVariants.{UnknownField, NotHeld, SectionFull}
use Rattle.session.specs.Logs.{section_records, held_count}
use Rattle.session.specs.Calls.{IsQuiet, LacksRoom}
use Rattle.session.specs.TwoStores.{StoresTwo}
use Rattle.session.specs.Sessions.{SameRing, view_of}
use Rattle.pool.specs.Knowledge.{Stored, Stores, FailsToStore}
use Rattle.pool.specs.declared.in_section.InSection.{InSection}
use Rattle.pool.specs.Knowing.{session_of, home_of, Keeps, TellsOfFields, where_held, full_fault_in, records_of_two, store_fault_in, knowledge_in}
use Rattle.pool.proofs.Loading.{where_true, where_false, quiet_tells}

-- what a store to two answers
abbrev pub Answers : Setting → View → View → FieldId → ℕ → FieldId → ℕ → Result (Unit {0}) SessionError → Type 0
Answers g v w f x h y r = MatchResult r (λ _. Stores (knowledge_in g v.events) f.0 x h.0 y (knowledge_in g w.events)) (λ e. FailsToStore (knowledge_in g v.events) f.0 h.0 e (knowledge_in g w.events))

-- of fields that there are, the fault is that of the monitors
due_by_holds : (v : View) (f h : FieldId) → f.0 < v.plan.fields → h.0 < v.plan.fields → (a b : Option Hold) → hold v (v.plan.guard f.0) ≡ a → hold v (v.plan.guard h.0) ≡ b →
    store_fault_in v.plan v.events f.0 h.0 ≡ where_held a (where_held b (full_fault_in v.plan v.events (records_of_two v.plan f.0 h.0)))
due_by_holds v f h low low_too a b is_a is_b =
    where_true _ _ (Some UnknownField) (lt-ltb f.0 v.plan.fields low) ∙ where_true _ _ (Some UnknownField) (lt-ltb h.0 v.plan.fields low_too)
    ∙ ap (λ (x : Option Hold). where_held x (where_held (hold v (v.plan.guard h.0)) (full_fault_in v.plan v.events (records_of_two v.plan f.0 h.0)))) is_a
    ∙ ap (λ (x : Option Hold). where_held a (where_held x (full_fault_in v.plan v.events (records_of_two v.plan f.0 h.0)))) is_b

full : (v : View) (n : ℕ) → LacksRoom v n → full_fault_in v.plan v.events n ≡ Some SectionFull
full v n is = where_true _ (if nat_lt SECTION_RECORDS (section_records v + held_count v + n) then Some SectionFull else None) None (lt-ltb 0 n is.0)
    ∙ where_true _ (Some SectionFull) None (lt-ltb SECTION_RECORDS (section_records v + held_count v + n) is.1)

not_full : (v : View) (n : ℕ) → (LacksRoom v n → ⊥) → full_fault_in v.plan v.events n ≡ None
not_full v n room = elim (cases_lt 0 n) [
  | inl some ↦ elim (cases_lt SECTION_RECORDS (section_records v + held_count v + n)) [
    | inl is ↦ absurd (room (some, is))
    | inr few ↦ where_true _ (if nat_lt SECTION_RECORDS (section_records v + held_count v + n) then Some SectionFull else None) None (lt-ltb 0 n some)
        ∙ where_false _ (Some SectionFull) None (le-ltb SECTION_RECORDS (section_records v + held_count v + n) few)
  ]
  | inr none ↦ where_false _ (if nat_lt SECTION_RECORDS (section_records v + held_count v + n) then Some SectionFull else None) None (le-ltb 0 n none)
]

-- both monitors are held
of_held : (v w : View) (f : FieldId) (x : ℕ) (h : FieldId) (y : ℕ) (r : Result (Unit {0}) SessionError) → store_fault_in v.plan v.events f.0 h.0 ≡ full_fault_in v.plan v.events (records_of_two v.plan f.0 h.0) →
    StoresTwo v w f x h y r → Answers v.plan v w f x h y r
of_held v w f x h y (Ok done) due s = record { due = due ∙ not_full v (records_of_two v.plan f.0 h.0) s.0; learned = ap (λ es. (knowledge_in v.plan es).value) s.3.events }
of_held v w f x h y (Err SectionFull) due s = record { due = due ∙ full v (records_of_two v.plan f.0 h.0) s.0; same = ap (knowledge_in v.plan) s.1.events }
of_held v w f x h y (Err _) due s = absurd s

of_known_fields : (v w : View) (f : FieldId) (x : ℕ) (h : FieldId) (y : ℕ) (r : Result (Unit {0}) SessionError) → f.0 < v.plan.fields → h.0 < v.plan.fields →
    ((hold v (v.plan.guard f.0) ≡ None) ⊎ (hold v (v.plan.guard h.0) ≡ None) → (r ≡ Err NotHeld) × IsQuiet v w) →
    (IsHeld v (v.plan.guard f.0) → IsHeld v (v.plan.guard h.0) → StoresTwo v w f x h y r) →
    (a b : Option Hold) → hold v (v.plan.guard f.0) ≡ a → hold v (v.plan.guard h.0) ≡ b → Answers v.plan v w f x h y r
of_known_fields v w f x h y r low low_too not_held held None b is_a is_b =
    let n = not_held (inl is_a) in subst (Answers v.plan v w f x h y) (sym n.0) (record { due = due_by_holds v f h low low_too None b is_a is_b; same = ap (knowledge_in v.plan) n.1.events })
of_known_fields v w f x h y r low low_too not_held held (Some k) None is_a is_b =
    let n = not_held (inr is_b) in subst (Answers v.plan v w f x h y) (sym n.0) (record { due = due_by_holds v f h low low_too (Some k) None is_a is_b; same = ap (knowledge_in v.plan) n.1.events })
of_known_fields v w f x h y r low low_too not_held held (Some k) (Some m) is_a is_b =
    of_held v w f x h y r (due_by_holds v f h low low_too (Some k) (Some m) is_a is_b) (held (k, is_a) (m, is_b))

-- What the session's clauses say, by the setting.
pub record Clauses (g : Setting) (v w : View) (f : FieldId) (x : ℕ) (h : FieldId) (y : ℕ) (r : Result (Unit {0}) SessionError) : Type 0 where
  pub unknown : (g.fields ≤ f.0) ⊎ (g.fields ≤ h.0) → (r ≡ Err UnknownField) × IsQuiet v w
  pub not_held : f.0 < g.fields → h.0 < g.fields → (hold v (g.guard f.0) ≡ None) ⊎ (hold v (g.guard h.0) ≡ None) → (r ≡ Err NotHeld) × IsQuiet v w
  pub held : f.0 < g.fields → h.0 < g.fields → IsHeld v (g.guard f.0) → IsHeld v (g.guard h.0) → StoresTwo v w f x h y r

of_own_plan : (v w : View) (f : FieldId) (x : ℕ) (h : FieldId) (y : ℕ) (r : Result (Unit {0}) SessionError) → Clauses v.plan v w f x h y r → Answers v.plan v w f x h y r
of_own_plan v w f x h y r c = elim (cases_lt f.0 v.plan.fields) [
  | inl low ↦ elim (cases_lt h.0 v.plan.fields) [
    | inl low_too ↦ of_known_fields v w f x h y r low low_too (c.not_held low low_too) (c.held low low_too) (hold v (v.plan.guard f.0)) (hold v (v.plan.guard h.0)) refl refl
    | inr high ↦ let u = c.unknown (inr high) in subst (Answers v.plan v w f x h y) (sym u.0) (record {
      due = where_true _ _ (Some UnknownField) (lt-ltb f.0 v.plan.fields low) ∙ where_false _ _ (Some UnknownField) (le-ltb h.0 v.plan.fields high);
      same = ap (knowledge_in v.plan) u.1.events;
    })
  ]
  | inr high ↦ let u = c.unknown (inl high) in subst (Answers v.plan v w f x h y) (sym u.0) (record {
    due = where_false _ _ (Some UnknownField) (le-ltb f.0 v.plan.fields high);
    same = ap (knowledge_in v.plan) u.1.events;
  })
]

pub stores_two : (g : Setting) (v w : View) (f : FieldId) (x : ℕ) (h : FieldId) (y : ℕ) (r : Result (Unit {0}) SessionError) → v.plan ≡ g → Clauses g v w f x h y r → Answers g v w f x h y r
stores_two g v w f x h y r e = subst (λ (p : Setting). Clauses p v w f x h y r → Answers p v w f x h y r) e (of_own_plan v w f x h y r)

pub when_ok : (g : Setting) (v w : View) (f : FieldId) (x : ℕ) (h : FieldId) (y : ℕ) (r : Result (Unit {0}) SessionError) → Answers g v w f x h y r →
    OnOk r (Stores (knowledge_in g v.events) f.0 x h.0 y (knowledge_in g w.events))
when_ok g v w f x h y (Ok done) a = a
when_ok g v w f x h y (Err e) a = tt

pub when_err : (g : Setting) (v w : View) (f : FieldId) (x : ℕ) (h : FieldId) (y : ℕ) (r : Result (Unit {0}) SessionError) → Answers g v w f x h y r →
    IfErr r (λ e. FailsToStore (knowledge_in g v.events) f.0 h.0 e (knowledge_in g w.events))
when_err g v w f x h y (Ok done) a = tt
when_err g v w f x h y (Err e) a = a

-- and it tells of both stores, or of nothing
abbrev pub Tells : View → View → FieldId → ℕ → FieldId → ℕ → Result (Unit {0}) SessionError → Type 0
Tells v w f x h y r = MatchResult r (λ _. TellsOfFields v w (Stored h.0 y ∷ Stored f.0 x ∷ [])) (λ e. TellsOfFields v w [])

tells_held : (v w : View) (f : FieldId) (x : ℕ) (h : FieldId) (y : ℕ) (r : Result (Unit {0}) SessionError) → StoresTwo v w f x h y r → Tells v w f x h y r
tells_held v w f x h y (Ok done) s = (Store h s.2 y ∷ Store f s.1 x ∷ [], tt, refl, s.3)
tells_held v w f x h y (Err SectionFull) s = quiet_tells v w s.1
tells_held v w f x h y (Err _) s = absurd s

tells_refused : (v w : View) (f : FieldId) (x : ℕ) (h : FieldId) (y : ℕ) (r : Result (Unit {0}) SessionError) (e : SessionError) → (r ≡ Err e) × IsQuiet v w → Tells v w f x h y r
tells_refused v w f x h y r e n = subst (Tells v w f x h y) (sym n.0) (quiet_tells v w n.1)

tells_by_holds : (v w : View) (f : FieldId) (x : ℕ) (h : FieldId) (y : ℕ) (r : Result (Unit {0}) SessionError) →
    ((hold v (v.plan.guard f.0) ≡ None) ⊎ (hold v (v.plan.guard h.0) ≡ None) → (r ≡ Err NotHeld) × IsQuiet v w) →
    (IsHeld v (v.plan.guard f.0) → IsHeld v (v.plan.guard h.0) → StoresTwo v w f x h y r) →
    (a b : Option Hold) → hold v (v.plan.guard f.0) ≡ a → hold v (v.plan.guard h.0) ≡ b → Tells v w f x h y r
tells_by_holds v w f x h y r not_held held None b is_a is_b = tells_refused v w f x h y r NotHeld (not_held (inl is_a))
tells_by_holds v w f x h y r not_held held (Some k) None is_a is_b = tells_refused v w f x h y r NotHeld (not_held (inr is_b))
tells_by_holds v w f x h y r not_held held (Some k) (Some m) is_a is_b = tells_held v w f x h y r (held (k, is_a) (m, is_b))

tells_own : (v w : View) (f : FieldId) (x : ℕ) (h : FieldId) (y : ℕ) (r : Result (Unit {0}) SessionError) → Clauses v.plan v w f x h y r → Tells v w f x h y r
tells_own v w f x h y r c = elim (cases_lt f.0 v.plan.fields) [
  | inl low ↦ elim (cases_lt h.0 v.plan.fields) [
    | inl low_too ↦ tells_by_holds v w f x h y r (c.not_held low low_too) (c.held low low_too) (hold v (v.plan.guard f.0)) (hold v (v.plan.guard h.0)) refl refl
    | inr high ↦ tells_refused v w f x h y r UnknownField (c.unknown (inr high))
  ]
  | inr high ↦ tells_refused v w f x h y r UnknownField (c.unknown (inl high))
]

pub tells_two : (g : Setting) (v w : View) (f : FieldId) (x : ℕ) (h : FieldId) (y : ℕ) (r : Result (Unit {0}) SessionError) → v.plan ≡ g → Clauses g v w f x h y r → Tells v w f x h y r
tells_two g v w f x h y r e = subst (λ (p : Setting). Clauses p v w f x h y r → Tells v w f x h y r) e (tells_own v w f x h y r)

pub keeps_two : (u v : InSection) (f : FieldId) (x : ℕ) (h : FieldId) (y : ℕ) (r : Result (Unit {0}) SessionError) → home_of v ≡ home_of u → SameRing (session_of u) (session_of v) →
    Tells (view_of (session_of u)) (view_of (session_of v)) f x h y r → MatchResult r (λ _. Keeps u v (Stored h.0 y ∷ Stored f.0 x ∷ [])) (λ e. Keeps u v [])
keeps_two u v f x h y (Ok done) home ring told = record { home = home; ring = ring; told = told }
keeps_two u v f x h y (Err e) home ring told = record { home = home; ring = ring; told = told }
