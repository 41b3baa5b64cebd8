-- What each call of a transfer answers, and leaves.
use Rattle.std.proofs.Common.{ℕ, zero, suc, if◌then◌else◌, true, false, ◌≡◌, ◌≢◌, ◌+◌, ◌<◌, ◌≤◌, inl, inr, Option, Some, None, Result, Ok, Err, IfErr, IfOk, IfSome, refl, sym, ap, ◌∙◌, arith}
use Rattle.std.specs.Result.{result_ok}
use Rattle.std.proofs.lemmas.Bool.{cases_lt}
use Rattle.std.proofs.lemmas.Bool.Decides.{eqb_tells}
use Rattle.heap_model.specs.declared.ids.ObjectId.{ObjectId}
use Rattle.heap_model.specs.declared.ids.FieldId.{FieldId}
use Rattle.heap_model.specs.declared.limits.TheConstants.{SECTION_RECORDS}
use Rattle.heap_model.specs.Own.{Hold}
use Rattle.monitor.specs.Seats.{Home}
use Rattle.thread_steps.specs.Views.{View, hold, plan}
use Rattle.session.specs.declared.error.SessionError.{SessionError}
use Rattle.session.specs.declared.error.SessionError.TheVariants.{UnknownObject, UnknownField, NotHeld, Behind, SectionFull, TooMany, TooDeep, NoFat, Worn, Held}
use Rattle.session.specs.declared.session.Session.{Session}
use Rattle.session.specs.Calls.{Begins, EntersAgain, EntersFirst, Exits, GoesOn, HoldsGuard, IsSettled, Loads, Stores, StoresAs, WaitsToEnter, LacksRoom, records_of}
use Rattle.session.specs.Logs.{Rooms, held_count, section_records}
use Rattle.session.specs.Sessions.{rooms_of, view_of}
use Rattle.ledger.specs.Transfers.{IsAccount, stores, balance_of, monitor_of}
use Rattle.ledger.specs.Holding.{HasRead, IsTaken, KeepsOthers, Misses, SameHolds, Stays, Took, needs}
use Rattle.ledger.proofs.Telling.{Entered, Exited, Same, Wrote, entered, entered_again, entered_later, exited, exited_nested, same_load, same_looks, same_quiet, same_both, wrote}

-- An enter that is answered Ok.
first_taken : (c : Rooms) (u w : View) (o : ObjectId) → EntersFirst c u w o (Ok tt) → Entered u w o
first_taken c u w o e = by_count (held_count u) refl
  where
    by_count : (n : ℕ) → held_count u ≡ n → Entered u w o
    by_count zero is = let b = e.0 is in entered u w o b.2.0 _ b.2.2
    by_count (suc n) is = let b = e.1 (omega arith) in entered u w o b.2.0 _ b.2.2

pub taken : (h : Home) (x y : Session) (o : ObjectId) → WaitsToEnter h x y o (Ok tt) → (o.0 < (plan h).objects) × Entered (view_of x) (view_of y) o
taken h x y o e = elim (cases_lt o.0 (plan h).objects) [
  | inl low ↦ (low, by_hold low (hold (view_of x) o.0) refl)
  | inr high ↦ absurd (let clash : ◌≡◌ {A = Result (Unit {0}) SessionError} (Ok tt) (Err UnknownObject) = (e.unknown high).0 in cc)
]
  where
    by_hold : o.0 < (plan h).objects → (k : Option Hold) → hold (view_of x) o.0 ≡ k → Entered (view_of x) (view_of y) o
    by_hold low None is = let f = e.first low is in entered_later (view_of x) f.later (view_of y) o (same_looks (view_of x) f.later o (f.looks, f.only, f.told)) (first_taken (rooms_of x) f.later (view_of y) o f.enters)
    by_hold low (Some k) is = entered_again (view_of x) (view_of y) o k is (e.again k low is).1

-- An enter that is refused has told looks alone.
pub record Refused (v w : View) (e : SessionError) : Type 0 where
  pub same : Same v w
  pub other : e ≢ UnknownObject

again_refused : (v w : View) (o : ObjectId) (k : Hold) (e : SessionError) → EntersAgain v w o k (Err e) → Refused v w e
again_refused v w o k TooDeep is = record { same = same_quiet v w is.1; other = λ x. absurd cc }
again_refused v w o k NoFat is = record { same = same_quiet v w is.3; other = λ x. absurd cc }
again_refused v w o k _ is = absurd is

begins_refused : (c : Rooms) (v w : View) (o : ObjectId) (e : SessionError) → IsSettled (Err e) → Begins c v w o (Err e) → Refused v w e
begins_refused c v w o Behind settled is = record { same = same_quiet v w is.1; other = λ x. absurd cc }
begins_refused c v w o Worn settled (fits, inl none) = record { same = same_quiet v w none.1; other = λ x. absurd cc }
begins_refused c v w o Worn settled (fits, inr tried) = record { same = same_looks v w o (_, ((_, refl), tt), tried.1.2); other = λ x. absurd cc }
begins_refused c v w o (Held x) settled is = absurd settled
begins_refused c v w o UnknownObject settled is = absurd is
begins_refused c v w o UnknownField settled is = absurd is
begins_refused c v w o NotHeld settled is = absurd is
begins_refused c v w o SectionFull settled is = absurd is
begins_refused c v w o TooMany settled is = absurd is
begins_refused c v w o TooDeep settled is = absurd is
begins_refused c v w o NoFat settled is = absurd is

goes_on_refused : (v w : View) (o : ObjectId) (e : SessionError) → IsSettled (Err e) → GoesOn v w o (Err e) → Refused v w e
goes_on_refused v w o SectionFull settled is = record { same = same_quiet v w is.1; other = λ x. absurd cc }
goes_on_refused v w o TooMany settled is = record { same = same_quiet v w is.2; other = λ x. absurd cc }
goes_on_refused v w o Worn settled is = record { same = same_looks v w o (_, ((_, refl), tt), is.2.2); other = λ x. absurd cc }
goes_on_refused v w o (Held x) settled is = absurd settled
goes_on_refused v w o UnknownObject settled is = absurd is
goes_on_refused v w o UnknownField settled is = absurd is
goes_on_refused v w o NotHeld settled is = absurd is
goes_on_refused v w o Behind settled is = absurd is
goes_on_refused v w o TooDeep settled is = absurd is
goes_on_refused v w o NoFat settled is = absurd is

first_refused : (c : Rooms) (v w : View) (o : ObjectId) (e : SessionError) → IsSettled (Err e) → EntersFirst c v w o (Err e) → Refused v w e
first_refused c v w o e settled is = by_count (held_count v) refl
  where
    by_count : (n : ℕ) → held_count v ≡ n → Refused v w e
    by_count zero none = begins_refused c v w o e settled (is.0 none)
    by_count (suc n) some = goes_on_refused v w o e settled (is.1 (omega arith))

pub refused : (h : Home) (x y : Session) (o : ObjectId) (e : SessionError) → WaitsToEnter h x y o (Err e) → Same (view_of x) (view_of y) × (e ≡ UnknownObject → (plan h).objects ≤ o.0)
refused h x y o e is = elim (cases_lt o.0 (plan h).objects) [
  | inl low ↦ (let r = by_hold low (hold (view_of x) o.0) refl in (r.same, λ unknown. absurd (r.other unknown)))
  | inr high ↦ (same_quiet (view_of x) (view_of y) (is.unknown high).1, λ unknown. high)
]
  where
    by_hold : o.0 < (plan h).objects → (k : Option Hold) → hold (view_of x) o.0 ≡ k → Refused (view_of x) (view_of y) e
    by_hold low None none =
        let f = is.first low none in let r = first_refused (rooms_of x) f.later (view_of y) o e is.settled f.enters in
        record { same = same_both (view_of x) f.later (view_of y) (same_looks (view_of x) f.later o (f.looks, f.only, f.told)) r.same; other = r.other }
    by_hold low (Some k) some = again_refused (view_of x) (view_of y) o k e (is.again k low some)

-- What is held stays held.
pub keeps : (h : Home) (x y : Session) (p : ObjectId) → hold (view_of y) p.0 ≡ hold (view_of x) p.0 → IsTaken h x p → IsTaken h y p
keeps h x y p same t = (t.0, t.1, same ∙ t.2, t.3)

-- so for an enter
pub took : (h : Home) (x y : Session) (o : ObjectId) → WaitsToEnter h x y o (Ok tt) → Took h x y o
took h x y o e = let t = taken h x y o e in record {
  taken = (t.0, t.1.mine.0, t.1.mine.1, t.1.mine.2);
  keeps = λ p held. by_object t.0 t.1 p held;
  nothing = t.1.stored;
  needs = t.1.needed;
}
  where
    by_object : o.0 < (plan h).objects → Entered (view_of x) (view_of y) o → (p : ObjectId) → IsTaken h x p → IsTaken h y p
    by_object low t p held = elim (eqb_tells o.0 p.0) [
      | inl e ↦ (held.0, t.mine.0, ap (λ (n : ℕ). hold (view_of y) n) (sym e.1) ∙ t.mine.1, t.mine.2)
      | inr ne ↦ keeps h x y p (t.others p.0 ne.1) held
    ]

pub misses : (h : Home) (x y : Session) (o : ObjectId) (e : SessionError) → WaitsToEnter h x y o (Err e) → Misses h x y o e
misses h x y o e is = let r = refused h x y o e is in record { keeps = λ p. keeps h x y p (r.0.held p.0); nothing = r.0.stored; unknown = r.1 }

-- An exit of a monitor that the thread has.
pub record Left (h : Home) (x y : Session) (o : ObjectId) (r : Result (Unit {0}) SessionError) : Type 0 where
  pub ok : r ≡ Ok tt
  pub others : KeepsOthers h x y o
  pub nothing : stores (view_of y).events ≡ stores (view_of x).events

left_by : (h : Home) (x y : Session) (o : ObjectId) (r : Result (Unit {0}) SessionError) → r ≡ Ok tt → Exited (view_of x) (view_of y) o → Left h x y o r
left_by h x y o r ok e = record { ok = ok; others = λ p apart. keeps h x y p (e.others p.0 apart); nothing = e.stored }

pub leaves : (h : Home) (x y : Session) (o : ObjectId) (r : Result (Unit {0}) SessionError) → IsTaken h x o → Exits h x y o r → Left h x y o r
leaves h x y o r t e = elim (cases_lt 1 t.1.count) [
  | inl many ↦ (let n = e.nested t.1 t.0 t.2 many in left_by h x y o r n.1 (exited_nested (view_of x) (view_of y) o n.2))
  | inr few ↦ (let some = t.3 in let n = e.last t.1 t.0 t.2 (omega arith) in left_by h x y o r n.1 (exited (view_of x) (view_of y) o t.1.number n.2))
]

-- A load under the account's monitor.
pub stays : (x y : Session) → Same (view_of x) (view_of y) → Stays x y
stays x y s = record { nothing = s.stored; holds = s.held; needs = s.needed }

-- a load's answer
pub data Loaded (h : Home) (x y : Session) (n : ℕ) (r : Result ℕ SessionError) : Type 0 where
  Found : (balance : ℕ) → r ≡ Ok balance → n < (plan h).fields → HoldsGuard h y (balance_of n) → Loaded h x y n r
  Missing : (e : SessionError) → r ≡ Err e → (IsAccount h n → ⊥) → Loaded h x y n r

pub loads : (h : Home) (x y : Session) (n : ℕ) (r : Result ℕ SessionError) → IsTaken h x (monitor_of n) → Loads h x y (balance_of n) r → Stays x y × Loaded h x y n r
loads h x y n r t l = elim (cases_lt n (plan h).fields) [
  | inl low ↦ by_hold low (hold (view_of x) ((plan h).guard n)) refl
  | inr high ↦ (let u = l.unknown high in (stays x y (same_quiet (view_of x) (view_of y) u.1), Missing UnknownField u.0 (λ is. (let less = is.1 in omega arith))))
]
  where
    by_hold : n < (plan h).fields → (k : Option Hold) → hold (view_of x) ((plan h).guard n) ≡ k → Stays x y × Loaded h x y n r
    by_hold low None none = let u = l.not_held low none in (
      stays x y (same_quiet (view_of x) (view_of y) u.1),
      Missing NotHeld u.0
          (λ is. (let clash : ◌≡◌ {A = Option Hold} (Some t.1) None = sym t.2 ∙ ap (λ (g : ℕ). hold (view_of x) g) (sym is.2) ∙ none in absurd cc)),
    )
    by_hold low (Some k) some = let u = l.held low (k, some) in let s = same_load (view_of x) (view_of y) (balance_of n) u.0 u.2 in
        (stays x y s, Found u.0 u.1 low (k, s.held ((plan h).guard n) ∙ some))

-- A store under the guard, in a section with room.
pub record Written (x y : Session) (r : Result (Unit {0}) SessionError) : Type 0 where
  pub ok : r ≡ Ok tt
  pub holds : SameHolds x y
  pub needs : needs y ≤ needs x + 1

stored : (v w : View) (f : FieldId) (value : ℕ) (r : Result (Unit {0}) SessionError) → (LacksRoom v (records_of v.plan f) → ⊥) → Stores v w f value r → (r ≡ Ok tt) × Wrote v w
stored v w f value (Ok done) room s = (refl, wrote v w f s.1 value s.2)
stored v w f value (Err SectionFull) room s = absurd (room s.0)
stored v w f value (Err _) room s = absurd s

has_room : (x : Session) (f : FieldId) → needs x < SECTION_RECORDS → LacksRoom (view_of x) (records_of (view_of x).plan f) → ⊥
has_room x f room lacks = elim ((view_of x).plan.is_logged f.0) as (λ b. (0 < (if b then 1 else 0)) × (SECTION_RECORDS < section_records (view_of x) + held_count (view_of x) + (if b then 1 else 0)) → ⊥) [
  | true ↦ λ l. (let a = l.1 in omega arith)
  | false ↦ λ l. (let a = l.0 in omega arith)
] lacks

pub writes : (h : Home) (x y : Session) (n value : ℕ) (r : Result (Unit {0}) SessionError) → n < (plan h).fields → HoldsGuard h x (balance_of n) → needs x < SECTION_RECORDS → StoresAs h x y (balance_of n) value r → Written x y r
writes h x y n value r low held room s = let w = stored (view_of x) (view_of y) (balance_of n) value r (has_room x (balance_of n) room) (s.held low held) in
    record { ok = w.0; holds = w.1.held; needs = w.1.needed }

-- An enter's answer, whichever it is.
pub took_if : (h : Home) (x y : Session) (o : ObjectId) (r : Result (Unit {0}) SessionError) → WaitsToEnter h x y o r → IfOk r (λ done. Took h x y o)
took_if h x y o (Ok done) is = took h x y o is
took_if h x y o (Err e) is = tt

pub missed_if : (h : Home) (x y : Session) (o : ObjectId) (r : Result (Unit {0}) SessionError) → WaitsToEnter h x y o r → IfErr r (λ e. Misses h x y o e)
missed_if h x y o (Ok done) is = tt
missed_if h x y o (Err e) is = misses h x y o e is

-- A balance, where there is one.
pub record Told (h : Home) (x y : Session) (n : ℕ) (r : Result ℕ SessionError) : Type 0 where
  pub stays : Stays x y
  pub some : IfSome (result_ok r) (λ balance. HasRead h x y n balance)
  pub none : result_ok r ≡ None → IsAccount h n → ⊥

pub told : (h : Home) (x y : Session) (n : ℕ) (r : Result ℕ SessionError) → IsTaken h x (monitor_of n) → Loads h x y (balance_of n) r → Told h x y n r
told h x y n (Ok b) t l = let a = loads h x y n (Ok b) t l in record { stays = a.0; some = by_loaded a.1; none = λ e. absurd cc }
  where
    by_loaded : Loaded h x y n (Ok b) → HasRead h x y n b
    by_loaded (Found balance is field guard) = record { told = l; field = field; guard = guard }
    by_loaded (Missing e is lacks) = absurd cc
told h x y n (Err e) t l = let a = loads h x y n (Err e) t l in record { stays = a.0; some = tt; none = λ _. by_loaded a.1 }
  where
    by_loaded : Loaded h x y n (Err e) → IsAccount h n → ⊥
    by_loaded (Found balance is field guard) = absurd cc
    by_loaded (Missing f is lacks) = lacks
