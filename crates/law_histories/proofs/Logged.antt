-- The records of a legal history are legal.
use Rattle.std.proofs.Common.{ℕ, ◌≡◌, ◌+◌, ◌==◌, if◌then◌else◌, Bool, true, false, List, [], ◌∷◌, Option, Some, None, refl, sym, ap, ◌∙◌, subst}
use Rattle.std.proofs.lemmas.Bool.{eqb-true}
use Rattle.heap_model.specs.declared.record.Record.{Record}
use Rattle.heap_model.specs.declared.record.Record.TheVariants.{Acq, Put}
use Rattle.heap_model.specs.Setting.{Setting}
use Rattle.heap_model.specs.State.{Waiting, Awake, InSet, Woken, with_at, woken, woken_from, IsWoken, awaited_in}
use Rattle.heap_model.specs.History.{state_after, IsLegalHistory, with_record, log_of}
use Rattle.heap_model.specs.Log.{holder, number, value, awaited, MayFollow, IsLegal}
use Rattle.heap_model.specs.declared.event.Event.{Event}
use Rattle.heap_model.specs.declared.event.Event.TheVariants.{Enter, NestedEnter, NestedExit, Exit, Load, Store, Wait, Resume, Notify, NotifyAll, Look}
use Rattle.heap_model.specs.declared.ids.ObjectId.{ObjectId}

-- a choice between two, split
by_test : {A : Type 0} (k i : ℕ) (x y z : A) → (k ≡ i → x ≡ z) → y ≡ z → (if k == i then x else y) ≡ z
by_test k i x y z same other =
    elim (k == i) as (λ b. (k == i) ≡ b → (if b then x else y) ≡ z) [ true ↦ λ e. same (eqb-true k i e) | false ↦ λ e. other ] refl

-- a store that is logged, or one that isn't
store_or_none : (b : Bool) (t : ℕ) (r : Record) (log : List (ℕ × Record)) (P : List (ℕ × Record) → Type 0) → (b ≡ true → P ((t, r) ∷ log)) → (b ≡ false → P log) → P (with_record t (if b then Some r else None) log)
store_or_none true t r log P here none = here refl
store_or_none false t r log P here none = none refl

pub holder_log : (g : Setting) (h : List (ℕ × Event)) (o : ℕ) → holder o (log_of g h) ≡ (state_after g h).owner o
holder_log g [] o = refl
holder_log g ((t, Enter p n) ∷ h) o = ap (λ v. if p.0 == o then Some t else v) (holder_log g h o)
holder_log g ((t, NestedEnter p) ∷ h) o = holder_log g h o
holder_log g ((t, NestedExit p) ∷ h) o = holder_log g h o
holder_log g ((t, Exit p n) ∷ h) o = ap (λ v. if p.0 == o then None else v) (holder_log g h o)
holder_log g ((t, Load f v) ∷ h) o = holder_log g h o
holder_log g ((t, Store f b a) ∷ h) o = store_or_none (g.is_logged f.0) t (Put f b a) (log_of g h) (λ log. holder o log ≡ (state_after g h).owner o) (λ _. holder_log g h o) (λ _. holder_log g h o)
holder_log g ((t, Wait p n) ∷ h) o = ap (λ v. if p.0 == o then None else v) (holder_log g h o)
holder_log g ((t, Resume p n) ∷ h) o = ap (λ v. if p.0 == o then Some t else v) (holder_log g h o)
holder_log g ((t, Notify p None) ∷ h) o = holder_log g h o
holder_log g ((t, Notify p (Some u)) ∷ h) o = holder_log g h o
holder_log g ((t, NotifyAll p w) ∷ h) o = holder_log g h o
holder_log g ((t, Look p w) ∷ h) o = holder_log g h o

pub number_log : (g : Setting) (h : List (ℕ × Event)) (o : ℕ) → number o (log_of g h) ≡ (state_after g h).number o
number_log g [] o = refl
number_log g ((t, Enter p n) ∷ h) o = number_log g h o
number_log g ((t, NestedEnter p) ∷ h) o = number_log g h o
number_log g ((t, NestedExit p) ∷ h) o = number_log g h o
number_log g ((t, Exit p n) ∷ h) o = ap (λ v. if p.0 == o then n + 1 else v) (number_log g h o)
number_log g ((t, Load f v) ∷ h) o = number_log g h o
number_log g ((t, Store f b a) ∷ h) o = store_or_none (g.is_logged f.0) t (Put f b a) (log_of g h) (λ log. number o log ≡ (state_after g h).number o) (λ _. number_log g h o) (λ _. number_log g h o)
number_log g ((t, Wait p n) ∷ h) o = ap (λ v. if p.0 == o then n + 1 else v) (number_log g h o)
number_log g ((t, Resume p n) ∷ h) o = number_log g h o
number_log g ((t, Notify p None) ∷ h) o = number_log g h o
number_log g ((t, Notify p (Some u)) ∷ h) o = number_log g h o
number_log g ((t, NotifyAll p w) ∷ h) o = number_log g h o
number_log g ((t, Look p w) ∷ h) o = number_log g h o

-- the value of a field that is logged
pub value_log : (g : Setting) (h : List (ℕ × Event)) (i : ℕ) → g.is_logged i ≡ true → value g.first i (log_of g h) ≡ (state_after g h).value i
value_log g [] i is = refl
value_log g ((t, Enter p n) ∷ h) i is = value_log g h i is
value_log g ((t, NestedEnter p) ∷ h) i is = value_log g h i is
value_log g ((t, NestedExit p) ∷ h) i is = value_log g h i is
value_log g ((t, Exit p n) ∷ h) i is = value_log g h i is
value_log g ((t, Load f v) ∷ h) i is = value_log g h i is
value_log g ((t, Store f b a) ∷ h) i is = store_or_none (g.is_logged f.0) t (Put f b a) (log_of g h) (λ log. value g.first i log ≡ (if f.0 == i then a else (state_after g h).value i))
    (λ _. ap (λ v. if f.0 == i then a else v) (value_log g h i is))
    (λ not. sym (by_test f.0 i a ((state_after g h).value i) (value g.first i (log_of g h)) (λ e. absurd (let both : true ≡ false = sym is ∙ ap g.is_logged (sym e) ∙ not in cc)) (sym (value_log g h i is))))
value_log g ((t, Wait p n) ∷ h) i is = value_log g h i is
value_log g ((t, Resume p n) ∷ h) i is = value_log g h i is
value_log g ((t, Notify p None) ∷ h) i is = value_log g h i is
value_log g ((t, Notify p (Some u)) ∷ h) i is = value_log g h i is
value_log g ((t, NotifyAll p w) ∷ h) i is = value_log g h i is
value_log g ((t, Look p w) ∷ h) i is = value_log g h i is

owed_woken : (w : Waiting) → awaited_in (woken w) ≡ awaited_in w
owed_woken Awake = refl
owed_woken (InSet o c) = refl
owed_woken (Woken o c) = refl

owed_woken_from : (o : ℕ) (w : Waiting) → awaited_in (woken_from o w) ≡ awaited_in w
owed_woken_from o Awake = refl
owed_woken_from o (InSet p c) = elim (p == o) as (λ b. awaited_in (if b then Woken p c else InSet p c) ≡ Some p) [ true ↦ refl | false ↦ refl ]
owed_woken_from o (Woken p c) = refl

-- a record of an awake thread that is no wait leaves all as they wait
awake_stays : (w : ℕ → Waiting) (u t : ℕ) (v : Option ℕ) → w u ≡ Awake → v ≡ awaited_in (w t) → (if u == t then None else v) ≡ awaited_in (w t)
awake_stays w u t v awake ih = by_test u t None v (awaited_in (w t)) (λ e. ap awaited_in (sym awake ∙ ap w e)) ih

-- the thread's own state changes with its record
owed_changes : (w : ℕ → Waiting) (u t : ℕ) (new : Waiting) (v : Option ℕ) → v ≡ awaited_in (w t) → (if u == t then awaited_in new else v) ≡ awaited_in (with_at w u new t)
owed_changes w u t new v ih = elim (u == t) as (λ b. (if b then awaited_in new else v) ≡ awaited_in (if b then new else w t)) [ true ↦ refl | false ↦ ih ]

owed_notified : (w : ℕ → Waiting) (u t : ℕ) → awaited_in (w t) ≡ awaited_in (with_at w u (woken (w u)) t)
owed_notified w u t = elim (u == t) as (λ b. (u == t) ≡ b → awaited_in (w t) ≡ awaited_in (if b then woken (w u) else w t))
    [ true ↦ λ e. sym (owed_woken (w u) ∙ ap (λ k. awaited_in (w k)) (eqb-true u t e)) | false ↦ λ e. refl ] refl

pub waits_log : (g : Setting) (h : List (ℕ × Event)) (t : ℕ) → IsLegalHistory g h → awaited t (log_of g h) ≡ awaited_in ((state_after g h).waiting t)
waits_log g [] t legal = refl
waits_log g ((u, Enter p n) ∷ h) t legal = awake_stays (state_after g h).waiting u t _ legal.1.0 (waits_log g h t legal.0)
waits_log g ((u, NestedEnter p) ∷ h) t legal = waits_log g h t legal.0
waits_log g ((u, NestedExit p) ∷ h) t legal = waits_log g h t legal.0
waits_log g ((u, Exit p n) ∷ h) t legal = awake_stays (state_after g h).waiting u t _ legal.1.0 (waits_log g h t legal.0)
waits_log g ((u, Load f v) ∷ h) t legal = waits_log g h t legal.0
waits_log g ((u, Store f b a) ∷ h) t legal = store_or_none (g.is_logged f.0) u (Put f b a) (log_of g h) (λ log. awaited t log ≡ awaited_in ((state_after g h).waiting t))
    (λ _. awake_stays (state_after g h).waiting u t _ legal.1.0 (waits_log g h t legal.0)) (λ _. waits_log g h t legal.0)
waits_log g ((u, Wait p n) ∷ h) t legal = owed_changes (state_after g h).waiting u t (InSet p.0 ((state_after g h).count p.0)) _ (waits_log g h t legal.0)
waits_log g ((u, Resume p n) ∷ h) t legal = owed_changes (state_after g h).waiting u t Awake _ (waits_log g h t legal.0)
waits_log g ((u, Notify p None) ∷ h) t legal = waits_log g h t legal.0
waits_log g ((u, Notify p (Some k)) ∷ h) t legal = waits_log g h t legal.0 ∙ owed_notified (state_after g h).waiting k.0 t
waits_log g ((u, NotifyAll p w) ∷ h) t legal = waits_log g h t legal.0 ∙ sym (owed_woken_from p.0 ((state_after g h).waiting t))
waits_log g ((u, Look p w) ∷ h) t legal = waits_log g h t legal.0

-- whoever is awake may do anything next
awake_follows : (v : Option ℕ) (w : Waiting) (r : Record) → v ≡ awaited_in w → w ≡ Awake → MayFollow v r
awake_follows v w r e awake = subst (λ x. MayFollow x r) (sym (e ∙ ap awaited_in awake)) tt

woken_follows : (w : Waiting) (o : ObjectId) (n : ℕ) → IsWoken o.0 w → MayFollow (awaited_in w) (Acq o n)
woken_follows Awake o n h = elim h [ ]
woken_follows (InSet p c) o n h = elim h [ ]
woken_follows (Woken p c) o n h = sym h

pub log_legal : (g : Setting) (h : List (ℕ × Event)) → IsLegalHistory g h → IsLegal g (log_of g h)
log_legal g [] legal = tt
log_legal g ((t, Enter p n) ∷ h) legal =
    (log_legal g h legal.0, (holder_log g h p.0 ∙ legal.1.1, number_log g h p.0 ∙ legal.1.2, legal.1.3), awake_follows _ _ _ (waits_log g h t legal.0) legal.1.0, legal.2)
log_legal g ((t, NestedEnter p) ∷ h) legal = log_legal g h legal.0
log_legal g ((t, NestedExit p) ∷ h) legal = log_legal g h legal.0
log_legal g ((t, Exit p n) ∷ h) legal =
    (log_legal g h legal.0, (holder_log g h p.0 ∙ legal.1.1, number_log g h p.0 ∙ legal.1.3), awake_follows _ _ _ (waits_log g h t legal.0) legal.1.0, legal.2)
log_legal g ((t, Load f v) ∷ h) legal = log_legal g h legal.0
log_legal g ((t, Store f b a) ∷ h) legal = store_or_none (g.is_logged f.0) t (Put f b a) (log_of g h) (IsLegal g)
    (λ is. (log_legal g h legal.0, (holder_log g h (g.guard f.0) ∙ legal.1.1, value_log g h f.0 is ∙ legal.1.2), awake_follows _ _ _ (waits_log g h t legal.0) legal.1.0, (legal.2, is)))
    (λ _. log_legal g h legal.0)
log_legal g ((t, Wait p n) ∷ h) legal =
    (log_legal g h legal.0, (holder_log g h p.0 ∙ legal.1.1, number_log g h p.0 ∙ legal.1.2), awake_follows _ _ _ (waits_log g h t legal.0) legal.1.0, legal.2)
log_legal g ((t, Resume p n) ∷ h) legal = (
  log_legal g h legal.0,
  (holder_log g h p.0 ∙ legal.1.1, number_log g h p.0 ∙ legal.1.2, legal.1.3),
  subst (λ x. MayFollow x (Acq p n)) (sym (waits_log g h t legal.0)) (woken_follows _ p n legal.1.0),
  legal.2,
)
log_legal g ((t, Notify p None) ∷ h) legal = log_legal g h legal.0
log_legal g ((t, Notify p (Some u)) ∷ h) legal = log_legal g h legal.0
log_legal g ((t, NotifyAll p w) ∷ h) legal = log_legal g h legal.0
log_legal g ((t, Look p w) ∷ h) legal = log_legal g h legal.0
