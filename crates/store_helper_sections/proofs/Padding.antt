-- A lane that brings objects to given numbers, and stores nothing.
use Rattle.std.proofs.Common.{ℕ, zero, suc, ◌≡◌, ◌≢◌, ◌+◌, ◌<◌, ◌≤◌, ◌==◌, if◌then◌else◌, Bool, true, false, List, [], ◌∷◌, ◌++◌, Option, Some, None, refl, sym, ap, ◌∙◌, subst, inl, inr, arith}
use Rattle.std.proofs.lemmas.Bool.{cases_eq, ne_eqb}
use Rattle.std.proofs.lemmas.Bool.Decides.{eqb_tells}
use Rattle.heap_model.specs.declared.ids.ObjectId.{ObjectId}
use Rattle.heap_model.specs.declared.record.Record.{Record}
use Rattle.heap_model.specs.declared.record.Record.TheVariants.{Acq, Rel}
use Rattle.heap_model.specs.Setting.{Setting}
use Rattle.heap_model.specs.Log.{lane, holder, number, value, awaited, MayFollow, IsLegal}
use Rattle.heap_model.specs.Past.{has_store}

-- a legal list after which all monitors are free, and nobody waits
pub record Rested (t : Setting) (log : List (ℕ × Record)) : Type 0 where
  pub legal : IsLegal t log
  pub free : (o : ℕ) → holder o log ≡ None
  pub awake : (l : ℕ) → awaited l log ≡ None
  -- each field has its first value
  pub same : (f : ℕ) → value t.first f log ≡ t.first f

-- who waits for nothing may do anything
pub may_follow : (l : ℕ) (log : List (ℕ × Record)) (r : Record) → awaited l log ≡ None → MayFollow (awaited l log) r
may_follow l log r none = subst (λ (v : Option ℕ). MayFollow v r) (sym none) tt

pub if_own : {A : Type 0} (o : ℕ) (a b : A) → (if o == o then a else b) ≡ a
if_own {A} o a b = elim (eqb_tells o o) [
  | inl e ↦ ap (λ (t : Bool). if t then a else b) e.0
  | inr e ↦ absurd (e.1 refl)
]

pub if_same : {A : Type 0} (o p : ℕ) (a b : A) → o ≡ p → (if o == p then a else b) ≡ a
if_same {A} o p a b same = elim (eqb_tells o p) [
  | inl e ↦ ap (λ (t : Bool). if t then a else b) e.0
  | inr e ↦ absurd (e.1 same)
]

pub if_apart : {A : Type 0} (o p : ℕ) (a b : A) → o ≢ p → (if o == p then a else b) ≡ b
if_apart {A} o p a b apart = ap (λ (t : Bool). if t then a else b) (ne_eqb o p apart)

-- the object, taken and freed so often by the lane
abbrev pub turns : (lane : ℕ) → ObjectId → ℕ → List (ℕ × Record)
turns l o zero = []
turns l o (suc n) = (l, Rel o n) ∷ (l, Acq o n) ∷ turns l o n

turns_free : (l : ℕ) (o : ObjectId) (n : ℕ) (log : List (ℕ × Record)) (q : ℕ) → holder q log ≡ None → holder q (turns l o n ++ log) ≡ None
turns_free l o zero log q free = free
turns_free l o (suc n) log q free =
    elim (o.0 == q) as (λ b. (if b then None else (if b then Some l else holder q (turns l o n ++ log))) ≡ None) [ true ↦ refl | false ↦ turns_free l o n log q free ]

turns_awake : (l : ℕ) (o : ObjectId) (n : ℕ) (log : List (ℕ × Record)) (m : ℕ) → awaited m log ≡ None → awaited m (turns l o n ++ log) ≡ None
turns_awake l o zero log m none = none
turns_awake l o (suc n) log m none =
    elim (l == m) as (λ b. (if b then None else (if b then None else awaited m (turns l o n ++ log))) ≡ None) [ true ↦ refl | false ↦ turns_awake l o n log m none ]

turns_same : (l : ℕ) (o : ObjectId) (n : ℕ) (log : List (ℕ × Record)) (first : ℕ → ℕ) (f : ℕ) → value first f (turns l o n ++ log) ≡ value first f log
turns_same l o zero log first f = refl
turns_same l o (suc n) log first f = turns_same l o n log first f

turns_unstored : (l : ℕ) (o : ObjectId) (n : ℕ) (log : List (ℕ × Record)) (f : ℕ) → has_store f (turns l o n ++ log) ≡ has_store f log
turns_unstored l o zero log f = refl
turns_unstored l o (suc n) log f = turns_unstored l o n log f

turns_own : (l : ℕ) (o : ObjectId) (n : ℕ) (log : List (ℕ × Record)) → number o.0 log ≡ 0 → number o.0 (turns l o n ++ log) ≡ n
turns_own l o zero log none = none
turns_own l o (suc n) log none = if_own o.0 (n + 1) (number o.0 (turns l o n ++ log)) ∙ omega arith

turns_apart : (l : ℕ) (o : ObjectId) (n : ℕ) (log : List (ℕ × Record)) (q : ℕ) → o.0 ≢ q → number q (turns l o n ++ log) ≡ number q log
turns_apart l o zero log q apart = refl
turns_apart l o (suc n) log q apart = if_apart o.0 q (n + 1) (number q (turns l o n ++ log)) apart ∙ turns_apart l o n log q apart

turns_lane : (l : ℕ) (o : ObjectId) (n : ℕ) (log : List (ℕ × Record)) (m : ℕ) → l ≢ m → lane m (turns l o n ++ log) ≡ lane m log
turns_lane l o zero log m apart = refl
turns_lane l o (suc n) log m apart =
    if_apart l m (Rel o n ∷ lane m ((l, Acq o n) ∷ turns l o n ++ log)) (lane m ((l, Acq o n) ∷ turns l o n ++ log)) apart
    ∙ if_apart l m (Acq o n ∷ lane m (turns l o n ++ log)) (lane m (turns l o n ++ log)) apart
    ∙ turns_lane l o n log m apart

turns_legal : (t : Setting) (l : ℕ) (o : ObjectId) (n : ℕ) (log : List (ℕ × Record)) → Rested t log → number o.0 log ≡ 0 → o.0 < t.objects → n ≤ t.last → IsLegal t (turns l o n ++ log)
turns_legal t l o zero log rested none low few = rested.legal
turns_legal t l o (suc n) log rested none low few =
    let older : List (ℕ × Record) = turns l o n ++ log in
    let awake : awaited l older ≡ None = turns_awake l o n log l (rested.awake l) in
    let own : number o.0 older ≡ n = turns_own l o n log none in
    let free : holder o.0 older ≡ None = turns_free l o n log o.0 (rested.free o.0) in
    let took : IsLegal t ((l, Acq o n) ∷ older) = (turns_legal t l o n log rested none low (omega (arith, few)), (free, own, omega (arith, few)), may_follow l older (Acq o n) awake, low) in
    let still : awaited l ((l, Acq o n) ∷ older) ≡ None = if_own l None (awaited l older) in
    (took, (if_own o.0 (Some l) (holder o.0 older), own), may_follow l ((l, Acq o n) ∷ older) (Rel o n) still, low)

-- each of the first objects, taken and freed as often as its number says
abbrev pub raised : (lane : ℕ) → (numbers : ℕ → ℕ) → (objects : ℕ) → List (ℕ × Record)
raised l numbers zero = []
raised l numbers (suc o) = turns l (record { 0 = o }) (numbers o) ++ raised l numbers o

pub raised_unstored : (l : ℕ) (numbers : ℕ → ℕ) (k : ℕ) (f : ℕ) → has_store f (raised l numbers k) ≡ false
raised_unstored l numbers zero f = refl
raised_unstored l numbers (suc k) f = turns_unstored l (record { 0 = k }) (numbers k) (raised l numbers k) f ∙ raised_unstored l numbers k f

pub raised_lane : (l : ℕ) (numbers : ℕ → ℕ) (k m : ℕ) → l ≢ m → lane m (raised l numbers k) ≡ []
raised_lane l numbers zero m apart = refl
raised_lane l numbers (suc k) m apart = turns_lane l (record { 0 = k }) (numbers k) (raised l numbers k) m apart ∙ raised_lane l numbers k m apart

-- an object that isn't among them has number 0
raised_past : (l : ℕ) (numbers : ℕ → ℕ) (k q : ℕ) → k ≤ q → number q (raised l numbers k) ≡ 0
raised_past l numbers zero q past = refl
raised_past l numbers (suc k) q past = turns_apart l (record { 0 = k }) (numbers k) (raised l numbers k) q (λ e. omega (arith, e, past)) ∙ raised_past l numbers k q (omega (arith, past))

pub raised_number : (l : ℕ) (numbers : ℕ → ℕ) (k q : ℕ) → q < k → number q (raised l numbers k) ≡ numbers q
raised_number l numbers zero q low = absurd (omega (arith, low))
raised_number l numbers (suc k) q low = elim (cases_eq k q) [
  | inl e ↦ ap (λ (i : ℕ). number i (turns l (record { 0 = k }) (numbers k) ++ raised l numbers k)) (sym e)
      ∙ turns_own l (record { 0 = k }) (numbers k) (raised l numbers k) (raised_past l numbers k k (omega arith)) ∙ ap numbers e
  | inr ne ↦ turns_apart l (record { 0 = k }) (numbers k) (raised l numbers k) q ne ∙ raised_number l numbers k q (omega (arith, low, ne))
]

pub raised_rests : (t : Setting) (l : ℕ) (numbers : ℕ → ℕ) → ((o : ℕ) → numbers o ≤ t.last) → (k : ℕ) → k ≤ t.objects → Rested t (raised l numbers k)
raised_rests t l numbers few zero le = record { legal = tt; free = λ o. refl; awake = λ m. refl; same = λ f. refl }
raised_rests t l numbers few (suc k) le =
    let before : Rested t (raised l numbers k) = raised_rests t l numbers few k (omega (arith, le)) in
    let none : number k (raised l numbers k) ≡ 0 = raised_past l numbers k k (omega arith) in
    record {
      legal = turns_legal t l (record { 0 = k }) (numbers k) (raised l numbers k) before none (omega (arith, le)) (few k);
      free = λ o. turns_free l (record { 0 = k }) (numbers k) (raised l numbers k) o (before.free o);
      awake = λ m. turns_awake l (record { 0 = k }) (numbers k) (raised l numbers k) m (before.awake m);
      same = λ f. turns_same l (record { 0 = k }) (numbers k) (raised l numbers k) t.first f ∙ before.same f;
    }
