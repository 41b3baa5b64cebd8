-- What one more record changes of its lane's counts, and of the places behind the lane's sections.
use Rattle.std.proofs.Common.{ℕ, ◌≡◌, ◌≢◌, ◌+◌, ◌<◌, ◌≤◌, ◌==◌, if◌then◌else◌, Bool, true, false, List, [], ◌∷◌, map, length, refl, sym, ap, ◌∙◌, subst, inl, inr, arith, nat_lt}
use Rattle.std.proofs.lemmas.Bool.{cases_lt, lt-ltb, le-ltb, eq-eqb, ne_eqb}
use Rattle.std.proofs.lemmas.Bool.Decides.{eqb_tells}
use Rattle.heap_model.specs.declared.record.Record.{Record}
use Rattle.heap_model.specs.declared.record.Record.TheVariants.{Acq, Rel, WaitRel, Put}
use Rattle.heap_model.specs.Record.{undo_of}
use Rattle.heap_model.specs.Log.{lane}
use Rattle.heap_model.specs.Sections.{Action, Takes, Frees, Stores, action, actions, undo_action, without, holding, ended}
use Rattle.heap_model.specs.Base.{since}
use Rattle.law_cuts.proofs.Lanes.{ended_in_lane}
use Rattle.law_cuts.proofs.Stores.{ended_rises}
use Rattle.store_memory.specs.Sections.{place_behind, start_in}

pub action_undo : (r : Record) → undo_action (undo_of r) ≡ action r
action_undo (Acq o n) = refl
action_undo (Rel o n) = refl
action_undo (WaitRel o n) = refl
action_undo (Put f before after) = refl

-- the record's lane, and the others
pub lane_own : {A : Type 0} → (l : ℕ) (x : A) (log : List (ℕ × A)) → lane l ((l, x) ∷ log) ≡ x ∷ lane l log
lane_own {A} l x log = ap (λ (b : Bool). if b then x ∷ lane l log else lane l log) (eq-eqb l l refl)

pub lane_else : {A : Type 0} → (l m : ℕ) (x : A) (log : List (ℕ × A)) → m ≢ l → lane l ((m, x) ∷ log) ≡ lane l log
lane_else {A} l m x log ne = ap (λ (b : Bool). if b then x ∷ lane l log else lane l log) (ne_eqb m l ne)

-- a record ends one section at most
pub ends_once : (a : Action) (xs : List Action) → ended (a ∷ xs) ≤ ended xs + 1
ends_once (Takes o n) xs = omega arith
ends_once Stores xs = omega arith
ends_once (Frees o n) xs = elim (length (without o (holding xs)) == 0) as (λ b. (if b then ended xs + 1 else ended xs) ≤ ended xs + 1) [ true ↦ omega arith | false ↦ omega arith ]

pub ended_short : (xs : List Action) → ended xs ≤ length xs
ended_short [] = omega arith
ended_short (a ∷ xs) = omega (arith, ends_once a xs, ended_short xs)

-- the sections of a lane's records
pub ended_records : (l : ℕ) (log : List (ℕ × Record)) → ended (map action (lane l log)) ≡ ended (lane l (actions log))
ended_records l log = sym (ended_in_lane l log)

-- the place behind a section stays as it is, and that behind the section that ends with a record is the place behind the record
pub in_older : (n : ℕ) (r : Record) (older : List Record) → n ≤ ended (map action older) → place_behind n (r ∷ older) ≡ place_behind n older
in_older n r older le = ap (λ (b : Bool). if b then length older + 1 else place_behind n older) (le-ltb (ended (map action older)) n le)

pub in_newest : (n : ℕ) (r : Record) (older : List Record) → ended (map action older) < n → place_behind n (r ∷ older) ≡ length older + 1
in_newest n r older lt = ap (λ (b : Bool). if b then length older + 1 else place_behind n older) (lt-ltb (ended (map action older)) n lt)

pub in_short : (n : ℕ) (xs : List Record) → place_behind n xs ≤ length xs
in_short n [] = omega arith
in_short n (r ∷ older) = elim (nat_lt (ended (map action older)) n) as (λ b. (if b then length older + 1 else place_behind n older) ≤ length (r ∷ older)) [ true ↦ omega arith | false ↦ omega (arith, in_short n older) ]

-- there are no more sections past the first n than records
pub sections_past : (n : ℕ) (xs : List Record) → ended (map action xs) + place_behind n xs ≤ n + length xs
sections_past n [] = omega arith
sections_past n (r ∷ older) =
    let once : ended (map action (r ∷ older)) ≤ ended (map action older) + 1 = ends_once (action r) (map action older) in
    elim (cases_lt (ended (map action older)) n) [
      | inl lt ↦ omega (arith, in_newest n r older lt)
      | inr ge ↦ omega (arith, in_older n r older ge, sections_past n older)
    ]

-- the place behind the base stays as it is
pub start_grown : (base : ℕ → ℕ) (l m : ℕ) (r : Record) (log : List (ℕ × Record)) → base l ≤ ended (lane l (actions log)) → start_in base ((m, r) ∷ log) l ≡ start_in base log l
start_grown base l m r log le = elim (eqb_tells m l) [
  | inl e ↦
      let own : start_in base ((l, r) ∷ log) l ≡ start_in base log l =
      ap (λ (xs : List Record). place_behind (base l) xs) (lane_own l r log) ∙ in_older (base l) r (lane l log) (omega (arith, le, ended_records l log)) in
      subst (λ (k : ℕ). start_in base ((k, r) ∷ log) l ≡ start_in base log l) (sym e.1) own
  | inr e ↦ ap (λ (xs : List Record). place_behind (base l) xs) (lane_else l m r log e.1)
]

-- the records of the base's sections and those since are all
since_none : (base : ℕ → ℕ) (l : ℕ) (log : List (ℕ × Action)) → ended (lane l log) < base l → lane l (since base log) ≡ []
since_none base l [] lt = refl
since_none base l ((m, a) ∷ older) lt = elim (eqb_tells m l) [
  | inl e ↦
      let below : ended (lane l older) < base l =
      (let grown : ended (a ∷ lane l older) < base l = subst (λ (b : Bool). ended (if b then a ∷ lane l older else lane l older) < base l) e.0 lt in omega (arith, ended_rises a (lane l older))) in
      let counted : nat_lt (ended (lane m older)) (base m) ≡ true = subst (λ (k : ℕ). nat_lt (ended (lane k older)) (base k) ≡ true) (sym e.1) (lt-ltb (ended (lane l older)) (base l) below) in
      ap (λ (b : Bool). lane l (if b then since base older else (m, a) ∷ since base older)) counted ∙ since_none base l older below
  | inr e ↦
      let below : ended (lane l older) < base l = subst (λ (b : Bool). ended (if b then a ∷ lane l older else lane l older) < base l) e.0 lt in
      elim (nat_lt (ended (lane m older)) (base m)) as (λ b. lane l (if b then since base older else (m, a) ∷ since base older) ≡ []) [
        | true ↦ since_none base l older below
        | false ↦ lane_else l m a (since base older) e.1 ∙ since_none base l older below
      ]
]

abbrev AreAll : (ℕ → ℕ) → ℕ → List (ℕ × Record) → Type 0
AreAll base l log = length (lane l (since base (actions log))) + start_in base log l ≡ length (lane l log)

all_own : (base : ℕ → ℕ) (l : ℕ) (r : Record) (older : List (ℕ × Record)) → (base l ≤ ended (lane l (actions older)) → AreAll base l older) → AreAll base l ((l, r) ∷ older)
all_own base l r older before =
    let long : length (lane l ((l, r) ∷ older)) ≡ length (lane l older) + 1 = ap (λ (xs : List Record). length xs) (lane_own l r older) ∙ (omega arith) in
    elim (cases_lt (ended (lane l (actions older))) (base l)) [
      | inl lt ↦
          let none : length (lane l (since base (actions ((l, r) ∷ older)))) ≡ 0 =
          ap (λ (b : Bool). length (lane l (if b then since base (actions older) else (l, action r) ∷ since base (actions older)))) (lt-ltb (ended (lane l (actions older))) (base l) lt)
          ∙ ap (λ (xs : List Action). length xs) (since_none base l (actions older) lt) in
          let behind : start_in base ((l, r) ∷ older) l ≡ length (lane l older) + 1 =
          ap (λ (xs : List Record). place_behind (base l) xs) (lane_own l r older) ∙ in_newest (base l) r (lane l older) (omega (arith, lt, ended_records l older)) in
          omega (arith, none, behind, long)
      | inr ge ↦
          let one : length (lane l (since base (actions ((l, r) ∷ older)))) ≡ length (lane l (since base (actions older))) + 1 =
          ap (λ (b : Bool). length (lane l (if b then since base (actions older) else (l, action r) ∷ since base (actions older)))) (le-ltb (ended (lane l (actions older))) (base l) ge)
          ∙ ap (λ (xs : List Action). length xs) (lane_own l (action r) (since base (actions older))) ∙ (omega arith) in
          let was : AreAll base l older = before ge in
          omega (arith, was, one, long, start_grown base l l r older ge)
    ]

pub since_all : (base : ℕ → ℕ) (l : ℕ) (log : List (ℕ × Record)) → base l ≤ ended (lane l (actions log)) → AreAll base l log
since_all base l [] whole = omega arith
since_all base l ((m, r) ∷ older) whole = elim (eqb_tells m l) [
  | inl e ↦ subst (λ (k : ℕ). AreAll base l ((k, r) ∷ older)) (sym e.1) (all_own base l r older (since_all base l older))
  | inr e ↦
      let le : base l ≤ ended (lane l (actions older)) = subst (λ (xs : List Action). base l ≤ ended xs) (lane_else l m (action r) (actions older) e.1) whole in
      let same : length (lane l (since base (actions ((m, r) ∷ older)))) ≡ length (lane l (since base (actions older))) =
      elim (nat_lt (ended (lane m (actions older))) (base m)) as (λ b. length (lane l (if b then since base (actions older) else (m, action r) ∷ since base (actions older))) ≡ length (lane l (since base (actions older)))) [
        | true ↦ refl
        | false ↦ ap (λ (xs : List Action). length xs) (lane_else l m (action r) (since base (actions older)) e.1)
      ] in
      let long : length (lane l ((m, r) ∷ older)) ≡ length (lane l older) = ap (λ (xs : List Record). length xs) (lane_else l m r older e.1) in
      let was : AreAll base l older = since_all base l older le in
      omega (arith, was, same, long, start_grown base l m r older le)
]
