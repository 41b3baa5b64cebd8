-- Lanes of a list, and the parts of a lane.
use Rattle.std.proofs.Common.{ℕ, suc, ◌≡◌, ◌-◌, ◌<◌, ◌≤◌, ◌==◌, if◌then◌else◌, Bool, true, false, List, [], ◌∷◌, ◌++◌, length, map, get_or, reverse, refl, sym, ap, ◌∙◌, subst, inl, inr, arith, Contains, length-append}
use Rattle.std.proofs.lemmas.Bool.Decides.{eqb_tells}
use Rattle.std.proofs.lemmas.List.{get_or-reverse, length-reverse}
use Rattle.std.proofs.lemmas.List.Elements.{Contains-append_right}
use Rattle.std.proofs.Math.Seq.{split_at}
use Rattle.std.specs.Prelude.{take, drop}
use Rattle.heap_model.specs.Log.{lane}
use Rattle.law_cuts.proofs.Lanes.{lane_append}

pub lane_own : {A : Type 0} → (l m : ℕ) (r : A) (older : List (ℕ × A)) → m ≡ l → lane l ((m, r) ∷ older) ≡ r ∷ lane l older
lane_own {A} l m r older same = elim (eqb_tells m l) [
  | inl e ↦ ap (λ (b : Bool). if b then r ∷ lane l older else lane l older) e.0
  | inr e ↦ absurd (e.1 same)
]

pub lane_other : {A : Type 0} → (l m : ℕ) (r : A) (older : List (ℕ × A)) → (m == l) ≡ false → lane l ((m, r) ∷ older) ≡ lane l older
lane_other {A} l m r older apart = ap (λ (b : Bool). if b then r ∷ lane l older else lane l older) apart

-- a lane of a list whose records are told otherwise
pub lane_map : {A B : Type 0} → (f : A → B) (l : ℕ) (log : List (ℕ × A)) → lane l (map (λ (x : ℕ × A). (x.0, f x.1)) log) ≡ map f (lane l log)
lane_map {A} {B} f l [] = refl
lane_map {A} {B} f l (x ∷ older) =
    elim (x.0 == l) as (λ b. (if b then f x.1 ∷ lane l (map (λ (y : ℕ × A). (y.0, f y.1)) older) else lane l (map (λ (y : ℕ × A). (y.0, f y.1)) older)) ≡ map f (if b then x.1 ∷ lane l older else lane l older))
    [ true ↦ ap (λ (ys : List B). f x.1 ∷ ys) (lane_map f l older) | false ↦ lane_map f l older ]

-- where a lane's record stands in the list
pub record Found {A : Type 0} (l : ℕ) (r : A) (log : List (ℕ × A)) (rest : List A) : Type 0 where
  pub newer : List (ℕ × A)
  pub older : List (ℕ × A)
  pub is : log ≡ newer ++ (l, r) ∷ older
  pub own : lane l older ≡ rest

found_more : {A : Type 0} → (l : ℕ) (r : A) (x : ℕ × A) (log : List (ℕ × A)) (rest : List A) → Found l r log rest → Found l r (x ∷ log) rest
found_more {A} l r x log rest f = record { newer = x ∷ f.newer; older = f.older; is = ap (λ (ys : List (ℕ × A)). x ∷ ys) f.is; own = f.own }

pub found : {A : Type 0} → (l : ℕ) (log : List (ℕ × A)) (more rest : List A) (r : A) → lane l log ≡ more ++ r ∷ rest → Found l r log rest
found {A} l [] [] rest r is = absurd cc
found {A} l [] (y ∷ more) rest r is = absurd cc
found {A} l ((m, q) ∷ log) [] rest r is = elim (eqb_tells m l) [
  | inl e ↦
      let now : q ∷ lane l log ≡ r ∷ rest = sym (lane_own l m q log e.1) ∙ is in
      let same : q ≡ r = cc in
      let own : lane l log ≡ rest = cc in
      record { newer = []; older = log; is = λ i. (e.1 i, same i) ∷ log; own = own }
  | inr e ↦ found_more l r (m, q) log rest (found l log [] rest r (sym (lane_other l m q log e.0) ∙ is))
]
found {A} l ((m, q) ∷ log) (y ∷ more) rest r is = elim (eqb_tells m l) [
  | inl e ↦
      let now : q ∷ lane l log ≡ y ∷ (more ++ r ∷ rest) = sym (lane_own l m q log e.1) ∙ is in
      let later : lane l log ≡ more ++ r ∷ rest = cc in
      found_more l r (m, q) log rest (found l log more rest r later)
  | inr e ↦ found_more l r (m, q) log rest (found l log (y ∷ more) rest r (sym (lane_other l m q log e.0) ∙ is))
]

-- what a list contains stands somewhere in it
pub record Within {A : Type 0} (xs : List A) (r : A) : Type 0 where
  pub more : List A
  pub rest : List A
  pub is : xs ≡ more ++ r ∷ rest

pub within : {A : Type 0} → (xs : List A) (r : A) → Contains xs r → Within xs r
within {A} xs r h = record { more = take h.0 xs; rest = drop (suc h.0) xs; is = split_at xs h.0 r h.1 ∙ ap (λ (x : A). take h.0 xs ++ x ∷ drop (suc h.0) xs) h.2 }

pub there : {A : Type 0} → (more rest : List A) (r : A) → Contains (more ++ r ∷ rest) r
there {A} more rest r = Contains-append_right more (r ∷ rest) r (0, omega arith, refl)

-- what a lane contains it contains with more records of some lanes
pub contains_more : {A : Type 0} → (l : ℕ) (newer older : List (ℕ × A)) (r : A) → Contains (lane l older) r → Contains (lane l (newer ++ older)) r
contains_more {A} l newer older r h = subst (λ (xs : List A). Contains xs r) (sym (lane_append l newer older)) (Contains-append_right (lane l newer) (lane l older) r h)

pub contains_older : {A : Type 0} → (l m : ℕ) (x : A) (older : List (ℕ × A)) (r : A) → Contains (lane l older) r → Contains (lane l ((m, x) ∷ older)) r
contains_older {A} l m x older r h = contains_more l ((m, x) ∷ []) older r h

pub contains_reverse : {A : Type 0} (xs : List A) (x : A) → Contains xs x → Contains (reverse xs) x
contains_reverse {A} xs x h =
    let k : ℕ = h.0 in
    let lt : k < length xs = h.1 in
    let back : length xs - 1 - (length xs - 1 - k) ≡ k = omega arith in
    (length xs - 1 - k, omega (arith, length-reverse xs), get_or-reverse xs (length xs - 1 - k) x (omega arith) ∙ ap (λ (i : ℕ). get_or xs i x) back ∙ h.2)

-- of two ends of one list, the longer ends with the other
pub ends_with : {A : Type 0} → (a x b y : List A) → a ++ x ≡ b ++ y → length x ≤ length y → (more : List A) × (y ≡ more ++ x)
ends_with {A} a x [] y is le = (a, sym is)
ends_with {A} [] x (z ∷ b) y is le = absurd (omega (arith, ap (λ (xs : List A). length xs) is, length-append b y))
ends_with {A} (w ∷ a) x (z ∷ b) y is le = let rest : a ++ x ≡ b ++ y = cc in ends_with a x b y rest le

pub same_end : {A : Type 0} → (a x b y : List A) → a ++ x ≡ b ++ y → length x ≡ length y → x ≡ y
same_end {A} a x b y is long =
    let w = ends_with a x b y is (omega (arith, long)) in
    nothing w.0 (omega (arith, long, ap (λ (xs : List A). length xs) w.1, length-append w.0 x)) w.1
  where
    nothing : (more : List A) → length more ≡ 0 → y ≡ more ++ x → x ≡ y
    nothing [] none e = sym e
    nothing (z ∷ more) none e = absurd (omega (arith, none))
