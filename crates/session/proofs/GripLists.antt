-- Lists of grips, by object.
use Rattle.std.proofs.Common.{ℕ, suc, ◌≡◌, ◌≢◌, ◌+◌, ◌<◌, ◌≤◌, ◌==◌, if◌then◌else◌, Bool, true, false, List, [], ◌∷◌, ◌++◌, length, take, drop, Option, Some, None, slice_set, slice_index_or, refl, sym, ap, ◌∙◌, subst, inl, inr, arith}
use Rattle.std.specs.List.{remove}
use Rattle.std.proofs.lemmas.Bool.Decides.{eqb_tells}
use Rattle.heap_model.specs.Sections.{without}
use Rattle.thread_steps.specs.declared.grip.Grip.{Grip}
use Rattle.session.specs.Grips.{grip_in, place_in, with_grip, without_grip, objects_of, is_absent, are_apart}

-- a test on two numbers, split
pub by_test : (a b : ℕ) (F : Bool → Type 0) → (a ≡ b → F true) → (a ≢ b → F false) → F (a == b)
by_test a b F same other = elim (eqb_tells a b) [ inl e ↦ subst F (sym e.0) (same e.1) | inr e ↦ subst F (sym e.0) (other e.1) ]

-- a test of one's own
pub by_bool : (b : Bool) (F : Bool → Type 0) → (b ≡ true → F true) → (b ≡ false → F false) → F b
by_bool true F yes_ no_ = yes_ refl
by_bool false F yes_ no_ = no_ refl

-- at its place

pub place_grip : (o : ℕ) (gs : List Grip) (d : Grip) → place_in o gs < length gs → grip_in o gs ≡ Some (slice_index_or gs (place_in o gs) d)
place_grip o [] d lt = absurd (omega arith)
place_grip o (g ∷ gs) d lt = (elim (g.object.0 == o) as (λ b. (if b then 0 else suc (place_in o gs)) < length (g ∷ gs) → (if b then Some g else grip_in o gs) ≡ Some (slice_index_or (g ∷ gs) (if b then 0 else suc (place_in o gs)) d)) [
  | true ↦ λ lt. refl
  | false ↦ λ lt. place_grip o gs d (omega arith)
]) lt

pub place_none : (o : ℕ) (gs : List Grip) → length gs ≤ place_in o gs → grip_in o gs ≡ None
place_none o [] le = refl
place_none o (g ∷ gs) le = (elim (g.object.0 == o) as (λ b. length (g ∷ gs) ≤ (if b then 0 else suc (place_in o gs)) → (if b then Some g else grip_in o gs) ≡ None) [
  | true ↦ λ le. absurd (omega arith)
  | false ↦ λ le. place_none o gs (omega arith)
]) le

pub place_set : (n : Grip) (gs : List Grip) → slice_set gs (place_in n.object.0 gs) n ≡ with_grip n gs
place_set n [] = refl
place_set n (g ∷ gs) = elim (g.object.0 == n.object.0) as (λ b. slice_set (g ∷ gs) (if b then 0 else suc (place_in n.object.0 gs)) n ≡ (if b then n ∷ gs else g ∷ with_grip n gs)) [
  | true ↦ refl
  | false ↦ ap (λ (xs : List Grip). g ∷ xs) (place_set n gs)
]

pub place_remove : (o : ℕ) (gs : List Grip) → place_in o gs < length gs → remove gs (place_in o gs) ≡ without_grip o gs
place_remove o [] lt = absurd (omega arith)
place_remove o (g ∷ gs) lt = (elim (g.object.0 == o) as (λ b. (if b then 0 else suc (place_in o gs)) < length (g ∷ gs) → remove (g ∷ gs) (if b then 0 else suc (place_in o gs)) ≡ (if b then gs else g ∷ without_grip o gs)) [
  | true ↦ λ lt. refl
  | false ↦ λ lt. ap (λ (xs : List Grip). g ∷ xs) (place_remove o gs (omega arith))
]) lt

pub grip_place : (o : ℕ) (gs : List Grip) (g : Grip) → grip_in o gs ≡ Some g → place_in o gs < length gs
grip_place o [] g e = absurd cc
grip_place o (h ∷ gs) g e = (elim (h.object.0 == o) as (λ b. (if b then Some h else grip_in o gs) ≡ Some g → (if b then 0 else suc (place_in o gs)) < length (h ∷ gs)) [
  | true ↦ λ e. omega arith
  | false ↦ λ e. (let more = grip_place o gs g e in omega arith)
]) e

-- what the found grip is on
pub grip_object : (o : ℕ) (gs : List Grip) (g : Grip) → grip_in o gs ≡ Some g → g.object.0 ≡ o
grip_object o [] g e = absurd cc
grip_object o (h ∷ gs) g e = (by_test h.object.0 o (λ b. (if b then Some h else grip_in o gs) ≡ Some g → g.object.0 ≡ o)
    (λ is e. let out : Option Grip → Grip = λ x. elim x [ None ↦ h | Some y ↦ y ] in sym (ap (λ x. (out x).object.0) e) ∙ is)
    (λ _ e. grip_object o gs g e)) e

-- with another grip

pub with_objects : (n : Grip) (gs : List Grip) → objects_of (with_grip n gs) ≡ objects_of gs
with_objects n [] = refl
with_objects n (g ∷ gs) = by_test g.object.0 n.object.0 (λ b. objects_of (if b then n ∷ gs else g ∷ with_grip n gs) ≡ g.object.0 ∷ objects_of gs)
    (λ is. ap (λ (o : ℕ). o ∷ objects_of gs) (sym is))
    (λ _. ap (λ (os : List ℕ). g.object.0 ∷ os) (with_objects n gs))

pub with_same : (n : Grip) (gs : List Grip) (g : Grip) → grip_in n.object.0 gs ≡ Some g → grip_in n.object.0 (with_grip n gs) ≡ Some n
with_same n [] g e = absurd cc
with_same n (h ∷ gs) g e = (by_test h.object.0 n.object.0 (λ b. (if b then Some h else grip_in n.object.0 gs) ≡ Some g → grip_in n.object.0 (if b then n ∷ gs else h ∷ with_grip n gs) ≡ Some n)
    (λ is e. by_test n.object.0 n.object.0 (λ b. (if b then Some n else grip_in n.object.0 gs) ≡ Some n) (λ _. refl) (λ ne. absurd (ne refl)))
    (λ ne e. by_test h.object.0 n.object.0 (λ b. (if b then Some h else grip_in n.object.0 (with_grip n gs)) ≡ Some n) (λ is. absurd (ne is)) (λ _. with_same n gs g e))) e

pub with_other : (n : Grip) (gs : List Grip) (p : ℕ) → n.object.0 ≢ p → grip_in p (with_grip n gs) ≡ grip_in p gs
with_other n [] p ne = refl
with_other n (g ∷ gs) p ne = by_test g.object.0 n.object.0 (λ b. grip_in p (if b then n ∷ gs else g ∷ with_grip n gs) ≡ (if g.object.0 == p then Some g else grip_in p gs))
    (λ is. by_test n.object.0 p (λ b. (if b then Some n else grip_in p gs) ≡ (if g.object.0 == p then Some g else grip_in p gs)) (λ e. absurd (ne e))
    (λ _. by_test g.object.0 p (λ b. grip_in p gs ≡ (if b then Some g else grip_in p gs)) (λ e. absurd (ne (sym is ∙ e))) (λ _. refl)))
    (λ _. ap (λ (x : Option Grip). if g.object.0 == p then Some g else x) (with_other n gs p ne))

-- without a grip

pub without_objects : (o : ℕ) (gs : List Grip) → objects_of (without_grip o gs) ≡ without o (objects_of gs)
without_objects o [] = refl
without_objects o (g ∷ gs) = elim (g.object.0 == o) as (λ b. objects_of (if b then gs else g ∷ without_grip o gs) ≡ (if b then objects_of gs else g.object.0 ∷ without o (objects_of gs))) [
  | true ↦ refl
  | false ↦ ap (λ (os : List ℕ). g.object.0 ∷ os) (without_objects o gs)
]

pub without_other : (o : ℕ) (gs : List Grip) (p : ℕ) → o ≢ p → grip_in p (without_grip o gs) ≡ grip_in p gs
without_other o [] p ne = refl
without_other o (g ∷ gs) p ne = by_test g.object.0 o (λ b. grip_in p (if b then gs else g ∷ without_grip o gs) ≡ (if g.object.0 == p then Some g else grip_in p gs))
    (λ is. by_test g.object.0 p (λ b. grip_in p gs ≡ (if b then Some g else grip_in p gs)) (λ e. absurd (ne (sym is ∙ e))) (λ _. refl))
    (λ _. ap (λ (x : Option Grip). if g.object.0 == p then Some g else x) (without_other o gs p ne))

pub absent_none : (o : ℕ) (gs : List Grip) → is_absent o (objects_of gs) ≡ true → grip_in o gs ≡ None
absent_none o [] e = refl
absent_none o (g ∷ gs) e = (elim (g.object.0 == o) as (λ b. (if b then false else is_absent o (objects_of gs)) ≡ true → (if b then Some g else grip_in o gs) ≡ None) [
  | true ↦ λ e. absurd cc
  | false ↦ λ e. absent_none o gs e
]) e

pub none_absent : (o : ℕ) (gs : List Grip) → grip_in o gs ≡ None → is_absent o (objects_of gs) ≡ true
none_absent o [] e = refl
none_absent o (g ∷ gs) e = (elim (g.object.0 == o) as (λ b. (if b then Some g else grip_in o gs) ≡ None → (if b then false else is_absent o (objects_of gs)) ≡ true) [
  | true ↦ λ e. absurd cc
  | false ↦ λ e. none_absent o gs e
]) e

pub absent_without : (p o : ℕ) (os : List ℕ) → is_absent p os ≡ true → is_absent p (without o os) ≡ true
absent_without p o [] e = e
absent_without p o (q ∷ os) e = elim (q == o) as (λ b. is_absent p (if b then os else q ∷ without o os) ≡ true) [
  | true ↦ (elim (q == p) as (λ b. (if b then false else is_absent p os) ≡ true → is_absent p os ≡ true) [ true ↦ λ f. absurd cc | false ↦ λ f. f ]) e
  | false ↦ (elim (q == p) as (λ b. (if b then false else is_absent p os) ≡ true → (if b then false else is_absent p (without o os)) ≡ true) [ true ↦ λ f. absurd cc | false ↦ λ f. absent_without p o os f ]) e
]

-- the head of what is apart
pub apart_head : (o : ℕ) (os : List ℕ) → are_apart (o ∷ os) ≡ true → (is_absent o os ≡ true) × (are_apart os ≡ true)
apart_head o os = by_bool (is_absent o os) (λ b. (if b then are_apart os else false) ≡ true → (b ≡ true) × (are_apart os ≡ true)) (λ e f. (refl, f)) (λ e f. absurd cc)

pub apart_more : (o : ℕ) (os : List ℕ) → is_absent o os ≡ true → are_apart os ≡ true → are_apart (o ∷ os) ≡ true
apart_more o os e f = ap (λ b. if b then are_apart os else false) e ∙ f

pub apart_without : (o : ℕ) (os : List ℕ) → are_apart os ≡ true → are_apart (without o os) ≡ true
apart_without o [] e = e
apart_without o (q ∷ os) e = let h = apart_head q os e in elim (q == o) as (λ b. are_apart (if b then os else q ∷ without o os) ≡ true) [
  | true ↦ h.1
  | false ↦ apart_more q (without o os) (absent_without q o os h.0) (apart_without o os h.1)
]

pub without_same : (o : ℕ) (gs : List Grip) → are_apart (objects_of gs) ≡ true → grip_in o (without_grip o gs) ≡ None
without_same o [] e = refl
without_same o (g ∷ gs) e = let h = apart_head g.object.0 (objects_of gs) e in
    by_test g.object.0 o (λ b. grip_in o (if b then gs else g ∷ without_grip o gs) ≡ None)
    (λ is. absent_none o gs (subst (λ (z : ℕ). is_absent z (objects_of gs) ≡ true) is h.0))
    (λ ne. by_test g.object.0 o (λ b. (if b then Some g else grip_in o (without_grip o gs)) ≡ None) (λ is. absurd (ne is)) (λ _. without_same o gs h.1))

-- lengths

pub objects_length : (gs : List Grip) → length (objects_of gs) ≡ length gs
objects_length [] = refl
objects_length (g ∷ gs) = ap suc (objects_length gs)

pub with_length : (n : Grip) (gs : List Grip) → length (with_grip n gs) ≡ length gs
with_length n gs = sym (objects_length (with_grip n gs)) ∙ ap length (with_objects n gs) ∙ objects_length gs

pub without_length : (o : ℕ) (gs : List Grip) (g : Grip) → grip_in o gs ≡ Some g → length (without_grip o gs) + 1 ≡ length gs
without_length o [] g e = absurd cc
without_length o (h ∷ gs) g e = (elim (h.object.0 == o) as (λ b. (if b then Some h else grip_in o gs) ≡ Some g → length (if b then gs else h ∷ without_grip o gs) + 1 ≡ length (h ∷ gs)) [
  | true ↦ λ e. omega arith
  | false ↦ λ e. (let more = without_length o gs g e in omega arith)
]) e

-- where there is none

pub place_absent : (n : Grip) (gs : List Grip) → length gs ≤ place_in n.object.0 gs → gs ≡ with_grip n gs
place_absent n [] le = refl
place_absent n (g ∷ gs) le = (elim (g.object.0 == n.object.0) as (λ b. length (g ∷ gs) ≤ (if b then 0 else suc (place_in n.object.0 gs)) → g ∷ gs ≡ (if b then n ∷ gs else g ∷ with_grip n gs)) [
  | true ↦ λ none. absurd (omega arith)
  | false ↦ λ past. ap (λ (xs : List Grip). g ∷ xs) (place_absent n gs (omega arith))
]) le

pub without_absent : (o : ℕ) (gs : List Grip) → length gs ≤ place_in o gs → gs ≡ without_grip o gs
without_absent o [] le = refl
without_absent o (g ∷ gs) le = (elim (g.object.0 == o) as (λ b. length (g ∷ gs) ≤ (if b then 0 else suc (place_in o gs)) → g ∷ gs ≡ (if b then gs else g ∷ without_grip o gs)) [
  | true ↦ λ none. absurd (omega arith)
  | false ↦ λ past. ap (λ (xs : List Grip). g ∷ xs) (without_absent o gs (omega arith))
]) le

-- a list written whole through a slice
pub refill_whole : (xs ws : List Grip) → length ws ≡ length xs → take (length xs) (ws ++ drop (length ws) xs) ≡ ws
refill_whole [] [] e = refl
refill_whole [] (w ∷ ws) e = absurd (omega arith)
refill_whole (x ∷ xs) [] e = absurd (omega arith)
refill_whole (x ∷ xs) (w ∷ ws) e = ap (λ (zs : List Grip). w ∷ zs) (refill_whole xs ws (omega arith))

pub refill_set : (n : Grip) (gs : List Grip) → take (length gs) (slice_set gs (place_in n.object.0 gs) n ++ drop (length (slice_set gs (place_in n.object.0 gs) n)) gs) ≡ with_grip n gs
refill_set n gs = ap (λ (zs : List Grip). take (length gs) (zs ++ drop (length zs) gs)) (place_set n gs) ∙ refill_whole gs (with_grip n gs) (with_length n gs)

-- one fewer, once a grip was taken out
pub taken_length : (o : ℕ) (gs held : List Grip) (g : Grip) → held ≡ without_grip o gs → grip_in o gs ≡ Some g → length held + 1 ≡ length gs
taken_length o gs held g now there = ap (λ (hs : List Grip). length hs + 1) now ∙ without_length o gs g there
