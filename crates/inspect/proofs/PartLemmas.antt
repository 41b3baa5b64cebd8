-- Texts that are written one after the other: what a fault leaves is a beginning of the whole.
use Rattle.std.proofs.Common.{Result, Ok, Err, OnErr, ℕ, suc, ◌≡◌, ◌+◌, ◌<◌, Option, List, [], ◌∷◌, ◌++◌, length, get_or, take, drop, sym, ap, ◌∙◌, subst, arith, length-append, take-append-drop, append-nil}
use Rattle.std.specs.List.{flat_map, concat}
use Rattle.std.specs.Io.KnownBytes.{Appends}
use Rattle.std.proofs.KnownBytes.{Appends-trans}
use Rattle.std.proofs.lemmas.List.{take-append-le, drop_more, take_more}
use Rattle.std.proofs.lemmas.List.Concat.{flat_map-append}
use Rattle.inspect.specs.Written.{AppendsPart}

take_past : (s t : List ℕ) (n : ℕ) → take (length s + n) (s ++ t) ≡ s ++ take n t
take_past [] t n = ap (λ (k : ℕ). take k t) (let e : 0 + n ≡ n = omega arith in e)
take_past (x ∷ s) t n = ap (λ (k : ℕ). take k (x ∷ s ++ t)) (let e : suc (length s) + n ≡ suc (length s + n) = omega arith in e) ∙ ap (λ (l : List ℕ). x ∷ l) (take_past s t n)

-- what holds at an error holds where the answer is one
pub always : {T E P : Type 0} (r : Result T E) → P → OnErr r P
always (Ok x) p = tt
always (Err e) p = p

-- a part of the first text is a part of both
pub part_first : (a b : Option (List ℕ)) (s t : List ℕ) → AppendsPart a b s → AppendsPart a b (s ++ t)
part_first a b s t p = (
  p.0,
  omega (arith, length-append s t, p.1),
  subst (Appends a b) (sym (take-append-le p.0 s t (omega (arith, p.1)))) p.2,
)

-- so is the first text with a part of the second
pub part_second : (a b c : Option (List ℕ)) (s t : List ℕ) → Appends a b s → AppendsPart b c t → AppendsPart a c (s ++ t)
part_second a b c s t p q = (
  length s + q.0,
  omega (arith, length-append s t, q.1),
  subst (Appends a c) (sym (take_past s t q.0)) (Appends-trans a b c s (take q.0 t) p q.2),
)

-- a part of the first of several texts is a part of all
pub part_here : (a b : Option (List ℕ)) (s : List ℕ) (rest : List (List ℕ)) → AppendsPart a b s → AppendsPart a b (concat (s ∷ rest))
part_here a b s rest p = part_first a b s (concat rest) p

-- so is the first with a part of the others
pub part_later : (a b c : Option (List ℕ)) (s : List ℕ) (rest : List (List ℕ)) → Appends a b s → AppendsPart b c (concat rest) → AppendsPart a c (concat (s ∷ rest))
part_later a b c s rest p q = part_second a b c s (concat rest) p q

-- texts that are written whole
pub all_later : (a b c : Option (List ℕ)) (s : List ℕ) (rest : List (List ℕ)) → Appends a b s → Appends b c (concat rest) → Appends a c (concat (s ∷ rest))
all_later a b c s rest p q = Appends-trans a b c s (concat rest) p q

pub all_last : (a b : Option (List ℕ)) (s : List ℕ) → Appends a b s → Appends a b (concat (s ∷ []))
all_last a b s p = subst (Appends a b) (sym (append-nil s)) p

module _ {X : Type 0} (f : X → List ℕ) (xs : List X) (i : ℕ) (d : X) (lt : i < length xs) where
  more : flat_map f (take (i + 1) xs) ≡ flat_map f (take i xs) ++ f (get_or xs i d)
  more = ap (flat_map f) (take_more xs i d lt) ∙ flat_map-append f (take i xs) (get_or xs i d ∷ []) ∙ ap (λ (l : List ℕ). flat_map f (take i xs) ++ l) (append-nil (f (get_or xs i d)))

  split : flat_map f xs ≡ flat_map f (take i xs) ++ (f (get_or xs i d) ++ flat_map f (drop (i + 1) xs))
  split = ap (flat_map f) (sym (take-append-drop i xs)) ∙ flat_map-append f (take i xs) (drop i xs) ∙ ap (λ (l : List X). flat_map f (take i xs) ++ flat_map f l) (drop_more xs i d lt)

  -- one more item
  pub next_item : (a b c : Option (List ℕ)) → Appends a b (flat_map f (take i xs)) → Appends b c (f (get_or xs i d)) → Appends a c (flat_map f (take (i + 1) xs))
  next_item a b c p q = subst (Appends a c) (sym more) (Appends-trans a b c (flat_map f (take i xs)) (f (get_or xs i d)) p q)

  -- the items so far and a part of the next
  pub part_item : (a b c : Option (List ℕ)) → Appends a b (flat_map f (take i xs)) → AppendsPart b c (f (get_or xs i d)) → AppendsPart a c (flat_map f xs)
  part_item a b c p q = subst (AppendsPart a c) (sym split)
      (part_second a b c (flat_map f (take i xs)) (f (get_or xs i d) ++ flat_map f (drop (i + 1) xs)) p (part_first b c (f (get_or xs i d)) (flat_map f (drop (i + 1) xs)) q))
