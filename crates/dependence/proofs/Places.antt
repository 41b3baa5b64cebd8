-- Elements of lists by their places.
use Rattle.std.proofs.Common.{ℕ, zero, suc, ◌≡◌, ◌+◌, ◌-◌, ◌<◌, List, [], ◌∷◌, ◌++◌, length, get_or, map, reverse, sum, slice_index, slice_set, refl, sym, ap, ◌∙◌, arith, length-append}
use Rattle.std.proofs.lemmas.List.{get_or_append_left, get_or-map, get_or-reverse, reverse-append}
use Rattle.std.proofs.lemmas.List.Sums.{sum_by-set}
use Rattle.std.proofs.Math.Seq.{get_or-append_seam}

-- an element that was there before one was put at the end
pub at_old : {X : Type 0} (xs : List X) (y d : X) (i : ℕ) → i < length xs → get_or (xs ++ y ∷ []) i d ≡ get_or xs i d
at_old xs y d i lt = get_or_append_left xs (y ∷ []) d i lt

-- the one that was put there
pub at_new : {X : Type 0} (xs : List X) (y d : X) (i : ℕ) → i ≡ length xs → get_or (xs ++ y ∷ []) i d ≡ y
at_new xs y d i e = ap (λ (k : ℕ). get_or (xs ++ y ∷ []) k d) e ∙ get_or-append_seam xs y [] d

pub length_snoc : {X : Type 0} (xs : List X) (y : X) → length (xs ++ y ∷ []) ≡ length xs + 1
length_snoc xs y = length-append xs (y ∷ [])

-- the list has the image of what stands at the place
pub at_map : {X Y : Type 0} (f : X → Y) (xs : List X) (i : ℕ) (x : X) (e : Y) → i < length xs → x ≡ get_or xs i x → get_or (map f xs) i e ≡ f x
at_map f xs i x e lt is = get_or-map f xs i x e lt ∙ ap f (sym is)

pub length_map : {X Y : Type 0} (f : X → Y) (xs : List X) → length (map f xs) ≡ length xs
length_map f [] = refl
length_map f (x ∷ xs) = ap suc (length_map f xs)

pub map_snoc : {X Y : Type 0} (f : X → Y) (xs : List X) (y : X) → map f (xs ++ y ∷ []) ≡ map f xs ++ f y ∷ []
map_snoc f [] y = refl
map_snoc {X} {Y} f (x ∷ xs) y = ap (λ (ys : List Y). f x ∷ ys) (map_snoc f xs y)

pub map_reverse : {X Y : Type 0} (f : X → Y) (xs : List X) → map f (reverse xs) ≡ reverse (map f xs)
map_reverse f [] = refl
map_reverse {X} {Y} f (x ∷ xs) = ap (map f) (reverse-append (x ∷ []) xs) ∙ map_snoc f (reverse xs) x ∙ ap (λ (ys : List Y). ys ++ f x ∷ []) (map_reverse f xs) ∙ sym (reverse-append (f x ∷ []) (map f xs))

pub reverse_snoc : {X : Type 0} (xs : List X) (y : X) → reverse (xs ++ y ∷ []) ≡ y ∷ reverse xs
reverse_snoc xs y = reverse-append xs (y ∷ [])

-- an element by its place from the end
pub at_reverse : {X : Type 0} (xs : List X) (i : ℕ) (d : X) → i < length xs → get_or (reverse xs) (length xs - 1 - i) d ≡ get_or xs i d
at_reverse xs i d lt =
    let back : length xs - 1 - (length xs - 1 - i) ≡ i = omega arith in
    get_or-reverse xs (length xs - 1 - i) d (omega arith) ∙ ap (λ (k : ℕ). get_or xs k d) back

-- what stands at a place
pub pick : {X : Type 0} (xs : List X) (i : ℕ) → i < length xs → (x : X) × (get_or xs i x ≡ x)
pick [] i lt = absurd (omega arith)
pick (x ∷ xs) zero lt = (x, refl)
pick (x ∷ xs) (suc i) lt = pick xs i (omega arith)

-- a smaller number in the place of another makes the sum smaller
pub sum_falls : (xs : List ℕ) (i v : ℕ) → i < length xs → v < slice_index xs i → sum (slice_set xs i v) < sum xs
sum_falls xs i v lt less = omega (arith, sum_by-set (λ (x : ℕ). x) xs i v 0 lt)
