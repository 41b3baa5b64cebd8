-- The lanes' undo logs, as one of them changes.
use Rattle.std.proofs.Common.{ℕ, ◌≡◌, ◌≢◌, ◌+◌, ◌<◌, ◌≤◌, List, [], ◌∷◌, ◌++◌, map, length, slice_index_or, slice_set, Vec, Global, vec_capacity, refl, sym, ap, ◌∙◌, subst, inl, inr, arith, length-append}
use Rattle.std.proofs.lemmas.Bool.{cases_lt, cases_eq}
use Rattle.std.proofs.lemmas.List.{map-set, get_or-map, get_or-set_same, get_or-set_other, get_or_append_left, get_or_push, get_or_past, length-map}
use mathlib.Core.Logic.{dite}
use native.Mathlib.Decide.{ℕ_discrete}
use Rattle.heap_model.specs.declared.record.UndoRecord.{UndoRecord}
use Rattle.store_memory.specs.Fresh.{log_in, room_in}

abbrev Log : Type 0
Log = Vec UndoRecord Global

-- a log that is read
pub read_log : (logs : List Log) (l : ℕ) (other : Log) → l < length logs → (slice_index_or logs l other).items ≡ log_in logs l
read_log logs l other lt = sym (get_or-map (λ (x : Log). x.items) logs l other [] lt)

pub read_room : (logs : List Log) (l : ℕ) (other : Log) → l < length logs → vec_capacity (slice_index_or logs l other) ≡ room_in logs l
read_room logs l other lt = sym (get_or-map (λ (x : Log). vec_capacity x) logs l other 0 lt)

-- a log that is put in the place of the lane's own
pub put_here : (logs : List Log) (l : ℕ) (v : Log) → l < length logs → log_in (slice_set logs l v) l ≡ v.items
put_here logs l v lt =
    ap (λ (xs : List (List UndoRecord)). slice_index_or xs l []) (map-set (λ (x : Log). x.items) logs l v)
    ∙ get_or-set_same (map (λ (x : Log). x.items) logs) l v.items [] (omega (arith, length-map logs (λ (x : Log). x.items)))

pub put_else : (logs : List Log) (l : ℕ) (v : Log) (m : ℕ) → m ≢ l → log_in (slice_set logs l v) m ≡ log_in logs m
put_else logs l v m ne =
    ap (λ (xs : List (List UndoRecord)). slice_index_or xs m []) (map-set (λ (x : Log). x.items) logs l v)
    ∙ get_or-set_other (map (λ (x : Log). x.items) logs) l m v.items [] ne

pub put_room : (logs : List Log) (l : ℕ) (v : Log) → l < length logs → vec_capacity v ≡ room_in logs l → (m : ℕ) → room_in (slice_set logs l v) m ≡ room_in logs m
put_room logs l v lt same m =
    ap (λ (xs : List ℕ). slice_index_or xs m 0) (map-set (λ (x : Log). vec_capacity x) logs l v)
    ∙ dite (ℕ_discrete m l)
    (λ here. subst (λ (k : ℕ). slice_index_or (slice_set (map (λ (x : Log). vec_capacity x) logs) l (vec_capacity v)) k 0 ≡ room_in logs k) (sym here)
    (get_or-set_same (map (λ (x : Log). vec_capacity x) logs) l (vec_capacity v) 0 (omega (arith, lt, length-map logs (λ (x : Log). vec_capacity x))) ∙ same))
    (λ else. get_or-set_other (map (λ (x : Log). vec_capacity x) logs) l m (vec_capacity v) 0 else)

-- one more log
map_snoc : {X Y : Type 0} (f : X → Y) (xs : List X) (y : X) → map f (xs ++ y ∷ []) ≡ map f xs ++ f y ∷ []
map_snoc f [] y = refl
map_snoc {X} {Y} f (x ∷ xs) y = ap (λ (ys : List Y). f x ∷ ys) (map_snoc f xs y)

snoc_is : {A : Type 0} (xs : List A) (x d : A) (m : ℕ) (P : A → Type 0) → (m < length xs → P (slice_index_or xs m d)) → P x → (length xs < m → P d) → P (slice_index_or (xs ++ x ∷ []) m d)
snoc_is {A} xs x d m P before new past = elim (cases_lt m (length xs)) [
  | inl lt ↦ subst P (sym (get_or_append_left xs (x ∷ []) d m lt)) (before lt)
  | inr ge ↦ elim (cases_eq m (length xs)) [
    | inl e ↦ subst P (sym (get_or_push xs x d m (sym e))) new
    | inr ne ↦ subst P (sym (get_or_past (xs ++ x ∷ []) m d (omega (arith, length-append xs (x ∷ []))))) (past (omega arith))
  ]
]

pub none_more : (logs : List Log) (v : Log) → v.items ≡ [] → ((m : ℕ) → log_in logs m ≡ []) → (m : ℕ) → log_in (logs ++ v ∷ []) m ≡ []
none_more logs v empty none m =
    ap (λ (xs : List (List UndoRecord)). slice_index_or xs m []) (map_snoc (λ (x : Log). x.items) logs v)
    ∙ snoc_is (map (λ (x : Log). x.items) logs) v.items [] m (λ (xs : List UndoRecord). xs ≡ []) (λ lt. none m) empty (λ lt. refl)

pub rooms_more : (logs : List Log) (v : Log) (room : ℕ) → room ≤ vec_capacity v → ((m : ℕ) → m < length logs → room ≤ room_in logs m) → (m : ℕ) → m < length logs + 1 → room ≤ room_in (logs ++ v ∷ []) m
rooms_more logs v room here before m lt =
    subst (λ (xs : List ℕ). room ≤ slice_index_or xs m 0) (sym (map_snoc (λ (x : Log). vec_capacity x) logs v))
    (snoc_is (map (λ (x : Log). vec_capacity x) logs) (vec_capacity v) 0 m (λ (k : ℕ). room ≤ k)
    (λ low. before m (omega (arith, low, length-map logs (λ (x : Log). vec_capacity x)))) here (λ past. absurd (omega (arith, past, lt, length-map logs (λ (x : Log). vec_capacity x)))))
