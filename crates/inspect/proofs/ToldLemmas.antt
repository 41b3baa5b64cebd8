-- What a lane's records tell, one after the other.
use Rattle.std.proofs.Common.{ℕ, suc, ◌≡◌, ◌+◌, ◌<◌, ◌≤◌, Option, List, [], ◌∷◌, ◌++◌, length, get_or, take, drop, reverse, sym, ap, ◌∙◌, subst, arith, append_assoc, append-nil, take-append-drop, length-take}
use Rattle.std.specs.List.{flat_map}
use Rattle.std.specs.Io.KnownBytes.{Appends}
use Rattle.std.proofs.KnownBytes.{Appends-trans}
use Rattle.std.proofs.lemmas.List.{take_more, reverse-append, length-reverse}
use Rattle.std.proofs.lemmas.List.Concat.{flat_map-append}
use Rattle.heap_model.specs.Sections.{undo_action}
use Rattle.heap_model.specs.declared.record.UndoRecord.{UndoRecord}
use Rattle.heap_model.specs.declared.record.UndoRecord.TheVariants.{Acq}
use Rattle.recover_logs.proofs.LaneCountLemmas.{held_few, ended_few, since_few}
use Rattle.inspect.specs.Written.{AppendsPart}
use Rattle.recover_logs.specs.Lanes.{count_after, count_of}
use Rattle.inspect.specs.Sections.{told}
use Rattle.recover_logs.specs.declared.lane_count.LaneCount.{LaneCount}
use Rattle.inspect.proofs.PartLemmas.{part_first, part_second}

abbrev pub none : UndoRecord
none = Acq (record { 0 = 0 }) 0

-- the newest of the first records, and those before it
pub reverse_more : (xs : List UndoRecord) (i : ℕ) → i < length xs → reverse (take (i + 1) xs) ≡ get_or xs i none ∷ reverse (take i xs)
reverse_more xs i lt = ap reverse (take_more xs i none lt) ∙ reverse-append (take i xs) (get_or xs i none ∷ [])

pub count_more : (xs : List UndoRecord) (i : ℕ) → i < length xs → count_of (reverse (take (i + 1) xs)) ≡ count_after (count_of (reverse (take i xs))) (get_or xs i none)
count_more xs i lt = ap count_of (reverse_more xs i lt)

-- what is counted is no more than the records
pub record Few (p : LaneCount) (n : ℕ) : Type 0 where
  pub place : p.place ≤ n
  pub held : p.held ≤ n
  pub ended : p.ended ≤ n
  pub since : p.since ≤ n

few_more : (p : LaneCount) (r : UndoRecord) (n : ℕ) → Few p n → Few (count_after p r) (n + 1)
few_more p r n few = record {
  place = omega (arith, few.place);
  held = held_few (undo_action r) p.held n few.held;
  ended = ended_few (undo_action r) p.held p.ended n few.ended;
  since = since_few (undo_action r) p.held p.since n few.since;
}

few_of : (older : List UndoRecord) → Few (count_of older) (length older)
few_of [] = record { place = omega arith; held = omega arith; ended = omega arith; since = omega arith }
few_of (r ∷ older) = subst (Few (count_after (count_of older) r)) (let e : length older + 1 ≡ suc (length older) = omega arith in e) (few_more (count_of older) r (length older) (few_of older))

pub few : (xs : List UndoRecord) (i : ℕ) → i ≤ length xs → Few (count_of (reverse (take i xs))) i
few xs i le = subst (Few (count_of (reverse (take i xs)))) (let e : length (reverse (take i xs)) ≡ i = omega (arith, length-reverse (take i xs), length-take i xs) in e) (few_of (reverse (take i xs)))

module _ {X : Type 0} (tell : LaneCount → UndoRecord → List X) where
  pub told_more : (xs : List UndoRecord) (i : ℕ) → i < length xs
      → told tell (reverse (take (i + 1) xs)) ≡ told tell (reverse (take i xs)) ++ tell (count_of (reverse (take i xs))) (get_or xs i none)
  told_more xs i lt = ap (told tell) (reverse_more xs i lt)

  -- later records tell more
  told_grows : (newer older : List UndoRecord) → (more : List X) × (told tell (newer ++ older) ≡ told tell older ++ more)
  told_grows [] older = ([], sym (append-nil (told tell older)))
  told_grows (r ∷ newer) older =
      let rest = told_grows newer older in
      let next : List X = tell (count_of (newer ++ older)) r in
      (rest.0 ++ next, ap (λ (xs : List X). xs ++ next) rest.1 ∙ append_assoc (told tell older) rest.0 next)

  -- what a record tells, among what all tell
  pub told_split : (xs : List UndoRecord) (i : ℕ) → i < length xs
      → (more : List X) × (told tell (reverse xs) ≡ (told tell (reverse (take i xs)) ++ tell (count_of (reverse (take i xs))) (get_or xs i none)) ++ more)
  told_split xs i lt =
      let parts : reverse xs ≡ reverse (drop (i + 1) xs) ++ reverse (take (i + 1) xs) = ap reverse (sym (take-append-drop (i + 1) xs)) ∙ reverse-append (take (i + 1) xs) (drop (i + 1) xs) in
      let rest = told_grows (reverse (drop (i + 1) xs)) (reverse (take (i + 1) xs)) in
      (rest.0, ap (told tell) parts ∙ rest.1 ∙ ap (λ (ys : List X). ys ++ rest.0) (told_more xs i lt))

  module _ (f : X → List ℕ) (xs : List UndoRecord) (i : ℕ) (lt : i < length xs) (a b c : Option (List ℕ)) where
    -- one more record
    pub next_told : Appends a b (flat_map f (told tell (reverse (take i xs)))) → Appends b c (flat_map f (tell (count_of (reverse (take i xs))) (get_or xs i none)))
        → Appends a c (flat_map f (told tell (reverse (take (i + 1) xs))))
    next_told p q =
        let so_far : List X = told tell (reverse (take i xs)) in
        let next : List X = tell (count_of (reverse (take i xs))) (get_or xs i none) in
        let e : flat_map f (told tell (reverse (take (i + 1) xs))) ≡ flat_map f so_far ++ flat_map f next = ap (flat_map f) (told_more xs i lt) ∙ flat_map-append f so_far next in
        subst (Appends a c) (sym e) (Appends-trans a b c (flat_map f so_far) (flat_map f next) p q)

    -- the records so far and a part of the next
    pub part_told : Appends a b (flat_map f (told tell (reverse (take i xs)))) → AppendsPart b c (flat_map f (tell (count_of (reverse (take i xs))) (get_or xs i none)))
        → AppendsPart a c (flat_map f (told tell (reverse xs)))
    part_told p q =
        let so_far : List X = told tell (reverse (take i xs)) in
        let next : List X = tell (count_of (reverse (take i xs))) (get_or xs i none) in
        let rest = told_split xs i lt in
        let e : flat_map f (told tell (reverse xs)) ≡ (flat_map f so_far ++ flat_map f next) ++ flat_map f rest.0 =
        ap (flat_map f) rest.1 ∙ flat_map-append f (so_far ++ next) rest.0 ∙ ap (λ (ys : List ℕ). ys ++ flat_map f rest.0) (flat_map-append f so_far next) in
        subst (AppendsPart a c) (sym e) (part_first a c (flat_map f so_far ++ flat_map f next) (flat_map f rest.0) (part_second a b c (flat_map f so_far) (flat_map f next) p q))
