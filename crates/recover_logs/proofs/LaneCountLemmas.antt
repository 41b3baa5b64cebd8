-- How far a lane has come, with one more record.
use Rattle.std.proofs.Common.{ℕ, zero, suc, ◌≡◌, ◌≢◌, ◌+◌, ◌<◌, ◌≤◌, ◌==◌, if◌then◌else◌, ◌++◌, Bool, true, false, List, [], ◌∷◌, length, map, get_or, take, drop, reverse, refl, sym, ap, ◌∙◌, subst, inl, inr, arith, Contains}
use Rattle.std.proofs.lemmas.Bool.{eq-eqb, ne_eqb}
use Rattle.std.proofs.lemmas.Bool.Decides.{eqb_tells}
use Rattle.std.proofs.lemmas.List.{take-append-drop, take_more, reverse-append}
use Rattle.heap_model.specs.Sections.{Action, Takes, Frees, Stores, undo_action, without, holding, ended}
use Rattle.heap_model.specs.declared.record.UndoRecord.{UndoRecord}
use Rattle.recover_logs.specs.Lanes.{Counts, FreesHeld, held_after, ended_after, count_after, count_of, new_count}
use Rattle.recover_logs.specs.declared.lane_count.LaneCount.{LaneCount}

abbrev acts_of : List UndoRecord → List Action
acts_of records = map undo_action (reverse records)

-- what is freed was held once
pub without_length : (o : ℕ) (held : List ℕ) → Contains held o → length (without o held) + 1 ≡ length held
without_length o [] here = absurd (let lt : here.0 < length {A = ℕ} [] = here.1 in omega arith)
without_length o (p ∷ ps) here = elim (eqb_tells p o) [
  | inl e ↦ ap (λ (b : Bool). length (if b then ps else p ∷ without o ps) + 1) e.0 ∙ omega arith
  | inr e ↦ ap (λ (b : Bool). length (if b then ps else p ∷ without o ps) + 1) e.0 ∙ (let rest : length (without o ps) + 1 ≡ length ps = without_length o ps (later e.1 here.0 here.1 here.2) in omega arith)
]
  where
    later : p ≢ o → (k : ℕ) → k < length (p ∷ ps) → get_or (p ∷ ps) k o ≡ o → Contains ps o
    later ne zero lt is = absurd (ne is)
    later ne (suc k) lt is = (k, omega arith, is)

frees_behind : (newer older : List Action) → FreesHeld (newer ++ older) → FreesHeld older
frees_behind [] older h = h
frees_behind (Takes o n ∷ newer) older h = frees_behind newer older h
frees_behind (Frees o n ∷ newer) older h = frees_behind newer older h.0
frees_behind (Stores ∷ newer) older h = frees_behind newer older h

map_append : {X Y : Type 0} (f : X → Y) (xs ys : List X) → map f (xs ++ ys) ≡ map f xs ++ map f ys
map_append f [] ys = refl
map_append {X} {Y} f (x ∷ xs) ys = ap (λ (zs : List Y). f x ∷ zs) (map_append f xs ys)

-- the first records free what they hold where all do
pub frees_first : (records : List UndoRecord) (n : ℕ) → FreesHeld (acts_of records) → FreesHeld (acts_of (take n records))
frees_first records n h =
    let parts : acts_of records ≡ acts_of (drop n records) ++ acts_of (take n records) =
    ap acts_of (sym (take-append-drop n records)) ∙ ap (map undo_action) (reverse-append (take n records) (drop n records)) ∙ map_append undo_action (reverse (drop n records)) (reverse (take n records)) in
    frees_behind (acts_of (drop n records)) (acts_of (take n records)) (subst FreesHeld parts h)

-- one more of the records
pub records_more : (records : List UndoRecord) (i : ℕ) (d : UndoRecord) → i < length records → reverse (take (i + 1) records) ≡ get_or records i d ∷ reverse (take i records)
records_more records i d lt = ap (λ (xs : List UndoRecord). reverse xs) (take_more records i d lt) ∙ reverse-append (take i records) (get_or records i d ∷ [])

pub held_step : (a : Action) (older : List Action) (h : ℕ) → FreesHeld (a ∷ older) → h ≡ length (holding older) → held_after a h ≡ length (holding (a ∷ older))
held_step (Takes o n) older h frees e = omega arith
held_step (Frees o n) older h frees e = omega (arith, without_length o (holding older) frees.1)
held_step Stores older h frees e = e

pub ended_step : (a : Action) (older : List Action) (h w b : ℕ) → FreesHeld (a ∷ older) → h ≡ length (holding older) → w ≡ b + ended older → ended_after a h w ≡ b + ended (a ∷ older)
ended_step (Takes o n) older h w b frees eh ew = ew
ended_step Stores older h w b frees eh ew = ew
ended_step (Frees o n) older h w b frees eh ew =
    let less : length (without o (holding older)) + 1 ≡ length (holding older) = without_length o (holding older) frees.1 in
    elim (eqb_tells h 1) [
      | inl one ↦
          let none : (length (without o (holding older)) == 0) ≡ true = eq-eqb _ _ (let it : h ≡ 1 = one.1 in omega arith) in
          ap (λ (t : Bool). if t then w + 1 else w) one.0 ∙ (let step : w + 1 ≡ b + (ended older + 1) = omega arith in step) ∙ sym (ap (λ (t : Bool). b + (if t then ended older + 1 else ended older)) none)
      | inr more ↦
          let some : (length (without o (holding older)) == 0) ≡ false = ne_eqb _ _ (λ z. more.1 (omega arith)) in
          ap (λ (t : Bool). if t then w + 1 else w) more.0 ∙ ew ∙ sym (ap (λ (t : Bool). b + (if t then ended older + 1 else ended older)) some)
    ]

-- the count of one more record
pub counts_more : (first c : LaneCount) (records : List UndoRecord) (r : UndoRecord) → FreesHeld (undo_action r ∷ map undo_action records) → Counts first records c → Counts first (r ∷ records) (count_after c r)
counts_more first c records r frees counts =
    let a : Action = undo_action r in
    let older : List Action = map undo_action records in
    let held : held_after a c.held ≡ length (holding (a ∷ older)) = held_step a older c.held frees counts.held_is in
    record {
      place_is = omega (arith, counts.place_is);
      held_is = held;
      ended_is = ended_step a older c.held c.ended first.ended frees counts.held_is counts.ended_is;
      since_is = ap (λ (k : ℕ). if k == 0 then 0 else c.since + 1) held ∙ ap (λ (k : ℕ). if length (holding (a ∷ older)) == 0 then 0 else k + 1) counts.since_is;
      awaited_is = refl;
    }

-- the count of a lane that frees only what it holds
pub counts_of : (records : List UndoRecord) → FreesHeld (map undo_action records) → Counts new_count records (count_of records)
counts_of [] frees = record { place_is = refl; held_is = refl; ended_is = refl; since_is = refl; awaited_is = refl }
counts_of (r ∷ older) frees = counts_more new_count (count_of older) older r frees (counts_of older (frees_behind (undo_action r ∷ []) (map undo_action older) frees))

pub held_few : (a : Action) (h i : ℕ) → h ≤ i → held_after a h ≤ i + 1
held_few (Takes o n) h i le = omega arith
held_few (Frees o n) h i le = omega arith
held_few Stores h i le = omega arith

pub ended_few : (a : Action) (h w i : ℕ) → w ≤ i → ended_after a h w ≤ i + 1
ended_few (Takes o n) h w i le = omega arith
ended_few (Frees o n) h w i le = elim (h == 1) as (λ b. (if b then w + 1 else w) ≤ i + 1) [ true ↦ omega arith | false ↦ omega arith ]
ended_few Stores h w i le = omega arith

-- a lane holds, has ended and has in its open section no more than it has records
pub since_few : (a : Action) (h s i : ℕ) → s ≤ i → (if held_after a h == 0 then 0 else s + 1) ≤ i + 1
since_few a h s i le = elim (held_after a h == 0) as (λ b. (if b then 0 else s + 1) ≤ i + 1) [ true ↦ omega arith | false ↦ omega arith ]
