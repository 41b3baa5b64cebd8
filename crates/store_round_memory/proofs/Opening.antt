-- A survey of which more takes are open, or fewer.
use Rattle.std.proofs.Common.{ℕ, ◌≡◌, ◌≢◌, ◌+◌, ◌-◌, ◌<◌, ◌≤◌, ◌==◌, if◌then◌else◌, true, false, List, [], ◌∷◌, length, slice_index, slice_set, refl, sym, ap, ◌∙◌, subst, inl, inr, arith}
use Rattle.std.specs.Prelude.{All, Some, vec_capacity}
use Rattle.std.proofs.lemmas.Bool.{cases_eq, le-ltb}
use Rattle.std.proofs.lemmas.Bool.Decides.{eqb_tells}
use Rattle.std.proofs.lemmas.List.{get_or-set_other, get_or-set_same, length-set}
use Rattle.heap_model.specs.declared.record.Record.{Record}
use Rattle.heap_model.specs.declared.record.Record.TheVariants.{Acq}
use Rattle.heap_model.specs.declared.ids.ObjectId.{ObjectId}
use Rattle.heap_model.specs.Log.{lane}
use Rattle.store_round_image.specs.declared.cells.HomeValue.{HomeValue}
use Rattle.store_round_memory.specs.Counting.{first_of, is_kept, kept_store, kept_takes, records_left, takes, takes_one}
use Rattle.store_round_memory.specs.Surveys.{AreAllOpen, AreMarked, FoundNothing, IsSurvey, SetsOpen, TellsDownTo, is_marked}
use Rattle.store_round_memory.specs.declared.survey.Survey.{Survey}
use Rattle.store_round_memory.proofs.Takes.{NoneKept, none_of_zero, none_stored, none_takes, takes_parts}

pub set_here : (xs : List ℕ) (i x o : ℕ) → i < length xs → o ≡ i → slice_index (slice_set xs i x) o ≡ x
set_here xs i x o low e = ap (slice_index (slice_set xs i x)) e ∙ get_or-set_same xs i x 0 low

pub set_else : (xs : List ℕ) (i x o : ℕ) → o ≢ i → slice_index (slice_set xs i x) o ≡ slice_index xs o
set_else xs i x o apart = get_or-set_other xs i o x 0 apart

-- by a test
pub set_if : (xs : List ℕ) (i x o : ℕ) → i < length xs → slice_index (slice_set xs i x) o ≡ (if i == o then x else slice_index xs o)
set_if xs i x o low = elim (eqb_tells i o) [
  | inl e ↦ set_here xs i x o low (sym e.1) ∙ ap (λ b. if b then x else slice_index xs o) (sym e.0)
  | inr e ↦ set_else xs i x o (λ same. e.1 (sym same)) ∙ ap (λ b. if b then x else slice_index xs o) (sym e.0)
]

-- it stays a survey, also where the object was taken just before
module _ (objects fields : ℕ) (v u w : Survey) (object count : ℕ) (was : IsSurvey objects fields v) (low : object < objects) (sets : SetsOpen object count u w)
    (changed : u.changed ≡ v.changed) (marks : u.marks ≡ v.marks) (first : u.first ≡ v.first) (opened : u.open_takes ≡ v.open_takes) (size : length u.taken.items ≡ length v.taken.items)
    (others : (o : ℕ) → o ≢ object → slice_index u.taken.items o ≡ slice_index v.taken.items o) where
  opens : w.open_takes.items ≡ slice_set v.open_takes.items object count
  opens = sets.opened ∙ ap (λ x. slice_set x.items object count) opened

  firsts : w.first.items ≡ slice_set v.first.items object (first_of (slice_index u.taken.items object) count)
  firsts = sets.first ∙ ap (λ x. slice_set x.items object (first_of (slice_index u.taken.items object) count)) first

  first_now : (o : ℕ) → slice_index w.first.items o ≡ first_of (slice_index w.taken.items o) (slice_index w.open_takes.items o)
  first_now o = elim (cases_eq o object) [
    | inl e ↦
        let f : slice_index w.first.items o ≡ first_of (slice_index u.taken.items object) count = ap (λ (ns : List ℕ). slice_index ns o) firsts ∙ set_here v.first.items object _ o (omega (arith, low, was.first)) e in
        let t : slice_index u.taken.items object ≡ slice_index w.taken.items o = ap (slice_index u.taken.items) (sym e) ∙ ap (λ x. slice_index x.items o) (sym sets.taken) in
        let c : count ≡ slice_index w.open_takes.items o = sym (ap (λ (ns : List ℕ). slice_index ns o) opens ∙ set_here v.open_takes.items object count o (omega (arith, low, was.opened)) e) in
        f ∙ (λ i. first_of (t i) (c i))
    | inr ne ↦
        let f : slice_index w.first.items o ≡ slice_index v.first.items o = ap (λ (ns : List ℕ). slice_index ns o) firsts ∙ set_else v.first.items object _ o ne in
        let t : slice_index v.taken.items o ≡ slice_index w.taken.items o = sym (others o ne) ∙ ap (λ x. slice_index x.items o) (sym sets.taken) in
        let c : slice_index v.open_takes.items o ≡ slice_index w.open_takes.items o = sym (ap (λ (ns : List ℕ). slice_index ns o) opens ∙ set_else v.open_takes.items object count o ne) in
        f ∙ was.firsts o ∙ (λ i. first_of (t i) (c i))
  ]

  pub survey_took : IsSurvey objects fields w
  survey_took = record {
    marks = ap (λ x. length x.items) (sets.marks ∙ marks) ∙ was.marks;
    first = ap (λ (ns : List ℕ). length ns) firsts ∙ length-set v.first.items object _ ∙ was.first;
    room = omega (arith, ap (λ x. vec_capacity x) (sets.changed ∙ changed), was.room);
    marked = subst (λ x. AreMarked x.items w.marks.items) (sym (sets.changed ∙ changed)) (subst (λ x. AreMarked v.changed.items x.items) (sym (sets.marks ∙ marks)) was.marked);
    taken = ap (λ x. length x.items) sets.taken ∙ size ∙ was.taken;
    opened = ap (λ (ns : List ℕ). length ns) opens ∙ length-set v.open_takes.items object count ∙ was.opened;
    firsts = first_now;
  }

pub survey_opened : (objects fields : ℕ) (v w : Survey) (object count : ℕ) → IsSurvey objects fields v → object < objects → SetsOpen object count v w → IsSurvey objects fields w
survey_opened objects fields v w object count was low sets = survey_took objects fields v v w object count was low sets refl refl refl refl refl (λ o ne. refl)

-- by object, how many are open
pub open_now : (v w : Survey) (object count : ℕ) → object < length v.open_takes.items → SetsOpen object count v w → (o : ℕ) → slice_index w.open_takes.items o ≡ (if object == o then count else slice_index v.open_takes.items o)
open_now v w object count low sets o = ap (λ (ns : List ℕ). slice_index ns o) sets.opened ∙ set_if v.open_takes.items object count o low

-- a kept take is open no more
module _ (counts : List ℕ) (all older : List (ℕ × Record)) (l : ℕ) (p : ObjectId) (n : ℕ) (v : Survey) where
  pub tells_closed : (w : Survey) (count : ℕ) → is_kept counts l older ≡ true → p.0 < length v.open_takes.items → count ≡ slice_index v.open_takes.items p.0 - 1 → SetsOpen p.0 count v w →
      TellsDownTo counts all ((l, Acq p n) ∷ older) v → TellsDownTo counts all older w
  tells_closed w count kept low is sets tells = record {
    values = subst (λ x. All (λ c. kept_store counts c.field.0 all ≡ Some c.value) x.items) (sym sets.changed) tells.values;
    rest = λ f out. tells.rest f (ap (λ x. is_marked x.items f) (sym sets.marks) ∙ out);
    opened = λ o.
        let was : slice_index v.open_takes.items o + kept_takes counts o all ≡ takes o all + ((if is_kept counts l older then takes_one o (Acq p n) else 0) + kept_takes counts o older) = tells.opened o in
        let one : (if is_kept counts l older then takes_one o (Acq p n) else 0) ≡ takes_one o (Acq p n) = ap (λ b. if b then takes_one o (Acq p n) else 0) kept in
        let parts : kept_takes counts o all + takes o (records_left counts all) ≡ takes o all = takes_parts counts o all in
        let now : slice_index w.open_takes.items o ≡ (if p.0 == o then count else slice_index v.open_takes.items o) = open_now v w p.0 count low sets o in
        elim (eqb_tells p.0 o) [
          | inl e ↦
              let here : takes_one o (Acq p n) ≡ 1 = ap (λ b. if b then 1 else 0) e.0 in
              let less : slice_index w.open_takes.items o ≡ slice_index v.open_takes.items o - 1 = now ∙ ap (λ b. if b then count else slice_index v.open_takes.items o) e.0 ∙ is ∙ ap (λ (q : ℕ). slice_index v.open_takes.items q - 1) e.1 in
              omega (arith, was, one, parts, here, less)
          | inr e ↦
              let here : takes_one o (Acq p n) ≡ 0 = ap (λ b. if b then 1 else 0) e.0 in
              let same : slice_index w.open_takes.items o ≡ slice_index v.open_takes.items o = now ∙ ap (λ b. if b then count else slice_index v.open_takes.items o) e.0 in
              omega (arith, was, one, here, same)
        ];
  }

  pub tells_open : is_kept counts l older ≡ false → TellsDownTo counts all ((l, Acq p n) ∷ older) v → TellsDownTo counts all older v
  tells_open out tells = record {
    values = tells.values;
    rest = tells.rest;
    opened = λ o.
        let was : slice_index v.open_takes.items o + kept_takes counts o all ≡ takes o all + ((if is_kept counts l older then takes_one o (Acq p n) else 0) + kept_takes counts o older) = tells.opened o in
        let none : (if is_kept counts l older then takes_one o (Acq p n) else 0) ≡ 0 = ap (λ b. if b then takes_one o (Acq p n) else 0) out in
        omega (arith, was, none);
  }

-- none of the front's records is kept
pub tells_front : (counts : List ℕ) (all front : List (ℕ × Record)) (v : Survey) → NoneKept counts front → TellsDownTo counts all front v → TellsDownTo counts all [] v
tells_front counts all front v none tells = record {
  values = tells.values;
  rest = λ f out. tells.rest f out ∙ none_stored counts f front none;
  opened = λ o. omega (arith, tells.opened o, none_takes counts o front none);
}

-- nothing is noted yet
pub tells_none : (counts : List ℕ) (all : List (ℕ × Record)) (v : Survey) → FoundNothing v → AreAllOpen all v → TellsDownTo counts all all v
tells_none counts all v nothing opened = record {
  values = subst (λ (cs : List HomeValue). All (λ c. kept_store counts c.field.0 all ≡ Some c.value) cs) (sym nothing.changed) (λ k d lt. absurd (omega (arith, lt)));
  rest = λ f out. refl;
  opened = λ o. omega (arith, opened o);
}

-- with one record more, whose take is open
pub open_added : (counted : List ℕ) (o l : ℕ) (r : Record) (xs : List (ℕ × Record)) (was now : ℕ) → slice_index counted l ≤ length (lane l xs) → was + kept_takes counted o xs ≡ takes o xs → now ≡ takes_one o r + was →
    now + kept_takes counted o ((l, r) ∷ xs) ≡ takes o ((l, r) ∷ xs)
open_added counted o l r xs was now le opened is =
    let out : is_kept counted l xs ≡ false = le-ltb _ _ le in
    let none : (if is_kept counted l xs then takes_one o r else 0) ≡ 0 = ap (λ b. if b then takes_one o r else 0) out in
    omega (arith, opened, is, none)

-- what the cut keeps is left out
pub open_left : (counted now : List ℕ) (o : ℕ) (xs : List (ℕ × Record)) (n : ℕ) → ((l : ℕ) → slice_index now l ≡ 0) → n + kept_takes counted o xs ≡ takes o xs → n + kept_takes now o (records_left counted xs) ≡ takes o (records_left counted xs)
open_left counted now o xs n zeros opened =
    omega (arith, opened, takes_parts counted o xs, none_takes now o (records_left counted xs) (none_of_zero now (records_left counted xs) zeros))
