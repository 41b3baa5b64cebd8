-- A survey whose values stand in another order.
use Rattle.std.proofs.Common.{ℕ, ◌≡◌, ◌≢◌, ◌+◌, ◌<◌, Bool, List, eqb, length, slice_index, Some, sym, ap, ◌∙◌, subst, arith}
use Rattle.std.specs.List.{IsDistinct}
use Rattle.std.specs.List.Sorted.{IsPermutation}
use Rattle.std.specs.Prelude.{AllPairs, vec_capacity}
use Rattle.std.proofs.lemmas.Bool.Decides.{Decides-eqb, nat_tests}
use Rattle.std.proofs.lemmas.List.{get_or-map, length-map}
use Rattle.std.proofs.lemmas.List.Sorted.{All-permutation, Contains-permutation, IsPermutation-map, IsPermutation-sym, length_permutation}
use Rattle.std.proofs.lemmas.Map.Keys.{IsDistinct-IsPermutation}
use Rattle.std.proofs.lemmas.Map.Made.{AllPairs-from_IsDistinct, IsDistinct-from_AllPairs}
use Rattle.heap_model.specs.declared.record.Record.{Record}
use Rattle.store_round_image.specs.Turning.{fields_of}
use Rattle.store_round_image.specs.declared.cells.HomeValue.{HomeValue}
use Rattle.store_round_memory.specs.Counting.{first_of, kept_store, kept_takes}
use Rattle.store_round_memory.specs.Surveys.{AreMarked, IsSurvey, TellsDownTo, is_marked}
use Rattle.store_round_memory.specs.declared.survey.Survey.{Survey}
use Rattle.store_round_memory.proofs.Writing.{Once}

abbrev field_number : HomeValue → ℕ
field_number c = c.field.0

-- values of different fields, and fields that differ
apart_fields : (xs : List HomeValue) → Once xs → AllPairs (λ x y. x ≢ y) (fields_of xs)
apart_fields xs once i j d lt within same =
    let e : HomeValue = record { field = record { 0 = 0 }; value = 0 } in
    let low : j < length xs = omega (arith, within, length-map xs field_number) in
    once i j e lt low (sym (get_or-map field_number xs i e d (omega (arith, lt, low))) ∙ same ∙ get_or-map field_number xs j e d low)

apart_values : (xs : List HomeValue) → AllPairs (λ x y. x ≢ y) (fields_of xs) → Once xs
apart_values xs apart i j d lt low same =
    apart i j d.field.0 lt (omega (arith, low, length-map xs field_number)) (get_or-map field_number xs i d d.field.0 (omega (arith, lt, low)) ∙ same ∙ sym (get_or-map field_number xs j d d.field.0 low))

module _ (xs ys : List HomeValue) (moved : IsPermutation xs ys) where
  fields_moved : IsPermutation (fields_of xs) (fields_of ys)
  fields_moved = IsPermutation-map field_number xs ys moved

  once_moved : Once xs → Once ys
  once_moved once =
      let before : IsDistinct eqb (fields_of xs) = IsDistinct-from_AllPairs Decides-eqb (fields_of xs) (apart_fields xs once) in
      let after : IsDistinct eqb (fields_of ys) = IsDistinct-IsPermutation eqb (λ x y. grind (arith, nat_tests)) (fields_of xs) (fields_of ys) fields_moved before in
      apart_values ys (AllPairs-from_IsDistinct Decides-eqb (fields_of ys) after)

  marked_moved : (marks : List Bool) → AreMarked xs marks → AreMarked ys marks
  marked_moved marks are = record {
    listed = λ f. (
      (λ has. (are.listed f).0 (Contains-permutation (fields_of ys) (fields_of xs) f (IsPermutation-sym (fields_of xs) (fields_of ys) fields_moved) has)),
      (λ is. Contains-permutation (fields_of xs) (fields_of ys) f fields_moved ((are.listed f).1 is)),
    );
    once = once_moved are.once;
    many = omega (arith, are.many, length_permutation xs ys moved);
  }

module _ (v w : Survey) (moved : IsPermutation v.changed.items w.changed.items) (marks : w.marks.items ≡ v.marks.items) (first : w.first.items ≡ v.first.items) (taken : w.taken.items ≡ v.taken.items) (opened : w.open_takes.items ≡ v.open_takes.items) where
  -- it stays a survey
  pub survey_moved : (objects fields : ℕ) → vec_capacity w.changed ≡ vec_capacity v.changed → IsSurvey objects fields v → IsSurvey objects fields w
  survey_moved objects fields capacity was = record {
    marks = ap (λ (ms : List Bool). length ms) marks ∙ was.marks;
    first = ap (λ (ns : List ℕ). length ns) first ∙ was.first;
    room = omega (arith, capacity, was.room);
    marked = marked_moved v.changed.items w.changed.items moved w.marks.items (subst (AreMarked v.changed.items) (sym marks) was.marked);
    taken = ap (λ (ns : List ℕ). length ns) taken ∙ was.taken;
    opened = ap (λ (ns : List ℕ). length ns) opened ∙ was.opened;
    firsts = λ o. ap (λ (ns : List ℕ). slice_index ns o) first ∙ was.firsts o ∙ (λ i. first_of (slice_index (sym taken i) o) (slice_index (sym opened i) o));
  }

  -- and tells of the same records
  pub tells_moved : (counts : List ℕ) (all older : List (ℕ × Record)) → TellsDownTo counts all older v → TellsDownTo counts all older w
  tells_moved counts all older tells = record {
    values = All-permutation (λ (c : HomeValue). kept_store counts c.field.0 all ≡ Some c.value) v.changed.items w.changed.items moved tells.values;
    rest = λ f none. tells.rest f (ap (λ (ms : List Bool). is_marked ms f) (sym marks) ∙ none);
    opened = λ o. ap (λ (ns : List ℕ). slice_index ns o + kept_takes counts o all) opened ∙ tells.opened o;
  }
