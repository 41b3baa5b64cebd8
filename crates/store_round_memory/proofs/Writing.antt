-- Fields that get their new values, and marks that are taken away.
use Rattle.std.proofs.Common.{ℕ, zero, suc, ◌≡◌, ◌≢◌, ◌+◌, ◌<◌, ◌≤◌, Bool, true, false, List, [], ◌∷◌, get_or, length, slice_index, slice_set, refl, sym, ap, ◌∙◌, subst, inl, inr, arith}
use Rattle.std.specs.Prelude.{All, AllPairs, Contains}
use Rattle.std.specs.Vec.{vec_capacity}
use Rattle.std.proofs.lemmas.Bool.{cases_eq, cases_Bool}
use Rattle.std.proofs.lemmas.List.{get_or_default, get_or-set_other, get_or-set_same}
use Rattle.store_round_image.specs.Turning.{fields_of}
use Rattle.store_round_image.specs.declared.cells.HomeValue.{HomeValue}
use Rattle.store_round_memory.specs.Counting.{first_of}
use Rattle.store_round_memory.specs.Surveys.{AreMarked, FoundNothing, HasField, IsSurvey, is_marked}
use Rattle.store_round_memory.specs.declared.survey.Survey.{Survey}
use Rattle.store_round_memory.proofs.Finding.{contains_field, mark_past}

abbrev pub Once : List HomeValue → Type 0
Once changed = AllPairs (λ c d. c.field.0 ≢ d.field.0) changed

-- one value more is written
pub written_more : (heap : List ℕ) (changed : List HomeValue) (i : ℕ) (x : HomeValue) → i < length changed → (get_or changed i x).field.0 < length heap → Once changed →
    ((k : ℕ) (d : HomeValue) → k < i → slice_index heap (get_or changed k d).field.0 ≡ (get_or changed k d).value) → (k : ℕ) (d : HomeValue) → k < i + 1 →
    slice_index (slice_set heap (get_or changed i x).field.0 (get_or changed i x).value) (get_or changed k d).field.0 ≡ (get_or changed k d).value
written_more heap changed i x lt low once done k d within = elim (cases_eq k i) [
  | inl e ↦
      let same : get_or changed k d ≡ get_or changed i x = ap (λ (j : ℕ). get_or changed j d) e ∙ get_or_default changed i d x lt in
      ap (λ (c : HomeValue). slice_index (slice_set heap (get_or changed i x).field.0 (get_or changed i x).value) c.field.0) same ∙ get_or-set_same heap (get_or changed i x).field.0 (get_or changed i x).value 0 low ∙ ap (λ (c : HomeValue). c.value) (sym same)
  | inr ne ↦
      let before : k < i = omega (arith, within, ne) in
      let apart : (get_or changed k d).field.0 ≢ (get_or changed i x).field.0 = subst (λ (c : HomeValue). (get_or changed k d).field.0 ≢ c.field.0) (get_or_default changed i d x lt) (once k i d before lt) in
      get_or-set_other heap (get_or changed i x).field.0 (get_or changed k d).field.0 (get_or changed i x).value 0 apart ∙ done k d before
]

-- the others stay
pub others_stay : (heap : List ℕ) (changed : List HomeValue) (i : ℕ) (x : HomeValue) (f : ℕ) → i < length changed → (Contains (fields_of changed) f → ⊥) →
    slice_index (slice_set heap (get_or changed i x).field.0 (get_or changed i x).value) f ≡ slice_index heap f
others_stay heap changed i x f lt none = get_or-set_other heap (get_or changed i x).field.0 f (get_or changed i x).value 0
    (λ e. none (subst (Contains (fields_of changed)) (sym e) (contains_field changed i x lt)))

-- the element of a field
pub field_found : (changed : List HomeValue) (f : ℕ) (d : HomeValue) → Contains (fields_of changed) f → (k : ℕ) × (k < length changed) × ((get_or changed k d).field.0 ≡ f)
field_found changed f d has = let at = find changed has.0 (has.1) in (has.0, at.0, sym at.1 ∙ has.2)
  where
    find : (changed : List HomeValue) (k : ℕ) → k < length (fields_of changed) → (k < length changed) × (get_or (fields_of changed) k f ≡ (get_or changed k d).field.0)
    find [] k lt = absurd (omega (arith, lt))
    find (c ∷ changed) zero lt = (omega arith, refl)
    find (c ∷ changed) (suc k) lt = let rest = find changed k (omega (arith, lt)) in (omega (arith, rest.0), rest.1)

-- each value is of a field that there is
pub each_field : (changed : List HomeValue) (marks : List Bool) → AreMarked changed marks → All (HasField (length marks)) changed
each_field changed marks are k d lt = mark_past marks (get_or changed k d).field.0 ((are.listed (get_or changed k d).field.0).0 (contains_field changed k d lt))

-- where the marks of all values are taken away, none is left
pub none_marked : (changed : List HomeValue) (marks now : List Bool) (d : HomeValue) → AreMarked changed marks → All (λ c. is_marked now c.field.0 ≡ false) changed → ((f : ℕ) → is_marked marks f ≡ false → is_marked now f ≡ false) → (f : ℕ) → is_marked now f ≡ false
none_marked changed marks now d are gone others f = elim (cases_Bool (is_marked marks f)) [
  | inl is ↦ let at = field_found changed f d ((are.listed f).1 is) in ap (is_marked now) (sym at.2) ∙ gone at.0 d at.1
  | inr out ↦ others f out
]

-- a survey that has found nothing is one
pub nothing_found : (objects fields : ℕ) (v : Survey) → FoundNothing v → length v.marks.items ≡ fields → length v.first.items ≡ objects → fields ≤ vec_capacity v.changed → length v.taken.items ≡ objects → length v.open_takes.items ≡ objects →
    ((o : ℕ) → slice_index v.first.items o ≡ first_of (slice_index v.taken.items o) (slice_index v.open_takes.items o)) → IsSurvey objects fields v
nothing_found objects fields v nothing marks first room taken opened firsts = record {
  marks = marks;
  first = first;
  room = room;
  taken = taken;
  opened = opened;
  firsts = firsts;
  marked = subst (λ (xs : List HomeValue). AreMarked xs v.marks.items) (sym nothing.changed) (record {
    listed = λ f. ((λ has. absurd (omega (arith, has.1))), (λ is. absurd (let both : true ≡ false = sym is ∙ nothing.marks f in cc)));
    once = λ i j d lt within. absurd (omega (arith, within));
    many = omega arith;
  });
}

-- each value is of a field of the heap
pub field_low : (n m : ℕ) (changed : List HomeValue) (i : ℕ) (d : HomeValue) → i < length changed → m ≡ n → All (HasField n) changed → (get_or changed i d).field.0 < m
field_low n m changed i d lt is all = subst (λ (k : ℕ). (get_or changed i d).field.0 < k) (sym is) (all i d lt)

-- the same of lists that are those
pub each_field_of : (changed xs : List HomeValue) (marks ms : List Bool) → xs ≡ changed → ms ≡ marks → AreMarked changed marks → All (HasField (length ms)) xs
each_field_of changed xs marks ms is are marked = subst (λ (zs : List HomeValue). All (HasField (length ms)) zs) (sym is) (subst (λ (zs : List Bool). All (HasField (length zs)) changed) (sym are) (each_field changed marks marked))
