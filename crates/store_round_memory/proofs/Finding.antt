-- A survey that notes one record more.
use Rattle.std.proofs.Common.{ℕ, zero, suc, ◌≡◌, ◌≢◌, ◌+◌, ◌<◌, ◌≤◌, if◌then◌else◌, Bool, true, false, List, [], ◌∷◌, ◌++◌, get_or, length, slice_index, slice_set, Some, refl, sym, ap, ◌∙◌, subst, inl, inr, arith}
use Rattle.std.specs.Prelude.{All, AllPairs, Contains, vec_capacity}
use Rattle.std.proofs.lemmas.Bool.{cases_eq, cases_lt}
use Rattle.std.proofs.lemmas.List.{get_or-set_other, get_or-set_same, get_or_append_left, get_or_past, get_or_push, length-set, length_push, map-append}
use Rattle.std.proofs.lemmas.List.Elements.{Contains-append_left, Contains-push, Contains-push_cases}
use Rattle.heap_model.specs.declared.ids.FieldId.{FieldId}
use Rattle.heap_model.specs.declared.record.Record.{Record}
use Rattle.heap_model.specs.declared.record.Record.TheVariants.{Put}
use Rattle.store_helper_sections.proofs.Padding.{if_same, if_apart}
use Rattle.store_round_image.specs.Turning.{fields_of}
use Rattle.store_round_image.specs.declared.cells.HomeValue.{HomeValue}
use Rattle.store_round_memory.specs.Counting.{first_of, is_kept, kept_store, kept_takes, takes}
use Rattle.store_round_memory.specs.Surveys.{AreMarked, IsSurvey, NotesStore, TellsDownTo, count_set, is_marked}
use Rattle.store_round_memory.specs.declared.survey.Survey.{Survey}

-- marks
pub mark_past : (marks : List Bool) (f : ℕ) → is_marked marks f ≡ true → f < length marks
mark_past marks f is = elim (cases_lt f (length marks)) [
  | inl lt ↦ lt
  | inr past ↦ absurd (let both : true ≡ false = sym is ∙ get_or_past marks f false past in cc)
]

pub count_within : (marks : List Bool) → count_set marks ≤ length marks
count_within [] = omega arith
count_within (b ∷ marks) = elim b as (λ c. (if c then count_set marks + 1 else count_set marks) ≤ suc (length marks)) [ true ↦ omega (arith, count_within marks) | false ↦ omega (arith, count_within marks) ]

pub count_more : (marks : List Bool) (f : ℕ) → f < length marks → is_marked marks f ≡ false → count_set (slice_set marks f true) ≡ count_set marks + 1
count_more [] f lt none = absurd (omega (arith, lt))
count_more (b ∷ marks) zero lt none = ap (λ c. (if c then count_set marks + 1 else count_set marks) + 1) (sym none)
count_more (b ∷ marks) (suc f) lt none =
    let more : count_set (slice_set marks f true) ≡ count_set marks + 1 = count_more marks f (omega (arith, lt)) none in
    elim b as (λ c. (if c then count_set (slice_set marks f true) + 1 else count_set (slice_set marks f true)) ≡ (if c then count_set marks + 1 else count_set marks) + 1) [ true ↦ omega (arith, more) | false ↦ more ]

-- there is room for one more, where a mark isn't set
pub room_for : (marks : List Bool) (f : ℕ) → f < length marks → is_marked marks f ≡ false → count_set marks < length marks
room_for marks f lt none = omega (arith, count_more marks f lt none, count_within (slice_set marks f true), length-set marks f true)

-- a list's fields
pub contains_field : (changed : List HomeValue) (i : ℕ) (d : HomeValue) → i < length changed → Contains (fields_of changed) (get_or changed i d).field.0
contains_field [] i d lt = absurd (omega (arith, lt))
contains_field (c ∷ changed) zero d lt = (0, omega arith, refl)
contains_field (c ∷ changed) (suc i) d lt = let rest : Contains (fields_of changed) (get_or changed i d).field.0 = contains_field changed i d (omega (arith, lt)) in (suc rest.0, omega (arith, rest.1), rest.2)

module _ (changed : List HomeValue) (marks : List Bool) (field : FieldId) (value : ℕ) (are : AreMarked changed marks) (lt : field.0 < length marks) (none : is_marked marks field.0 ≡ false) where
  abbrev c : HomeValue
  c = record { field = field; value = value }

  abbrev after : List Bool
  after = slice_set marks field.0 true

  fields_more : fields_of (changed ++ c ∷ []) ≡ fields_of changed ++ field.0 ∷ []
  fields_more = map-append (λ (x : HomeValue). x.field.0) changed (c ∷ [])

  set_here : is_marked after field.0 ≡ true
  set_here = get_or-set_same marks field.0 true false lt

  set_else : (f : ℕ) → f ≢ field.0 → is_marked after f ≡ is_marked marks f
  set_else f apart = get_or-set_other marks field.0 f true false apart

  listed_to : (f : ℕ) → Contains (fields_of (changed ++ c ∷ [])) f → is_marked after f ≡ true
  listed_to f has = elim (cases_eq f field.0) [
    | inl e ↦ ap (is_marked after) e ∙ set_here
    | inr ne ↦ elim (Contains-push_cases (fields_of changed) field.0 f (subst (λ (xs : List ℕ). Contains xs f) fields_more has)) [
      | inl old ↦ set_else f ne ∙ (are.listed f).0 old
      | inr new ↦ absurd (ne (sym new))
    ]
  ]

  listed_from : (f : ℕ) → is_marked after f ≡ true → Contains (fields_of (changed ++ c ∷ [])) f
  listed_from f is = subst (λ (xs : List ℕ). Contains xs f) (sym fields_more) (elim (cases_eq f field.0) [
    | inl e ↦ subst (λ (k : ℕ). Contains (fields_of changed ++ field.0 ∷ []) k) (sym e) (Contains-push (fields_of changed) field.0)
    | inr ne ↦ Contains-append_left (fields_of changed) (field.0 ∷ []) f ((are.listed f).1 (sym (set_else f ne) ∙ is))
  ])

  -- each older one is of another field
  apart_from : (i : ℕ) (d : HomeValue) → i < length changed → (get_or changed i d).field.0 ≢ field.0
  apart_from i d low e =
      let there : Contains (fields_of changed) (get_or changed i d).field.0 = contains_field changed i d low in
      let both : true ≡ false = sym ((are.listed field.0).0 (subst (Contains (fields_of changed)) e there)) ∙ none in
      absurd cc

  once_more : AllPairs (λ x y. x.field.0 ≢ y.field.0) (changed ++ c ∷ [])
  once_more i j d lt within = elim (cases_lt j (length changed)) [
    | inl low ↦ subst (λ (x : HomeValue). x.field.0 ≢ (get_or (changed ++ c ∷ []) j d).field.0) (sym (get_or_append_left changed (c ∷ []) d i (omega (arith, lt, low))))
        (subst (λ (y : HomeValue). (get_or changed i d).field.0 ≢ y.field.0) (sym (get_or_append_left changed (c ∷ []) d j low)) (are.once i j d lt low))
    | inr past ↦
        let at : length changed ≡ j = omega (arith, past, within, length_push changed c) in
        subst (λ (x : HomeValue). x.field.0 ≢ (get_or (changed ++ c ∷ []) j d).field.0) (sym (get_or_append_left changed (c ∷ []) d i (omega (arith, lt, at))))
        (subst (λ (y : HomeValue). (get_or changed i d).field.0 ≢ y.field.0) (sym (get_or_push changed c d j at)) (apart_from i d (omega (arith, lt, at))))
  ]

  pub marked_more : AreMarked (changed ++ c ∷ []) after
  marked_more = record {
    listed = λ f. (listed_to f, listed_from f);
    once = once_more;
    many = omega (arith, are.many, length_push changed c, count_more marks field.0 lt none);
  }

module _ (counts : List ℕ) (all older : List (ℕ × Record)) (l : ℕ) (v : Survey) where
  put_takes : (g : FieldId) (before value : ℕ) (o : ℕ) → kept_takes counts o ((l, Put g before value) ∷ older) ≡ kept_takes counts o older
  put_takes g before value o = elim (is_kept counts l older) as (λ b. (if b then 0 else 0) + kept_takes counts o older ≡ kept_takes counts o older) [ true ↦ omega arith | false ↦ omega arith ]

  -- a store to a field that is marked already
  pub tells_again : (g : FieldId) (before value : ℕ) → is_marked v.marks.items g.0 ≡ true → TellsDownTo counts all ((l, Put g before value) ∷ older) v → TellsDownTo counts all older v
  tells_again g before value marked tells = record {
    values = tells.values;
    rest = λ f none. tells.rest f none ∙ if_apart g.0 f _ (kept_store counts f older) (λ e. let both : true ≡ false = sym marked ∙ ap (is_marked v.marks.items) e ∙ none in cc);
    opened = λ o. tells.opened o ∙ ap (λ (n : ℕ). takes o all + n) (put_takes g before value o);
  }

  -- a kept store to one that isn't
  pub tells_store : (g : FieldId) (before value : ℕ) (w : Survey) → is_kept counts l older ≡ true → g.0 < length v.marks.items → is_marked v.marks.items g.0 ≡ false → NotesStore g value v w →
      TellsDownTo counts all ((l, Put g before value) ∷ older) v → TellsDownTo counts all older w
  tells_store g before value w kept low none notes tells =
      let c : HomeValue = record { field = g; value = value } in
      let here : kept_store counts g.0 all ≡ Some value = tells.rest g.0 none ∙ if_same g.0 g.0 (if is_kept counts l older then Some value else kept_store counts g.0 older) (kept_store counts g.0 older) refl
      ∙ ap (λ b. if b then Some value else kept_store counts g.0 older) kept in
      record {
        values = subst (All (λ x. kept_store counts x.field.0 all ≡ Some x.value)) (sym notes.changed) (all_push (λ x. kept_store counts x.field.0 all ≡ Some x.value) v.changed.items c tells.values here);
        rest = λ f out.
            let still : is_marked (slice_set v.marks.items g.0 true) f ≡ false = ap (λ (ms : List Bool). is_marked ms f) (sym notes.marks) ∙ out in
            elim (cases_eq f g.0) [
              | inl e ↦ absurd (let both : true ≡ false = sym (get_or-set_same v.marks.items g.0 true false low) ∙ ap (is_marked (slice_set v.marks.items g.0 true)) (sym e) ∙ still in cc)
              | inr ne ↦ tells.rest f (sym (get_or-set_other v.marks.items g.0 f true false ne) ∙ still) ∙ if_apart g.0 f _ (kept_store counts f older) (λ e. ne (sym e))
            ];
        opened = λ o. ap (λ (ns : List ℕ). slice_index ns o + kept_takes counts o all) notes.opened ∙ tells.opened o ∙ ap (λ (n : ℕ). takes o all + n) (put_takes g before value o);
      }
    where
      all_push : (P : HomeValue → Type 0) (xs : List HomeValue) (x : HomeValue) → All P xs → P x → All P (xs ++ x ∷ [])
      all_push P xs x each one k d within = elim (cases_lt k (length xs)) [
        | inl low ↦ subst P (sym (get_or_append_left xs (x ∷ []) d k low)) (each k d low)
        | inr past ↦ subst P (sym (get_or_push xs x d k (omega (arith, past, within, length_push xs x)))) one
      ]

-- a survey stays one
pub survey_store : (objects fields : ℕ) (v w : Survey) (g : FieldId) (value : ℕ) → IsSurvey objects fields v → g.0 < length v.marks.items → is_marked v.marks.items g.0 ≡ false → NotesStore g value v w → IsSurvey objects fields w
survey_store objects fields v w g value was low none notes =
    let more : AreMarked (v.changed.items ++ record { field = g; value = value } ∷ []) (slice_set v.marks.items g.0 true) = marked_more v.changed.items v.marks.items g value was.marked low none in
    record {
      marks = ap (λ (ms : List Bool). length ms) notes.marks ∙ length-set v.marks.items g.0 true ∙ was.marks;
      first = ap (λ (ns : List ℕ). length ns) notes.first ∙ was.first;
      room = omega (arith, notes.capacity, was.room);
      marked = subst (λ (cs : List HomeValue). AreMarked cs w.marks.items) (sym notes.changed) (subst (AreMarked (v.changed.items ++ record { field = g; value = value } ∷ [])) (sym notes.marks) more);
      taken = ap (λ (ns : List ℕ). length ns) notes.taken ∙ was.taken;
      opened = ap (λ (ns : List ℕ). length ns) notes.opened ∙ was.opened;
      firsts = λ o. ap (λ (ns : List ℕ). slice_index ns o) notes.first ∙ was.firsts o ∙ (λ i. first_of (slice_index (sym notes.taken i) o) (slice_index (sym notes.opened i) o));
    }

-- it has room for a field that isn't marked
pub has_room : (objects fields : ℕ) (v : Survey) (f : ℕ) → IsSurvey objects fields v → f < fields → is_marked v.marks.items f ≡ false → length v.changed.items < vec_capacity v.changed
has_room objects fields v f was low none = omega (arith, was.room, was.marks, was.marked.many, room_for v.marks.items f (omega (arith, was.marks, low)) none)
