-- Runs of changed fields with one guard: the section of each, and how many records it takes.
use Rattle.std.proofs.Common.{ℕ, zero, suc, ◌≡◌, ◌≢◌, ◌+◌, ◌-◌, ◌*◌, ◌<◌, ◌≤◌, ◌==◌, if◌then◌else◌, true, false, List, [], ◌∷◌, ◌++◌, length, map, get_or, reverse, take, drop, refl, sym, ap, ◌∙◌, subst, inl, inr, arith}
use Rattle.std.proofs.lemmas.Bool.{cases_lt}
use Rattle.std.proofs.lemmas.Bool.Decides.{eqb_tells}
use Rattle.std.proofs.lemmas.List.{drop_all, drop_more, drop-drop, get_or_default, get_or-drop, length-drop, length-take-le, reverse-append, take-append-drop}
use Rattle.heap_model.specs.declared.ids.ObjectId.{ObjectId}
use Rattle.store_helper_sections.specs.HelperSections.{HelperSection}
use Rattle.store_helper_sections.proofs.Padding.{if_same, if_apart}
use Rattle.store_round_image.specs.declared.cells.HomeValue.{HomeValue}
use Rattle.store_round_making.specs.Helper.{number_before, section_of}
use Rattle.store_round_sections.specs.Sections.{IsRunStart, added_at, added_before, first_in, guard_of, needed_of, section_for, sections_of, with_change}

module _ (guards : List ObjectId) (first : List ℕ) where
  -- a changed field's guard, by its number
  abbrev pub guard_number : HomeValue → ℕ
  guard_number c = (guard_of guards c).0

  -- each of the fields has this guard
  abbrev pub HaveGuard : ObjectId → List HomeValue → Type 0
  HaveGuard g [] = Unit {0}
  HaveGuard g (c ∷ changed) = (guard_of guards c ≡ g) × HaveGuard g changed

  -- the first of them has another
  abbrev pub BeginsApart : ObjectId → List HomeValue → Type 0
  BeginsApart g [] = Unit {0}
  BeginsApart g (c ∷ changed) = guard_number c ≢ g.0

  -- the newest section has this guard
  abbrev pub IsOfGuard : (object : ℕ) → List HelperSection → Type 0
  IsOfGuard o [] = ⊥
  IsOfGuard o (x ∷ older) = x.guard.0 ≡ o

  pub newest_guard : (c : HomeValue) (sections : List HelperSection) → IsOfGuard (guard_number c) (with_change guards first c sections)
  newest_guard c [] = refl
  newest_guard c (x ∷ older) = elim (eqb_tells x.guard.0 (guard_number c)) [
    | inl e ↦ subst (λ b. IsOfGuard (guard_number c) (if b then record { guard = x.guard; number = x.number; fields = x.fields ++ c.field ∷ [] } ∷ older else section_for guards first c ∷ x ∷ older)) (sym e.0) e.1
    | inr e ↦ subst (λ b. IsOfGuard (guard_number c) (if b then record { guard = x.guard; number = x.number; fields = x.fields ++ c.field ∷ [] } ∷ older else section_for guards first c ∷ x ∷ older)) (sym e.0) refl
  ]

  -- a field of the newest section's guard goes into it
  joins : (c : HomeValue) (x : HelperSection) (older : List HelperSection) → x.guard.0 ≡ guard_number c →
      with_change guards first c (x ∷ older) ≡ record { guard = x.guard; number = x.number; fields = x.fields ++ c.field ∷ [] } ∷ older
  joins c x older same = if_same x.guard.0 (guard_number c) (record { guard = x.guard; number = x.number; fields = x.fields ++ c.field ∷ [] } ∷ older) (section_for guards first c ∷ x ∷ older) same

  -- a field of another has a section of its own
  begins : (c : HomeValue) (sections : List HelperSection) (o : ℕ) → o ≢ guard_number c → IsOfGuard o sections → with_change guards first c sections ≡ section_for guards first c ∷ sections
  begins c [] o apart is = absurd is
  begins c (x ∷ older) o apart is =
      if_apart x.guard.0 (guard_number c) (record { guard = x.guard; number = x.number; fields = x.fields ++ c.field ∷ [] } ∷ older) (section_for guards first c ∷ x ∷ older) (λ e. apart (sym is ∙ e))

  alone : (g : ObjectId) (c : HomeValue) (rest : List HomeValue) → guard_of guards c ≡ g → BeginsApart g rest → with_change guards first c (sections_of guards first rest) ≡ section_for guards first c ∷ sections_of guards first rest
  alone g c [] is apart = refl
  alone g c (d ∷ rest) is apart =
      begins c (sections_of guards first (d ∷ rest)) (guard_number d) (λ e. apart (e ∙ ap (λ (o : ObjectId). o.0) is)) (newest_guard d (sections_of guards first rest))

  section_at : (g : ObjectId) (c : HomeValue) → guard_of guards c ≡ g → section_for guards first c ≡ section_of g (first_in first g.0) (c ∷ [])
  section_at g c is = ap (λ (o : ObjectId). section_of o (first_in first o.0) (c ∷ [])) is

  -- The sections of a run and of what comes behind it: one, and those.
  pub of_run : (g : ObjectId) (c : HomeValue) (run rest : List HomeValue) → HaveGuard g (c ∷ run) → BeginsApart g rest →
      sections_of guards first (c ∷ run ++ rest) ≡ section_of g (first_in first g.0) (c ∷ run) ∷ sections_of guards first rest
  of_run g c [] rest have apart = alone g c rest have.0 apart ∙ ap (λ (x : HelperSection). x ∷ sections_of guards first rest) (section_at g c have.0)
  of_run g c (d ∷ run) rest have apart =
      let inner : HelperSection = section_of g (first_in first g.0) (d ∷ run) in
      let behind : List HelperSection = sections_of guards first rest in
      let back : reverse (map (λ (e : HomeValue). e.field) (d ∷ run)) ++ c.field ∷ [] ≡ reverse (map (λ (e : HomeValue). e.field) (c ∷ d ∷ run)) =
      sym (reverse-append (c.field ∷ []) (map (λ (e : HomeValue). e.field) (d ∷ run))) in
      ap (with_change guards first c) (of_run g d run rest have.1 apart) ∙ joins c inner behind (ap (λ (o : ObjectId). o.0) (sym have.0))
      ∙ (λ i. record { guard = g; number = number_before (first_in first g.0); fields = back i } ∷ behind)

  -- the run's records: one a field, and two
  pub run_needs : (g : ObjectId) (c : HomeValue) (run rest : List HomeValue) → HaveGuard g (c ∷ run) → BeginsApart g rest → needed_of guards (c ∷ run ++ rest) ≡ needed_of guards rest + length (c ∷ run) + 2
  run_needs g c [] [] have apart = refl
  run_needs g c [] (d ∷ rest) have apart =
      let three : added_before guards c (d ∷ rest) ≡ 3 = if_apart (guard_number d) (guard_number c) 1 3 (λ e. apart (e ∙ ap (λ (o : ObjectId). o.0) have.0)) in
      omega (arith, three)
  run_needs g c (d ∷ run) rest have apart =
      let one : added_before guards c (d ∷ run ++ rest) ≡ 1 = if_same (guard_number d) (guard_number c) 1 3 (ap (λ (o : ObjectId). o.0) (have.1.0 ∙ sym have.0)) in
      let more : needed_of guards (d ∷ run ++ rest) ≡ needed_of guards rest + length (d ∷ run) + 2 = run_needs g d run rest have.1 apart in
      omega (arith, one, more)

  -- what is left of the fields needs no more than all
  pub needs_less : (k : ℕ) (changed : List HomeValue) → needed_of guards (drop k changed) ≤ needed_of guards changed
  needs_less zero changed = omega arith
  needs_less (suc k) [] = omega arith
  needs_less (suc k) (c ∷ changed) = omega (arith, needs_less k changed)

  needs_at : (changed : List HomeValue) (n : ℕ) (d : HomeValue) → n < length changed → needed_of guards (drop n changed) ≡ needed_of guards (drop (n + 1) changed) + added_at guards changed n d
  needs_at changed n d lt = ap (needed_of guards) (drop_more changed n d lt)

  pub needs_next : (changed : List HomeValue) (done records added : ℕ) (d : HomeValue) → done < length changed → added ≡ added_at guards changed (length changed - 1 - done) d →
      records ≡ needed_of guards (drop (length changed - done) changed) → records + added ≡ needed_of guards (drop (length changed - (done + 1)) changed)
  needs_next changed done records added d lt adds was =
      let n : ℕ = length changed - 1 - done in
      let more : needed_of guards (drop n changed) ≡ needed_of guards (drop (n + 1) changed) + added_at guards changed n d = needs_at changed n d (omega (arith, lt)) in
      let here : length changed - (done + 1) ≡ n = omega (arith, lt) in
      let behind : n + 1 ≡ length changed - done = omega (arith, lt) in
      let now : needed_of guards (drop (length changed - (done + 1)) changed) ≡ needed_of guards (drop n changed) = ap (λ (k : ℕ). needed_of guards (drop k changed)) here in
      let before : needed_of guards (drop (n + 1) changed) ≡ needed_of guards (drop (length changed - done) changed) = ap (λ (k : ℕ). needed_of guards (drop k changed)) behind in
      omega (arith, more, now, before, adds, was)

  pub needs_few : (changed : List HomeValue) → needed_of guards changed ≤ 3 * length changed
  needs_few [] = omega arith
  needs_few (c ∷ []) = omega arith
  needs_few (c ∷ d ∷ changed) =
      let most : added_before guards c (d ∷ changed) ≤ 3 = elim ((guard_number d) == (guard_number c)) as (λ b. (if b then 1 else 3) ≤ 3) [ true ↦ omega arith | false ↦ omega arith ] in
      omega (arith, needs_few (d ∷ changed), most)

  have_taken : (g : ObjectId) (n : ℕ) (changed : List HomeValue) → ((k : ℕ) (d : HomeValue) → k < n → k < length changed → guard_number (get_or changed k d) ≡ g.0) → HaveGuard g (take n changed)
  have_taken g zero changed each = tt
  have_taken g (suc n) [] each = tt
  have_taken g (suc n) (c ∷ changed) each =
      let here : guard_number c ≡ g.0 = each 0 c (omega arith) (omega arith) in
      ((λ i. record { 0 = here i }), have_taken g n changed (λ k d lt below. each (suc k) d (omega (arith, lt)) (omega (arith, below))))

  -- The first fields have one guard, and the next has another.
  record SplitsAt (g : ObjectId) (n : ℕ) (changed : List HomeValue) : Type 0 where
    sections : sections_of guards first changed ≡ section_of g (first_in first g.0) (take n changed) ∷ sections_of guards first (drop n changed)
    needs : needed_of guards changed ≡ needed_of guards (drop n changed) + length (take n changed) + 2

  splits : (g : ObjectId) (n : ℕ) (changed : List HomeValue) → n < length changed → ((k : ℕ) (d : HomeValue) → k < suc n → k < length changed → guard_number (get_or changed k d) ≡ g.0) →
      BeginsApart g (drop (suc n) changed) → SplitsAt g (suc n) changed
  splits g n [] lt each apart = absurd (omega (arith, lt))
  splits g n (c ∷ changed) lt each apart =
      let have : HaveGuard g (take (suc n) (c ∷ changed)) = have_taken g (suc n) (c ∷ changed) each in
      let parts : changed ≡ take n changed ++ drop n changed = sym (take-append-drop n changed) in
      record {
        sections = ap (λ (cs : List HomeValue). sections_of guards first (c ∷ cs)) parts ∙ of_run g c (take n changed) (drop n changed) have apart;
        needs = ap (λ (cs : List HomeValue). needed_of guards (c ∷ cs)) parts ∙ run_needs g c (take n changed) (drop n changed) have apart;
      }

  -- before this place a run ends
  abbrev pub EndsApart : List HomeValue → (end : ℕ) → Type 0
  EndsApart changed end = (d : HomeValue) → 0 < end → end < length changed → guard_number (get_or changed (end - 1) d) ≢ guard_number (get_or changed end d)

  -- The run's sections, and what it needs, in the words of the whole list.
  pub record IsRun (changed : List HomeValue) (end begin : ℕ) (c : HomeValue) : Type 0 where
    pub sections : sections_of guards first (drop begin changed) ≡ section_of (guard_of guards c) (first_in first (guard_number c)) (take (end - begin) (drop begin changed)) ∷ sections_of guards first (drop end changed)
    pub needs : needed_of guards (drop begin changed) ≡ needed_of guards (drop end changed) + (end - begin) + 2
    pub ends : EndsApart changed begin

  pub run_of : (changed : List HomeValue) (end begin : ℕ) (d : HomeValue) → IsRunStart guards changed end begin → end ≤ length changed → EndsApart changed end → IsRun changed end begin (get_or changed begin d)
  run_of changed end begin d is within ends =
      let c : HomeValue = get_or changed begin d in
      let g : ObjectId = guard_of guards c in
      let n : ℕ = end - begin - 1 in
      let size : suc n ≡ end - begin = omega (arith, is.below) in
      let place : begin + suc n ≡ end = omega (arith, is.below) in
      let long : n < length (drop begin changed) = omega (arith, length-drop begin changed, is.below, within) in
      let behind : drop (suc n) (drop begin changed) ≡ drop end changed = drop-drop (suc n) begin changed ∙ ap (λ (k : ℕ). drop k changed) place in
      let each : (k : ℕ) (d : HomeValue) → k < suc n → k < length (drop begin changed) → guard_number (get_or (drop begin changed) k d) ≡ g.0 =
      λ k e lt below. ap guard_number (get_or-drop begin changed k e) ∙ is.same (begin + k) e (omega arith) (omega (arith, lt, place))
      ∙ ap guard_number (get_or_default changed begin e d (omega (arith, is.below, within))) in
      let last : guard_number (get_or changed (end - 1) d) ≡ g.0 = is.same (end - 1) d (omega (arith, is.below)) (omega (arith, is.below)) in
      let apart : BeginsApart g (drop end changed) = elim (cases_lt end (length changed)) [
        | inl lt ↦ subst (BeginsApart g) (sym (drop_more changed end d lt)) (λ e. ends d (omega (arith, is.below)) lt (last ∙ sym e))
        | inr ge ↦ subst (BeginsApart g) (sym (drop_all end changed ge)) tt
      ] in
      let split : SplitsAt g (suc n) (drop begin changed) = splits g n (drop begin changed) long each (subst (BeginsApart g) (sym behind) apart) in
      record {
        sections = split.sections ∙ (λ i. section_of g (first_in first g.0) (take (size i) (drop begin changed)) ∷ sections_of guards first (behind i));
        needs =
            let count : length (take (suc n) (drop begin changed)) ≡ suc n = length-take-le (suc n) (drop begin changed) (omega (arith, long)) in
            let rest : needed_of guards (drop (suc n) (drop begin changed)) ≡ needed_of guards (drop end changed) = ap (needed_of guards) behind in
            omega (arith, split.needs, count, size, rest);
        ends = λ e some lt. is.apart e some;
      }
