-- The helper's sections over a list after which nothing is held.
use Rattle.std.proofs.Common.{ℕ, ◌≡◌, ◌≢◌, ◌+◌, ◌<◌, ◌==◌, if◌then◌else◌, true, false, List, [], ◌∷◌, ◌++◌, map, Some, None, refl, sym, ap, ◌∙◌, subst, inl, inr}
use Rattle.std.proofs.lemmas.Bool.Decides.{eqb_tells}
use Rattle.heap_model.specs.declared.ids.FieldId.{FieldId}
use Rattle.heap_model.specs.declared.ids.ObjectId.{ObjectId}
use Rattle.heap_model.specs.declared.record.Record.{Record}
use Rattle.heap_model.specs.declared.record.Record.TheVariants.{Acq, Rel, Put}
use Rattle.heap_model.specs.Setting.{Setting}
use Rattle.heap_model.specs.Log.{holder, number, value, awaited, IsLegal}
use Rattle.store_helper_sections.specs.HelperSections.{HelperSection, same_stores, section_records, AreGuardedBy}
use Rattle.store_helper_sections.proofs.Padding.{Rested, may_follow, if_own, if_same, if_apart}

module _ (t : Setting) (l : ℕ) where
  abbrev of : List Record → List (ℕ × Record)
  of records = map (λ r. (l, r)) records

  -- after the acquire and some of the stores
  record Holding (o : ObjectId) (n : ℕ) (before log : List (ℕ × Record)) : Type 0 where
    legal : IsLegal t log
    held : holder o.0 log ≡ Some l
    free : (q : ℕ) → o.0 ≢ q → holder q log ≡ None
    numbers : (q : ℕ) → number q log ≡ number q before
    awake : (m : ℕ) → awaited m log ≡ None
    same : (f : ℕ) → value t.first f log ≡ t.first f

  taken : (o : ObjectId) (n : ℕ) (before : List (ℕ × Record)) → Rested t before → o.0 < t.objects → n < t.last → number o.0 before ≡ n → Holding o n before ((l, Acq o n) ∷ before)
  taken o n before rested low small at = record {
    legal = (rested.legal, (rested.free o.0, at, small), may_follow l before (Acq o n) (rested.awake l), low);
    held = if_own o.0 (Some l) (holder o.0 before);
    free = λ q apart. if_apart o.0 q (Some l) (holder q before) apart ∙ rested.free q;
    numbers = λ q. refl;
    awake = λ m. elim (l == m) as (λ b. (if b then None else awaited m before) ≡ None) [ true ↦ refl | false ↦ rested.awake m ];
    same = rested.same;
  }

  one_stored : (o : ObjectId) (n : ℕ) (before log : List (ℕ × Record)) (f : FieldId) → f.0 < t.fields → t.is_logged f.0 ≡ true → t.guard f.0 ≡ o.0 → Holding o n before log
      → Holding o n before ((l, Put f (t.first f.0) (t.first f.0)) ∷ log)
  one_stored o n before log f low logged guard h = record {
    legal = (h.legal, (ap (λ (q : ℕ). holder q log) guard ∙ h.held, h.same f.0), may_follow l log (Put f (t.first f.0) (t.first f.0)) (h.awake l), (low, logged));
    held = h.held;
    free = h.free;
    numbers = h.numbers;
    awake = λ m. elim (l == m) as (λ b. (if b then None else awaited m log) ≡ None) [ true ↦ refl | false ↦ h.awake m ];
    same = λ g. elim (eqb_tells f.0 g) [
      | inl e ↦ if_same f.0 g (t.first f.0) (value t.first g log) e.1 ∙ ap t.first e.1
      | inr e ↦ if_apart f.0 g (t.first f.0) (value t.first g log) e.1 ∙ h.same g
    ];
  }

  stored : (o : ObjectId) (n : ℕ) (before log : List (ℕ × Record)) (fields : List FieldId) → AreGuardedBy t o.0 fields → Holding o n before log → Holding o n before (of (same_stores t.first fields) ++ log)
  stored o n before log [] guarded h = h
  stored o n before log (f ∷ fields) guarded h = one_stored o n before (of (same_stores t.first fields) ++ log) f guarded.0 guarded.1 guarded.2 (stored o n before log fields guarded.3 h)

  freed : (o : ObjectId) (n : ℕ) (before log : List (ℕ × Record)) → o.0 < t.objects → number o.0 before ≡ n → Holding o n before log → Rested t ((l, Rel o n) ∷ log)
  freed o n before log low at h = record {
    legal = (h.legal, (h.held, h.numbers o.0 ∙ at), may_follow l log (Rel o n) (h.awake l), low);
    free = λ q. elim (eqb_tells o.0 q) [
      | inl e ↦ if_same o.0 q None (holder q log) e.1
      | inr e ↦ if_apart o.0 q None (holder q log) e.1 ∙ h.free q e.1
    ];
    awake = λ m. elim (l == m) as (λ b. (if b then None else awaited m log) ≡ None) [ true ↦ refl | false ↦ h.awake m ];
    same = h.same;
  }

  -- a section over such a list
  abbrev pub with_section : HelperSection → List (ℕ × Record) → List (ℕ × Record)
  with_section x log = of (section_records t.first x) ++ log

  parts : (x : HelperSection) (log : List (ℕ × Record)) → with_section x log ≡ (l, Rel x.guard x.number) ∷ of (same_stores t.first x.fields) ++ (l, Acq x.guard x.number) ∷ log
  parts x log = ap (λ (xs : List (ℕ × Record)). (l, Rel x.guard x.number) ∷ xs) (split x.fields)
    where
      split : (fields : List FieldId) → of (same_stores t.first fields ++ Acq x.guard x.number ∷ []) ++ log ≡ of (same_stores t.first fields) ++ (l, Acq x.guard x.number) ∷ log
      split [] = refl
      split (f ∷ fields) = ap (λ (xs : List (ℕ × Record)). (l, Put f (t.first f.0) (t.first f.0)) ∷ xs) (split fields)

  pub record Grown (x : HelperSection) (old new : List (ℕ × Record)) : Type 0 where
    pub rested : Rested t new
    pub own : number x.guard.0 new ≡ x.number + 1
    pub others : (q : ℕ) → x.guard.0 ≢ q → number q new ≡ number q old

  pub with_one : (x : HelperSection) (log : List (ℕ × Record)) → Rested t log → x.guard.0 < t.objects → x.number < t.last → AreGuardedBy t x.guard.0 x.fields → number x.guard.0 log ≡ x.number → Grown x log (with_section x log)
  with_one x log rested low small guarded at =
      let took : Holding x.guard x.number log ((l, Acq x.guard x.number) ∷ log) = taken x.guard x.number log rested low small at in
      let after : List (ℕ × Record) = of (same_stores t.first x.fields) ++ (l, Acq x.guard x.number) ∷ log in
      let h : Holding x.guard x.number log after = stored x.guard x.number log ((l, Acq x.guard x.number) ∷ log) x.fields guarded took in
      subst (Grown x log) (sym (parts x log)) (record {
        rested = freed x.guard x.number log after low at h;
        own = if_own x.guard.0 (x.number + 1) (number x.guard.0 after);
        others = λ q apart. if_apart x.guard.0 q (x.number + 1) (number q after) apart ∙ h.numbers q;
      })
