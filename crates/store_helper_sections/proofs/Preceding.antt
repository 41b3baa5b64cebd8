-- The helper's sections and what threads have beyond a cut are one legal list.
use Rattle.std.proofs.Common.{ℕ, ◌≡◌, ◌≢◌, ◌+◌, ◌<◌, ◌≤◌, ◌==◌, if◌then◌else◌, List, [], ◌∷◌, ◌++◌, map, length, Option, Some, None, refl, sym, ap, ◌∙◌, subst, inl, inr, arith, append_assoc, length-append}
use Rattle.std.proofs.lemmas.Bool.Decides.{eqb_tells}
use Rattle.heap_model.specs.declared.ids.FieldId.{FieldId}
use Rattle.heap_model.specs.declared.record.Record.{Record}
use Rattle.heap_model.specs.declared.record.Record.TheVariants.{Acq, Rel, WaitRel, Put}
use Rattle.heap_model.specs.Setting.{Setting}
use Rattle.heap_model.specs.Log.{lane, holder, number, IsLegal, IsOfLanes}
use Rattle.heap_model.specs.Sections.{actions, holding}
use Rattle.heap_model.specs.Cuts.{IsWhole, IsClosed}
use Rattle.heap_model.specs.Base.{records_since, records_until}
use Rattle.law_cuts.proofs.Chain.{In, holds_in}
use Rattle.law_cuts.proofs.Lanes.{lane_append}
use Rattle.law_cuts.proofs.Next.{legal_before}
use Rattle.law_histories.proofs.OfLanes.{none_past}
use Rattle.law_histories.proofs.Parts.{value_until}
use Rattle.law_histories.proofs.Rebase.{until_ends}
use Rattle.law_histories.proofs.Reorder.{rest_after_until, split_lane}
use Rattle.store_helper_sections.specs.Going.{from_heap, GoesOn}
use Rattle.store_helper_sections.specs.HelperSections.{HelperSection, helper_log, section_records, HasNone, AreGuardedBy, ArePreceding, IsJustBefore, first_taken}
use Rattle.store_helper_sections.specs.Image.{kept_by}
use Rattle.store_helper_sections.proofs.Padding.{Rested, if_own, if_same, if_apart, raised, raised_lane, raised_number, raised_rests, raised_unstored}
use Rattle.store_helper_sections.proofs.Sections.{Grown, with_section, with_one}
use Rattle.store_helper_sections.proofs.Moving.{Takes, first_number, moved}

-- numbers are within the limit: who holds an object has a number below it
record Low (s : Setting) (log : List (ℕ × Record)) (o : ℕ) : Type 0 where
  most : number o log ≤ s.last
  held : (l : ℕ) → holder o log ≡ Some l → number o log < s.last

low_freed : (s : Setting) (older : List (ℕ × Record)) (o m p n : ℕ) → holder p older ≡ Some m → number p older ≡ n → Low s older p → Low s older o →
    ((if p == o then n + 1 else number o older) ≤ s.last) × ((l : ℕ) → (if p == o then None else holder o older) ≡ Some l → (if p == o then n + 1 else number o older) < s.last)
low_freed s older o m p n held at low h = elim (eqb_tells p o) [
  | inl e ↦ (
    (let now : (if p == o then n + 1 else number o older) ≡ n + 1 = if_same p o (n + 1) (number o older) e.1 in omega (arith, now, low.held m held, at)),
    (λ l is. absurd (let none : None ≡ Some l = sym (if_same p o None (holder o older) e.1) ∙ is in cc)),
  )
  | inr e ↦
      let now : (if p == o then n + 1 else number o older) ≡ number o older = if_apart p o (n + 1) (number o older) e.1 in (
        omega (arith, now, h.most),
        (λ l is. omega (arith, now, h.held l (sym (if_apart p o None (holder o older) e.1) ∙ is))),
      )
]

low : (s : Setting) (log : List (ℕ × Record)) (o : ℕ) → IsLegal s log → Low s log o
low s [] o legal = record { most = omega arith; held = λ l is. absurd cc }
low s ((m, Acq p n) ∷ older) o legal = record {
  most = (low s older o legal.0).most;
  held = λ l is. elim (eqb_tells p.0 o) [
    | inl e ↦ let at : number o older ≡ n = ap (λ (q : ℕ). number q older) (sym e.1) ∙ legal.1.1 in omega (arith, at, legal.1.2)
    | inr e ↦ (low s older o legal.0).held l (sym (if_apart p.0 o (Some m) (holder o older) e.1) ∙ is)
  ];
}
low s ((m, Rel p n) ∷ older) o legal = let h = low_freed s older o m p.0 n legal.1.0 legal.1.1 (low s older p.0 legal.0) (low s older o legal.0) in record { most = h.0; held = h.1 }
low s ((m, WaitRel p n) ∷ older) o legal = let h = low_freed s older o m p.0 n legal.1.0 legal.1.1 (low s older p.0 legal.0) (low s older o legal.0) in record { most = h.0; held = h.1 }
low s ((m, Put f v w) ∷ older) o legal = let h = low s older o legal.0 in record { most = h.most; held = h.held }

-- the numbers at which the helper's sections take their guards, and else these
abbrev opening : (rest : ℕ → ℕ) → List HelperSection → ℕ → ℕ
opening rest [] o = rest o
opening rest (x ∷ older) o = if x.guard.0 == o then x.number else opening rest older o

-- and those behind them
abbrev closing : (rest : ℕ → ℕ) → List HelperSection → ℕ → ℕ
closing rest [] o = rest o
closing rest (x ∷ older) o = if x.guard.0 == o then x.number + 1 else closing rest older o

opening_low : (s : Setting) (records : List (ℕ × Record)) (rest : ℕ → ℕ) (sections : List HelperSection) (o : ℕ) → ArePreceding s records sections → rest o ≤ s.last → opening rest sections o ≤ s.last
opening_low s records rest [] o are few = few
opening_low s records rest (x ∷ older) o are few = elim (eqb_tells x.guard.0 o) [
  | inl e ↦ omega (arith, if_same x.guard.0 o x.number (opening rest older o) e.1, are.0.number)
  | inr e ↦ omega (arith, if_apart x.guard.0 o x.number (opening rest older o) e.1, opening_low s records rest older o are.2 few)
]

-- sections of other guards say nothing of an object
opening_none : (rest : ℕ → ℕ) (sections : List HelperSection) (o : ℕ) → HasNone o sections → opening rest sections o ≡ rest o
opening_none rest [] o none = refl
opening_none rest (x ∷ older) o none = if_apart x.guard.0 o x.number (opening rest older o) none.0 ∙ opening_none rest older o none.1

module _ (s : Setting) (records : List (ℕ × Record)) (heap : ℕ → ℕ) (lane : ℕ) (before : List (ℕ × Record)) (rested : Rested (from_heap s heap) before) where
  -- after so many of the sections
  record Come (sections : List HelperSection) : Type 0 where
    rest : Rested (from_heap s heap) (helper_log lane heap sections ++ before)
    numbers : (o : ℕ) → number o (helper_log lane heap sections ++ before) ≡ closing (λ q. number q before) sections o

  closing_none : (sections : List HelperSection) (o : ℕ) → HasNone o sections → closing (λ q. number q before) sections o ≡ number o before
  closing_none [] o none = refl
  closing_none (x ∷ older) o none = if_apart x.guard.0 o (x.number + 1) (closing (λ q. number q before) older o) none.0 ∙ closing_none older o none.1

  -- each guard has its section's number before
  abbrev Begins : List HelperSection → Type 0
  Begins [] = Unit {0}
  Begins (x ∷ older) = (number x.guard.0 before ≡ x.number) × Begins older

  come : (sections : List HelperSection) → ArePreceding s records sections → Begins sections → Come sections
  come [] are begins = record { rest = rested; numbers = λ o. refl }
  come (x ∷ older) are begins =
      let h : Come older = come older are.2 begins.1 in
      let at : number x.guard.0 (helper_log lane heap older ++ before) ≡ x.number = h.numbers x.guard.0 ∙ closing_none older x.guard.0 are.1 ∙ begins.0 in
      let g : Grown (from_heap s heap) lane x (helper_log lane heap older ++ before) (with_section (from_heap s heap) lane x (helper_log lane heap older ++ before)) =
      with_one (from_heap s heap) lane x (helper_log lane heap older ++ before) h.rest are.0.object are.0.number (guarded x.guard.0 x.fields are.0.fields) at in
      let same : with_section (from_heap s heap) lane x (helper_log lane heap older ++ before) ≡ helper_log lane heap (x ∷ older) ++ before =
      sym (append_assoc (map (λ (r : Record). (lane, r)) (section_records heap x)) (helper_log lane heap older) before) in
      record {
        rest = subst (Rested (from_heap s heap)) same g.rested;
        numbers = λ o. ap (number o) (sym same) ∙ elim (eqb_tells x.guard.0 o) [
          | inl e ↦ ap (λ (q : ℕ). number q (with_section (from_heap s heap) lane x (helper_log lane heap older ++ before))) (sym e.1) ∙ g.own
              ∙ sym (if_same x.guard.0 o (x.number + 1) (closing (λ q. number q before) older o) e.1)
          | inr e ↦ g.others o e.1 ∙ h.numbers o ∙ sym (if_apart x.guard.0 o (x.number + 1) (closing (λ q. number q before) older o) e.1)
        ];
      }
    where
      guarded : (o : ℕ) (fields : List FieldId) → AreGuardedBy s o fields → AreGuardedBy (from_heap s heap) o fields
      guarded o [] h = tt
      guarded o (f ∷ fields) h = (h.0, h.1, h.2, guarded o fields h.3)

  -- what the threads' records take has the right number behind them
  right : (sections : List HelperSection) (o n : ℕ) → ArePreceding s records sections → first_taken o records ≡ Some n → number o before ≡ opening (λ q. n) sections o → closing (λ q. number q before) sections o ≡ n
  right [] o n are first at = at
  right (x ∷ older) o n are first at = elim (eqb_tells x.guard.0 o) [
    | inl e ↦
        let just : n ≡ x.number + 1 = subst (λ (v : Option ℕ). IsJustBefore v x.number) (ap (λ (q : ℕ). first_taken q records) e.1 ∙ first) are.0.before in
        if_same x.guard.0 o (x.number + 1) (closing (λ q. number q before) older o) e.1 ∙ sym just
    | inr e ↦
        if_apart x.guard.0 o (x.number + 1) (closing (λ q. number q before) older o) e.1
        ∙ right older o n are.2 first (at ∙ if_apart x.guard.0 o x.number (opening (λ q. n) older o) e.1)
  ]

-- by section, its number is its guard's
abbrev EachAt : (ℕ → ℕ) → List HelperSection → Type 0
EachAt numbers [] = Unit {0}
EachAt numbers (x ∷ older) = (numbers x.guard.0 ≡ x.number) × EachAt numbers older

each_still : (f g : ℕ → ℕ) (o : ℕ) → ((q : ℕ) → o ≢ q → g q ≡ f q) → (sections : List HelperSection) → HasNone o sections → EachAt f sections → EachAt g sections
each_still f g o same [] none each = tt
each_still f g o same (x ∷ older) none each = (same x.guard.0 (λ e. none.0 (sym e)) ∙ each.0, each_still f g o same older none.1 each.1)

each_opening : (s : Setting) (records : List (ℕ × Record)) (rest : ℕ → ℕ) (sections : List HelperSection) → ArePreceding s records sections → EachAt (opening rest sections) sections
each_opening s records rest [] are = tt
each_opening s records rest (x ∷ older) are = (
  if_own x.guard.0 x.number (opening rest older x.guard.0),
  each_still (opening rest older) (opening rest (x ∷ older)) x.guard.0 (λ q apart. if_apart x.guard.0 q x.number (opening rest older q) apart) older are.1 (each_opening s records rest older are.2),
)

opening_at : (rest other : ℕ → ℕ) (o : ℕ) → rest o ≡ other o → (sections : List HelperSection) → opening rest sections o ≡ opening other sections o
opening_at rest other o e [] = e
opening_at rest other o e (x ∷ older) = ap (λ (n : ℕ). if x.guard.0 == o then x.number else n) (opening_at rest other o e older)

-- what is taken is an object of the setting
takes_low : (s : Setting) (records before : List (ℕ × Record)) (o : ℕ) → IsLegal s (records ++ before) → Takes o records → o < s.objects
takes_low s [] before o legal h = absurd h
takes_low s ((l, Acq p n) ∷ older) before o legal (inl e) = subst (λ (q : ℕ). q < s.objects) e legal.3
takes_low s ((l, Acq p n) ∷ older) before o legal (inr h) = takes_low s older before o legal.0 h
takes_low s ((l, Rel p n) ∷ older) before o legal h = takes_low s older before o legal.0 h
takes_low s ((l, WaitRel p n) ∷ older) before o legal h = takes_low s older before o legal.0 h
takes_low s ((l, Put f v w) ∷ older) before o legal h = takes_low s older before o legal.0 h

-- another lane has none of the helper's records
pub helper_elsewhere : (m : ℕ) (heap : ℕ → ℕ) (l : ℕ) → m ≢ l → (sections : List HelperSection) → lane l (helper_log m heap sections) ≡ []
helper_elsewhere m heap l apart [] = refl
helper_elsewhere m heap l apart (x ∷ older) =
    lane_append l (map (λ (r : Record). (m, r)) (section_records heap x)) (helper_log m heap older)
    ∙ ap (λ (xs : List Record). xs ++ lane l (helper_log m heap older)) (none (section_records heap x)) ∙ helper_elsewhere m heap l apart older
  where
    none : (records : List Record) → lane l (map (λ (r : Record). (m, r)) records) ≡ []
    none [] = refl
    none (r ∷ records) = if_apart m l (r ∷ lane l (map (λ (q : Record). (m, q)) records)) (lane l (map (λ (q : Record). (m, q)) records)) apart ∙ none records

no_more : (xs ys : List Record) → xs ++ ys ≡ [] → xs ≡ []
no_more [] ys is = refl
no_more (x ∷ xs) ys is = absurd (omega (arith, ap (λ (zs : List Record). length zs) is, length-append (x ∷ xs) ys))

-- a lane that the log has no record of has none beyond a cut
pub since_elsewhere : (m l : ℕ) (log : List (ℕ × Record)) (cut : ℕ → ℕ) → IsOfLanes m log → m ≤ l → lane l (records_since cut log) ≡ []
since_elsewhere m l log cut lanes past = no_more (lane l (records_since cut log)) (lane l (records_until cut log)) (split_lane cut l log ∙ none_past m l log lanes past)

module _ (s : Setting) (log : List (ℕ × Record)) (cut : ℕ → ℕ) (m : ℕ) (sections : List HelperSection) (legal : IsLegal s log) (whole : IsWhole (actions log) cut) (closed : IsClosed (actions log) cut)
    (of_lanes : IsOfLanes m log) (are : ArePreceding s (records_since cut log) sections) where
  abbrev since : List (ℕ × Record)
  since = records_since cut log

  abbrev gone : List (ℕ × Record)
  gone = records_until cut log

  abbrev heap : ℕ → ℕ
  heap = kept_by s log cut

  both : IsLegal s (since ++ gone)
  both = rest_after_until s cut log legal closed

  gone_legal : IsLegal s gone
  gone_legal = legal_before s since gone both

  -- nothing is held behind the cut
  nobody : (o : ℕ) (v : Option ℕ) → holder o gone ≡ v → holder o gone ≡ None
  nobody o None h = h
  nobody o (Some l) h = absurd (
      let held : In o (holding (lane l (actions gone))) = holds_in s gone o l gone_legal h in
      let none : In o [] = subst (λ (os : List ℕ). In o os) (until_ends cut l log (whole l)).0 held in
      none)

  abbrev numbers : ℕ → ℕ
  numbers = opening (λ q. number q gone) sections

  abbrev before : List (ℕ × Record)
  before = raised (m + 1) numbers s.objects

  rested : Rested (from_heap s heap) before
  rested = raised_rests (from_heap s heap) (m + 1) numbers (λ o. opening_low s since (λ q. number q gone) sections o are (low s gone o gone_legal).most) s.objects (omega arith)

  begins : (xs : List HelperSection) → ArePreceding s since xs → EachAt numbers xs → Begins s since heap m before rested xs
  begins [] preceding each = tt
  begins (x ∷ older) preceding each = (raised_number (m + 1) numbers s.objects x.guard.0 preceding.0.object ∙ each.0, begins older preceding.2 each.1)

  come_all : Come s since heap m before rested sections
  come_all = come s since heap m before rested sections are (begins sections are (each_opening s since (λ q. number q gone) sections are))

  abbrev after : List (ℕ × Record)
  after = helper_log m heap sections ++ before

  same_numbers : (o : ℕ) → Takes o since → number o after ≡ number o gone
  same_numbers o takes =
      let at : number o before ≡ opening (λ q. number o gone) sections o =
      raised_number (m + 1) numbers s.objects o (takes_low s since gone o both takes) ∙ opening_at (λ q. number q gone) (λ q. number o gone) o refl sections in
      come_all.numbers o ∙ right s since heap m before rested sections o (number o gone) are (first_number s since gone o both (nobody o (holder o gone) refl) takes) at

  all_legal : IsLegal (from_heap s heap) (since ++ after)
  all_legal = moved s heap after gone (λ o. nobody o (holder o gone) refl) come_all.rest.free come_all.rest.awake
      (λ f. come_all.rest.same f ∙ sym (value_until s.first cut f log)) since both come_all.rest.legal same_numbers

  no_own : lane (m + 1) (since ++ helper_log m heap sections) ≡ []
  no_own =
      let mine : lane (m + 1) since ≡ [] = since_elsewhere m (m + 1) log cut of_lanes (omega arith) in
      lane_append (m + 1) since (helper_log m heap sections) ∙ ap (λ (xs : List Record). xs ++ lane (m + 1) (helper_log m heap sections)) mine
      ∙ helper_elsewhere m heap (m + 1) (λ e. omega (arith, e)) sections

  pub precede : GoesOn (from_heap s heap) (since ++ helper_log m heap sections)
  precede = record {
    before = before;
    legal = subst (IsLegal (from_heap s heap)) (sym (append_assoc since (helper_log m heap sections) before)) all_legal;
    free = rested.free;
    unstored = λ f. raised_unstored (m + 1) numbers s.objects f;
    other = m + 1;
    own = λ l apart. raised_lane (m + 1) numbers s.objects l (λ e. apart (sym e));
    apart = no_own;
  }
