-- What survives of a crash that came early keeps nothing that was acknowledged later.
use Rattle.std.proofs.Common.{◌≡◌, inl, inr, ℕ, zero, suc, ◌≤◌, true, false, List, [], ◌∷◌, Some, None, Result, Ok, Err, MatchResult, take, slice_get, refl, sym, ap, ◌∙◌, subst, arith}
use Rattle.std.proofs.lemmas.Bool.{cases_lt}
use Rattle.heap_model.specs.Setting.{Setting}
use Rattle.heap_model.specs.Sections.{actions}
use Rattle.heap_model.specs.Cuts.{IsStable, counts_of}
use Rattle.image_parts.specs.Recovered.{Parts}
use Rattle.store_image.specs.declared.home.Home.{Home}
use Rattle.store_image.specs.declared.home.Home.TheVariants.{Wrote, Done}
use Rattle.store_memory.specs.Begin.{IsLeastDirtyOf}
use Rattle.heap_model.specs.Past.{Past, IsPast, after_home, after_settle}
use Rattle.durable.specs.Calls.{AnswersHome, MakeAll, Makes, after_home_step}
use Rattle.durable.specs.Store.{Known}
use Rattle.durable.specs.declared.store_call.StoreCall.{StoreCall}
use Rattle.durable.specs.declared.store_call.StoreCall.TheVariants.{Apply, Log, Settle, Trim}
use Rattle.durable.specs.declared.store_call.StoreCall.TheVariants.{Home as HomeStep}
use Rattle.recover_heap.specs.declared.error.RecoverError.{RecoverError}
use Rattle.recover.specs.declared.report.Report.{Report}
use Rattle.law_survival.specs.WholeRun.{CannotRecover, IsSettling, KeepsCut, Next, Before, Survives, SurvivesBy}
use Rattle.law_survival.proofs.WholeRuns.{grows, grows_by}

-- A call makes one past.

-- there is one least dirty field
one_field : (s : Setting) (p : Past) (f g : ℕ) → IsLeastDirtyOf s p f → IsLeastDirtyOf s p g → f ≡ g
one_field s p f g a b = elim (cases_lt f g) [
  | inl lt ↦ absurd (let both : true ≡ false = sym a.among ∙ b.lowest f lt in cc)
  | inr ge ↦ elim (cases_lt g f) [
    | inl lt ↦ absurd (let both : true ≡ false = sym b.among ∙ a.lowest g lt in cc)
    | inr le ↦ omega (arith, ge, le)
  ]
]

-- there is one stable cut
one_cut : (s : Setting) (p : Past) (a b : ℕ → ℕ) → IsStable (actions p.logged) a → IsStable (actions p.logged) b → (l : ℕ) → a l ≡ b l
one_cut s p a b of_a of_b l =
    let low = of_b.greatest a of_a.whole of_a.closed l in
    let high = of_a.greatest b of_b.whole of_b.closed l in
    omega (arith, low, high)

one_home : (s : Setting) (p : Past) (a b : Home) → AnswersHome s p a → AnswersHome s p b → after_home_step p a ≡ after_home_step p b
one_home s p (Wrote f) (Wrote g) a b = ap (λ (n : ℕ). after_home p n) (one_field s p f.0 g.0 a b)
one_home s p (Wrote f) Done a b = absurd (let both : true ≡ false = sym a.among ∙ b f.0 a.field_is in cc)
one_home s p Done (Wrote g) a b = absurd (let both : true ≡ false = sym b.among ∙ a g.0 b.field_is in cc)
one_home s p Done Done a b = refl

makes_one : (s : Setting) (p q r : Past) (call : StoreCall) → Makes s p call q → Makes s p call r → q ≡ r
makes_one s p q r (Apply l x) a b = a.1 ∙ sym b.1
makes_one s p q r Log a b = a ∙ sym b
makes_one s p q r HomeStep (m, answers_m, is_m) (n, answers_n, is_n) = is_m ∙ one_home s p m n answers_m answers_n ∙ sym is_n
makes_one s p q r Settle (a, clean_a, stable_a, is_a) (b, clean_b, stable_b, is_b) = is_a ∙ ap (λ (c : ℕ → ℕ). after_settle p c) (λ i l. one_cut s p a b stable_a stable_b l i) ∙ sym is_b
makes_one s p q r Trim a b = a ∙ sym b

-- a settling behind a call
behind : (x : Known) (call : StoreCall) (calls : List StoreCall) (n : ℕ) → x.has_failed ≡ false → IsSettling x (call ∷ calls) (suc n) → IsSettling x calls n
behind x call calls n serves (Next next) = Next next
behind x call calls n serves (Before first failed doubt) = absurd (let no : true ≡ false = sym failed ∙ serves in cc)

-- the settling before all others
settled_first : (s : Setting) (p last : Past) (calls : List StoreCall) (cut : ℕ → ℕ) → slice_get calls 0 ≡ Some Settle → IsPast s p → MakeAll s p calls last → IsStable (actions p.logged) cut → (l : ℕ) → cut l ≤ last.cut l
settled_first s p last [] cut next is all stable l = absurd (let no : None ≡ Some Settle = next in cc)
settled_first s p last (call ∷ calls) cut next is (mid, one, rest) stable l =
    let settle : call ≡ Settle = (let same : Some call ≡ Some Settle = next in cc) in
    let makes : Makes s p Settle mid = subst (λ (c : StoreCall). Makes s p c mid) settle one in
    let low = makes.2.greatest cut stable.whole stable.closed l in
    let up = grows s mid last calls (grows_by s p mid call is one).0 rest l in
    let there : makes.0 l ≡ mid.cut l = sym (ap (λ (q : Past). q.cut l) makes.3) in
    omega (arith, low, up, there)

-- what was acknowledged before the calls, or by the first of them
at_first : (x : Known) (s : Setting) (p last : Past) (calls : List StoreCall) (cut : ℕ → ℕ) → x.has_failed ≡ false → IsPast s p → MakeAll s p calls last → KeepsCut x s calls 0 p cut → (l : ℕ) → cut l ≤ last.cut l
at_first x s p last calls cut serves is all (inl same) l = subst (λ (c : ℕ → ℕ). c l ≤ last.cut l) (sym same) (grows s p last calls is all l)
at_first x s p last calls cut serves is all (inr (Next next, clean, stable)) l = settled_first s p last calls cut next is all stable l
at_first x s p last calls cut serves is all (inr (Before first failed doubt, clean, stable)) l = absurd (let no : true ≡ false = sym failed ∙ serves in cc)

-- no settling is behind no call
at_none : (x : Known) (s : Setting) (p : Past) (n : ℕ) (cut : ℕ → ℕ) → x.has_failed ≡ false → KeepsCut x s [] (suc n) p cut → cut ≡ p.cut
at_none x s p n cut serves (inl same) = same
at_none x s p n cut serves (inr (Next next, clean, stable)) = absurd (let no : None ≡ Some Settle = next in cc)
at_none x s p n cut serves (inr (Before first failed doubt, clean, stable)) = absurd (let no : true ≡ false = sym failed ∙ serves in cc)

one_later : (x : Known) (s : Setting) (p : Past) (call : StoreCall) (calls : List StoreCall) (n : ℕ) (cut : ℕ → ℕ) → x.has_failed ≡ false → KeepsCut x s (call ∷ calls) (suc n) p cut → KeepsCut x s calls n p cut
one_later x s p call calls n cut serves (inl same) = inl same
one_later x s p call calls n cut serves (inr settled) = inr (behind x call calls n serves settled.0, settled.1, settled.2)

-- What was acknowledged after some of the calls, or by the settling behind them, is acknowledged after all.
at_most : (x : Known) (s : Setting) (p early last : Past) (calls : List StoreCall) (n : ℕ) (cut : ℕ → ℕ) → x.has_failed ≡ false → IsPast s p → MakeAll s p (take n calls) early → MakeAll s p calls last →
    KeepsCut x s calls n early cut → (l : ℕ) → cut l ≤ last.cut l
at_most x s p early last [] zero cut serves is made all keeps l = at_first x s p last [] cut serves is all (subst (λ (q : Past). KeepsCut x s [] 0 q cut) made keeps) l
at_most x s p early last [] (suc n) cut serves is made all keeps l =
    subst (λ (c : ℕ → ℕ). c l ≤ last.cut l) (sym (at_none x s early n cut serves keeps ∙ ap (λ (q : Past). q.cut) (made ∙ sym all))) (omega arith)
at_most x s p early last (call ∷ calls) zero cut serves is made all keeps l =
    at_first x s p last (call ∷ calls) cut serves is all (subst (λ (q : Past). KeepsCut x s (call ∷ calls) 0 q cut) made keeps) l
at_most x s p early last (call ∷ calls) (suc n) cut serves is (mid, one, rest) (next, its, others) keeps l =
    let same : next ≡ mid = makes_one s p next mid call its one in
    at_most x s mid early last calls n cut serves (grows_by s p mid call is one).0 rest (subst (λ (q : Past). MakeAll s q calls last) same others) (one_later x s early call calls n cut serves keeps) l

-- so what survives of the first n calls keeps no more than was acknowledged after them
by_then : (x : Known) (s : Setting) (p then : Past) (calls : List StoreCall) (n : ℕ) (heap : List ℕ) (kept : ℕ → ℕ) → IsPast s p → MakeAll s p (take n calls) then → Survives x s p (take n calls) heap kept →
    SurvivesBy x s p calls n then heap kept
by_then x s p then calls n heap kept is made survives = record {
  survives = survives;
  at_most = λ serves lane below.
      subst (λ (k : ℕ). k ≤ then.cut lane) (sym (survives.kept_are lane below)) (at_most x s p survives.then then (take n calls) survives.n survives.cut serves is survives.made made survives.acknowledged lane);
}

pub answers_by : {E : Type 0} (x : Known) (s : Setting) (p then : Past) (calls : List StoreCall) (n : ℕ) (image : List ℕ) → IsPast s p → MakeAll s p (take n calls) then → (answer : Result (Parts E × Report) (E × RecoverError)) →
    MatchResult answer (λ r. Survives x s p (take n calls) r.0.heap (counts_of r.1.kept)) (λ back. CannotRecover image back.1) →
    MatchResult answer (λ r. SurvivesBy x s p calls n then r.0.heap (counts_of r.1.kept)) (λ back. CannotRecover image back.1)
answers_by x s p then calls n image is made (Ok r) survives = by_then x s p then calls n r.0.heap (counts_of r.1.kept) is made survives
answers_by x s p then calls n image is made (Err back) cannot = cannot
