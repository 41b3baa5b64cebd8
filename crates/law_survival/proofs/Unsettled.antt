-- Calls with no settling leave what was acknowledged before them.
use Rattle.std.proofs.Common.{ℕ, zero, suc, ◌≡◌, ◌≢◌, List, [], ◌∷◌, Some, None, take, true, slice_get, refl, sym, ap, ◌∙◌, subst, inl, inr}
use Rattle.heap_model.specs.Setting.{Setting}
use Rattle.image_parts.specs.declared.layout.Layout.{Layout}
use Rattle.store_image.specs.KeptHeap.{kept_heap}
use Rattle.store_image.specs.declared.home.Home.TheVariants.{Wrote, Done}
use Rattle.heap_model.specs.Past.{Past, IsPast}
use Rattle.durable.specs.Calls.{MakeAll, Makes}
use Rattle.durable.specs.Store.{Known}
use Rattle.durable.specs.declared.store_call.StoreCall.{StoreCall}
use Rattle.durable.specs.declared.doubt.Doubt.TheVariants.{Settling}
use Rattle.durable.specs.declared.store_call.StoreCall.TheVariants.{Apply, Log, Settle, Trim}
use Rattle.durable.specs.declared.store_call.StoreCall.TheVariants.{Home as HomeStep}
use Rattle.durable.proofs.Showing.{logged_heap}
use Rattle.law_survival.specs.Unsettled.{HasNoSettling, UnsettledLaw}
use Rattle.law_survival.specs.WholeRun.{IsSettling, Next, Before}
use Rattle.law_survival.proofs.WholeRuns.{grows_by}

-- what is acknowledged, and its heap
record Same (l : Layout) (s : Setting) (p q : Past) : Type 0 where
  cut : q.cut ≡ p.cut
  heap : kept_heap l s q.logged q.cut ≡ kept_heap l s p.logged p.cut

one_call : (l : Layout) (s : Setting) (p q : Past) (call : StoreCall) → IsPast s p → call ≢ Settle → Makes s p call q → Same l s p q
one_call l s p q (Apply k r) is other (legal, same) = subst (Same l s p) (sym same) (record { cut = refl; heap = refl })
one_call l s p q Log is other same = subst (Same l s p) (sym same) (record { cut = refl; heap = logged_heap l s p is })
one_call l s p q HomeStep is other (Wrote f, answers, same) = subst (Same l s p) (sym same) (record { cut = refl; heap = refl })
one_call l s p q HomeStep is other (Done, answers, same) = subst (Same l s p) (sym same) (record { cut = refl; heap = refl })
one_call l s p q Settle is other made = absurd (other refl)
one_call l s p q Trim is other same = subst (Same l s p) (sym same) (record { cut = refl; heap = refl })

all_calls : (l : Layout) (s : Setting) (p q : Past) (calls : List StoreCall) → IsPast s p → HasNoSettling calls → MakeAll s p calls q → Same l s p q
all_calls l s p q [] is none same = subst (Same l s p) (sym same) (record { cut = refl; heap = refl })
all_calls l s p q (call ∷ calls) is none (mid, one, rest) =
    let first = one_call l s p mid call is none.0 one in
    let later = all_calls l s mid q calls (grows_by s p mid call is one).0 none.1 rest in
    record { cut = later.cut ∙ first.cut; heap = later.heap ∙ first.heap }

none_first : (n : ℕ) (calls : List StoreCall) → HasNoSettling calls → HasNoSettling (take n calls)
none_first zero calls none = tt
none_first (suc n) [] none = tt
none_first (suc n) (call ∷ calls) none = (none.0, none_first n calls none.1)

none_next : (n : ℕ) (calls : List StoreCall) → HasNoSettling calls → slice_get calls n ≡ Some Settle → ⊥
none_next n [] none is = absurd (let no : None ≡ Some Settle = is in cc)
none_next zero (call ∷ calls) none is = none.0 (let same : Some call ≡ Some Settle = is in cc)
none_next (suc n) (call ∷ calls) none is = none_next n calls none.1 is

no_settling : (x : Known) (calls : List StoreCall) (n : ℕ) → HasNoSettling calls → (x.has_failed ≡ true → x.doubt ≡ Settling → ⊥) → IsSettling x calls n → ⊥
no_settling x calls n none sure (Next is) = none_next n calls none is
no_settling x calls n none sure (Before first failed doubt) = sure failed doubt

pub unsettled : UnsettledLaw
unsettled x s p calls heap kept is none sure survives =
    let same = all_calls x.layout s p survives.then (take survives.n calls) is (none_first survives.n calls none) survives.made in
    let cut : survives.cut ≡ survives.then.cut = elim survives.acknowledged as (λ _. survives.cut ≡ survives.then.cut) [
      | inl was ↦ was
      | inr settled ↦ absurd (no_settling x calls survives.n none sure settled.0)
    ] in
    record {
      heap_is = survives.heap_is ∙ ap (λ (c : ℕ → ℕ). kept_heap x.layout s survives.then.logged c) cut ∙ same.heap;
      kept_are = λ lane below. survives.kept_are lane below ∙ ap (λ (c : ℕ → ℕ). c lane) (cut ∙ same.cut);
    }
