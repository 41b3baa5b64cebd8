-- Calls of a store that were made one after another.
use Rattle.std.proofs.Common.{ℕ, zero, suc, ◌≡◌, ◌≤◌, ◌⊎◌, ◌∷◌, ◌++◌, [], Bool, true, false, List, Some, Result, Err, IsErrOf, length, take, slice_get, refl, sym, ap, inl, inr, ⊎_elim, ◌∙◌, subst, arith, length-append}
use Rattle.std.proofs.lemmas.List.{append_assoc, append-nil}
use Rattle.heap_model.specs.declared.record.Record.{Record}
use Rattle.heap_model.specs.Setting.{Setting}
use Rattle.heap_model.specs.Log.{IsLegal}
use Rattle.heap_model.specs.Sections.{actions}
use Rattle.heap_model.specs.Cuts.{IsStable}
use Rattle.block_disk.specs.Device.{Device}
use Rattle.block_disk.specs.Images.{Always, LeavesOnly}
use Rattle.block_disk.proofs.Images.{and_then, begin, weaker}
use Rattle.image_parts.specs.declared.layout.Layout.{Layout}
use Rattle.heap_model.specs.declared.store_error.StoreError.{StoreError}
use Rattle.heap_model.specs.declared.store_error.StoreError.TheVariants.{Fault}
use Rattle.heap_model.specs.Past.{Past, applied, after_settle, after_trim}
use Rattle.store_image.specs.Consistent.{IsConsistent}
use Rattle.store_image.specs.declared.committed.Committed.{Committed}
use Rattle.store_image.proofs.Stands.{none_logged, shows_always}
use Rattle.store_memory.specs.Fresh.{IsOfLanes}
use Rattle.durable.specs.declared.store_call.StoreCall.{StoreCall}
use Rattle.durable.specs.declared.store_call.StoreCall.TheVariants.{Apply, Settle, Trim}
use Rattle.durable.specs.Calls.{IsClean, MakeAll, Makes, ShowsAfterSome}
use Rattle.durable.specs.Runs.{HasRun, IsCut, IsLeftBy}
use Rattle.durable.specs.Store.{Known, Parts, HasPast, ShowsStep, Shows, ShowsLogged, ShowsSettled, ShowsTrimmed, doubt_in}
use Rattle.durable.proofs.Early.{no_doubt}
use Rattle.durable.proofs.Playing.{made_more}
use Rattle.durable.proofs.Showing.{past_settle, past_trim}

-- what a crash leaves of a store
pub left_always : (l : Layout) (s : Setting) (p : Past) (c : Committed) (d : Device) → IsConsistent l s p c d → Always d (IsLeftBy l s p)
left_always l s p c d consistent image is = record { past = consistent.past; lanes = none_logged l s p c d consistent; shows = shows_always l s p c d consistent image is }

-- Lists of calls.

pub made_then : (s : Setting) (p q r : Past) (calls more : List StoreCall) → MakeAll s p calls q → MakeAll s q more r → MakeAll s p (calls ++ more) r
made_then s p q r [] more made next = subst (λ (m : Past). MakeAll s m more r) made next
made_then s p q r (call ∷ calls) more (mid, one, rest) next = (mid, one, made_then s mid q r calls more rest next)

first_of : (calls more : List StoreCall) (n : ℕ) → n ≤ length calls → take n calls ≡ take n (calls ++ more)
first_of calls more zero le = refl
first_of [] more (suc n) le = absurd (omega (arith, le))
first_of (c ∷ calls) more (suc n) le = ap (λ (cs : List StoreCall). c ∷ cs) (first_of calls more n (omega (arith, le)))

doubt_of : (l : Layout) (s : Setting) (p : Past) (image : List ℕ) (calls more : List StoreCall) (n : ℕ) → n ≤ length calls →
    ShowsStep l s p (doubt_in (slice_get calls n)) image → ShowsStep l s p (doubt_in (slice_get (calls ++ more) n)) image
doubt_of l s p image [] more zero le shown = no_doubt l s p (doubt_in (slice_get more 0)) image shown
doubt_of l s p image [] more (suc n) le shown = absurd (omega (arith, le))
doubt_of l s p image (c ∷ calls) more zero le shown = shown
doubt_of l s p image (c ∷ calls) more (suc n) le shown = doubt_of l s p image calls more n (omega (arith, le)) shown

-- what some of the calls show, some of more show
pub some_first : (l : Layout) (s : Setting) (p : Past) (calls more : List StoreCall) (image : List ℕ) → ShowsAfterSome l s p calls image → ShowsAfterSome l s p (calls ++ more) image
some_first l s p calls more image some = let within = some.within in record {
  n = some.n;
  within = omega (arith, within, length-append calls more);
  then = some.then;
  made = subst (λ (cs : List StoreCall). MakeAll s p cs some.then) (first_of calls more some.n some.within) some.made;
  is = some.is;
  of_lanes = some.of_lanes;
  shows = doubt_of l s some.then image calls more some.n some.within some.shows;
}

-- and so it is behind calls that were made
pub some_behind : (l : Layout) (s : Setting) (p q : Past) (calls more : List StoreCall) (image : List ℕ) → MakeAll s p calls q → ShowsAfterSome l s q more image → ShowsAfterSome l s p (calls ++ more) image
some_behind l s p q [] more image made some = subst (λ (m : Past). ShowsAfterSome l s m more image) made some
some_behind l s p q (call ∷ calls) more image (mid, one, rest) some =
    let later = some_behind l s mid q calls more image rest some in
    let within = later.within in
    record {
      n = suc later.n;
      within = omega (arith, within);
      then = later.then;
      made = (mid, one, later.made);
      is = later.is;
      of_lanes = later.of_lanes;
      shows = later.shows;
    }

-- One run behind another.

-- whether one has failed is left open
pub ran_less : (l : Layout) (s : Setting) (p q : Past) (d e : Device) (failed : Bool) → HasRun l s p d q e failed → HasRun l s p d q e true
ran_less l s p q d e failed ran = record { calls = ran.calls; made = ran.made; cut_off = ran.cut_off; is_cut = ran.is_cut; whole = λ runs. absurd (let no : true ≡ false = runs in cc); shown = ran.shown }

abbrev pub ran_none : (l : Layout) (s : Setting) (p : Past) (d : Device) (failed : Bool) → HasRun l s p d p d failed
ran_none l s p d failed = record { calls = []; made = refl; cut_off = []; is_cut = tt; whole = λ runs. refl; shown = begin d (ShowsAfterSome l s p []) }

ran_behind : (l : Layout) (s : Setting) (p q r : Past) (d e f : Device) (a b : Bool) (was : HasRun l s p d q e a) → was.cut_off ≡ [] → HasRun l s q e r f b → HasRun l s p d r f b
ran_behind l s p q r d e f a b was none on =
    let all : List StoreCall = (was.calls ++ on.calls) ++ on.cut_off in
    let split : was.calls ++ (on.calls ++ on.cut_off) ≡ all = sym (append_assoc was.calls on.calls on.cut_off) in
    let before : was.calls ++ was.cut_off ≡ was.calls = ap (λ (cs : List StoreCall). was.calls ++ cs) none ∙ append-nil was.calls in
    record {
      calls = was.calls ++ on.calls;
      made = made_then s p q r was.calls on.calls was.made on.made;
      cut_off = on.cut_off;
      is_cut = on.is_cut;
      whole = on.whole;
      shown = and_then d e f (ShowsAfterSome l s p all)
          (weaker d e (ShowsAfterSome l s p (was.calls ++ was.cut_off)) (ShowsAfterSome l s p all)
          (λ image some. subst (λ (cs : List StoreCall). ShowsAfterSome l s p cs image) split
          (some_first l s p was.calls (on.calls ++ on.cut_off) image (subst (λ (cs : List StoreCall). ShowsAfterSome l s p cs image) before some))) was.shown)
          (weaker e f (ShowsAfterSome l s q (on.calls ++ on.cut_off)) (ShowsAfterSome l s p all)
          (λ image some. subst (λ (cs : List StoreCall). ShowsAfterSome l s p cs image) split
          (some_behind l s p q was.calls (on.calls ++ on.cut_off) image was.made some)) on.shown);
    }

-- by a store that keeps its layout
pub ran_then : (l m : Layout) (s : Setting) (p q r : Past) (d e f : Device) (a b : Bool) → m ≡ l → (was : HasRun l s p d q e a) → was.cut_off ≡ [] → HasRun m s q e r f b → HasRun m s p d r f b
ran_then l m s p q r d e f a b layout was none on = subst (λ (k : Layout). HasRun k s p d r f b) (sym layout) (ran_behind l s p q r d e f a b was none (subst (λ (k : Layout). HasRun k s q e r f b) layout on))

-- One call.

lanes_of : (x : Known) (s : Setting) (p : Past) (d : Device) → HasPast x s p d → IsOfLanes x.layout.lanes (applied p)
lanes_of x s p d has = subst (λ n. IsOfLanes n (applied p)) has.layout.lanes has.remembers.of_lanes

module _ (x y : Known) (s : Setting) (p : Past) (d e : Device) (layout : y.layout ≡ x.layout) (has : HasPast x s p d) where
  -- what is in doubt while the first of some calls runs
  shows_first : (call : StoreCall) (calls : List StoreCall) → LeavesOnly d e (ShowsStep x.layout s p (doubt_in (Some call))) → LeavesOnly d e (ShowsAfterSome y.layout s p (call ∷ calls))
  shows_first call calls shown = subst (λ (l : Layout). LeavesOnly d e (ShowsAfterSome l s p (call ∷ calls))) (sym layout)
      (weaker d e (ShowsStep x.layout s p (doubt_in (Some call))) (ShowsAfterSome x.layout s p (call ∷ calls)) (λ image shows. record {
        n = 0;
        within = omega arith;
        then = p;
        made = refl;
        is = has.past;
        of_lanes = lanes_of x s p d has;
        shows = shows;
      }) shown)

  pub ran_one : (q : Past) (call : StoreCall) (failed : Bool) → Makes s p call q → LeavesOnly d e (ShowsStep x.layout s p (doubt_in (Some call))) → HasRun y.layout s p d q e failed
  ran_one q call failed makes shown = record { calls = call ∷ []; made = (q, makes, refl); cut_off = []; is_cut = tt; whole = λ runs. refl; shown = shows_first call [] shown }

  still : (failed : Bool) → e ≡ d → HasRun y.layout s p d p e failed
  still failed same = subst (λ (f : Device). HasRun y.layout s p d p f failed) (sym same) (ran_none y.layout s p d failed)

  pub ran_refused : (call : StoreCall) → IsCut (call ∷ []) → (y.has_failed ≡ true) ⊎ (e ≡ d) → LeavesOnly d e (ShowsStep x.layout s p (doubt_in (Some call))) → HasRun y.layout s p d p e y.has_failed
  ran_refused call cut why shown = ⊎_elim (λ off. record {
    calls = [];
    made = refl;
    cut_off = call ∷ [];
    is_cut = cut;
    whole = λ runs. absurd (let no : true ≡ false = sym off ∙ runs in cc);
    shown = shows_first call [] shown;
  }) (still y.has_failed) why

-- a call that is refused by no fault leaves the device
pub failed_or_still : {D T : Type 0} (device : D → Device) (x y : Parts D) (r : Result T StoreError) (e : StoreError) → r ≡ Err e → (e ≡ Fault) ⊎ (y ≡ x) → (IsErrOf r Fault → y.known.has_failed ≡ true) → (y.known.has_failed ≡ true) ⊎ (device y.disk ≡ device x.disk)
failed_or_still {D} {T} device x y r e is refused failed = ⊎_elim (λ fault. inl (failed (is ∙ ap Err fault))) (λ same. inr (ap (λ (z : Parts D). device z.disk) same)) refused

-- Records that were applied.

-- the calls that apply these, the newest record first
abbrev pub applies : List (ℕ × Record) → List StoreCall
applies [] = []
applies ((l, r) ∷ older) = applies older ++ Apply (record { 0 = l }) r ∷ []

pub made_applies : (s : Setting) (p : Past) (newer : List (ℕ × Record)) → IsLegal s ((newer ++ p.fresh) ++ p.logged) → MakeAll s p (applies newer) (record p { fresh = newer ++ p.fresh })
made_applies s p [] legal = refl
made_applies s p ((l, r) ∷ older) legal =
    made_more s p (record p { fresh = older ++ p.fresh }) (record p { fresh = (l, r) ∷ (older ++ p.fresh) }) (applies older) (Apply (record { 0 = l }) r) (made_applies s p older legal.0) (legal, refl)

pub ran_applied : (l : Layout) (s : Setting) (p : Past) (d : Device) (newer : List (ℕ × Record)) (failed : Bool) → IsLegal s ((newer ++ p.fresh) ++ p.logged) → HasRun l s p d (record p { fresh = newer ++ p.fresh }) d failed
ran_applied l s p d newer failed legal = record {
  calls = applies newer;
  made = made_applies s p newer legal;
  cut_off = [];
  is_cut = tt;
  whole = λ runs. refl;
  shown = begin d (ShowsAfterSome l s p (applies newer ++ []));
}
