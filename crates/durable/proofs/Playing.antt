-- What one call of a store makes of its past, and what a list of them does.
use Rattle.std.proofs.Common.{ℕ, zero, suc, ◌≡◌, ◌≢◌, ◌<◌, ◌≤◌, ◌+◌, ◌-◌, ◌⊎◌, ◌∷◌, ◌++◌, [], List, Option, None, Some, Result, Ok, Err, IfErr, IsErrOf, OnOk, MatchResult, false, get_or, length, take, slice_get, refl, sym, ap, inl, inr, ⊎_elim, ◌∙◌, subst, arith}
use Rattle.std.specs.Prelude.{drop}
use Rattle.std.proofs.lemmas.Bool.{cases_lt}
use Rattle.std.proofs.lemmas.List.{take_more, take_all, get_or-drop, length-drop}
use Rattle.std.proofs.lemmas.Option.{get_or_from_slice_get, slice_get-get_or}
use Rattle.heap_model.specs.declared.ids.Lane.{Lane}
use Rattle.heap_model.specs.declared.record.Record.{Record}
use Rattle.heap_model.specs.Setting.{Setting}
use Rattle.heap_model.specs.Sections.{actions}
use Rattle.heap_model.specs.Cuts.{IsStable}
use Rattle.block_disk.specs.Device.{Device, HasCause, HasFailed}
use Rattle.block_disk.specs.Images.{ImageBut, LeavesOnly}
use Rattle.block_disk.proofs.Failures.{failed_since}
use Rattle.block_disk.proofs.Images.{and_then, begin, weaker}
use Rattle.heap_model.specs.declared.store_error.StoreError.{StoreError}
use Rattle.heap_model.specs.declared.store_error.StoreError.TheVariants.{Fault}
use Rattle.durable.specs.declared.store_call.StoreCall.{StoreCall}
use Rattle.durable.specs.declared.store_call.StoreCall.TheVariants.{Apply, Settle, Trim}
use Rattle.store_image.specs.Steps.{step_ranges}
use Rattle.store_image.proofs.Within.{within_then}
use Rattle.store_memory.specs.Fresh.{IsOfLanes}
use Rattle.durable.specs.Runs.{TakesSequences}
use Rattle.durable.specs.Calls.{AreQuiet, IsClean, IsQuiet, MakeAll, Makes, Reached, RefusesApply, RefusesSettle, RefusesTrim, RefusesCall, ShowsAfterSome, StandsAfterSome, StoppedAt}
use Rattle.heap_model.specs.Past.{Past, applied, after_apply, after_settle, after_trim}
use Rattle.durable.specs.Store.{Known, HasPast, ShowsStep, StandsForStep, doubt_in}
use Rattle.durable.specs.declared.doubt.Doubt.{Doubt}
use Rattle.durable.proofs.Sequences.{takes_none, takes_more, takes_then}
use Rattle.durable.proofs.Showing.{past_stands}
use Rattle.durable.proofs.Early.{early, first_of_more, within_more, next_of_more, some_of_more}

module _ {T : Type 0} (s : Setting) (p : Past) (call : StoreCall) (result : Result T StoreError) where
  -- a record that was applied is legal after those before it
  pub apply_made : (l : Lane) (r : Record) (new : Known) (d : Device) → call ≡ Apply l r → OnOk result (HasPast new s (after_apply p l.0 r) d) →
      OnOk result ((q : Past) × Makes s p call q × HasPast new s q d)
  apply_made l r new d is has = elim result as (λ (x : Result T StoreError). OnOk x (HasPast new s (after_apply p l.0 r) d) → OnOk x ((q : Past) × Makes s p call q × HasPast new s q d)) [
    | Ok done ↦ λ had. (after_apply p l.0 r, subst (λ (c : StoreCall). Makes s p c (after_apply p l.0 r)) (sym is) (had.past.legal, refl), had)
    | Err e ↦ λ had. tt
  ] has

  pub apply_refused : (l : Lane) (r : Record) (x : Known) (P : T → Type 0) → call ≡ Apply l r → MatchResult result P (RefusesApply x s p l.0 r) → IfErr result (λ e. RefusesCall x s p call e)
  apply_refused l r x P is why = elim result as (λ (a : Result T StoreError). MatchResult a P (RefusesApply x s p l.0 r) → IfErr a (λ e. RefusesCall x s p call e)) [
    | Ok done ↦ λ why. tt
    | Err e ↦ λ why. subst (λ (c : StoreCall). RefusesCall x s p c e) (sym is) why
  ] why

  -- the cut that was acknowledged is the stable one
  pub settle_made : (cut : ℕ → ℕ) (new : Known) (d : Device) (A : Type 0) (Q : StoreError → Type 0) → call ≡ Settle → IsStable (actions p.logged) cut → OnOk result (HasPast new s (after_settle p cut) d) →
      MatchResult result (λ done. A × IsClean s p) Q → OnOk result ((q : Past) × Makes s p call q × HasPast new s q d)
  settle_made cut new d A Q is stable has clean = elim result as
      (λ (a : Result T StoreError). OnOk a (HasPast new s (after_settle p cut) d) → MatchResult a (λ done. A × IsClean s p) Q → OnOk a ((q : Past) × Makes s p call q × HasPast new s q d)) [
        | Ok done ↦ λ had was. (after_settle p cut, subst (λ (c : StoreCall). Makes s p c (after_settle p cut)) (sym is) (cut, was.1, stable, refl), had)
        | Err e ↦ λ had was. tt
      ] has clean

  pub settle_refused : (x : Known) (P : T → Type 0) → call ≡ Settle → MatchResult result P (RefusesSettle x s p) → IfErr result (λ e. RefusesCall x s p call e)
  settle_refused x P is why = elim result as (λ (a : Result T StoreError). MatchResult a P (RefusesSettle x s p) → IfErr a (λ e. RefusesCall x s p call e)) [
    | Ok done ↦ λ why. tt
    | Err e ↦ λ why. subst (λ (c : StoreCall). RefusesCall x s p c e) (sym is) why
  ] why

  -- what is acknowledged is trimmed
  pub trim_made : (new : Known) (d : Device) → call ≡ Trim → OnOk result (HasPast new s (after_trim p) d) → OnOk result ((q : Past) × Makes s p call q × HasPast new s q d)
  trim_made new d is has = elim result as (λ (a : Result T StoreError). OnOk a (HasPast new s (after_trim p) d) → OnOk a ((q : Past) × Makes s p call q × HasPast new s q d)) [
    | Ok done ↦ λ had. (after_trim p, subst (λ (c : StoreCall). Makes s p c (after_trim p)) (sym is) refl, had)
    | Err e ↦ λ had. tt
  ] has

  pub trim_refused : (x : Known) (P : T → Type 0) → call ≡ Trim → MatchResult result P (RefusesTrim x p) → IfErr result (λ e. RefusesCall x s p call e)
  trim_refused x P is why = elim result as (λ (a : Result T StoreError). MatchResult a P (RefusesTrim x p) → IfErr a (λ e. RefusesCall x s p call e)) [
    | Ok done ↦ λ why. tt
    | Err e ↦ λ why. subst (λ (c : StoreCall). RefusesCall x s p c e) (sym is) why
  ] why

-- where no fault is answered it needs no cause
pub no_cause : {T : Type 0} (a b : ℕ) (result : Result T StoreError) → a ≤ b → IfErr result (λ e. e ≢ Fault) → HasCause a b Fault result
no_cause {T} a b result le none = record {
  later = le;
  failed = λ is. absurd (subst (λ (x : Result T StoreError). IfErr x (λ e. e ≢ Fault)) is none refl);
}

-- so many calls were made, in order, and each image that they left shows what some of them made of the past
pub record Played (old new : Known) (d0 d1 : Device) (calls : List StoreCall) (n : ℕ) : Type 0 where
  pub within : n ≤ length calls
  pub layout : new.layout ≡ old.layout
  pub running : new.has_failed ≡ old.has_failed
  pub later : d0.failures ≤ d1.failures
  -- each takes one sequence of the control at most
  pub takes : TakesSequences n old d0 new d1
  -- and none writes elsewhere than steps do
  pub writes : LeavesOnly d0 d1 (ImageBut d0 (step_ranges old.layout))
  pub made : (s : Setting) (p : Past) → HasPast old s p d0 → (q : Past) × MakeAll s p (take n calls) q × HasPast new s q d1
  pub shown : (s : Setting) (p : Past) → HasPast old s p d0 → LeavesOnly d0 d1 (ShowsAfterSome old.layout s p calls)
  pub stands : (s : Setting) (p : Past) → HasPast old s p d0 → LeavesOnly d0 d1 (StandsAfterSome old.layout s p calls)
  pub quiet : (s : Setting) (p : Past) → HasPast old s p d0 → AreQuiet s p calls → d1 ≡ d0

pub played_none : (old : Known) (d : Device) (calls : List StoreCall) → Played old old d d calls 0
played_none old d calls = record {
  within = omega arith;
  layout = refl;
  running = refl;
  later = omega arith;
  takes = takes_none old old d d refl refl;
  writes = begin d (ImageBut d (step_ranges old.layout));
  made = λ s p has. (p, refl, has);
  shown = λ s p has. begin d (ShowsAfterSome old.layout s p calls);
  stands = λ s p has. begin d (StandsAfterSome old.layout s p calls);
  quiet = λ s p has are. refl;
}

-- one call more
pub made_more : (s : Setting) (p q r : Past) (calls : List StoreCall) (call : StoreCall) → MakeAll s p calls q → Makes s q call r → MakeAll s p (calls ++ call ∷ []) r
made_more s p q r [] call made makes = (r, subst (λ (m : Past). Makes s m call r) made makes, refl)
made_more s p q r (first ∷ calls) call (mid, one, made) makes = (mid, one, made_more s mid q r calls call made makes)

-- each of quiet calls is quiet when its turn comes
quiet_at : (s : Setting) (p q : Past) (calls : List StoreCall) (n : ℕ) (call : StoreCall) → AreQuiet s p calls → MakeAll s p (take n calls) q → slice_get calls n ≡ Some call → IsQuiet s q call
quiet_at s p q [] n call are made is = absurd (let no : None ≡ Some call = is in cc)
quiet_at s p q (first ∷ calls) zero call are made is = subst (λ (m : Past). IsQuiet s m call) (sym made) (subst (λ (c : StoreCall). IsQuiet s p c) (let same : Some first ≡ Some call = is in cc) are.0)
quiet_at s p q (first ∷ calls) (suc n) call are (mid, one, made) is = quiet_at s mid q calls n call (are.1 mid one) made is

module _ (old mid : Known) (d0 d1 d2 : Device) (calls : List StoreCall) (n : ℕ) (was : Played old mid d0 d1 calls n) (lt : n < length calls) (call : StoreCall) (is : slice_get calls n ≡ Some call)
    (makes_shown : (s : Setting) (p : Past) → HasPast mid s p d1 → LeavesOnly d1 d2 (ShowsStep mid.layout s p (doubt_in (Some call)))) where
  shows : (s : Setting) (p : Past) → HasPast mid s p d1 → LeavesOnly d1 d2 (ShowsStep mid.layout s p (doubt_in (slice_get calls n)))
  shows s p has = subst (λ (o : Option StoreCall). LeavesOnly d1 d2 (ShowsStep mid.layout s p (doubt_in o))) (sym is) (makes_shown s p has)

  -- quiet calls leave the device
  pub quiet_on : ((s : Setting) (p : Past) → HasPast mid s p d1 → IsQuiet s p call → d2 ≡ d1) →
      (s : Setting) (p : Past) → HasPast old s p d0 → AreQuiet s p calls → d2 ≡ d0
  quiet_on quiet s p has are =
      let made = was.made s p has in
      quiet s made.0 made.2 (quiet_at s p made.0 calls n call are made.1 is) ∙ was.quiet s p has are

  -- whatever it answered
  pub shown_on : (s : Setting) (p : Past) → HasPast old s p d0 → LeavesOnly d0 d2 (ShowsAfterSome old.layout s p calls)
  shown_on s p has =
      let made = was.made s p has in
      and_then d0 d1 d2 (ShowsAfterSome old.layout s p calls) (was.shown s p has)
      (weaker d1 d2 (ShowsStep mid.layout s made.0 (doubt_in (slice_get calls n))) (ShowsAfterSome old.layout s p calls) (λ image shown. record {
        n = n;
        within = was.within;
        then = made.0;
        made = made.1;
        is = made.2.past;
        of_lanes = subst (λ l. IsOfLanes l.lanes (applied made.0)) was.layout (subst (λ n. IsOfLanes n (applied made.0)) made.2.layout.lanes made.2.remembers.of_lanes);
        shows = subst (λ l. ShowsStep l s made.0 (doubt_in (slice_get calls n)) image) was.layout shown;
      }) (shows s made.0 made.2))

  pub stands_on : (s : Setting) (p : Past) → HasPast old s p d0 → LeavesOnly d0 d2 (StandsAfterSome old.layout s p calls)
  stands_on s p has =
      let made = was.made s p has in
      and_then d0 d1 d2 (StandsAfterSome old.layout s p calls) (was.stands s p has)
      (weaker d1 d2 (ShowsStep mid.layout s made.0 (doubt_in (slice_get calls n))) (StandsAfterSome old.layout s p calls) (λ image shown. record {
        n = n;
        within = was.within;
        then = made.0;
        made = made.1;
        stands = subst (λ l. StandsForStep l s made.0 (doubt_in (slice_get calls n)) image) was.layout (past_stands mid s made.0 (doubt_in (slice_get calls n)) d1 made.2 image shown);
      }) (shows s made.0 made.2))

  pub takes_on : (new : Known) → TakesSequences 1 mid d1 new d2 → TakesSequences (length calls) old d0 new d2
  takes_on new takes = takes_more (n + 1) (length calls) old new d0 d2 (omega (arith, lt)) (takes_then n 1 old mid new d0 d1 d2 was.layout was.takes takes)

  pub writes_on : LeavesOnly d1 d2 (ImageBut d1 (step_ranges mid.layout)) → LeavesOnly d0 d2 (ImageBut d0 (step_ranges old.layout))
  writes_on writes = within_then (step_ranges old.layout) d0 d1 d2 was.writes (subst (λ l. LeavesOnly d1 d2 (ImageBut d1 (step_ranges l))) was.layout writes)

  pub played_more : (new : Known) → new.layout ≡ mid.layout → (mid.has_failed ≡ false) × (new.has_failed ≡ false) → d1.failures ≤ d2.failures → TakesSequences 1 mid d1 new d2 → LeavesOnly d1 d2 (ImageBut d1 (step_ranges mid.layout)) →
      ((s : Setting) (p : Past) → HasPast mid s p d1 → (q : Past) × Makes s p call q × HasPast new s q d2) →
      ((s : Setting) (p : Past) → HasPast mid s p d1 → IsQuiet s p call → d2 ≡ d1) → Played old new d0 d2 calls (n + 1)
  played_more new layout running later takes writes makes quiet = record {
    within = omega arith;
    layout = layout ∙ was.layout;
    running = running.1 ∙ sym running.0 ∙ was.running;
    later = omega (arith, was.later);
    takes = takes_then n 1 old mid new d0 d1 d2 was.layout was.takes takes;
    writes = writes_on writes;
    made = λ s p has.
        let made = was.made s p has in
        let next = makes s made.0 made.2 in
        let longer : take (n + 1) calls ≡ take n calls ++ call ∷ [] = take_more calls n call lt ∙ ap (λ c. take n calls ++ c ∷ []) (get_or_from_slice_get calls n call call is) in
        (next.0, subst (λ cs. MakeAll s p cs next.0) (sym longer) (made_more s p made.0 next.0 (take n calls) call made.1 next.1), next.2);
    shown = shown_on;
    stands = stands_on;
    quiet = quiet_on quiet;
  }

  pub stopped : (new : Known) (reason : StoreError) → ((s : Setting) (p : Past) → HasPast mid s p d1 → RefusesCall mid s p call reason) →
      ((s : Setting) (p : Past) → HasPast mid s p d1 → HasPast new s p d2) → (reason ≡ Fault) ⊎ (new ≡ mid) → (reason ≡ Fault) ⊎ (d2 ≡ d1) → (s : Setting) (p : Past) → HasPast old s p d0 → StoppedAt s p calls old new d2 n reason
  stopped new reason refuses kept unchanged untouched s p has =
      let made = was.made s p has in
      record { call = call; is = is; then = made.0; made = made.1; has = kept s made.0 made.2; known = mid; device = d1; had = made.2; running = was.running; refused = refuses s made.0 made.2; unchanged = ⊎_elim (λ fault. inl fault) (λ same. inr (sym same)) unchanged; untouched = ⊎_elim (λ fault. inl fault) (λ same. inr (sym same)) untouched }

-- all of them
pub played_all : (old new : Known) (d0 d1 : Device) (calls : List StoreCall) (n : ℕ) → Played old new d0 d1 calls n → length calls ≤ n →
    (s : Setting) (p : Past) → HasPast old s p d0 → (q : Past) × MakeAll s p calls q × HasPast new s q d1
played_all old new d0 d1 calls n was le s p has = subst (λ cs. (q : Past) × MakeAll s p cs q × HasPast new s q d1) (take_all n calls le) (was.made s p has)

pub takes_all : (old new : Known) (d0 d1 : Device) (calls : List StoreCall) (n : ℕ) → Played old new d0 d1 calls n → TakesSequences (length calls) old d0 new d1
takes_all old new d0 d1 calls n was = takes_more n (length calls) old new d0 d1 was.within was.takes

-- a fault has its cause, whatever was called before
pub fault_since : {T : Type 0} (a b c : ℕ) (result : Result T StoreError) (reason : StoreError) → a ≤ b → HasCause b c Fault result → result ≡ Err reason → reason ≡ Fault → HasFailed a c
fault_since {T} a b c result reason le cause is fault = failed_since a b c le (cause.failed (is ∙ ap (λ e. Err e) fault))

-- what is in doubt after a fault
pub fault_leaves : {T : Type 0} (calls : List StoreCall) (n : ℕ) (call : StoreCall) (result : Result T StoreError) (reason : StoreError) (w : Doubt) → slice_get calls n ≡ Some call →
    (IsErrOf result Fault → w ≡ doubt_in (Some call)) → result ≡ Err reason → reason ≡ Fault → w ≡ doubt_in (slice_get calls n)
fault_leaves {T} calls n call result reason w at leaves is fault = leaves (is ∙ ap (λ e. Err e) fault) ∙ sym (ap (λ (o : Option StoreCall). doubt_in o) at)

-- each image that they left shows what some of the first n calls made of the past
abbrev pub ShowsFirst : (old : Known) (d0 d1 : Device) (calls : List StoreCall) (n : ℕ) → Type 0
ShowsFirst old d0 d1 calls n = (s : Setting) (p : Past) → HasPast old s p d0 → LeavesOnly d0 d1 (ShowsAfterSome old.layout s p (take n calls))

-- the run as it stood after the first k calls, and as it went on
pub record Split (old new : Known) (d0 d1 : Device) (calls : List StoreCall) (n k : ℕ) : Type 0 where
  known : Known
  device : Device
  before : Played old known d0 device calls k
  first : ShowsFirst old d0 device calls k
  after : Played known new device d1 (drop k calls) (n - k)

-- so many calls were made, and after each of them the others went on from there
pub record PlayedOn (old new : Known) (d0 d1 : Device) (calls : List StoreCall) (n : ℕ) : Type 0 where
  pub played : Played old new d0 d1 calls n
  pub first : ShowsFirst old d0 d1 calls n
  pub splits : (k : ℕ) → k ≤ n → Split old new d0 d1 calls n k

pub begins_on : (old : Known) (d : Device) (calls : List StoreCall) → PlayedOn old old d d calls 0
begins_on old d calls = record {
  played = played_none old d calls;
  first = λ s p has. begin d (ShowsAfterSome old.layout s p (take 0 calls));
  splits = λ k le. subst (λ (j : ℕ). Split old old d d calls 0 j) (let none : 0 ≡ k = omega (arith, le) in none)
      (record { known = old; device = d; before = played_none old d calls; first = λ s p has. begin d (ShowsAfterSome old.layout s p (take 0 calls)); after = played_none old d (drop 0 calls) });
}

-- a call behind the first k
call_behind : (calls : List StoreCall) (n k : ℕ) (call : StoreCall) → k ≤ n → n < length calls → slice_get calls n ≡ Some call → slice_get (drop k calls) (n - k) ≡ Some call
call_behind calls n k call le lt is =
    let place : k + (n - k) ≡ n = omega (arith, le) in
    slice_get-get_or (drop k calls) (n - k) call (omega (arith, length-drop k calls, le, lt))
    ∙ ap (λ c. Some c) (get_or-drop k calls (n - k) call ∙ ap (λ i. get_or calls i call) place ∙ get_or_from_slice_get calls n call call is)

module _ (old mid : Known) (d0 d1 d2 : Device) (calls : List StoreCall) (n : ℕ) (was : PlayedOn old mid d0 d1 calls n) (lt : n < length calls) (call : StoreCall) (is : slice_get calls n ≡ Some call)
    (makes_shown : (s : Setting) (p : Past) → HasPast mid s p d1 → LeavesOnly d1 d2 (ShowsStep mid.layout s p (doubt_in (Some call)))) where
  behind_lt : (k : ℕ) → k ≤ n → n - k < length (drop k calls)
  behind_lt k le = omega (arith, length-drop k calls, le, lt)

  -- with one call more
  first_on : ShowsFirst old d0 d2 calls (n + 1)
  first_on s p has =
      let made = was.played.made s p has in
      let longer : take (n + 1) calls ≡ take n calls ++ call ∷ [] = take_more calls n call lt ∙ ap (λ c. take n calls ++ c ∷ []) (get_or_from_slice_get calls n call call is) in
      let more : List ℕ → Type 0 = ShowsAfterSome old.layout s p (take n calls ++ call ∷ []) in
      subst (λ (cs : List StoreCall). LeavesOnly d0 d2 (ShowsAfterSome old.layout s p cs)) (sym longer)
      (and_then d0 d1 d2 more (weaker d0 d1 (ShowsAfterSome old.layout s p (take n calls)) more (some_of_more old.layout s p (take n calls) call) (was.first s p has))
      (weaker d1 d2 (ShowsStep mid.layout s made.0 (doubt_in (Some call))) more (λ image shown. record {
        n = n;
        within = within_more calls n call lt;
        then = made.0;
        made = subst (λ cs. MakeAll s p cs made.0) (sym (first_of_more calls n call lt)) made.1;
        is = made.2.past;
        of_lanes = subst (λ l. IsOfLanes l.lanes (applied made.0)) was.played.layout (subst (λ n. IsOfLanes n (applied made.0)) made.2.layout.lanes made.2.remembers.of_lanes);
        shows = subst (λ (o : Option StoreCall). ShowsStep old.layout s made.0 (doubt_in o) image) (sym (next_of_more calls n call lt))
            (subst (λ l. ShowsStep l s made.0 (doubt_in (Some call)) image) was.played.layout shown);
      }) (makes_shown s made.0 made.2)))

  -- one call more
  pub played_on : (new : Known) → new.layout ≡ mid.layout → (mid.has_failed ≡ false) × (new.has_failed ≡ false) → d1.failures ≤ d2.failures → TakesSequences 1 mid d1 new d2 → LeavesOnly d1 d2 (ImageBut d1 (step_ranges mid.layout)) →
      ((s : Setting) (p : Past) → HasPast mid s p d1 → (q : Past) × Makes s p call q × HasPast new s q d2) →
      ((s : Setting) (p : Past) → HasPast mid s p d1 → IsQuiet s p call → d2 ≡ d1) → PlayedOn old new d0 d2 calls (n + 1)
  played_on new layout running later takes writes makes quiet =
      let more : Played old new d0 d2 calls (n + 1) = played_more old mid d0 d1 d2 calls n was.played lt call is makes_shown new layout running later takes writes makes quiet in
      record {
        played = more;
        first = first_on;
        splits = λ k le. elim (cases_lt n k) [
          | inl all ↦
              let same : n + 1 ≡ k = omega (arith, all, le) in
              let none : 0 ≡ n + 1 - k = omega (arith, same) in
              record {
                known = new;
                device = d2;
                before = subst (Played old new d0 d2 calls) same more;
                first = subst (ShowsFirst old d0 d2 calls) same first_on;
                after = subst (Played new new d2 d2 (drop k calls)) none (played_none new d2 (drop k calls));
              }
          | inr some ↦
              let split = was.splits k some in
              let place : n - k + 1 ≡ n + 1 - k = omega (arith, some) in
              record {
                known = split.known;
                device = split.device;
                before = split.before;
                first = split.first;
                after = subst (Played split.known new split.device d2 (drop k calls)) place
                    (played_more split.known mid split.device d1 d2 (drop k calls) (n - k) split.after (behind_lt k some) call (call_behind calls n k call some lt is) makes_shown new layout running later takes writes makes quiet);
              }
        ];
      }

  -- whatever the next call answered
  pub reached_on : (s : Setting) (p : Past) → HasPast old s p d0 → (k : ℕ) → k ≤ n → Reached s p calls old d0 d2 k
  reached_on s p has k le =
      let split = was.splits k le in
      let made = split.before.made s p has in
      let rest = shown_on split.known mid split.device d1 d2 (drop k calls) (n - k) split.after (behind_lt k le) call (call_behind calls n k call le lt is) makes_shown s made.0 made.2 in
      record {
        then = made.0;
        made = made.1;
        known = split.known;
        device = split.device;
        has = made.2;
        layout = split.before.layout;
        running = split.before.running;
        since = (split.before.shown s p has).later;
        rest = subst (λ l. LeavesOnly split.device d2 (ShowsAfterSome l s made.0 (drop k calls))) split.before.layout rest;
        before = early d0 split.device d2 (ShowsAfterSome old.layout s p (take k calls)) (split.first s p has) rest.grows;
      }

-- and when all were made
pub reached_all : (old new : Known) (d0 d1 : Device) (calls : List StoreCall) (n : ℕ) → PlayedOn old new d0 d1 calls n → length calls ≤ n →
    (s : Setting) (p : Past) → HasPast old s p d0 → (k : ℕ) → k ≤ length calls → Reached s p calls old d0 d1 k
reached_all old new d0 d1 calls n was le s p has k low =
    let split = was.splits k (omega (arith, low, le)) in
    let made = split.before.made s p has in
    let rest = split.after.shown s made.0 made.2 in
    record {
      then = made.0;
      made = made.1;
      known = split.known;
      device = split.device;
      has = made.2;
      layout = split.before.layout;
      running = split.before.running;
      since = (split.before.shown s p has).later;
      rest = subst (λ l. LeavesOnly split.device d1 (ShowsAfterSome l s made.0 (drop k calls))) split.before.layout rest;
      before = early d0 split.device d1 (ShowsAfterSome old.layout s p (take k calls)) (split.first s p has) rest.grows;
    }
