-- What a store was told of a history, in whatever order, keeps the history's heap.
use Rattle.std.proofs.Common.{ℕ, zero, suc, ◌≡◌, ◌+◌, ◌<◌, ◌≤◌, ◌⊎◌, ◌==◌, if◌then◌else◌, true, false, List, [], ◌∷◌, ◌++◌, map, refl, sym, ap, ◌∙◌, subst, inl, inr, arith, append_assoc}
use Rattle.std.specs.Prelude.{take}
use Rattle.std.proofs.lemmas.Bool.Decides.{eqb_tells}
use Rattle.std.proofs.lemmas.List.{map-append}
use Rattle.heap_model.specs.declared.event.Event.{Event}
use Rattle.heap_model.specs.declared.record.Record.{Record}
use Rattle.heap_model.specs.declared.record.Record.TheVariants.{Acq, Rel, WaitRel, Put}
use Rattle.heap_model.specs.Setting.{Setting}
use Rattle.heap_model.specs.History.{IsLegalHistory, log_of}
use Rattle.law_histories.specs.Laws.{LogLaw, OrderLaw}
use Rattle.heap_model.specs.Log.{lane, number, IsLegal, IsLaneWisePrefix}
use Rattle.heap_model.specs.Sections.{Action, Takes, Frees, Stores, action, actions, ended, Section, Did, Earlier, Took}
use Rattle.heap_model.specs.Cuts.{Counts, IsWhole, IsClosed}
use Rattle.law_cuts.proofs.Chain.{took_had, Freed, freed_below}
use Rattle.law_cuts.proofs.Lanes.{lane_actions, lane_append}
use Rattle.law_cuts.proofs.Next.{freed_past, legal_before}
use Rattle.law_cuts.proofs.Stores.{ended_rises}
use Rattle.durable.specs.Calls.{MakeAll, Makes}
use Rattle.durable.specs.declared.store_call.StoreCall.{StoreCall}
use Rattle.durable.specs.declared.store_call.StoreCall.TheVariants.{Apply, Log, Home as HomeStep, Settle, Trim}
use Rattle.store_image.specs.declared.home.Home.TheVariants.{Wrote, Done}
use Rattle.store_image.proofs.Stands.{same_heap}
use Rattle.image_parts.specs.declared.layout.Layout.{Layout}
use Rattle.store_image.specs.KeptHeap.{kept_heap}
use Rattle.heap_model.specs.Past.{Past, IsPast, applied}
use Rattle.law_survival.specs.History.{AppliesHistory, HistoryLaw, KeepsHistory, applied_by}
use Rattle.law_survival.proofs.LaneParts.{lane_own, lane_other}

-- What a section did is told by its lane alone.

abbrev LaneDid : List Action → (number : ℕ) → Action → Type 0
LaneDid [] k act = ⊥
LaneDid (x ∷ older) k act = ((k ≡ ended older + 1) × (act ≡ x)) ⊎ LaneDid older k act

lane_did : (log : List (ℕ × Action)) (a : Section) (act : Action) → Did log a act → LaneDid (lane a.lane log) a.number act
lane_did [] a act did = absurd did
lane_did ((m, x) ∷ older) a act (inl here) =
    let lanes : m ≡ a.lane = ap (λ (s : Section). s.lane) (sym here.0) in
    subst (λ (xs : List Action). LaneDid xs a.number act) (sym (lane_own a.lane m x older lanes))
    (inl (ap (λ (s : Section). s.number) here.0 ∙ ap (λ (k : ℕ). ended (lane k older) + 1) lanes, here.1))
lane_did ((m, x) ∷ older) a act (inr did) = elim (m == a.lane) as (λ b. LaneDid (if b then x ∷ lane a.lane older else lane a.lane older) a.number act) [
  | true ↦ inr (lane_did older a act did)
  | false ↦ lane_did older a act did
]

did_lane : (log : List (ℕ × Action)) (a : Section) (act : Action) → LaneDid (lane a.lane log) a.number act → Did log a act
did_lane [] a act did = absurd did
did_lane ((m, x) ∷ older) a act did = elim (eqb_tells m a.lane) [
  | inl e ↦ elim (subst (λ (xs : List Action). LaneDid xs a.number act) (lane_own a.lane m x older e.1) did) [
    | inl here ↦
        let numbers : a.number ≡ ended (lane m older) + 1 = here.0 ∙ ap (λ (k : ℕ). ended (lane k older) + 1) (sym e.1) in
        inl ((λ i. record { lane = sym e.1 i; number = numbers i }), here.1)
    | inr before ↦ inr (did_lane older a act before)
  ]
  | inr e ↦ inr (did_lane older a act (subst (λ (xs : List Action). LaneDid xs a.number act) (lane_other a.lane m x older e.0) did))
]

ended_more : (more xs : List Action) → ended xs ≤ ended (more ++ xs)
ended_more [] xs = omega arith
ended_more (x ∷ more) xs = omega (arith, ended_more more xs, ended_rises x (more ++ xs))

-- what a section that has ended did stands already
did_first : (more xs : List Action) (k : ℕ) (act : Action) → LaneDid (more ++ xs) k act → k ≤ ended xs → LaneDid xs k act
did_first [] xs k act did le = did
did_first (x ∷ more) xs k act (inl here) le = absurd (omega (arith, here.0, le, ended_more more xs))
did_first (x ∷ more) xs k act (inr did) le = did_first more xs k act did le

did_more : (more xs : List Action) (k : ℕ) (act : Action) → LaneDid xs k act → LaneDid (more ++ xs) k act
did_more [] xs k act did = did
did_more (x ∷ more) xs k act did = inr (did_more more xs k act did)

-- An object is freed once under each number.
frees_anew : (s : Setting) (older : List (ℕ × Record)) (o n p k : ℕ) (b : Section) → IsLegal s older → number p older ≡ k → Frees o n ≡ Frees p k → Did (actions older) b (Frees o n) → ⊥
frees_anew s older o n p k b legal e act h =
    let objects : p ≡ o = cc in
    let numbers : n ≡ k = cc in
    let same : number o older ≡ k = ap (λ (x : ℕ). number x older) (sym objects) ∙ e in
    omega (arith, same, numbers, freed_past s older o n b legal h)

same_freer : (s : Setting) (log : List (ℕ × Record)) (o n : ℕ) (a b : Section) → IsLegal s log → Did (actions log) a (Frees o n) → Did (actions log) b (Frees o n) → a ≡ b
same_freer s [] o n a b legal h i = absurd h
same_freer s ((m, r) ∷ older) o n a b legal (inl h) (inl i) = h.0 ∙ sym i.0
same_freer s ((m, r) ∷ older) o n a b legal (inr h) (inr i) = same_freer s older o n a b legal.0 h i
same_freer s ((m, Rel p k) ∷ older) o n a b legal (inl h) (inr i) = absurd (frees_anew s older o n p.0 k b legal.0 legal.1.1 h.1 i)
same_freer s ((m, Rel p k) ∷ older) o n a b legal (inr h) (inl i) = absurd (frees_anew s older o n p.0 k a legal.0 legal.1.1 i.1 h)
same_freer s ((m, WaitRel p k) ∷ older) o n a b legal (inl h) (inr i) = absurd (frees_anew s older o n p.0 k b legal.0 legal.1.1 h.1 i)
same_freer s ((m, WaitRel p k) ∷ older) o n a b legal (inr h) (inl i) = absurd (frees_anew s older o n p.0 k a legal.0 legal.1.1 i.1 h)
same_freer s ((m, Acq p k) ∷ older) o n a b legal (inl h) (inr i) = absurd (let act : Frees o n ≡ Takes p.0 k = h.1 in cc)
same_freer s ((m, Acq p k) ∷ older) o n a b legal (inr h) (inl i) = absurd (let act : Frees o n ≡ Takes p.0 k = i.1 in cc)
same_freer s ((m, Put f v w) ∷ older) o n a b legal (inl h) (inr i) = absurd (let act : Frees o n ≡ Stores = h.1 in cc)
same_freer s ((m, Put f v w) ∷ older) o n a b legal (inr h) (inl i) = absurd (let act : Frees o n ≡ Stores = i.1 in cc)

-- A whole closed cut is one of each legal list that has the lanes' records, in whatever order.
module _ (s : Setting) (log longer : List (ℕ × Record)) (legal : IsLegal s log) (all_legal : IsLegal s longer) (first : IsLaneWisePrefix log longer) (cut : ℕ → ℕ) (whole : IsWhole (actions log) cut) where
  abbrev later : ℕ → List Action
  later l = map action (first l).0

  lane_longer : (l : ℕ) → lane l (actions longer) ≡ later l ++ lane l (actions log)
  lane_longer l = lane_actions l longer ∙ ap (map action) (first l).1 ∙ map-append action (first l).0 (lane l log) ∙ ap (λ (xs : List Action). later l ++ xs) (sym (lane_actions l log))

  whole_there : IsWhole (actions longer) cut
  whole_there l = omega (arith, whole l, ended_more (later l) (lane l (actions log)), ap ended (lane_longer l))

  did_here : (a : Section) (act : Action) → Counts cut a → Did (actions longer) a act → Did (actions log) a act
  did_here a act counted did = did_lane (actions log) a act
      (did_first (later a.lane) (lane a.lane (actions log)) a.number act
      (subst (λ (xs : List Action). LaneDid xs a.number act) (lane_longer a.lane) (lane_did (actions longer) a act did)) (omega (arith, counted, whole a.lane)))

  did_there : (a : Section) (act : Action) → Did (actions log) a act → Did (actions longer) a act
  did_there a act did = did_lane (actions longer) a act
      (subst (λ (xs : List Action). LaneDid xs a.number act) (sym (lane_longer a.lane)) (did_more (later a.lane) (lane a.lane (actions log)) a.number act (lane_did (actions log) a act did)))

  closed_there : IsClosed (actions log) cut → IsClosed (actions longer) cut
  closed_there closed a b counted (Earlier e lt) = closed a b counted (Earlier e lt)
  closed_there closed a b counted (Took o n took freed differ) =
      let took_here : Did (actions log) a (Takes o (n + 1)) = did_here a (Takes o (n + 1)) counted took in
      let upto : n < number o log = elim (took_had s log o (n + 1) a legal took_here) [ inl p ↦ omega (arith, p.0) | inr p ↦ omega (arith, p.0) ] in
      let f : Freed log o n = freed_below s log o n legal upto in
      let same : f.by ≡ b = same_freer s longer o n f.by b all_legal (did_there f.by (Frees o n) f.freed) freed in
      subst (λ (x : Section). Counts cut x) same (closed a f.by counted (Took o n took_here f.freed (λ e. differ (e ∙ same))))

-- What the calls apply.

applied_all : (calls : List StoreCall) (before : List (ℕ × Record)) → (newer : List (ℕ × Record)) × (applied_by calls before ≡ newer ++ before)
applied_all [] before = ([], refl)
applied_all (Apply l r ∷ calls) before =
    let h = applied_all calls ((l.0, r) ∷ before) in
    (h.0 ++ (l.0, r) ∷ [], h.1 ∙ sym (append_assoc h.0 ((l.0, r) ∷ []) before))
applied_all (Log ∷ calls) before = applied_all calls before
applied_all (HomeStep ∷ calls) before = applied_all calls before
applied_all (Settle ∷ calls) before = applied_all calls before
applied_all (Trim ∷ calls) before = applied_all calls before

applied_more : (n : ℕ) (calls : List StoreCall) (before : List (ℕ × Record)) → (newer : List (ℕ × Record)) × (applied_by calls before ≡ newer ++ applied_by (take n calls) before)
applied_more zero calls before = applied_all calls before
applied_more (suc n) [] before = ([], refl)
applied_more (suc n) (Apply l r ∷ calls) before = applied_more n calls ((l.0, r) ∷ before)
applied_more (suc n) (Log ∷ calls) before = applied_more n calls before
applied_more (suc n) (HomeStep ∷ calls) before = applied_more n calls before
applied_more (suc n) (Settle ∷ calls) before = applied_more n calls before
applied_more (suc n) (Trim ∷ calls) before = applied_more n calls before

made_one : (s : Setting) (p q : Past) (call : StoreCall) (calls : List StoreCall) → Makes s p call q → applied_by calls (applied q) ≡ applied_by (call ∷ calls) (applied p)
made_one s p q (Apply l r) calls made = ap (λ (x : Past). applied_by calls (applied x)) made.1
made_one s p q Log calls made = ap (λ (x : Past). applied_by calls (applied x)) made
made_one s p q HomeStep calls (Wrote f, answers, same) = ap (λ (x : Past). applied_by calls (applied x)) same
made_one s p q HomeStep calls (Done, answers, same) = ap (λ (x : Past). applied_by calls (applied x)) same
made_one s p q Settle calls made = ap (λ (x : Past). applied_by calls (applied x)) made.3
made_one s p q Trim calls made = ap (λ (x : Past). applied_by calls (applied x)) made

pub made_all : (s : Setting) (p q : Past) (calls : List StoreCall) → MakeAll s p calls q → applied q ≡ applied_by calls (applied p)
made_all s p q [] made = ap applied made
made_all s p q (call ∷ calls) (mid, one, rest) = made_all s mid q calls rest ∙ made_one s p mid call calls one

-- the older part of a list has the beginning of each lane
pub older_first : (newer older all : List (ℕ × Record)) → IsLaneWisePrefix (newer ++ older) all → IsLaneWisePrefix older all
older_first newer older all first l = (
  (first l).0 ++ lane l newer,
  (first l).1 ∙ ap (λ (xs : List Record). (first l).0 ++ xs) (lane_append l newer older) ∙ sym (append_assoc (first l).0 (lane l newer) (lane l older)),
)

-- what was logged is, thread by thread, the beginning of what the history logs
logged_first : (s : Setting) (p reached : Past) (calls : List StoreCall) (n : ℕ) (history : List (ℕ × Event)) → MakeAll s p (take n calls) reached → AppliesHistory s p calls history → IsLaneWisePrefix reached.logged (log_of s history)
logged_first s p reached calls n history made told =
    let more = applied_more n calls (applied p) in
    let parts : applied_by calls (applied p) ≡ more.0 ++ (reached.fresh ++ reached.logged) = more.1 ∙ ap (λ (xs : List (ℕ × Record)). more.0 ++ xs) (sym (made_all s p reached (take n calls) made)) in
    older_first reached.fresh reached.logged (log_of s history)
    (older_first more.0 (reached.fresh ++ reached.logged) (log_of s history) (subst (λ (xs : List (ℕ × Record)). IsLaneWisePrefix xs (log_of s history)) parts told))

-- what is kept of a past is of the history, of whose logs it has the beginning
pub keeps_history : LogLaw → OrderLaw → (l : Layout) (s : Setting) (reached : Past) (history : List (ℕ × Event)) (heap : List ℕ) (cut : ℕ → ℕ) → IsPast s reached → IsLegalHistory s history →
    IsLaneWisePrefix reached.logged (log_of s history) → IsWhole (actions reached.logged) cut → IsClosed (actions reached.logged) cut → heap ≡ kept_heap l s reached.logged cut → KeepsHistory l s history cut heap
keeps_history log_legal in_order l s reached history heap cut is legal first whole closed heap_is =
    let here : IsLegal s reached.logged = legal_before s reached.fresh reached.logged is.legal in
    let all_legal : IsLegal s (log_of s history) = log_legal s history legal in
    record {
      whole = whole_there s reached.logged (log_of s history) here all_legal first cut whole;
      closed = closed_there s reached.logged (log_of s history) here all_legal first cut whole closed;
      heap_is = heap_is ∙ same_heap l s reached.logged (log_of s history) cut (λ f. in_order s reached.logged (log_of s history) here all_legal first cut whole f);
    }

pub of_history : LogLaw → OrderLaw → HistoryLaw
of_history log_legal in_order x s p calls history heap kept legal told by =
    keeps_history log_legal in_order x.layout s by.then history heap by.cut by.is legal (logged_first s p by.then calls by.n history by.made told) by.whole by.closed by.heap_is
