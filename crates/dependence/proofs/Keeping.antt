-- What is true of a graph's fields stays so.
use Rattle.std.proofs.Common.{ℕ, ◌≡◌, ◌+◌, ◌-◌, ◌*◌, ◌<◌, ◌≤◌, false, List, [], ◌∷◌, ◌++◌, All, length, get_or, reverse, take, drop, replicate, slice_index, vec_len, vec_capacity, None, sym, ap, ◌∙◌, subst, inl, inr, arith, zero-add}
use Rattle.std.proofs.lemmas.Bool.{cases_lt}
use Rattle.std.proofs.lemmas.List.{length-reverse, get_or_past, get_or-replicate, take_more, take-append-drop, reverse-append}
use Rattle.heap_model.specs.declared.cut.Cut.{Cut}
use Rattle.heap_model.specs.Cuts.{counts_of}
use Rattle.heap_model.specs.Log.{lane}
use Rattle.heap_model.specs.Sections.{Action, Stores, undo_action, ended}
use Rattle.law_cuts.specs.Plain.{takes_after, IsClosedOver, IsGreatest}
use Rattle.dependence.specs.declared.step.Step.{Step}
use Rattle.dependence.specs.declared.links.Links.{Links}
use Rattle.dependence.specs.declared.neighbours.Neighbours.{Neighbours}
use Rattle.dependence.specs.declared.graph.Graph.TheInside.{Inside}
use Rattle.dependence.specs.Trace.{sections_of, growth, unanswered, IsStableOf}
use Rattle.dependence.specs.Next.{IsNext, IsObjectBelow}
use Rattle.dependence.specs.Steps.{did, log_of, HasSections, reading}
use Rattle.dependence.specs.Links.{act_at, before_in, partner_in}
use Rattle.dependence.specs.Kept.{IsCounted, IsInOrder, Rises, IsLinked, HasRoom}
use Rattle.dependence.specs.Inside.{trace_of, IsAtHand, IsKept}
use Rattle.dependence.specs.Search.{IsAnswered, IsFound, IsSorted, AreCauses}
use Rattle.dependence.proofs.Places.{at_old, at_new, length_snoc, length_map, reverse_snoc}
use Rattle.dependence.proofs.Counted.{order_next, ended_cons, sorted, lanes_low}
use Rattle.dependence.proofs.Causes.{causes_push, causes_none}
use Rattle.dependence.proofs.Answering.{closed_push}
use Rattle.dependence.proofs.Sums.{in_all_le, sections_few, growth_le}
use Rattle.dependence.proofs.Steady.{stable_since, above_base}

pub zeros : (l : ℕ) → slice_index (replicate 32 0) l ≡ 0
zeros l = elim (cases_lt l 32) [ inl lt ↦ get_or-replicate 32 l 0 0 lt | inr ge ↦ get_or_past (replicate 32 0) l 0 ge ]

pub kept_stable : (g : Inside) (cut : ℕ → ℕ) → IsKept g → IsGreatest reading g.steps.items (slice_index g.ended) cut → IsStableOf (trace_of g) cut
kept_stable g cut kept greatest = record {
  since = λ l. cut l - slice_index g.base l;
  stable = stable_since (slice_index g.base) g.steps.items kept.numbered (slice_index g.ended) cut kept.counted.whole greatest;
  counts = λ l. omega (arith, above_base (slice_index g.base) g.steps.items kept.numbered (slice_index g.ended) cut kept.counted.whole greatest l);
}

pub sorted_steps : (g : Inside) → IsKept g → IsSorted g.steps.items g.lanes
sorted_steps g kept = sorted (slice_index g.base) g.steps.items kept.numbered g.lanes (lanes_low g.steps.items g.lanes kept.low)

-- no more sections are unanswered than there are steps
pub beyond_few : (g : Inside) → IsKept g → growth g.lanes (slice_index g.ended) (counts_of g.answered) ≤ length g.steps.items
beyond_few g kept = omega (
  arith,
  in_all_le g.lanes (λ l. slice_index g.ended l - counts_of g.answered l) (λ l. ended (lane l (log_of (reverse g.steps.items)))) (λ l lt. omega (arith, kept.counted.whole l, kept.answered.past l)),
  sections_few g.lanes (log_of (reverse g.steps.items)),
  length_map did (reverse g.steps.items),
  length-reverse g.steps.items,
)

unanswered_is : (g : Inside) → IsKept g → unanswered (trace_of g) ≡ growth g.lanes (slice_index g.ended) (counts_of g.answered)
unanswered_is g kept = omega (
  arith,
  growth_le g.lanes (sections_of (trace_of g)) (slice_index g.ended) (counts_of g.answered) (λ l. omega (arith, kept.counted.whole l)),
  growth_le g.lanes (slice_index g.ended) (sections_of (trace_of g)) (counts_of g.answered) (λ l. omega (arith, kept.counted.whole l)),
)

-- the looks are within the bound
pub few_looks : (g : Inside) (cut : ℕ → ℕ) (looks : ℕ) → IsKept g → IsFound g.lanes g.steps.items (slice_index g.ended) (counts_of g.answered) cut looks → looks ≤ unanswered (trace_of g) * (unanswered (trace_of g) + 1)
few_looks g cut looks kept found = subst (λ (n : ℕ). looks ≤ n * (n + 1)) (sym (unanswered_is g kept)) found.most

-- the links of no steps
pub linked_none : (k : Links) → k.newest ≡ replicate 32 0 → k.beside.items ≡ [] → length k.freed.items ≡ 4096 → IsLinked [] k
linked_none k newest beside freed = record {
  chained = record {
    count = ap (λ (xs : List Neighbours). length (before_in xs)) beside;
    newest_is = λ l c h. absurd (let none : slice_index k.newest l ≡ 0 = ap (λ (xs : List ℕ). slice_index xs l) newest ∙ zeros l in omega arith);
    newest_last = λ i lt. absurd (let no : i < 0 = lt in omega arith);
    before_is = λ i c lt h. absurd (let no : i < 0 = lt in omega arith);
    before_last = λ i j lt less same. absurd (let no : i < 0 = lt in omega arith);
  };
  paired = record {
    count = ap (λ (xs : List Neighbours). length (partner_in xs)) beside;
    taker = λ i j h. absurd (let f : takes_after (act_at [] j) (act_at [] i) ≡ false = ap (λ x. takes_after x (act_at [] i)) (get_or_past {X = Action} [] j Stores (omega arith)) in cc);
    releaser = λ i j h. absurd (let f : takes_after (act_at [] j) (act_at [] i) ≡ false = ap (λ x. takes_after x (act_at [] i)) (get_or_past {X = Action} [] j Stores (omega arith)) in cc);
    last = λ i o n h. absurd (let f : act_at [] i ≡ Stores = get_or_past {X = Action} [] i Stores (omega arith) in cc);
  };
  rows = ap (λ (xs : List ℕ). length xs) newest;
  objects = freed;
}

all_snoc : (P : Step → Type 0) (steps : List Step) (s : Step) → All P steps → P s → All P (steps ++ s ∷ [])
all_snoc P steps s all p k d lt = elim (cases_lt k (length steps)) [
  | inl early ↦ subst P (sym (at_old steps s d k early)) (all k d early)
  | inr late ↦ subst P (sym (at_new steps s d k (omega (arith, length_snoc steps s)))) p
]

-- no cut is kept
pub no_cut : (g : Inside) → g.stable ≡ None → IsAtHand g g.stable
no_cut g e = subst (IsAtHand g) (sym e) tt

-- the cut that was answered, with one more step
answered_push : (old new : Inside) (s : Step) → IsKept old → new.base ≡ old.base → new.steps.items ≡ old.steps.items ++ s ∷ [] → s.section ≡ slice_index old.ended s.lane.0 + 1 → IsNext (log_of (reverse old.steps.items)) s.lane.0 (undo_action s.entry) →
    IsCounted (slice_index old.base) (did s ∷ log_of (reverse old.steps.items)) new.ended new.held → new.answered ≡ old.answered → IsAnswered new.steps.items (slice_index new.base) (slice_index new.ended) (counts_of new.answered)
answered_push old new s kept base items section next counted answered = record {
  past = λ l.
      let base_is : slice_index new.base l ≡ slice_index old.base l = ap (λ (xs : List ℕ). slice_index xs l) base in
      let answered_is : counts_of new.answered l ≡ counts_of old.answered l = ap (λ (c : Cut). counts_of c l) answered in
      omega (arith, kept.answered.past l);
  below = λ l.
      let answered_is : counts_of new.answered l ≡ counts_of old.answered l = ap (λ (c : Cut). counts_of c l) answered in
      omega (arith, kept.answered.below l, kept.counted.whole l, counted.whole l, ended_cons (did s) (log_of (reverse old.steps.items)) l);
  closed = subst (λ (c : Cut). IsClosedOver reading new.steps.items (counts_of c)) (sym answered) (subst (λ (xs : List Step). IsClosedOver reading xs (counts_of old.answered)) (sym items)
      (closed_push old.steps.items s (counts_of old.answered) (order_next (log_of (reverse old.steps.items)) s.lane.0 (undo_action s.entry) next) (omega (arith, section, kept.answered.below s.lane.0)) kept.answered.closed));
}

-- the fields with one more step
pub kept_push : (old new : Inside) (s : Step) → IsKept old → new.lanes ≡ old.lanes → new.base ≡ old.base → new.steps.items ≡ old.steps.items ++ s ∷ [] →
    HasRoom new.links (vec_capacity new.steps - vec_len new.steps) → (xs : List Step) → xs ≡ old.steps.items → IsLinked (xs ++ s ∷ []) new.links →
    s.lane.0 < old.lanes → IsObjectBelow 4096 s.entry → s.section ≡ slice_index old.ended s.lane.0 + 1 → IsNext (log_of (reverse old.steps.items)) s.lane.0 (undo_action s.entry) →
    IsCounted (slice_index old.base) (did s ∷ log_of (reverse old.steps.items)) new.ended new.held → new.answered ≡ old.answered → new.causes ≡ old.causes → new.found_among ≡ old.found_among → IsKept new
kept_push old new s kept lanes base items links_room xs same linked low named section next counted answered causes before =
    let steps : new.steps.items ≡ old.steps.items ++ s ∷ [] = items in
    let more : length new.steps.items ≡ length old.steps.items + 1 = ap (λ (xs : List Step). length xs) items ∙ length_snoc old.steps.items s in
    let back : reverse new.steps.items ≡ s ∷ reverse old.steps.items = ap (λ (xs : List Step). reverse xs) items ∙ reverse_snoc old.steps.items s in
    let number : s.section ≡ ended (lane s.lane.0 (log_of (reverse old.steps.items))) + 1 + slice_index old.base s.lane.0 = omega (arith, kept.counted.whole s.lane.0) in
    record {
      lanes = omega (arith, kept.lanes);
      low = subst (λ (xs : List Step). All (λ t. t.lane.0 < new.lanes) xs) (sym items) (subst (λ (n : ℕ). All (λ t. t.lane.0 < n) (old.steps.items ++ s ∷ [])) (sym lanes) (all_snoc (λ t. t.lane.0 < old.lanes) old.steps.items s kept.low low));
      named = subst (λ (xs : List Step). All (λ t. IsObjectBelow 4096 t.entry) xs) (sym items) (all_snoc (λ t. IsObjectBelow 4096 t.entry) old.steps.items s kept.named named);
      numbered = subst (λ (b : List ℕ). HasSections (slice_index b) (reverse new.steps.items)) (sym base) (subst (λ (xs : List Step). HasSections (slice_index old.base) xs) (sym back) (number, kept.numbered));
      counted = subst (λ (b : List ℕ). IsCounted (slice_index b) (log_of (reverse new.steps.items)) new.ended new.held) (sym base) (subst (λ (xs : List Step). IsCounted (slice_index old.base) (log_of xs) new.ended new.held) (sym back) counted);
      rises = subst (λ (xs : List Step). Rises (log_of xs)) (sym back) (order_next (log_of (reverse old.steps.items)) s.lane.0 (undo_action s.entry) next, kept.rises);
      linked = subst (λ (ys : List Step). IsLinked ys new.links) (sym items) (subst (λ (ys : List Step). IsLinked (ys ++ s ∷ []) new.links) same linked);
      links_room = links_room;
      answered = answered_push old new s kept base items section next counted answered;
      causes = subst (AreCauses new.steps.items (counts_of new.answered)) (sym causes) (subst (λ (c : Cut). AreCauses new.steps.items (counts_of c) old.causes) (sym answered)
          (subst (λ (ys : List Step). AreCauses ys (counts_of old.answered) old.causes) (sym items) (causes_push old.steps.items s (counts_of old.answered) old.causes kept.causes)));
      found_among = omega (arith, kept.found_among, more);
      stable = λ e. absurd (omega (arith, kept.found_among, more));
    }

-- a step of steps whose objects' numbers rise
rises_after : (newer older : List Step) → Rises (log_of (newer ++ older)) → Rises (log_of older)
rises_after [] older h = h
rises_after (s ∷ newer) older h = rises_after newer older h.1

-- the steps before a place, the one there, and the rest
pub split_at : (steps : List Step) (i : ℕ) (s : Step) → i < length steps → s ≡ get_or steps i s → reverse steps ≡ reverse (drop (i + 1) steps) ++ (s ∷ reverse (take i steps))
split_at steps i s lt is =
    let more : take (i + 1) steps ≡ take i steps ++ s ∷ [] = take_more steps i s lt ∙ ap (λ (t : Step). take i steps ++ t ∷ []) (sym is) in
    ap (λ (xs : List Step). reverse xs) (sym (take-append-drop (i + 1) steps)) ∙ reverse-append (take (i + 1) steps) (drop (i + 1) steps)
    ∙ ap (λ (xs : List Step). reverse (drop (i + 1) steps) ++ xs) (ap (λ (xs : List Step). reverse xs) more ∙ reverse_snoc (take i steps) s)

pub order_at : (steps : List Step) (i : ℕ) (s : Step) → i < length steps → s ≡ get_or steps i s → Rises (log_of (reverse steps)) → IsInOrder (log_of (reverse (take i steps))) (undo_action s.entry)
order_at steps i s lt is rises = (rises_after (reverse (drop (i + 1) steps)) (s ∷ reverse (take i steps)) (subst (λ (xs : List Step). Rises (log_of xs)) (split_at steps i s lt is) rises)).0

all_none : (P : Step → Type 0) → All P []
all_none P k d lt = absurd (let no : k < 0 = lt in omega arith)

-- the fields of a graph of nothing
pub kept_none : (g : Inside) → g.lanes ≤ 32 → g.base ≡ replicate 32 0 → g.ended ≡ replicate 32 0 → g.held ≡ replicate 32 0 → g.steps.items ≡ [] → IsLinked [] g.links → HasRoom g.links (vec_capacity g.steps - vec_len g.steps) → g.answered.counts ≡ replicate 32 0 → g.causes ≡ replicate 32 None → g.stable ≡ None → g.found_among ≡ 0 → IsKept g
kept_none g lanes base ended_in held_in items linked links_room answered causes fresh none =
    let back : reverse g.steps.items ≡ [] = ap (λ (xs : List Step). reverse xs) items in
    record {
      lanes = lanes;
      low = subst (λ (xs : List Step). All (λ t. t.lane.0 < g.lanes) xs) (sym items) (all_none (λ t. t.lane.0 < g.lanes));
      named = subst (λ (xs : List Step). All (λ t. IsObjectBelow 4096 t.entry) xs) (sym items) (all_none (λ t. IsObjectBelow 4096 t.entry));
      numbered = subst (λ (xs : List Step). HasSections (slice_index g.base) xs) (sym back) tt;
      counted = subst (λ (xs : List Step). IsCounted (slice_index g.base) (log_of xs) g.ended g.held) (sym back) (record {
        whole = λ l. ap (λ (xs : List ℕ). slice_index xs l) ended_in ∙ zeros l ∙ sym (ap (λ (xs : List ℕ). slice_index xs l) base ∙ zeros l) ∙ sym (zero-add (slice_index g.base l));
        held = λ l. ap (λ (xs : List ℕ). slice_index xs l) held_in ∙ zeros l;
      });
      rises = subst (λ (xs : List Step). Rises (log_of xs)) (sym back) tt;
      linked = subst (λ (xs : List Step). IsLinked xs g.links) (sym items) linked;
      links_room = links_room;
      answered = record {
        past = λ l. let none : slice_index g.base l ≡ 0 = ap (λ (xs : List ℕ). slice_index xs l) base ∙ zeros l in omega arith;
        below = λ l. let none : slice_index g.answered.counts l ≡ 0 = ap (λ (xs : List ℕ). slice_index xs l) answered ∙ zeros l in omega arith;
        closed = subst (λ (xs : List Step). IsClosedOver reading xs (counts_of g.answered)) (sym items) (λ s t here there. absurd (let no : here.0 < 0 = here.1 in omega arith));
      };
      causes = causes_none g.steps.items (counts_of g.answered) g.causes causes;
      found_among = omega arith;
      stable = λ _. no_cut g fresh;
    }
