-- The fields without what a cut counts.
use Rattle.std.proofs.Common.{ℕ, ◌≡◌, ◌+◌, ◌-◌, ◌<◌, max, List, All, reverse, replicate, slice_index, nat_lt, vec_len, vec_capacity, None, sym, ap, ◌∙◌, subst, arith}
use Rattle.std.specs.List.{filter}
use Rattle.std.proofs.lemmas.List.Elements.{All-filter}
use Rattle.heap_model.specs.declared.cut.Cut.{Cut}
use Rattle.heap_model.specs.Cuts.{counts_of, IsWhole}
use Rattle.heap_model.specs.Sections.{Action}
use Rattle.heap_model.specs.Base.{since}
use Rattle.law_cuts.specs.Plain.{IsClosedOver}
use Rattle.dependence.specs.declared.step.Step.{Step}
use Rattle.dependence.specs.declared.graph.Graph.TheInside.{Inside}
use Rattle.dependence.specs.Trace.{beyond}
use Rattle.dependence.specs.Next.{IsObjectBelow}
use Rattle.dependence.specs.Steps.{log_of, reading, HasSections}
use Rattle.dependence.specs.Kept.{IsCounted, Rises, IsLinked, HasRoom}
use Rattle.dependence.specs.Inside.{trace_of, IsKept}
use Rattle.dependence.proofs.Keeping.{no_cut}
use Rattle.dependence.proofs.Causes.{causes_none}
use Rattle.dependence.proofs.Answering.{closed_left}
use Rattle.dependence.proofs.Trimming.{reverse_filter, rises_since, log_since, sections_since, counted_since}

module _ (old : Inside) (cut : Cut) (next : List ℕ) (left : List Step) (kept : IsKept old)
    (raised : (l : ℕ) → slice_index next l ≡ max (slice_index old.base l) (counts_of cut l))
    (filtered : left ≡ filter (λ s. nat_lt (slice_index next s.lane.0) s.section) old.steps.items) where
  abbrev more : ℕ → ℕ
  more = beyond (trace_of old) cut

  pub raised_by : (l : ℕ) → slice_index next l ≡ slice_index old.base l + more l
  raised_by l = omega (arith, raised l)

  left_back : reverse left ≡ filter (λ s. nat_lt (slice_index next s.lane.0) s.section) (reverse old.steps.items)
  left_back = ap (λ (xs : List Step). reverse xs) filtered ∙ reverse_filter (λ s. nat_lt (slice_index next s.lane.0) s.section) old.steps.items

  pub left_log : log_of (reverse left) ≡ since more (log_of (reverse old.steps.items))
  left_log = ap log_of left_back ∙ log_since (slice_index old.base) (slice_index next) more raised_by (reverse old.steps.items) kept.numbered

  pub left_rises : Rises (log_of (reverse left))
  left_rises = subst Rises (sym left_log) (rises_since more (log_of (reverse old.steps.items)) kept.rises)

  pub left_low : All (λ s. s.lane.0 < old.lanes) left
  left_low = subst (λ (xs : List Step). All (λ s. s.lane.0 < old.lanes) xs) (sym filtered) (All-filter (λ s. nat_lt (slice_index next s.lane.0) s.section) (λ s. s.lane.0 < old.lanes) old.steps.items kept.low)

  pub left_lanes : All (λ s. s.lane.0 < 32) left
  left_lanes k d lt = omega (arith, left_low k d lt, kept.lanes)

  pub left_named : All (λ s. IsObjectBelow 4096 s.entry) left
  left_named = subst (λ (xs : List Step). All (λ s. IsObjectBelow 4096 s.entry) xs) (sym filtered) (All-filter (λ s. nat_lt (slice_index next s.lane.0) s.section) (λ s. IsObjectBelow 4096 s.entry) old.steps.items kept.named)

  left_numbered : HasSections (slice_index next) (reverse left)
  left_numbered = subst (λ (xs : List Step). HasSections (slice_index next) xs) (sym left_back) (sections_since (slice_index old.base) (slice_index next) more raised_by (reverse old.steps.items) kept.numbered)

  pub kept_forget : (new : Inside) → IsWhole (log_of (reverse old.steps.items)) more → new.lanes ≡ old.lanes → new.base ≡ next → new.ended ≡ old.ended → new.held ≡ old.held → new.steps.items ≡ left →
      IsLinked left new.links → HasRoom new.links (vec_capacity new.steps - vec_len new.steps) → ((l : ℕ) → counts_of new.answered l ≡ max (counts_of old.answered l) (counts_of cut l)) → new.causes ≡ replicate 32 None → new.stable ≡ None → new.found_among ≡ 0 → IsKept new
  kept_forget new whole lanes base ended_in held_in items linked links_room answered causes fresh none = record {
    lanes = omega (arith, kept.lanes);
    low = subst (λ (xs : List Step). All (λ s. s.lane.0 < new.lanes) xs) (sym items) (subst (λ (n : ℕ). All (λ s. s.lane.0 < n) left) (sym lanes) left_low);
    named = subst (λ (xs : List Step). All (λ s. IsObjectBelow 4096 s.entry) xs) (sym items) left_named;
    numbered = subst (λ (b : List ℕ). HasSections (slice_index b) (reverse new.steps.items)) (sym base) (subst (λ (xs : List Step). HasSections (slice_index next) (reverse xs)) (sym items) left_numbered);
    counted = subst (λ (b : List ℕ). IsCounted (slice_index b) (log_of (reverse new.steps.items)) new.ended new.held) (sym base)
        (subst (λ (xs : List Step). IsCounted (slice_index next) (log_of (reverse xs)) new.ended new.held) (sym items)
        (subst (λ (xs : List ℕ). IsCounted (slice_index next) (log_of (reverse left)) xs new.held) (sym ended_in)
        (subst (λ (xs : List ℕ). IsCounted (slice_index next) (log_of (reverse left)) old.ended xs) (sym held_in)
        (subst (λ (log : List (ℕ × Action)). IsCounted (slice_index next) log old.ended old.held) (sym left_log)
        (counted_since (slice_index old.base) (slice_index next) more (log_of (reverse old.steps.items)) old.ended old.held raised_by whole kept.counted)))));
    rises = subst (λ (xs : List Step). Rises (log_of (reverse xs))) (sym items) left_rises;
    linked = subst (λ (xs : List Step). IsLinked xs new.links) (sym items) linked;
    links_room = links_room;
    answered = record {
      past = λ l. let base_is : slice_index new.base l ≡ slice_index next l = ap (λ (xs : List ℕ). slice_index xs l) base in omega (arith, answered l, raised l, kept.answered.past l);
      below = λ l. let ended_is : slice_index new.ended l ≡ slice_index old.ended l = ap (λ (xs : List ℕ). slice_index xs l) ended_in in omega (arith, answered l, kept.answered.below l, kept.counted.whole l, whole l);
      closed = subst (λ (xs : List Step). IsClosedOver reading xs (counts_of new.answered)) (sym items)
          (closed_left old.steps.items left (λ s. nat_lt (slice_index next s.lane.0) s.section) (slice_index next) (counts_of old.answered) (counts_of new.answered) filtered left_numbered
          (λ l. omega (arith, answered l)) (λ l. omega (arith, answered l, raised l)) kept.answered.closed);
    };
    causes = causes_none new.steps.items (counts_of new.answered) new.causes causes;
    found_among = omega arith;
    stable = λ _. no_cut new fresh;
  }
