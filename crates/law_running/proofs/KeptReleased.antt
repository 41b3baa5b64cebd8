-- What a cut keeps of a log, it keeps of each that has the lanes up to their last releases.
use Rattle.std.proofs.Common.{ℕ, ◌≡◌, ◌+◌, ◌<◌, List, ◌++◌, map, sym, ap, ◌∙◌, subst, inl, inr, arith, append_assoc}
use Rattle.heap_model.specs.declared.record.Record.{Record}
use Rattle.heap_model.specs.Setting.{Setting}
use Rattle.heap_model.specs.Log.{lane, number, IsLegal, IsLaneWisePrefix}
use Rattle.heap_model.specs.Sections.{Action, Takes, Frees, action, actions, ended, Section, Did, Earlier, Took}
use Rattle.heap_model.specs.Cuts.{Counts, IsWhole, IsClosed}
use Rattle.heap_model.specs.KeptHeap.{kept_value}
use Rattle.heap_model.specs.Base.{records_since, records_until}
use Rattle.thread_rings.specs.Following.{from_release}
use Rattle.law_cuts.proofs.Chain.{took_had, Freed, freed_below}
use Rattle.law_cuts.proofs.Lanes.{ended_in_lane}
use Rattle.law_cuts.proofs.Stores.{ended_more}
use Rattle.law_histories.specs.Laws.{OrderLaw}
use Rattle.law_histories.proofs.Parts.{until_legal}
use Rattle.law_histories.proofs.Rebase.{until_ends}
use Rattle.law_histories.proofs.Reorder.{split_lane}
use Rattle.law_running.specs.Released.{IsReleasedPrefix, ReleasedLaw}
use Rattle.law_running.proofs.InLanes.{DidIn, did_first, did_more, from_lane, same_freer, to_lane}
use Rattle.law_running.proofs.ReleaseLemmas.{ended_released, frees_released, from_more, parts, until_released}

module _ (s : Setting) (log longer : List (ℕ × Record)) (cut : ℕ → ℕ) (legal : IsLegal s log) (all_legal : IsLegal s longer) (first : IsReleasedPrefix log longer) (whole : IsWhole (actions log) cut) where
  abbrev released : ℕ → List Record
  released l = from_release (lane l log)

  ended_there : (l : ℕ) → ended (map action (released l)) ≡ ended (lane l (actions log))
  ended_there l = ended_released (lane l log) ∙ sym (ended_in_lane l log)

  whole_there : IsWhole (actions longer) cut
  whole_there l = omega (arith, whole l, ended_there l, ended_more (first l).0 (released l), ap (λ (xs : List Record). ended (map action xs)) (first l).1, ended_in_lane l longer)

  did_here : (a : Section) (act : Action) → Counts cut a → Did (actions longer) a act → Did (actions log) a act
  did_here a act counted did = from_lane log a act
      (subst (λ (xs : List Record). DidIn xs a.number act) (sym (parts (lane a.lane log)).1)
      (did_more (parts (lane a.lane log)).0 (released a.lane) a.number act
      (did_first (first a.lane).0 (released a.lane) a.number act
      (subst (λ (xs : List Record). DidIn xs a.number act) (first a.lane).1 (to_lane longer a act did)) (omega (arith, counted, whole a.lane, ended_there a.lane)))))

  freed_there : (a : Section) (o n : ℕ) → Did (actions log) a (Frees o n) → Did (actions longer) a (Frees o n)
  freed_there a o n did = from_lane longer a (Frees o n)
      (subst (λ (xs : List Record). DidIn xs a.number (Frees o n)) (sym (first a.lane).1)
      (did_more (first a.lane).0 (released a.lane) a.number (Frees o n) (frees_released (lane a.lane log) a.number o n (to_lane log a (Frees o n) did))))

  closed_there : IsClosed (actions log) cut → IsClosed (actions longer) cut
  closed_there closed a b counted (Earlier e lt) = closed a b counted (Earlier e lt)
  closed_there closed a b counted (Took o n took freed differ) =
      let took_here : Did (actions log) a (Takes o (n + 1)) = did_here a (Takes o (n + 1)) counted took in
      let upto : n < number o log = elim (took_had s log o (n + 1) a legal took_here) [ inl p ↦ omega (arith, p.0) | inr p ↦ omega (arith, p.0) ] in
      let f : Freed log o n = freed_below s log o n legal upto in
      let same : f.by ≡ b = same_freer s longer o n f.by b all_legal (freed_there f.by o n f.freed) freed in
      subst (λ (x : Section). Counts cut x) same (closed a f.by counted (Took o n took_here f.freed (λ e. differ (e ∙ same))))

  -- the records of the cut's sections
  abbrev kept : List (ℕ × Record)
  kept = records_until cut log

  kept_first : IsLaneWisePrefix kept log
  kept_first l = (lane l (records_since cut log), sym (split_lane cut l log))

  kept_there : IsLaneWisePrefix kept longer
  kept_there l =
      let front = from_more (lane l (records_since cut log)) (lane l kept) in
      let up : released l ≡ front.0 ++ lane l kept = ap from_release (sym (split_lane cut l log)) ∙ front.1 ∙ ap (λ (xs : List Record). front.0 ++ xs) (until_released cut l log (whole l)) in
      ((first l).0 ++ front.0, (first l).1 ∙ ap (λ (xs : List Record). (first l).0 ++ xs) up ∙ sym (append_assoc (first l).0 front.0 (lane l kept)))

  kept_whole : IsWhole (actions kept) cut
  kept_whole l = omega (arith, (until_ends cut l log (whole l)).1)

  same_there : OrderLaw → IsClosed (actions log) cut → (f : ℕ) → kept_value s.first cut f log ≡ kept_value s.first cut f longer
  same_there in_order closed f =
      let kept_legal : IsLegal s kept = until_legal s cut log legal closed in
      sym (in_order s kept log kept_legal legal kept_first cut kept_whole f) ∙ in_order s kept longer kept_legal all_legal kept_there cut kept_whole f

pub keeps_released : OrderLaw → ReleasedLaw
keeps_released in_order s log longer cut legal all_legal first whole closed = record {
  whole = whole_there s log longer cut legal all_legal first whole;
  closed = closed_there s log longer cut legal all_legal first whole closed;
  same = same_there s log longer cut legal all_legal first whole in_order closed;
}
