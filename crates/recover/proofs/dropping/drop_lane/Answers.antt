use Rattle.std.proofs.Common.{ℕ, ◌+◌, ◌-◌, ◌≤◌, ◌++◌, ◌∙◌, List, [], ◌∷◌, sym, ap, subst, arith}
use Rattle.heap_model.specs.Sections.{Section}
use Rattle.heap_model.specs.Cuts.{IsStable}
use Rattle.dependence.specs.Trace.{Trace}
use Rattle.recover.specs.declared.live_sections.LiveSections.{LiveSections}
use Rattle.recover.specs.declared.report.Dropped.{Dropped}
use Rattle.recover.specs.Dropping.{AreEntriesOf, IsEntryOf, sections_after}
use Rattle.recover.specs.Live.{live_at, trimmed_at}
use Rattle.recover.proofs.DroppingLemmas.{entries_more, sections_more}
use Rattle.recover.proofs.dropping.drop_lane.Goals as goal

pub loop-before-preserved : goal.loop-before-preserved
loop-before-preserved c =
    let g : Trace = c.args.graph.now in
    let counts : List LiveSections = c.args.counts.now in
    let l = c.args.lane.0 in
    let first : ℕ = (live_at counts l).settled in
    let before = c.loop-before.before in
    let a : Section = record { lane = l; number = before + 1 } in
    let d : Dropped = c.dropped_section-next.result in
    let le : first ≤ before = omega (arith, c.loop-before.auto.before, ap (λ (i : ℕ). (live_at counts i).settled) c.from.ensures) in
    let entry : (cut : ℕ → ℕ) → IsStable g.log cut → IsEntryOf (trimmed_at counts) g.log cut a d =
    subst (λ (t : Trace). (cut : ℕ → ℕ) → IsStable t.log cut → IsEntryOf (trimmed_at counts) t.log cut a d) c.loop-before.invariant.same c.dropped_section-next.ensures.entry in
    record {
      same = c.dropped_section-next.ensures.same ∙ c.loop-before.invariant.same;
      added = λ sections told cut stable.
          let more : AreEntriesOf (trimmed_at counts) g.log cut ((sections ++ sections_after l first (before - first)) ++ a ∷ []) (c.loop-before.dropped.items ++ d ∷ []) =
          entries_more (trimmed_at counts) g.log cut (sections ++ sections_after l first (before - first)) c.loop-before.dropped.items a d (c.loop-before.invariant.added sections told cut stable) (entry cut stable) in
          subst (λ (xs : List Section). AreEntriesOf (trimmed_at counts) g.log cut xs c.push.new.self.items) (sections_more l first before sections le)
          (subst (AreEntriesOf (trimmed_at counts) g.log cut ((sections ++ sections_after l first (before - first)) ++ a ∷ [])) (sym c.in-Ok.ensures.items) more);
    }
