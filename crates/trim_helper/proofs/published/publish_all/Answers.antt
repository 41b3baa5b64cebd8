use Rattle.std.proofs.Common.{ℕ, [], ◌<◌, ◌+◌, ◌≢◌, ◌∙◌, refl, ap, inl, inr, arith}
use Rattle.std.proofs.lemmas.Bool.Decides.{eqb_tells}
use Rattle.monitor.proofs.Histories.{goes_back}
use Rattle.trim_helper.specs.Taken.{trimmed_of}
use Rattle.trim_helper.proofs.Rounds.{chosen, unchosen}
use Rattle.trim_helper.proofs.Seeing.{sight_refl, sight_then}
use Rattle.trim_helper.proofs.published.publish_all.Goals as goal

pub loop-lane-init : goal.loop-lane-init
loop-lane-init g c = record { seat = c.requires.seat; done = λ s p has k lt. absurd (omega arith); rest = λ k le lt. (refl, refl); counts = λ s p has k n lt was. inl was; notes = ([], refl); gathered = refl; sight = sight_refl c.args.seat.now }

pub publish-requires-clause-seat : goal.publish-requires-clause-seat
publish-requires-clause-seat g c = c.loop-lane.invariant.seat

pub publish-requires-clause-lane : goal.publish-requires-clause-lane
publish-requires-clause-lane g c = let at = c.threads-threads.ensures in omega (arith, c.requires.lanes, c.loop-lane-test.true)

pub publish-requires-clause-count : goal.publish-requires-clause-count
publish-requires-clause-count g c =
    let at = c.threads-threads.ensures in
    let known = c.requires.rises in
    let low = known.3 c.loop-lane.lane (omega (arith, c.loop-lane-test.true)) in
    let was = c.loop-lane.invariant.rest c.loop-lane.lane (omega arith) (let few = c.requires.seat.few in omega (arith, c.requires.lanes, c.loop-lane-test.true)) in
    omega (arith, was.0, low.0, c.acknowledged-acknowledged.ensures known.0 known.1 known.2)

pub publish-requires-clause-place : goal.publish-requires-clause-place
publish-requires-clause-place g c =
    let at = c.threads-threads.ensures in
    let known = c.requires.rises in
    let low = known.3 c.loop-lane.lane (omega (arith, c.loop-lane-test.true)) in
    let was = c.loop-lane.invariant.rest c.loop-lane.lane (omega arith) (let few = c.requires.seat.few in omega (arith, c.requires.lanes, c.loop-lane-test.true)) in
    omega (arith, was.1, low.1, c.trimmed-trimmed.ensures known.0 known.1 known.2)

pub loop-lane-preserved : goal.loop-lane-preserved
loop-lane-preserved g c =
    let at = c.threads-threads.ensures in
    let low : (k : ℕ) → k < c.loop-lane.lane + 1 → k < 32 = λ k lt. let few = c.requires.seat.few in omega (arith, c.requires.lanes, c.loop-lane-test.true) in
    record {
      seat = c.publish.ensures.seat;
      done = λ s p has k lt. elim (eqb_tells c.loop-lane.lane k) [
        | inl e ↦ (
          chosen _ _ _ _ e.1 (c.publish.ensures.count k (low k lt)) ∙ c.acknowledged-acknowledged.ensures s p has ∙ ap p.cut e.1,
          chosen _ _ _ _ e.1 (c.publish.ensures.place k (low k lt)) ∙ c.trimmed-trimmed.ensures s p has ∙ ap (λ l. trimmed_of p l) e.1,
        )
        | inr e ↦
            let was = c.loop-lane.invariant.done s p has k (omega (arith, e.1)) in (
              unchosen _ _ _ _ e.1 (c.publish.ensures.count k (low k lt)) ∙ was.0,
              unchosen _ _ _ _ e.1 (c.publish.ensures.place k (low k lt)) ∙ was.1,
            )
      ];
      rest = λ k le most.
          let was = c.loop-lane.invariant.rest k (omega arith) most in
          let other : c.loop-lane.lane ≢ k = λ e. omega arith in (
            unchosen _ _ _ _ other (c.publish.ensures.count k most) ∙ was.0,
            unchosen _ _ _ _ other (c.publish.ensures.place k most) ∙ was.1,
          );
      counts = λ s p has k n lt was. elim (c.publish.ensures.counts k n lt was) [
        | inl before ↦ c.loop-lane.invariant.counts s p has k n lt before
        | inr here ↦ inr (here.1 ∙ c.acknowledged-acknowledged.ensures s p has ∙ ap p.cut here.0)
      ];
      notes = goes_back _ _ _ c.publish.ensures.notes c.loop-lane.invariant.notes;
      gathered = c.publish.ensures.gathered ∙ c.loop-lane.invariant.gathered;
      sight = sight_then _ _ _ c.loop-lane.invariant.sight c.publish.ensures.sight;
    }

pub returns-clause-published : goal.returns-clause-published
returns-clause-published g c = λ s p has l lt. let at = c.threads-threads.ensures in c.loop-lane.invariant.done s p has l (omega (arith, c.loop-lane-test.false))

pub returns-clause-counts : goal.returns-clause-counts
returns-clause-counts g c = λ s p has l n lt was. let few = c.requires.seat.few in c.loop-lane.invariant.counts s p has l n (omega (arith, lt, few, c.requires.lanes)) was

pub returns-clause-seat : goal.returns-clause-seat
returns-clause-seat g c = c.loop-lane.invariant.seat

pub returns-clause-gathered : goal.returns-clause-gathered
returns-clause-gathered g c = c.loop-lane.invariant.gathered

pub returns-clause-sight : goal.returns-clause-sight
returns-clause-sight g c = c.loop-lane.invariant.sight

pub returns-clause-notes : goal.returns-clause-notes
returns-clause-notes g c = c.loop-lane.invariant.notes
