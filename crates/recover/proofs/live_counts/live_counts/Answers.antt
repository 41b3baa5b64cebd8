use Rattle.std.proofs.Common.{ℕ, zero, suc, ◌≡◌, ◌≢◌, ◌<◌, ◌∙◌, List, length, replicate, refl, sym, ap, subst, inl, inr, arith, slice_set, get_or-set_same, get_or-set_other}
use Rattle.std.proofs.lemmas.Bool.{cases_eq}
use Rattle.std.proofs.lemmas.List.{length-set}
use Rattle.heap_model.specs.declared.record.UndoRecord.{UndoRecord}
use Rattle.image_parts.specs.declared.lane_row.LaneRow.{LaneRow}
use Rattle.undo_log.specs.StandsFor.{row_of, settled_of}
use Rattle.recover.specs.declared.live_sections.LiveSections.{LiveSections}
use Rattle.recover_heap.specs.Logs.{records_of, lanes_of}
use Rattle.recover.specs.Live.{IsLiveIn, IsLiveOf, live_at, nothing_live}
use Rattle.recover.proofs.LiveLemmas.{live_in}
use Rattle.recover.proofs.live_counts.live_counts.Goals as goal

nothing : (n m : ℕ) → live_at (replicate n nothing_live) m ≡ nothing_live
nothing zero m = refl
nothing (suc n) zero = refl
nothing (suc n) (suc m) = nothing n m

pub loop-lane-init : goal.loop-lane-init
loop-lane-init c = record {
  all = refl;
  before = λ m lt. absurd (omega arith);
  rest = λ m le. nothing 32 m;
}

pub loop-lane-preserved : goal.loop-lane-preserved
loop-lane-preserved c =
    let lane = c.loop-lane.lane in
    let rows : List LaneRow = c.args.rows.now in
    let logs = c.args.logs.now in
    let old : List LiveSections = c.loop-lane.counts in
    let s : LiveSections = c.live_of.result in
    let low : lane < length old = omega (arith, c.loop-lane.invariant.all, c.loop-lane-test.true, c.requires.lanes) in
    let here : live_at (slice_set old c.from-in-loop-lane.result s) lane ≡ s = ap (λ (k : ℕ). live_at (slice_set old k s) lane) c.from-in-loop-lane.ensures ∙ get_or-set_same old lane s nothing_live low in
    let other : (m : ℕ) → m ≢ lane → live_at (slice_set old c.from-in-loop-lane.result s) m ≡ live_at old m =
    (λ m ne. ap (λ (k : ℕ). live_at (slice_set old k s) m) c.from-in-loop-lane.ensures ∙ get_or-set_other old lane m s nothing_live ne) in
    let counted : IsLiveOf (records_of logs lane) (settled_of rows lane) (row_of rows lane).kept s =
    subst (λ (xs : List UndoRecord). IsLiveOf xs (settled_of rows lane) (row_of rows lane).kept s) c.records_in.ensures
    (subst (λ (k : ℕ). IsLiveOf c.records_in.result.now (settled_of rows k) (row_of rows k).kept s) c.from.ensures c.live_of.ensures) in
    record {
      all = length-set old c.from-in-loop-lane.result s ∙ c.loop-lane.invariant.all;
      before = λ m lt. elim (cases_eq m lane) [
        | inl e ↦ subst (λ (k : ℕ). IsLiveIn rows (lanes_of logs) k (live_at (slice_set old c.from-in-loop-lane.result s) k)) (sym e)
            (subst (IsLiveIn rows (lanes_of logs) lane) (sym here) (live_in rows logs lane s counted))
        | inr ne ↦ subst (IsLiveIn rows (lanes_of logs) m) (sym (other m ne)) (c.loop-lane.invariant.before m (omega arith))
      ];
      rest = λ m le. other m (λ e. omega arith) ∙ c.loop-lane.invariant.rest m (omega arith);
    }
