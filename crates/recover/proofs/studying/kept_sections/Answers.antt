use Rattle.std.proofs.Common.{ℕ, ◌≡◌, ◌<◌, ◌≤◌, ◌∙◌, List, length, refl, sym, ap, subst, inl, inr, arith, slice_index, slice_set, get_or-set_same, get_or-set_other}
use Rattle.std.proofs.lemmas.Bool.{cases_eq, cases_lt}
use Rattle.std.proofs.lemmas.List.{length-set, get_or_past}
use Rattle.image_parts.specs.Rows.{empty_row}
use Rattle.image_parts.specs.declared.lane_row.LaneRow.{LaneRow}
use Rattle.undo_log.specs.StandsFor.{row_of}
use Rattle.recover_logs.proofs.ReplayLemmas.{zeros}
use Rattle.recover.proofs.studying.kept_sections.Goals as goal

pub loop-lane-init : goal.loop-lane-init
loop-lane-init c = record {
  all = refl;
  before = λ m lt. absurd (omega arith);
  rest = λ m le. zeros 32 m;
}

pub loop-lane-preserved : goal.loop-lane-preserved
loop-lane-preserved c =
    let lane = c.loop-lane.lane in
    let old : List ℕ = c.loop-lane.counts in
    let rows : List LaneRow = c.args.rows.now in
    let n : ℕ = (row_of rows lane).kept in
    let low : lane < length old = omega (arith, c.loop-lane.invariant.all, c.loop-lane-test.true) in
    record {
      all = length-set old lane n ∙ c.loop-lane.invariant.all;
      before = λ m lt. elim (cases_eq m lane) [
        | inl e ↦ subst (λ (k : ℕ). slice_index (slice_set old lane n) k ≡ (row_of rows k).kept) (sym e) (get_or-set_same old lane n 0 low)
        | inr ne ↦ get_or-set_other old lane m n 0 ne ∙ c.loop-lane.invariant.before m (omega arith)
      ];
      rest = λ m le. get_or-set_other old lane m n 0 (λ e. omega arith) ∙ c.loop-lane.invariant.rest m (omega arith);
    }

pub returns : goal.returns
returns c = λ lane.
    let rows : List LaneRow = c.args.rows.now in
    let past : length rows ≤ 32 = omega (arith, c.told-rows) in
    elim (cases_lt lane 32) [
      | inl lt ↦ c.loop-lane.invariant.before lane (omega (arith, c.loop-lane-test.false))
      | inr le ↦ c.loop-lane.invariant.rest lane (omega (arith, c.loop-lane.auto.lane-end)) ∙ sym (ap (λ (r : LaneRow). r.kept) (get_or_past rows lane empty_row (omega arith)))
    ]
