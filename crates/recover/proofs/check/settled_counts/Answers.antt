use Rattle.std.proofs.Common.{ℕ, zero, suc, ◌≡◌, ◌-◌, ◌<◌, ◌≤◌, ◌∙◌, List, length, replicate, refl, sym, ap, subst, inl, inr, arith, slice_set, get_or-set_same, get_or-set_other}
use Rattle.std.proofs.lemmas.Bool.{cases_eq, cases_lt}
use Rattle.std.proofs.lemmas.List.{length-set, get_or_past}
use Rattle.image_parts.specs.Rows.{empty_row}
use Rattle.image_parts.specs.declared.lane_row.LaneRow.{LaneRow}
use Rattle.undo_log.specs.StandsFor.{row_of}
use Rattle.recover_logs.specs.Logs.{count_of}
use Rattle.recover_logs.specs.declared.settled_count.SettledCount.{SettledCount}
use Rattle.recover.proofs.check.settled_counts.Goals as goal

abbrev none : SettledCount
none = record { records = 0; sections = 0 }

-- what the lane's row counts
abbrev counted : LaneRow → SettledCount
counted row = record { records = row.settled - row.start; sections = row.kept }

nothing : (n m : ℕ) → count_of (replicate n none) m ≡ none
nothing zero m = refl
nothing (suc n) zero = refl
nothing (suc n) (suc m) = nothing n m

pub loop-lane-init : goal.loop-lane-init
loop-lane-init c = record {
  all = refl;
  before = λ m lt. absurd (omega arith);
  rest = λ m le. nothing 32 m;
}

pub loop-lane-preserved : goal.loop-lane-preserved
loop-lane-preserved c =
    let lane = c.loop-lane.lane in
    let old : List SettledCount = c.loop-lane.counts in
    let rows : List LaneRow = c.args.rows.now in
    let new : SettledCount = c.settled_count.result in
    let low : lane < length old = omega (arith, c.loop-lane.invariant.all, c.loop-lane-test.true) in
    record {
      all = length-set old lane new ∙ c.loop-lane.invariant.all;
      before = λ m lt. elim (cases_eq m lane) [
        | inl e ↦ subst (λ (k : ℕ). count_of (slice_set old lane new) k ≡ counted (row_of rows k)) (sym e) (get_or-set_same old lane new none low ∙ c.settled_count.ensures)
        | inr ne ↦ get_or-set_other old lane m new none ne ∙ c.loop-lane.invariant.before m (omega arith)
      ];
      rest = λ m le. get_or-set_other old lane m new none (λ e. omega arith) ∙ c.loop-lane.invariant.rest m (omega arith);
    }

pub returns : goal.returns
returns c = λ lane.
    let rows : List LaneRow = c.args.rows.now in
    let past : length rows ≤ 32 = omega (arith, c.told-rows) in
    elim (cases_lt lane 32) [
      | inl lt ↦ c.loop-lane.invariant.before lane (omega (arith, c.loop-lane-test.false))
      | inr le ↦ c.loop-lane.invariant.rest lane (omega (arith, c.loop-lane.auto.lane-end)) ∙ sym (ap counted (get_or_past rows lane empty_row (omega arith)))
    ]
