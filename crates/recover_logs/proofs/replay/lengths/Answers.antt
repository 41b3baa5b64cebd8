use Rattle.std.proofs.Common.{ℕ, ◌≡◌, ◌≢◌, ◌<◌, ◌∙◌, List, length, refl, sym, ap, subst, inl, inr, arith, slice_index, slice_set, get_or-set_same, get_or-set_other}
use Rattle.std.proofs.lemmas.Bool.{cases_eq}
use Rattle.std.proofs.lemmas.List.{length-set}
use Rattle.recover_logs.specs.Logs.{records_of}
use Rattle.recover_logs.proofs.ReplayLemmas.{zeros}
use Rattle.recover_logs.proofs.replay.lengths.Goals as goal

pub loop-lane-init : goal.loop-lane-init
loop-lane-init c = record {
  all = refl;
  before = λ m lt. absurd (omega arith);
  rest = λ m le. zeros 32 m;
}

pub loop-lane-preserved : goal.loop-lane-preserved
loop-lane-preserved c =
    let lane = c.loop-lane.lane in
    let old : List ℕ = c.loop-lane.lengths in
    let n : ℕ = length c.records_in.result.now in
    let low : lane < length old = omega (arith, c.loop-lane.invariant.all, c.loop-lane-test.true, c.requires) in
    let here : slice_index (slice_set old c.from.result n) lane ≡ n = ap (λ (k : ℕ). slice_index (slice_set old k n) lane) c.from.ensures ∙ get_or-set_same old lane n 0 low in
    let other : (m : ℕ) → m ≢ lane → slice_index (slice_set old c.from.result n) m ≡ slice_index old m =
    (λ m ne. ap (λ (k : ℕ). slice_index (slice_set old k n) m) c.from.ensures ∙ get_or-set_other old lane m n 0 ne) in
    record {
      all = length-set old c.from.result n ∙ c.loop-lane.invariant.all;
      before = λ m lt. elim (cases_eq m lane) [
        | inl e ↦ subst (λ (k : ℕ). slice_index (slice_set old c.from.result n) k ≡ length (records_of c.args.logs.now k)) (sym e) (here ∙ ap length c.records_in.ensures)
        | inr ne ↦ other m ne ∙ c.loop-lane.invariant.before m (omega arith)
      ];
      rest = λ m le. other m (λ e. omega arith) ∙ c.loop-lane.invariant.rest m (omega arith);
    }
