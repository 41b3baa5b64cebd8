use Rattle.std.proofs.Common.{ℕ, ◌≡◌, ◌<◌, [], List, Vec, Global, length, slice_set, vec_capacity, sym, ◌∙◌, subst, arith}
use Rattle.std.proofs.lemmas.List.{length-set}
use mathlib.Core.Logic.{dite}
use native.Mathlib.Decide.{ℕ_discrete}
use Rattle.heap_model.specs.declared.record.UndoRecord.{UndoRecord}
use Rattle.store_memory.specs.Fresh.{log_in}
use Rattle.store_memory.proofs.LaneLogs.{read_room, put_here, put_else, put_room}
use Rattle.store_memory.proofs.fresh.clear_all.Goals as goal

pub loop-lane-preserved : goal.loop-lane-preserved
loop-lane-preserved c =
    let logs : List (Vec UndoRecord Global) = c.loop-lane.logs in
    let lane : ℕ = c.loop-lane.lane in
    let new : Vec UndoRecord Global = c.clear.new.self in
    let low : lane < length logs = omega (arith, c.loop-lane-test.true, c.loop-lane.invariant.size) in
    record {
      size = length-set logs lane new ∙ c.loop-lane.invariant.size;
      empty = λ k lt. dite (ℕ_discrete k lane)
          (λ here. subst (λ (j : ℕ). log_in (slice_set logs lane new) j ≡ []) (sym here) (put_here logs lane new low ∙ c.clear.ensures.items))
          (λ else. put_else logs lane new k else ∙ c.loop-lane.invariant.empty k (omega (arith, lt, else)));
      rooms = λ k. put_room logs lane new low (c.clear.ensures.capacity ∙ read_room logs lane c.index-logs-lane.result low) k ∙ c.loop-lane.invariant.rooms k;
    }
