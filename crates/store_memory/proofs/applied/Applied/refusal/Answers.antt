use Rattle.std.proofs.Common.{ℕ, ◌<◌, ◌≤◌, List, length, Ok, Err, sym, subst}
use Rattle.store_memory.specs.declared.states.LaneState.{LaneState}
use Rattle.store_memory.specs.Memory.{Memory, lane_in}
use Rattle.store_memory.specs.Verdict.{Judges}
use Rattle.store_memory.specs.Within.{memory_of}
use Rattle.store_memory.proofs.Verdicts.{start_within, judged_by}
use Rattle.store_memory.proofs.applied.Applied.refusal.Goals as goal

pub check-requires-clause-start : goal.check-requires-clause-start
check-requires-clause-start c = subst (λ (ls : List LaneState). (l : ℕ) → l < length ls → (lane_in ls l).start ≤ (lane_in ls l).place) (sym c.deref.ensures.value)
    (start_within c.self.invariant.setting (memory_of c.self.inside) c.self.invariant.past c.self.invariant.remembers)

pub returns : goal.returns
returns c = subst (λ (m : Memory). Judges m.last m.capacity m.lanes m.monitors m.fields c.args.lane.0 c.args.«record» (Err c.in-Err.reason)) c.self.view_is
    (judged_by c.self.inside.last c.self.inside.capacity _ _ _ _ _ _ c.args.lane.0 c.args.«record» (Err c.in-Err.reason) c.deref.ensures.value c.deref-2.ensures.value c.deref-3.ensures.value c.in-Err.ensures)

pub unreachable-requires : goal.unreachable-requires
unreachable-requires c = absurd (c.requires.refused (subst (λ (m : Memory). Judges m.last m.capacity m.lanes m.monitors m.fields c.args.lane.0 c.args.«record» (Ok tt)) c.self.view_is
    (judged_by c.self.inside.last c.self.inside.capacity _ _ _ _ _ _ c.args.lane.0 c.args.«record» (Ok tt) c.deref.ensures.value c.deref-2.ensures.value c.deref-3.ensures.value c.in-Ok.ensures)))
