use Rattle.std.proofs.Common.{ap, refl, sym, ◌∙◌, subst}
use Rattle.std.proofs.lemmas.List.{get_or-set_same}
use Rattle.std.proofs.lemmas.List.Elements.{All-get_or, All-set}
use Rattle.host_heap.specs.Lanes.{IsIdle, IsLaneEnd, KeepsCome, lane_at}
use Rattle.host_heap.specs.declared.lane_end.LaneEnd.{LaneEnd}
use Rattle.host_heap.proofs.Coming.{come_at}
use Rattle.host_heap.proofs.Ends.{lanes_at_set}
use Rattle.host_heap.proofs.again.is_idle_at.Goals as goal

pub returns-clause-kept : goal.returns-clause-kept
returns-clause-kept c = λ h k rings all.
    let lanes = c.args.lanes.now.items in
    let was = c.index_mut.result.now in
    let end = c.is_idle.ensures.kept h k rings (subst (IsLaneEnd h k rings) (sym c.index_mut.ensures.value) (All-get_or (IsLaneEnd h k rings) lanes c.args.place was c.requires all)) in (
      All-set (IsLaneEnd h k rings) lanes c.args.place c.is_idle.new.self end.0 all,
      lanes_at_set lanes c.args.place c.is_idle.new.self was (end.1 ∙ ap (λ (l : LaneEnd). lane_at l) c.index_mut.ensures.value) c.requires,
    )

pub returns-clause-taken : goal.returns-clause-taken
returns-clause-taken c = (c.is_idle.new.self, refl, λ no. c.is_idle.ensures.taken no)

pub returns-clause-idle : goal.returns-clause-idle
returns-clause-idle c = λ d yes.
    subst IsIdle (sym (get_or-set_same c.args.lanes.now.items c.args.place c.is_idle.new.self d c.requires)) (c.is_idle.ensures.idle yes)

pub returns-clause-come : goal.returns-clause-come
returns-clause-come c =
    let was = c.index_mut.result.now in
    come_at c.args.lanes.now.items c.args.place c.is_idle.new.self was c.requires (subst (λ (l : LaneEnd). KeepsCome l c.is_idle.new.self) c.index_mut.ensures.value c.is_idle.ensures.come)
