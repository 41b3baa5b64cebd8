use Rattle.std.proofs.Common.{◌≡◌, ◌<◌, List, All, length, subst}
use Rattle.std.specs.List.{slice_index_or}
use Rattle.trim_helper.specs.declared.ended.Ended.{Ended}
use Rattle.trim_helper.proofs.Completing.{complete_of}
use Rattle.thread_heap.proofs.Ending.{are_ended}
use Rattle.thread_steps.specs.Views.{plan}
use Rattle.thread_work.proofs.Ending.{none_hold, one_holds}
use Rattle.thread_work.proofs.Ends.{back_open}
use Rattle.thread_work.proofs.Left.{have_ended}
use Rattle.thread_work.proofs.running.close_returned.Goals as goal

pub close_all-requires-clause-helper : goal.close_all-requires-clause-helper
close_all-requires-clause-helper g c = c.requires.helping

pub close_all-requires-clause-running : goal.close_all-requires-clause-running
close_all-requires-clause-running g c = c.requires.running

pub close_all-requires-clause-ended : goal.close_all-requires-clause-ended
close_all-requires-clause-ended g c = c.requires.ended

pub close_all-requires-clause-lanes : goal.close_all-requires-clause-lanes
close_all-requires-clause-lanes g c = c.requires.lanes

pub close_all-requires-clause-called : goal.close_all-requires-clause-called
close_all-requires-clause-called g c = c.requires.called

pub close_all-requires-clause-none : goal.close_all-requires-clause-none
close_all-requires-clause-none g c = none_hold c.args.returned.ended.items (subst (λ (es : List Ended). All (λ (e : Ended). e.held ≡ 0) es) c.deref.ensures.value c.in-None.ensures.none)

pub close_all-requires-clause-complete : goal.close_all-requires-clause-complete
close_all-requires-clause-complete g c = complete_of c.args.returned.shared.plan.lanes c.args.returned.ended.items c.requires.lanes

pub leave-requires-clause-ended : goal.leave-requires-clause-ended
leave-requires-clause-ended g c =
    let r = c.args.returned in
    are_ended r.shared r.helper.store.known.layout.capacity r.helper.rings r.ended.items c.requires.ended

pub returns-in-Some-clause-crashes : goal.returns-in-Some-clause-crashes
returns-in-Some-clause-crashes g c =
    let device = g.D.Disk.device in
    let does = g.W.Work.does c.args.work.now in
    let r = c.args.returned in
    let x = r.helper in
    let l = x.store.known.layout in
    let es = r.ended.items in
    let some = subst (λ (es : List Ended). (c.in-Some._holder < length es) × ((d : Ended) → (slice_index_or es c.in-Some._holder d).held ≡ 0 → ⊥)) c.deref.ensures.value c.in-Some.ensures.some in
    back_open device does r.shared x c.leave.result es c.round_law.ensures.between c.round_law.ensures.now c.requires.helping c.requires.ended (have_ended does r.shared l x.rings es r.answer c.requires.ended c.requires.lanes c.requires.called)
    (c.leave.ensures.history, λ p serving. c.leave.ensures.read (plan r.shared) p serving) (λ none. one_holds c.in-Some._holder es some.0 some.1 none) c.leave.ensures.disk
