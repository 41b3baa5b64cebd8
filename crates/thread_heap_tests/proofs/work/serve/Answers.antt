use Rattle.std.proofs.Common.{subst, sym}
use Rattle.thread_steps.specs.Views.{plan}
use Rattle.image_parts.specs.declared.layout.Layout.{Layout}
use Rattle.thread_heap.specs.Joined.{IsJoined}
use Rattle.thread_heap_tests.proofs.work.serve.Goals as goal

pub returns-clause-helping : goal.returns-clause-helping
returns-clause-helping g c =
    let was = c.requires.helping in
    let h = c.args.shared.now in
    c.helping_law.ensures.round h was.past c.args.helper.now c.round.new.self c.round.result was c.round.ensures.goes_on (c.round.ensures.rounds (plan h) was.past was.serving).works

pub returns-clause-joined : goal.returns-clause-joined
returns-clause-joined g c x joined =
    let h = c.args.shared.now in
    let was = c.args.helper.now in
    let now = c.round.new.self in
    subst (λ (l : Layout). IsJoined h l.capacity now.rings x) (sym c.round.ensures.goes_on.layout) (c.joined_law.ensures.rings h was.store.known.layout.capacity was.rings now.rings x joined c.round.ensures.goes_on.rings)
