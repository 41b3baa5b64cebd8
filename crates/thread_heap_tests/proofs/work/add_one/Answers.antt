use Rattle.thread_heap_tests.proofs.work.add_one.Goals as goal

pub returns-clause-joined : goal.returns-clause-joined
returns-clause-joined g c k rings joined =
    let h = c.args.shared.now in
    let law = c.joined_law.ensures.call h k rings in
    let entered = law c.args.session.now c.enter.new.self joined c.enter.ensures.seat c.enter.ensures.ring in
    let loaded = law c.enter.new.self c.value_for_all-value.new.session entered c.value_for_all-value.ensures.seat c.value_for_all-value.ensures.ring in
    let stored = law c.value_for_all-value.new.session c.store.new.self loaded c.store.ensures.seat c.store.ensures.ring in
    law c.store.new.self c.exit.new.self stored c.exit.ensures.seat c.exit.ensures.ring
