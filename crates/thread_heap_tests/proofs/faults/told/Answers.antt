use Rattle.thread_heap_tests.proofs.faults.told.Goals as goal

pub returns-clause-joined : goal.returns-clause-joined
returns-clause-joined c k rings joined = c.joined_law.ensures.call c.args.shared.now k rings c.args.session.now c.stable.new.self joined c.stable.ensures.seat c.stable.ensures.ring
