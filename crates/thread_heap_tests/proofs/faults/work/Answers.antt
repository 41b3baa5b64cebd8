use Rattle.thread_heap_tests.proofs.faults.work.Goals as goal

pub returns-clause-session : goal.returns-clause-session
returns-clause-session g c =
    let first = c.add_one.ensures.joined _ _ c.requires.session in
    let served = c.serve-2.ensures.joined _ (c.serve.ensures.joined _ first) in
    c.add_one-goes_on.ensures.joined _ _ (c.told-stable.ensures.joined _ _ served)
