use Rattle.session_tests.proofs.pool_heap.open_pool.Goals as goal

pub open_sessions-requires-clause-fresh : goal.open_sessions-requires-clause-fresh
open_sessions-requires-clause-fresh c = (c.args.lanes, c.in_ok-shared.ensures.views)
