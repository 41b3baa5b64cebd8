use Rattle.thread_work.proofs.beside.work_beside.Goals as goal

pub scoped-requires : goal.scoped-requires
scoped-requires g c = record { at = λ a. (c.requires.first, (c.requires.helping, (c.requires.running, (record { shared = c.type_bounds.sync-W.shared }, record { shared = c.type_bounds.sync-R.shared })))) }
