use Rattle.std.proofs.Common.{◌≡◌, ◌<◌, ◌∷◌, [], ◌++◌, List, Vec, Global, length, vec_capacity, ap, ◌∙◌}
use Rattle.heap_model.specs.declared.record.UndoRecord.{UndoRecord}
use Rattle.store_memory.proofs.LaneLogs.{read_log, read_room, put_here, put_else, put_room}
use Rattle.store_memory.proofs.fresh.put.Goals as goal

pub returns-clause-put : goal.returns-clause-put
returns-clause-put c =
    put_here c.args.logs.now c.args.lane.0 c.push_reserved.new.self c.requires.lane ∙ c.push_reserved.ensures.items
    ∙ ap (λ (xs : List UndoRecord). xs ++ c.args.entry ∷ []) (read_log c.args.logs.now c.args.lane.0 c.index-logs-lane.result c.requires.lane)

pub returns-clause-others : goal.returns-clause-others
returns-clause-others c = λ l ne. put_else c.args.logs.now c.args.lane.0 c.push_reserved.new.self l ne

pub returns-clause-rooms : goal.returns-clause-rooms
returns-clause-rooms c = put_room c.args.logs.now c.args.lane.0 c.push_reserved.new.self c.requires.lane
    (c.push_reserved.ensures.capacity ∙ read_room c.args.logs.now c.args.lane.0 c.index-logs-lane.result c.requires.lane)
