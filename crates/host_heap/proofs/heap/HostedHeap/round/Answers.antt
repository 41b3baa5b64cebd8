use Rattle.host_heap.proofs.Begun.{begun_err, begun_ok, not_begun}
use Rattle.host_heap.proofs.heap.HostedHeap.round.Goals as goal

pub returns-then-not-has_room : goal.returns-then-not-has_room
returns-then-not-has_room c = record { round = not_begun c.args.most c.args.self.now c.has_room.new.self c.has_room.result c.if-not-has_room.true c.has_room.ensures.room c.has_room.ensures.heap c.has_room.ensures.calls }

pub returns-in-Ok : goal.returns-in-Ok
returns-in-Ok c = record {
  round = begun_ok c.args.most c.args.self.now c.has_room.new.self c.serve.new.self c.has_room.result c.if-not-has_room.false c.has_room.ensures.room c.has_room.ensures.heap c.has_room.ensures.calls c.serve.ensures.calls c.serve.ensures.kept c.serve.ensures.heard c.in-Ok.applied
      (λ p serving. c.in-Ok.ensures.serves p serving) c.in-Ok.ensures.shares;
}

pub returns-in-Err : goal.returns-in-Err
returns-in-Err c = record {
  round = begun_err c.args.most c.args.self.now c.has_room.new.self c.serve.new.self c.has_room.result c.if-not-has_room.false c.has_room.ensures.room c.has_room.ensures.heap c.has_room.ensures.calls c.serve.ensures.calls c.serve.ensures.kept c.serve.ensures.heard c.in-Err.stop
      (λ p serving. c.in-Err.ensures.serves p serving) c.in-Err.ensures.shares;
}
