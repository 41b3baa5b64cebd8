use Rattle.thread_heap_tests.proofs.endings.end_holding.Goals as goal

pub returns : goal.returns
returns c = record {
  ended = λ k rings joined. c.end.ensures.ended c.args.shared.now k rings (c.joined_law.ensures.call c.args.shared.now k rings c.args.session c.try_enter.new.self joined c.try_enter.ensures.seat c.try_enter.ensures.ring);
}
