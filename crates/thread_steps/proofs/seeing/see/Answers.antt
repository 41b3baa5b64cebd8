use Rattle.std.proofs.Common.{sym, subst}
use Rattle.heap_model.specs.History.{IsLegalHistory}
use Rattle.monitor.specs.Words.{setting_of}
use Rattle.thread_steps.proofs.Growing.{after_seen, each_seen}
use Rattle.thread_steps.proofs.seeing.see.Goals as goal

pub returns-clause-seen : goal.returns-clause-seen
returns-clause-seen c = let e = c.see.ensures in let w = c.see.new.seat.view in
    after_seen c.args.seat.now.view w w.history e.seen e.goes_on (subst (λ k. IsLegalHistory (setting_of k) w.history) (sym c.requires.seat.2) e.legal) e.part

pub returns-clause-grips : goal.returns-clause-grips
returns-clause-grips c = let w = c.see.new.seat.view in each_seen c.args.seat.now.view w w.history c.see.ensures.seen
