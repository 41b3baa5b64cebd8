use Rattle.std.proofs.Common.{◌∙◌, sym}
use Rattle.trim_helper.proofs.HeardRings.{seen_still}
use Rattle.trim_helper.proofs.Rounds.{goes_on_published, round_published, round_refused, shares_published}
use Rattle.trim_helper.proofs.helper.Helper.bounded_round.Goals as goal

pub returns-in-Err : goal.returns-in-Err
returns-in-Err g c = record {
  rounds = λ s p serving. round_refused g.D.Disk.device c.args.most s p c.args.self.now c.settle.new.self c.in-Err.reason (c.in-Err.ensures.settles s p serving);
  shares = tt;
  goes_on = c.in-Err.ensures.goes_on;
  seen = c.in-Err.ensures.seen;
  later = c.in-Err.ensures.later;
}

pub publish-requires-clause-seat : goal.publish-requires-clause-seat
publish-requires-clause-seat g c = c.in-Ok.ensures.goes_on.seat

pub publish-requires-clause-lanes : goal.publish-requires-clause-lanes
publish-requires-clause-lanes g c = c.requires.lanes ∙ sym c.in-Ok.ensures.goes_on.threads

pub returns-in-Ok : goal.returns-in-Ok
returns-in-Ok g c = record {
  rounds = λ s p serving. round_published g.D.Disk.device c.args.most s p c.args.self.now c.settle.new.self c.args.shared.now c.publish.new.self c.publish.ensures c.in-Ok.count (c.in-Ok.ensures.settles s p serving);
  shares = λ at. shares_published g.D.Disk.device c.args.self.now c.settle.new.self c.args.shared.now c.publish.new.self c.publish.ensures c.in-Ok.count (c.in-Ok.ensures.shares at);
  goes_on = goes_on_published g.D.Disk.device c.args.shared.now c.args.self.now c.settle.new.self c.publish.new.self c.publish.ensures c.in-Ok.ensures.goes_on;
  seen = λ runs. seen_still c.args.shared.now c.settle.new.self c.publish.new.self c.publish.ensures.rings c.publish.ensures.sight.history (c.in-Ok.ensures.seen runs);
  later = let goes = c.in-Ok.ensures.later in (goes.0, c.publish.ensures.sight.history ∙ goes.1);
}
