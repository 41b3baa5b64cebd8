use Rattle.std.proofs.Common.{arith}
use Rattle.trim_helper.proofs.Sharing.{share_none, share_some}
use Rattle.trim_helper.proofs.draining.share_of.Goals as goal

pub returns-then-remaining-eq0 : goal.returns-then-remaining-eq0
returns-then-remaining-eq0 c = share_none c.args.remaining c.args.lanes c.if-remaining-eq0.true c.requires.lanes

pub returns-else-remaining-eq0 : goal.returns-else-remaining-eq0
returns-else-remaining-eq0 c = share_some c.args.remaining c.args.lanes (omega (arith, c.if-remaining-eq0.false)) c.requires.lanes
