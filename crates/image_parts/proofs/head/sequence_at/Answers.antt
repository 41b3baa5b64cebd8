use Rattle.image_parts.proofs.Heads.{sequence_is}
use Rattle.image_parts.proofs.head.sequence_at.Goals as goal

pub returns : goal.returns
returns c = sequence_is c.args.begun.now c.args.slot c.start.result c.u64_at.result c.start.ensures c.u64_at.ensures.number
