use Rattle.image_parts.proofs.Choices.{head_is}
use Rattle.image_parts.proofs.choice.read_head.Goals as goal

pub returns-clause-ok : goal.returns-clause-ok
returns-clause-ok g c =
    head_is (g.D.Disk.device c.args.disk.now).now.bytes c.read_within.new.out c.args.slot c.start.result c.u64_at.result c.start.ensures c.in_ok-read_within.ensures.ok c.u64_at.ensures.number c.u64_at.ensures.spelled
