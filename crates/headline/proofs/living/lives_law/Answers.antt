use Rattle.headline.proofs.CutOff.{read_first}
use Rattle.headline.proofs.Lives.{lives_first, lives_on, lives_since}
use Rattle.headline.proofs.living.lives_law.Goals as goal

pub returns-clause-opened : goal.returns-clause-opened
returns-clause-opened g c = lives_first g.D.Disk.device

pub returns-clause-round : goal.returns-clause-round
returns-clause-round g c = lives_on g.D.Disk.device c.life_law.ensures.failed c.seen_law.ensures

pub returns-clause-since : goal.returns-clause-since
returns-clause-since g c = lives_since g.D.Disk.device c.life_law.ensures.failed c.seen_law.ensures

pub returns-clause-read : goal.returns-clause-read
returns-clause-read g c = read_first
