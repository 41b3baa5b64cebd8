use Rattle.std.proofs.Common.{arith}
use Rattle.headline.proofs.CutOff.{cut_off}
use Rattle.headline.proofs.Given.{gives_again, gives_kept, is_worn}
use Rattle.headline.proofs.Lives.{at_rest, life_kept, until_kept, until_rises}
use Rattle.headline.proofs.Durable.{keeps_least, reader_there}
use Rattle.headline.proofs.recovering.recover_left.Goals as goal

pub returns-clause-life : goal.returns-clause-life
returns-clause-life g c h l p seen life =
    gives_kept g.E.Disk.device (g.E.Disk.device c.args.left) c.recover.result c.one_study_law.ensures c.recover.ensures.ok c.recover.ensures.refused l _ p seen
    (life_kept g.D.Disk.device h c.life_law.ensures.failed c.seen_law.ensures c.round_law.ensures.now c.round_law.ensures.round c.round_law.ensures.closing _ l p seen life)

pub returns-clause-again : goal.returns-clause-again
returns-clause-again g c h l p seen first life opened =
    let tries = cut_off first (g.E.Disk.device c.args.left).now.bytes opened in
    gives_again g.E.Disk.device (g.E.Disk.device c.args.left) c.recover.result c.studied_law.ensures c.again_law.ensures.tried c.again_law.ensures.studied c.again_law.ensures.current
    c.recover.ensures.ok c.recover.ensures.refused l _ p seen first tries.0
    (life_kept g.D.Disk.device h c.life_law.ensures.failed c.seen_law.ensures c.round_law.ensures.now c.round_law.ensures.round c.round_law.ensures.closing first l p seen life) tries.1

pub returns-clause-durable : goal.returns-clause-durable
returns-clause-durable g c h x p q l saw later t sections lives had until =
    let failed = c.life_law.ensures.failed in
    let seen_of = c.seen_law.ensures in
    let began = at_rest g.D.Disk.device h failed seen_of x p saw lives in
    let stays = until_rises g.D.Disk.device h failed seen_of x p saw began _ l q later _ until (reader_there g.D.Disk.device h p x t sections had) in
    let least = c.stable_law.ensures.read h p x t sections had in
    let more = stays.1 in
    keeps_least c.recover.result l _ q later t sections
    (gives_kept g.E.Disk.device (g.E.Disk.device c.args.left) c.recover.result c.one_study_law.ensures c.recover.ensures.ok c.recover.ensures.refused l _ q later
    (until_kept g.D.Disk.device h failed seen_of c.round_law.ensures.now c.round_law.ensures.round c.round_law.ensures.closing x p saw began _ l q later until))
    stays.0 (omega (arith, least, more))

pub returns-clause-worn : goal.returns-clause-worn
returns-clause-worn g c = is_worn (g.E.Disk.device c.args.left) c.recover.result c.recover.ensures.refused
