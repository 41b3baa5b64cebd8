use Rattle.headline.proofs.Given.{gives_kept, is_worn}
use Rattle.headline.proofs.Durable.{keeps_least, reader_within}
use Rattle.headline.proofs.recovering.recover_left_of_host.Goals as goal

pub returns-clause-run : goal.returns-clause-run
returns-clause-run g c h p old y seen host runs left =
    gives_kept g.E.Disk.device (g.E.Disk.device c.args.left) c.recover.result c.one_study_law.ensures c.recover.ensures.ok c.recover.ensures.refused
    y.store.known.layout _ p seen (c.running_law.ensures.run h p old y seen host _ runs left)

pub returns-clause-round : goal.returns-clause-round
returns-clause-round g c x y answer p old host ran made hears left =
    gives_kept g.E.Disk.device (g.E.Disk.device c.args.left) c.recover.result c.one_study_law.ensures c.recover.ensures.ok c.recover.ensures.refused
    y.helper.store.known.layout _ p y.helper.seat.view.history (c.running_law.ensures.round x y answer p old host _ ran made hears left)

pub returns-clause-closing : goal.returns-clause-closing
returns-clause-closing g c h x p old d host lanes run serves closing left =
    gives_kept g.E.Disk.device (g.E.Disk.device c.args.left) c.recover.result c.one_study_law.ensures c.recover.ensures.ok c.recover.ensures.refused
    x.store.known.layout _ p (closing.from run.now serves).closed.history (c.running_law.ensures.closing h x p old d host _ lanes run serves closing left)

pub returns-clause-worn : goal.returns-clause-worn
returns-clause-worn g c = is_worn (g.E.Disk.device c.args.left) c.recover.result c.recover.ensures.refused

pub returns-clause-durable : goal.returns-clause-durable
returns-clause-durable g c h p x y seen t sections host had layout runs left =
    keeps_least c.recover.result y.store.known.layout _ p seen t sections
    (gives_kept g.E.Disk.device (g.E.Disk.device c.args.left) c.recover.result c.one_study_law.ensures c.recover.ensures.ok c.recover.ensures.refused
    y.store.known.layout _ p seen (c.running_law.ensures.run h p _ y seen host _ runs left))
    (reader_within _ h p x t sections had y.store.known.layout layout) (c.stable_law.ensures.read h p x t sections had)
