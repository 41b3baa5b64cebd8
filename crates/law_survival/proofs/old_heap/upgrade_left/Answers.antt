use Rattle.std.proofs.Common.{arith}
use Rattle.recover.specs.declared.versions.Versions.TheVariants.{Both}
use Rattle.law_survival.proofs.Promises.{upgraded_or_refused}
use Rattle.law_survival.proofs.RunAgain.{always_cut_off}
use Rattle.law_survival.proofs.Unworn.{unworn_tries}
use Rattle.law_survival.proofs.Upgrades.{survives_upgrade, tried_upgrade}
use Rattle.law_survival.proofs.old_heap.upgrade_left.Goals as goal

pub returns-clause-survives : goal.returns-clause-survives
returns-clause-survives g c = record {
  heap = λ l s p first attempts was.
      survives_upgrade l s p g.E.Disk.device (g.E.Disk.device c.args.left) first attempts was.left c.again_law.ensures.heap c.again_law.ensures.report c.again_law.ensures.accepted c.again_law.ensures.on was.tries
      c.upgrade.result c.upgrade.ensures.ok c.upgrade.ensures.refused;
  first_told = λ l s p first attempts was.
      tried_upgrade l s p g.E.Disk.device (g.E.Disk.device c.args.left) first attempts was.left c.has_study_law.ensures c.again_law.ensures.tried was.tries c.upgrade.result c.upgrade.ensures.ok;
  unworn = λ first attempts study of tries.
      unworn_tries Both first (g.E.Disk.device c.args.left).now.bytes attempts study study.control.sequence c.again_law.ensures.studied c.again_law.ensures.sequences of tries (omega arith) c.upgrade.result c.upgrade.ensures.refused;
}

pub returns-clause-upgraded : goal.returns-clause-upgraded
returns-clause-upgraded g c = record {
  found = upgraded_or_refused g.E.Disk.device (g.E.Disk.device c.args.left) c.upgrade.result c.upgrade.ensures.ok c.upgrade.ensures.refused;
  cut_off = always_cut_off g.E.Disk.device (g.E.Disk.device c.args.left) c.upgrade.result c.upgrade.ensures.ok c.upgrade.ensures.any_moment c.upgrade.ensures.cut_off;
  untouched = c.upgrade.ensures.untouched;
  cause = c.upgrade.ensures.cause;
}
