use Rattle.law_survival.proofs.RunAgain.{always_cut_off}
use Rattle.law_survival.proofs.WholeRuns.{studied_again, survives, survives_again, survives_since, survives_up_to, tried_again}
use Rattle.law_survival.proofs.Earlier.{answers_by}
use Rattle.law_survival.proofs.Promises.{found_or_refused}
use Rattle.law_survival.proofs.Unworn.{unworn_calls}
use Rattle.law_survival.proofs.whole_run.play_and_recover.Goals as goal

pub returns-clause-survives : goal.returns-clause-survives
returns-clause-survives g c = record {
  heap = λ s p has left.
      survives c.args.store.now.known s p c.args.calls.now (g.D.Disk.device c.args.store.now.disk) (g.D.Disk.device c.play.new.self.disk) g.E.Disk.device (g.E.Disk.device c.args.left) has
      (c.play.ensures.shown s p has) left c.recover.result c.recover.ensures.ok c.recover.ensures.refused;
}

pub returns-clause-moments : goal.returns-clause-moments
returns-clause-moments g c = record {
  each = λ s p has n made.
      let was = c.play.ensures.moments s p has n made in
      record {
        was = was;
        since = survives_since c.args.store.now.known s p c.args.calls.now (g.D.Disk.device c.args.store.now.disk) (g.D.Disk.device c.play.new.self.disk) g.E.Disk.device (g.E.Disk.device c.args.left) n was
            c.recover.result c.recover.ensures.ok c.recover.ensures.refused;
        up_to = λ left. answers_by c.args.store.now.known s p was.then c.args.calls.now n (g.E.Disk.device c.args.left).now.bytes has.past was.made c.recover.result
            (survives_up_to c.args.store.now.known s p c.args.calls.now (g.D.Disk.device c.args.store.now.disk) (g.D.Disk.device c.play.new.self.disk) g.E.Disk.device (g.E.Disk.device c.args.left) n has was
            c.recover.result c.recover.ensures.ok c.recover.ensures.refused left);
      };
}

pub returns-clause-again : goal.returns-clause-again
returns-clause-again g c = record {
  each = λ s p first attempts was.
      let shown = c.play.ensures.shown s p was.has in
      record {
        heap = survives_again c.args.store.now.known s p c.args.calls.now (g.D.Disk.device c.args.store.now.disk) (g.D.Disk.device c.play.new.self.disk) g.E.Disk.device (g.E.Disk.device c.args.left) first attempts was.has
            c.again_law.ensures.heap c.again_law.ensures.report c.again_law.ensures.accepted c.again_law.ensures.on c.has_study_law.ensures c.again_law.ensures.current shown was.left was.tries c.recover.result c.recover.ensures.ok c.recover.ensures.refused;
        first_told = tried_again c.args.store.now.known s p c.args.calls.now (g.D.Disk.device c.args.store.now.disk) (g.D.Disk.device c.play.new.self.disk) g.E.Disk.device (g.E.Disk.device c.args.left) first attempts was.has
            c.has_study_law.ensures c.again_law.ensures.tried shown was.left was.tries c.recover.result c.recover.ensures.ok;
        studied = studied_again c.args.store.now.known s p c.args.calls.now (g.D.Disk.device c.args.store.now.disk) (g.D.Disk.device c.play.new.self.disk) first (g.E.Disk.device c.args.left).now.bytes attempts was.has
            c.has_study_law.ensures c.again_law.ensures.on shown was.left was.tries;
        unworn = λ serves. unworn_calls c.args.store.now.known s p c.args.calls.now (g.D.Disk.device c.args.store.now.disk) (g.D.Disk.device c.play.new.self.disk) first (g.E.Disk.device c.args.left).now.bytes attempts was.has serves
            c.has_study_law.ensures c.again_law.ensures.studied c.again_law.ensures.sequences shown c.play.ensures.any_sequence was.left was.tries c.recover.result c.recover.ensures.refused;
      };
}

pub returns-clause-recovered : goal.returns-clause-recovered
returns-clause-recovered g c = record {
  found = found_or_refused g.E.Disk.device (g.E.Disk.device c.args.left) c.recover.result c.recover.ensures.ok c.recover.ensures.refused;
  any_moment = c.recover.ensures.any_moment;
  untouched = c.recover.ensures.untouched;
  interrupted = c.recover.ensures.interrupted;
  cut_off = always_cut_off g.E.Disk.device (g.E.Disk.device c.args.left) c.recover.result c.recover.ensures.ok c.recover.ensures.any_moment c.recover.ensures.cut_off;
  cause = c.recover.ensures.cause;
}
