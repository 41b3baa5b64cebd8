use Rattle.std.proofs.Common.{Some, subst, sym, ◌∙◌}
use Rattle.std.proofs.lemmas.List.{nil_from_length}
use Rattle.std.proofs.lemmas.List.Elements.{All-pop}
use Rattle.thread_work.proofs.Joining.{have_nobody, have_one}
use Rattle.session.specs.declared.session.Session.{Session}
use Rattle.thread_work.specs.Bodies.{HasWorked, IsFirst}
use Rattle.thread_work.specs.Serving.{HasServed}
use Rattle.thread_work.proofs.beside.+work_in.Goals as goal

pub spawn_with-requires-clause-runs : goal.spawn_with-requires-clause-runs
spawn_with-requires-clause-runs g t c κs within = (All-pop (IsFirst c.args.shared.now) c.args.sessions.items c.pop.new.self.items (Some c.in-Some.session) c.in-Some.ensures.items c.requires.first).1

pub work_in-requires-clause-first : goal.work_in-requires-clause-first
work_in-requires-clause-first g t c κs within = (All-pop (IsFirst c.args.shared.now) c.args.sessions.items c.pop.new.self.items (Some c.in-Some.session) c.in-Some.ensures.items c.requires.first).0

pub work_in-requires-clause-helping : goal.work_in-requires-clause-helping
work_in-requires-clause-helping g t c κs within = c.requires.helping

pub work_in-requires-clause-running : goal.work_in-requires-clause-running
work_in-requires-clause-running g t c κs within = c.requires.running

pub returns-in_default-clause-beside : goal.returns-in_default-clause-beside
returns-in_default-clause-beside g t c =
    have_nobody (g.W.Work.does c.args.work.now) c.args.shared.now g.D.Disk.device c.args.sessions.items c.args.helper c.serve_begun.result
    (nil_from_length c.args.sessions.items (sym c.args.sessions.ok.0 ∙ c.in_default.ensures.cases.0)) c.serve_begun.ensures.served c.serve_begun.ensures.nobody

pub returns-in-Ok-work_in-clause-beside : goal.returns-in-Ok-work_in-clause-beside
returns-in-Ok-work_in-clause-beside g t c =
    let before = c.in-Ok-work_in.ensures.beside in
    record {
      worked = have_one (g.W.Work.does c.args.work.now) c.args.shared.now c.args.sessions.items c.pop.new.self.items c.in-Some.session c.in-Ok-work_in.beside.worked c.and_joined.result.worked c.join.result
          c.in-Some.ensures.items c.requires.first before.worked
          (subst (λ (s : Session). HasWorked (g.W.Work.does c.args.work.now) c.args.shared.now s c.join.result) c.of.ensures
          (subst (λ p. HasWorked (g.W.Work.does p.work.now) p.shared.now p.first.value c.join.result) c.in-Ok.ensures.ok c.join.ensures))
          c.and_joined.ensures.worked;
      served = subst (λ s. HasServed g.D.Disk.device c.args.shared.now c.args.helper s.helper s.answer) {x = c.in-Ok-work_in.beside.served} (sym c.and_joined.ensures.served) before.served;
    }
