use Rattle.std.proofs.Common.{[], ◌∷◌, ap, sym, ◌∙◌, subst}
use Rattle.monitor.specs.Seats.{Home}
use Rattle.session.specs.Sessions.{IsSessionOf}
use Rattle.session.specs.declared.session.Session.{Session}
use Rattle.host_heap.proofs.beginning.add.Goals as goal

pub seat-session-requires-clause-of : goal.seat-session-requires-clause-of
seat-session-requires-clause-of c = subst (λ (h : Home). IsSessionOf h c.args.session) (sym c.in-Ok.ensures.home) c.requires.of

pub returns-clause-added : goal.returns-clause-added
returns-clause-added c =
    let made = c.in-Ok.ensures in
    let seated = c.seat-session.ensures in (
      c.seat-session.result.0,
      c.seat-session.result.1,
      c.in_default.ensures.items,
      c.in_ok-push.ensures.items,
      seated.session.0 ∙ made.home,
      seated.session.1,
      seated.session.2 ∙ made.word,
      record { ring = seated.ring; begins = seated.end.0 ∙ ap (λ (s : Session). s ∷ []) (sym seated.session.1); none = seated.end.1 },
    )
