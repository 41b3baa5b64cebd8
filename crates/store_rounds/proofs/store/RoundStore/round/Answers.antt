use Rattle.std.proofs.Common.{refl, subst}
use Rattle.heap_model.specs.Past.{applied}
use Rattle.store_memory.specs.Sections.{Logged, TellsSections}
use Rattle.store_rounds.proofs.Afterwards.{plan_made, surveyed_has}
use Rattle.store_rounds.proofs.Composing.{busy_of, quiet_of, round_made, round_quiet, rounds_both, rounds_from}
use Rattle.store_rounds.proofs.store.RoundStore.round.Goals as goal

pub returns-then-is_quiet : goal.returns-then-is_quiet
returns-then-is_quiet g c = rounds_both c.self.view_is (λ i. record { disk = c.self.inside.disk; known = record { layout = c.self.inside.layout; threads = c.self.inside.threads; committed = c.self.inside.committed; memory = c.self.inside.applied; sections = c.stable-stable.ensures.same i; rounds = c.self.inside.rounds; guards = c.self.inside.guards.items; pending = c.self.inside.pending.items; has_failed = c.self.inside.has_failed } })
    (round_quiet g.D.Disk.device c.stable-stable.result.cut _ c.if-self.false (quiet_of g.D.Disk.device c.stable-stable.result.cut _ _ (λ i. record { disk = c.self.inside.disk; known = record { layout = c.self.inside.layout; threads = c.self.inside.threads; committed = c.self.inside.committed; memory = c.self.inside.applied; sections = c.stable-stable.ensures.same i; rounds = c.self.inside.rounds; guards = c.self.inside.guards.items; pending = c.self.inside.pending.items; has_failed = c.self.inside.has_failed } }) (c.is_quiet.ensures.quiet c.if-is_quiet.true)) (λ s p was. c.stable-stable.ensures.stable p.cut (applied p) was.sections))

pub invariant_of-self-2 : goal.invariant_of-self-2
invariant_of-self-2 g c =
    let was = c.self.invariant.1 in
    (c.self.invariant.0, (was.0, was.1, surveyed_has _ was.0 was.1 _ was.2 _ _ c.stable-stable.ensures.same c.survey.ensures.only))

pub turn-requires-clause-plan : goal.turn-requires-clause-plan
turn-requires-clause-plan g c = plan_made _ _ _ c.stable-stable.result.cut c.stable-stable.result.places c.survey.ensures.only
    (λ base log tells. c.stable-stable.ensures.stable base log (subst (λ (w : Logged). TellsSections w base log) c.stable-stable.ensures.same tells))
    (λ base log tells. c.stable-stable.ensures.behind base log (subst (λ (w : Logged). TellsSections w base log) c.stable-stable.ensures.same tells))
    (λ s p cut may. c.survey.ensures.found s p cut may)

pub returns : goal.returns
returns g c = rounds_from c.self.view_is
    (round_made g.D.Disk.device c.stable-stable.result.cut _ _ _ _ c.if-self.false c.if-self.false refl refl refl refl
    (λ s p was. surveyed_has _ s p _ was _ _ c.stable-stable.ensures.same c.survey.ensures.only)
    (busy_of g.D.Disk.device _ _ (λ i. record { disk = c.self.inside.disk; known = record { layout = c.self.inside.layout; threads = c.self.inside.threads; committed = c.self.inside.committed; memory = c.self.inside.applied; sections = c.stable-stable.ensures.same i; rounds = c.self.inside.rounds; guards = c.self.inside.guards.items; pending = c.self.inside.pending.items; has_failed = c.self.inside.has_failed } }) (c.is_quiet.ensures.busy c.if-is_quiet.false)) (λ s p was. c.stable-stable.ensures.stable p.cut (applied p) was.sections) c.turn.ensures)
