use Rattle.std.proofs.Common.{◌≡◌, true, false, not, ⊎_elim, sym, ap, ◌∙◌, subst, arith}
use Rattle.heap_model.specs.Cuts.{counts_of}
use Rattle.durable.specs.Store.{Known, Parts, HasPast}
use Rattle.durable.proofs.Ending.{open_told, logged_told, unlogged_told, clean_told, dirty_told, acknowledged_told, told_acknowledged}
use Rattle.durable.proofs.store.Store.is_closable.Goals as goal

pub returns-then-any_open : goal.returns-then-any_open
returns-then-any_open g c = λ s p has.
    let here = subst (λ (x : Parts g.row.D.Denot). HasPast x.known s p (g.D.Disk.device x.disk)) (sym c.self.view_is) has in (
      ap (λ (x : Parts g.row.D.Denot). x.known.has_failed) (sym c.self.view_is) ∙ c.if-self.false,
      open_told s c.self.inside.applied p c.any_open.result here.remembers (c.any_open.ensures.closed s p here.remembers) c.if-any_open.true,
    )

pub returns-then-is_acknowledged : goal.returns-then-is_acknowledged
returns-then-is_acknowledged g c = λ s p has.
    let here = subst (λ (x : Parts g.row.D.Denot). HasPast x.known s p (g.D.Disk.device x.disk)) (sym c.self.view_is) has in
    let known : Known = record { layout = c.self.inside.layout; committed = c.self.inside.committed; memory = c.self.inside.applied; logged = c.self.inside.sections; has_failed = c.self.inside.has_failed; doubt = c.self.inside.doubt } in (
      ap (λ (x : Parts g.row.D.Denot). x.known.has_failed) (sym c.self.view_is) ∙ c.if-self.false,
      (λ held. absurd (omega (arith, held.1, c.any_open.ensures.«open» s p held.0 here.remembers c.if-any_open.false))),
      record {
        logged = logged_told p c.fresh.result.now (c.fresh.ensures.records s p here.remembers) (sym c.if-is_logged.ensures);
        home = clean_told s p c.least_dirty.result (c.least_dirty.ensures s p here.remembers) c.if-is_home.ensures;
        acknowledged = acknowledged_told known s p (g.D.Disk.device c.self.inside.disk) here (counts_of c.kept_cut.result) c.kept_cut.ensures.kept
            ((c.is_all_within-is_acknowledged.ensures p.base p.logged here.sections).0 c.if-is_acknowledged.true);
      },
    )

pub returns-else-is_logged : goal.returns-else-is_logged
returns-else-is_logged g c = λ s p has.
    let here = subst (λ (x : Parts g.row.D.Denot). HasPast x.known s p (g.D.Disk.device x.disk)) (sym c.self.view_is) has in
    let known : Known = record { layout = c.self.inside.layout; committed = c.self.inside.committed; memory = c.self.inside.applied; logged = c.self.inside.sections; has_failed = c.self.inside.has_failed; doubt = c.self.inside.doubt } in (
      ap (λ (x : Parts g.row.D.Denot). x.known.has_failed) (sym c.self.view_is) ∙ c.if-self.false,
      (λ held. absurd (omega (arith, held.1, c.any_open.ensures.«open» s p held.0 here.remembers c.if-any_open.false))),
      λ written. ⊎_elim
          (λ unacknowledged. absurd (
          let all : c.is_all_within-is_acknowledged.result ≡ true = (c.is_all_within-is_acknowledged.ensures p.base p.logged here.sections).1
          (told_acknowledged known s p (g.D.Disk.device c.self.inside.disk) here (counts_of c.kept_cut.result) c.kept_cut.ensures.kept written.acknowledged) in
          let no : true ≡ false = sym all ∙ unacknowledged.2 in
          cc
          ))
          (λ rest. ⊎_elim
          (λ dirty. dirty_told s p c.least_dirty.result (c.least_dirty.ensures s p here.remembers) (c.is_none-is_home.ensures ∙ ap (λ b. not b) dirty.1) written.home)
          (λ unlogged. unlogged_told p c.fresh.result.now (c.fresh.ensures.records s p here.remembers) (sym c.is_empty-is_logged.ensures ∙ unlogged) written.logged)
          rest)
          c.else-is_logged.either,
    )
