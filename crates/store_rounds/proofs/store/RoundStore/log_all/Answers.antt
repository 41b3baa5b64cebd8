use Rattle.std.proofs.Common.{◌≡◌, ⊎_elim, true, false, List, [], Err, length, refl, sym, ap, ◌∙◌, subst, arith}
use Rattle.heap_model.specs.Cuts.{counts_of}
use Rattle.heap_model.specs.Setting.{Setting}
use Rattle.block_disk.specs.Images.{LeavesOnly}
use Rattle.store_image.specs.declared.committed.Committed.{Committed}
use Rattle.heap_model.specs.Past.{Past, after_log, applied}
use Rattle.heap_model.specs.declared.store_error.StoreError.TheVariants.{Worn}
use Rattle.store_helper_sections.specs.Image.{ShowsCutOf}
use Rattle.store_round_image.specs.declared.cells.HomeValue.{HomeValue}
use Rattle.store_rounds.specs.Steps.{RefusesWrite}
use Rattle.store_rounds.specs.Store.{HasPast}
use Rattle.store_rounds.specs.Turns.{HasWork}
use Rattle.store_rounds.proofs.Afterwards.{failed_has, logged_has, shows_turn}
use Rattle.store_rounds.proofs.Composing.{logs_both, logs_from, logs_none, logs_worn}
use Rattle.store_rounds.proofs.Turned.{cut_is, may_log, starts_are}
use Rattle.store_rounds.proofs.store.RoundStore.log_all.Goals as goal

pub returns-then-is_idle : goal.returns-then-is_idle
returns-then-is_idle g c = logs_none g.D.Disk.device c.args.self.now (sym (ap (λ z. z.known.has_failed) c.self.view_is) ∙ c.if-self.false) (c.is_idle.ensures.idle c.if-is_idle.true)

pub make_round-requires-clause-makes : goal.make_round-requires-clause-makes
make_round-requires-clause-makes g c =
    let was = c.self.invariant.1 in
    let run = was.2.agrees c.if-self.false in
    (was.0, was.1.logged, was.1.cut, run.helped, was.1.fresh, [], (may_log _ was.0 was.1 _ was.2 run c.limits_law.ensures.within c.limits_law.ensures.words c.acknowledged_cut-cut.result c.starts-places.result (cut_is _ was.0 was.1 _ was.2 run c.limits_law.ensures.within c.limits_law.ensures.words c.acknowledged_cut-cut.result c.acknowledged_cut-cut.ensures.size c.acknowledged_cut-cut.ensures.kept) (starts_are _ was.0 was.1 _ was.2 run c.limits_law.ensures.within c.limits_law.ensures.words c.starts-places.result c.starts-places.ensures) c.deref.result.now c.deref.ensures.value))

-- what a crash leaves
shown_ok : (g : _) (c : goal.After-clear g) (s : Setting) (p : Past) → HasPast (record { layout = c.self.inside.layout; threads = c.self.inside.threads; committed = c.self.inside.committed; memory = c.self.inside.applied; sections = c.self.inside.sections; rounds = c.self.inside.rounds; guards = c.self.inside.guards.items; pending = c.self.inside.pending.items; has_failed = c.self.inside.has_failed }) s p (g.D.Disk.device c.self.inside.disk) → LeavesOnly (g.D.Disk.device c.self.inside.disk) (g.D.Disk.device c.make_round.new.disk) (ShowsCutOf c.self.inside.layout c.self.inside.threads s (applied p) p.cut)
shown_ok g c s p was =
    let run = was.agrees c.if-self.false in
    shows_turn _ _ s p.logged p.cut run.helped p.fresh [] _ _ _ c.acknowledged_cut-cut.result c.starts-places.result c.deref.result.now _ _ (may_log _ s p _ was run c.limits_law.ensures.within c.limits_law.ensures.words c.acknowledged_cut-cut.result c.starts-places.result (cut_is _ s p _ was run c.limits_law.ensures.within c.limits_law.ensures.words c.acknowledged_cut-cut.result c.acknowledged_cut-cut.ensures.size c.acknowledged_cut-cut.ensures.kept) (starts_are _ s p _ was run c.limits_law.ensures.within c.limits_law.ensures.words c.starts-places.result c.starts-places.ensures) c.deref.result.now c.deref.ensures.value) (c.in-Ok.ensures.any_moment s p.logged p.cut run.helped p.fresh [] (may_log _ s p _ was run c.limits_law.ensures.within c.limits_law.ensures.words c.acknowledged_cut-cut.result c.starts-places.result (cut_is _ s p _ was run c.limits_law.ensures.within c.limits_law.ensures.words c.acknowledged_cut-cut.result c.acknowledged_cut-cut.ensures.size c.acknowledged_cut-cut.ensures.kept) (starts_are _ s p _ was run c.limits_law.ensures.within c.limits_law.ensures.words c.starts-places.result c.starts-places.ensures) c.deref.result.now c.deref.ensures.value))

shown_err : (g : _) (c : goal.After-self-1 g) (s : Setting) (p : Past) → HasPast (record { layout = c.self.inside.layout; threads = c.self.inside.threads; committed = c.self.inside.committed; memory = c.self.inside.applied; sections = c.self.inside.sections; rounds = c.self.inside.rounds; guards = c.self.inside.guards.items; pending = c.self.inside.pending.items; has_failed = c.self.inside.has_failed }) s p (g.D.Disk.device c.self.inside.disk) → LeavesOnly (g.D.Disk.device c.self.inside.disk) (g.D.Disk.device c.make_round.new.disk) (ShowsCutOf c.self.inside.layout c.self.inside.threads s (applied p) p.cut)
shown_err g c s p was =
    let run = was.agrees c.if-self.false in
    shows_turn _ _ s p.logged p.cut run.helped p.fresh [] _ _ _ c.acknowledged_cut-cut.result c.starts-places.result c.deref.result.now _ _ (may_log _ s p _ was run c.limits_law.ensures.within c.limits_law.ensures.words c.acknowledged_cut-cut.result c.starts-places.result (cut_is _ s p _ was run c.limits_law.ensures.within c.limits_law.ensures.words c.acknowledged_cut-cut.result c.acknowledged_cut-cut.ensures.size c.acknowledged_cut-cut.ensures.kept) (starts_are _ s p _ was run c.limits_law.ensures.within c.limits_law.ensures.words c.starts-places.result c.starts-places.ensures) c.deref.result.now c.deref.ensures.value) (c.in-Err.ensures.any_moment s p.logged p.cut run.helped p.fresh [] (may_log _ s p _ was run c.limits_law.ensures.within c.limits_law.ensures.words c.acknowledged_cut-cut.result c.starts-places.result (cut_is _ s p _ was run c.limits_law.ensures.within c.limits_law.ensures.words c.acknowledged_cut-cut.result c.acknowledged_cut-cut.ensures.size c.acknowledged_cut-cut.ensures.kept) (starts_are _ s p _ was run c.limits_law.ensures.within c.limits_law.ensures.words c.starts-places.result c.starts-places.ensures) c.deref.result.now c.deref.ensures.value))

-- what the store has once all is logged
logged : (g : _) (c : goal.After-clear g) (s : Setting) (p : Past) → HasPast (record { layout = c.self.inside.layout; threads = c.self.inside.threads; committed = c.self.inside.committed; memory = c.self.inside.applied; sections = c.self.inside.sections; rounds = c.self.inside.rounds; guards = c.self.inside.guards.items; pending = c.self.inside.pending.items; has_failed = c.self.inside.has_failed }) s p (g.D.Disk.device c.self.inside.disk) → HasPast (record { layout = c.self.inside.layout; threads = c.self.inside.threads; committed = c.make_round.new.committed; memory = c.logged_all.new.self; sections = c.self.inside.sections; rounds = c.self.inside.rounds; guards = c.self.inside.guards.items; pending = c.clear.new.self.items; has_failed = c.self.inside.has_failed }) s (after_log p) (g.D.Disk.device c.make_round.new.disk)
logged g c s p was =
    let run = was.agrees c.if-self.false in
    logged_has _ s p _ was c.if-self.false c.make_round.new.committed c.logged_all.new.self c.clear.new.self.items _ (counts_of c.acknowledged_cut-cut.result) (c.logged_all.ensures.logged s p was.remembers) c.logged_all.ensures.kept c.clear.ensures.items
    (cut_is _ s p _ was run c.limits_law.ensures.within c.limits_law.ensures.words c.acknowledged_cut-cut.result c.acknowledged_cut-cut.ensures.size c.acknowledged_cut-cut.ensures.kept) (c.in-Ok.ensures.ok s p.logged p.cut run.helped p.fresh [] (may_log _ s p _ was run c.limits_law.ensures.within c.limits_law.ensures.words c.acknowledged_cut-cut.result c.starts-places.result (cut_is _ s p _ was run c.limits_law.ensures.within c.limits_law.ensures.words c.acknowledged_cut-cut.result c.acknowledged_cut-cut.ensures.size c.acknowledged_cut-cut.ensures.kept) (starts_are _ s p _ was run c.limits_law.ensures.within c.limits_law.ensures.words c.starts-places.result c.starts-places.ensures) c.deref.result.now c.deref.ensures.value))

pub invariant_of-self : goal.invariant_of-self
invariant_of-self g c =
    let room = c.self.invariant.0 in
    let was = c.self.invariant.1 in (
      record { listed = omega (arith, ap (λ (xs : List HomeValue). length xs) c.clear.ensures.items); pending = omega (arith, room.pending, c.clear.ensures.capacity); cells = room.cells; helper = room.helper },
      (was.0, after_log was.1, logged g c was.0 was.1 was.2),
    )

pub invariant_of-self-in-Fault : goal.invariant_of-self-in-Fault
invariant_of-self-in-Fault g c =
    let was = c.self.invariant.1 in
    (c.self.invariant.0, (was.0, was.1, failed_has _ was.0 was.1 _ was.2 _ _ _ c.in-Err.ensures.err (shown_err g c was.0 was.1 was.2)))

-- (a refusal that is no fault changes nothing)
pub invariant_of-self-in_default : goal.invariant_of-self-in_default
invariant_of-self-in_default g c =
    let worn : c.in-Err.reason ≡ Worn = ⊎_elim (λ is. is) (λ is. absurd (c.in_default.not-Fault is)) c.in-Err.ensures.no_other in
    let same = c.in-Err.ensures.no_call (ap Err worn) in
    let was = c.self.invariant.1 in (
      c.self.invariant.0,
      (
        was.0,
        was.1,
        subst (λ (z : Committed). HasPast (record { layout = c.self.inside.layout; threads = c.self.inside.threads; committed = z; memory = c.self.inside.applied; sections = c.self.inside.sections; rounds = c.self.inside.rounds; guards = c.self.inside.guards.items; pending = c.self.inside.pending.items; has_failed = c.self.inside.has_failed }) was.0 was.1 (g.D.Disk.device c.make_round.new.disk)) (sym c.in-Err.ensures.err)
            (subst (HasPast _ was.0 was.1) (sym (ap g.D.Disk.device same)) was.2),
      ),
    )

pub returns-in-Ok : goal.returns-in-Ok
returns-in-Ok g c =
    let work = subst (λ z. HasWork g.D.Disk.device z) (sym c.self.view_is) (c.is_idle.ensures.work c.if-is_idle.false) in
    logs_from c.self.view_is (record {
      flushes = record {
        writes = record {
          running = (c.if-self.false, c.if-self.false);
          refused = tt;
          still = λ off. absurd (let no : true ≡ false = sym off ∙ c.if-self.false in cc);
          shown = λ s p was. shown_ok g c s p was;
          cause = c.in-Ok.ensures.cause;
          sequence = c.in-Ok.ensures.sequence;
          any_sequence = c.in-Ok.ensures.any_sequence;
          within = c.in-Ok.ensures.within;
          layout = refl;
          threads = refl;
        };
        ok = λ s p was. logged g c s p was;
        home = c.clear.ensures.items;
        kept = λ s p was. tt;
        quiet = λ s p was on none home. absurd (work s p was none home);
      };
      sections = refl;
      rounds = refl;
      fresh = let was = c.self.invariant.1 in (c.logged_all.ensures.logged was.0 was.1 was.2.remembers).fresh;
    })

pub returns-in-Fault : goal.returns-in-Fault
returns-in-Fault g c =
    let work = subst (λ z. HasWork g.D.Disk.device z) (sym c.self.view_is) (c.is_idle.ensures.work c.if-is_idle.false) in
    logs_from c.self.view_is (record {
      flushes = record {
        writes = record {
          running = tt;
          refused = subst (RefusesWrite _ _) (sym c.in-Fault.is) (c.if-self.false, refl);
          still = λ off. absurd (let no : true ≡ false = sym off ∙ c.if-self.false in cc);
          shown = λ s p was. shown_err g c s p was;
          cause = c.in-Err.ensures.cause;
          sequence = c.in-Err.ensures.sequence;
          any_sequence = c.in-Err.ensures.any_sequence;
          within = c.in-Err.ensures.within;
          layout = refl;
          threads = refl;
        };
        ok = λ s p was. tt;
        home = tt;
        kept = λ s p was. failed_has _ s p _ was _ _ _ c.in-Err.ensures.err (shown_err g c s p was);
        quiet = λ s p was on none home. absurd (work s p was none home);
      };
      sections = refl;
      rounds = refl;
      fresh = tt;
    })

pub returns-in_default : goal.returns-in_default
returns-in_default g c =
    let worn : c.in-Err.reason ≡ Worn = ⊎_elim (λ is. is) (λ is. absurd (c.in_default.not-Fault is)) c.in-Err.ensures.no_other in
    let same = c.in-Err.ensures.no_call (ap Err worn) in
    let last = c.in-Err.ensures.worn.0 (ap Err worn) in
    logs_both c.self.view_is (λ i. record { disk = same i; known = record { layout = c.self.inside.layout; threads = c.self.inside.threads; committed = c.in-Err.ensures.err i; memory = c.self.inside.applied; sections = c.self.inside.sections; rounds = c.self.inside.rounds; guards = c.self.inside.guards.items; pending = c.self.inside.pending.items; has_failed = c.self.inside.has_failed } }) (ap Err worn)
    (logs_worn g.D.Disk.device _ c.if-self.false last (subst (λ z. HasWork g.D.Disk.device z) (sym c.self.view_is) (c.is_idle.ensures.work c.if-is_idle.false)))
