use Rattle.std.proofs.Common.{◌∙◌, arith}
use Rattle.heap_model.specs.Cuts.{counts_of}
use Rattle.heap_model.specs.Past.{after_log, after_settle, applied}
use Rattle.store_rounds.proofs.Afterwards.{found, may_forget, may_keep, may_start, tells_after}
use Rattle.store_rounds.proofs.keeping.acknowledge.Goals as goal

pub start_at-requires-clause-may : goal.start_at-requires-clause-may
start_at-requires-clause-may c =
    let was = c.requires.tells in (
      was.1,
      after_settle (after_log was.2) (counts_of c.args.stable.now.cut),
      may_start was.0 was.1 was.2 _ _ _ c.args.stable.now.cut c.args.stable.now.places was.3 c.requires.plan c.logged_all.new.self (c.logged_all.ensures.logged was.1 was.2 was.3.remembers) c.logged_all.ensures.kept,
    )

pub forget_to-requires : goal.forget_to-requires
forget_to-requires c =
    let was = c.requires.tells in
    record { may = (was.2.cut, applied was.2, may_forget was.0 was.1 was.2 _ _ _ c.args.stable.now.cut c.args.stable.now.places was.3 c.requires.plan) }

pub keep-requires : goal.keep-requires
keep-requires c =
    let was = c.requires.tells in
    record {
      may = (
        was.1,
        after_log was.2,
        counts_of c.args.stable.now.cut,
        may_keep was.0 was.1 was.2 _ _ _ c.args.stable.now.cut c.args.stable.now.places was.3 c.requires.plan,
        found was.0 was.1 was.2 _ _ _ c.args.stable.now.cut c.args.stable.now.places was.3 c.requires.plan,
      );
    }

pub returns-clause-tells : goal.returns-clause-tells
returns-clause-tells c = λ t s p tells.
    let starts = may_start t s p _ _ _ c.args.stable.now.cut c.args.stable.now.places tells c.requires.plan c.logged_all.new.self (c.logged_all.ensures.logged s p tells.remembers) c.logged_all.ensures.kept in
    tells_after t s p _ _ _ c.args.stable.now.cut c.args.stable.now.places tells c.requires.plan c.start_at.new.self c.forget_to.new.self c.keep.new.self
    (c.start_at.ensures.lanes ∙ c.logged_all.ensures.kept.lanes ∙ tells.lanes)
    (c.keep.ensures.found.lanes ∙ tells.rounds_lanes)
    (c.start_at.ensures.trimmed s (after_settle (after_log p) (counts_of c.args.stable.now.cut)) starts)
    (c.forget_to.ensures.tells p.cut (applied p) (may_forget t s p _ _ _ c.args.stable.now.cut c.args.stable.now.places tells c.requires.plan))
    (c.keep.ensures.knows s (after_log p) (counts_of c.args.stable.now.cut) (may_keep t s p _ _ _ c.args.stable.now.cut c.args.stable.now.places tells c.requires.plan)
    (found t s p _ _ _ c.args.stable.now.cut c.args.stable.now.places tells c.requires.plan))
    (λ k low. c.start_at.ensures.starts k (omega (arith, low, c.logged_all.ensures.kept.lanes, tells.lanes)))
