use Rattle.std.proofs.Common.{◌≡◌, ℕ, ◌+◌, List, [], length, refl, ap, ◌∙◌, subst, arith, Result, Err}
use Rattle.heap_model.specs.declared.record.Record.{Record}
use Rattle.heap_model.specs.declared.store_error.StoreError.{StoreError}
use Rattle.heap_model.specs.declared.store_error.StoreError.TheVariants.{Fault, Worn}
use Rattle.block_disk.proofs.Images.{begin, now_too}
use Rattle.heap_model.specs.Past.{after_log}
use Rattle.store_image.specs.Consistent.{ShowsEither}
use Rattle.store_image.specs.KeptHeap.{StandsForCut}
use Rattle.store_image.proofs.Recording.{count_is, log_before, nothing_new}
use Rattle.store_image.proofs.Stands.{empty}
use Rattle.store_image.proofs.Taking.{done_now, worn_now, not_worn, step_of}
use Rattle.store_image.proofs.logging.log_records.Goals as goal

-- there is nothing new
pub returns-then-count-eq0 : goal.returns-then-count-eq0
returns-then-count-eq0 g c =
    let l = c.args.layout.now in
    let was = c.args.committed.now in
    let d = g.D.Disk.device c.args.disk.now in
    let fresh = g.F.NewRecords.fresh c.args.fresh.now in
    record {
      step = done_now g.D.Disk.device l was c.args.disk.now 0;
      ok = λ s p may. nothing_new l s p was d fresh may (empty p.fresh (omega (arith, count_is l s p was d fresh may, c.count_fresh-count.ensures, c.if-count-eq0.true)));
      count = λ s p may. omega (arith, count_is l s p was d fresh may, c.count_fresh-count.ensures, c.if-count-eq0.true);
      none = λ s p may none. (refl, refl, refl);
      worn = λ s p may. (
          let none : p.fresh ≡ [] = empty p.fresh (omega (arith, count_is l s p was d fresh may, c.count_fresh-count.ensures, c.if-count-eq0.true)) in
          ((λ is. absurd cc), (λ both. absurd (both.1 none))));
      any_moment = λ s p may. begin d (StandsForCut l s p.logged p.cut);
      shown = λ s p may. begin d (ShowsEither l s p (after_log p));
      crash = λ s p may. log_before l s p was d fresh may;
    }

-- no sequence is left
pub returns-then-committed : goal.returns-then-committed
returns-then-committed g c =
    let l = c.args.layout.now in
    let was = c.args.committed.now in
    let d = g.D.Disk.device c.args.disk.now in
    let fresh = g.F.NewRecords.fresh c.args.fresh.now in
    record {
      step = worn_now g.D.Disk.device l was c.args.disk.now;
      ok = λ s p may. tt;
      count = λ s p may. tt;
      none = λ s p may none. absurd (c.if-count-eq0.false (omega (arith, count_is l s p was d fresh may, c.count_fresh-count.ensures, ap (λ (xs : List (ℕ × Record)). length xs) none)));
      worn = λ s p may. (
        (λ is. (c.if-committed.true, λ none. c.if-count-eq0.false (omega (arith, count_is l s p was d fresh may, c.count_fresh-count.ensures, ap (λ (xs : List (ℕ × Record)). length xs) none)))),
        (λ both. refl),
      );
      any_moment = λ s p may. begin d (StandsForCut l s p.logged p.cut);
      shown = λ s p may. begin d (ShowsEither l s p (after_log p));
      crash = λ s p may. log_before l s p was d fresh may;
    }

pub returns-in-Ok : goal.returns-in-Ok
returns-in-Ok g c =
    let l = c.args.layout.now in
    let was = c.args.committed.now in
    let d = g.D.Disk.device c.args.disk.now in
    let e = g.D.Disk.device c.log_all.new.disk in
    let fresh = g.F.NewRecords.fresh c.args.fresh.now in
    record {
      step = record {
        no_call = λ is. absurd cc;
        no_other = tt;
        takes = record {
          err = tt;
          sequence = c.log_all.ensures.sequence;
          any_sequence = c.log_all.ensures.any_sequence;
          within = c.log_all.ensures.within;
          cause = record { later = c.log_all.ensures.cause.later; failed = λ is. absurd cc };
        };
      };
      ok = λ s p may. c.in-Ok.ensures.ok s p may;
      count = λ s p may. c.count_fresh-count.ensures ∙ count_is l s p was d fresh may;
      none = λ s p may none. absurd (c.if-count-eq0.false (omega (arith, count_is l s p was d fresh may, c.count_fresh-count.ensures, ap (λ (xs : List (ℕ × Record)). length xs) none)));
      worn = λ s p may. ((λ is. absurd cc), (λ both. absurd (c.if-committed.false both.0)));
      any_moment = λ s p may. (c.log_all.ensures.logs s p may).any_moment;
      shown = λ s p may. (c.log_all.ensures.logs s p may).shown;
      crash = λ s p may. now_too d e (StandsForCut l s p.logged p.cut) (log_before l s p was d fresh may) (c.log_all.ensures.logs s p may).any_moment;
    }

pub returns-in-Err : goal.returns-in-Err
returns-in-Err g c =
    let l = c.args.layout.now in
    let was = c.args.committed.now in
    let d = g.D.Disk.device c.args.disk.now in
    let e = g.D.Disk.device c.log_all.new.disk in
    let fresh = g.F.NewRecords.fresh c.args.fresh.now in
    let fault : c.in-Err.reason ≡ Fault = c.in-Err.ensures.only_fault in
    let answer : Result ℕ StoreError = Err c.in-Err.reason in
    record {
      step = step_of g.D.Disk.device l was c.args.disk.now answer c.log_all.new.committed c.log_all.new.disk fault (record {
        err = c.in-Err.ensures.err;
        sequence = c.log_all.ensures.sequence;
        any_sequence = c.log_all.ensures.any_sequence;
        within = c.log_all.ensures.within;
        cause = record { later = c.log_all.ensures.cause.later; failed = λ is. c.in-Err.ensures.cause.failed (ap Err fault) };
      });
      ok = λ s p may. tt;
      count = λ s p may. tt;
      none = λ s p may none. absurd (c.if-count-eq0.false (omega (arith, count_is l s p was d fresh may, c.count_fresh-count.ensures, ap (λ (xs : List (ℕ × Record)). length xs) none)));
      worn = λ s p may. ((λ is. absurd (not_worn answer fault is)), (λ both. absurd (c.if-committed.false both.0)));
      any_moment = λ s p may. (c.log_all.ensures.logs s p may).any_moment;
      shown = λ s p may. (c.log_all.ensures.logs s p may).shown;
      crash = λ s p may. now_too d e (StandsForCut l s p.logged p.cut) (log_before l s p was d fresh may) (c.log_all.ensures.logs s p may).any_moment;
    }
