use Rattle.std.proofs.Common.{◌≡◌, ◌+◌, refl, sym, subst}
use Rattle.block_disk.proofs.Images.{begin}
use Rattle.heap_model.specs.Past.{after_trim}
use Rattle.store_image.specs.Consistent.{IsConsistent, ShowsEither}
use Rattle.store_image.specs.KeptHeap.{StandsForCut}
use Rattle.store_image.specs.declared.committed.Committed.{Committed}
use Rattle.store_image.proofs.Freeing.{trim_before, rows_fit, trim_shows, trim_leaves, trim_always, trim_done}
use Rattle.store_image.proofs.Answered.{on_ok_three}
use Rattle.store_image.proofs.Taking.{step_of, worn_never, worn_now}
use Rattle.store_image.proofs.trimming.trim.Goals as goal

-- no sequence is left
pub returns-then-committed : goal.returns-then-committed
returns-then-committed g c =
    let l = c.args.layout.now in
    let was = c.args.committed.now in
    let d = g.D.Disk.device c.args.disk.now in
    record {
      step = worn_now g.D.Disk.device l was c.args.disk.now;
      ok = λ s p is. tt;
      worn = ((λ is. c.if-committed.true), (λ last. refl));
      any_moment = λ s p is. begin d (StandsForCut l s p.logged p.cut);
      shown = λ s p is. begin d (ShowsEither l s p (after_trim p));
      crash = λ s p is. trim_before l s p was d is;
    }

pub commit-requires-clause-rows : goal.commit-requires-clause-rows
commit-requires-clause-rows g c =
    let r = c.requires.trims in
    rows_fit c.args.layout.now r.0 r.1 c.args.committed.now (g.D.Disk.device c.args.disk.now) r.2 c.trimmed_rows-rows.result
    (record { size = c.trimmed_rows-rows.ensures.size; lanes = c.trimmed_rows-rows.ensures.lanes; rest = c.trimmed_rows-rows.ensures.rest })

pub returns : goal.returns
returns g c =
    let l = c.args.layout.now in
    let was = c.args.committed.now in
    let d = g.D.Disk.device c.args.disk.now in
    let e = g.D.Disk.device c.commit.new.disk in
    let made = c.commit.ensures.commits in
    record {
      step = step_of g.D.Disk.device l was c.args.disk.now c.commit.result c.commit.new.committed c.commit.new.disk made.only_fault made.takes;
      ok = λ s p is. on_ok_three c.commit.result
          (λ now steady same. subst (λ (committed : Committed). IsConsistent l s (after_trim p) committed e) (sym now)
          (trim_done l s p was d is c.trimmed_rows-rows.result
          (record { size = c.trimmed_rows-rows.ensures.size; lanes = c.trimmed_rows-rows.ensures.lanes; rest = c.trimmed_rows-rows.ensures.rest })
          e made.any_moment steady same))
          made.ok made.steady made.same;
      worn = worn_never c.commit.result was.sequence made.only_fault c.if-committed.false;
      any_moment = λ s p is. trim_leaves l s p was d is c.trimmed_rows-rows.result
          (record { size = c.trimmed_rows-rows.ensures.size; lanes = c.trimmed_rows-rows.ensures.lanes; rest = c.trimmed_rows-rows.ensures.rest })
          e made.any_moment;
      shown = λ s p is. trim_shows l s p was d is c.trimmed_rows-rows.result
          (record { size = c.trimmed_rows-rows.ensures.size; lanes = c.trimmed_rows-rows.ensures.lanes; rest = c.trimmed_rows-rows.ensures.rest })
          e made.any_moment;
      crash = λ s p is. trim_always l s p was d is c.trimmed_rows-rows.result
          (record { size = c.trimmed_rows-rows.ensures.size; lanes = c.trimmed_rows-rows.ensures.lanes; rest = c.trimmed_rows-rows.ensures.rest })
          e made.any_moment;
    }
