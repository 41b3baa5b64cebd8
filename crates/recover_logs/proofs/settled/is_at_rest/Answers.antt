use Rattle.std.proofs.Common.{List, sym, subst}
use Rattle.heap_model.specs.declared.record.UndoRecord.{UndoRecord}
use Rattle.recover_logs.specs.declared.settled_count.SettledCount.{SettledCount}
use Rattle.recover_logs.specs.Logs.{count_of, kept_of, settled_of}
use Rattle.recover_logs.specs.Tally.{IsRestAfter}
use Rattle.recover_logs.proofs.SettledLemmas.{to_rest, from_rest}
use Rattle.recover_logs.proofs.settled.is_at_rest.Goals as goal

pub returns : goal.returns
returns c =
    let logs = c.args.logs.now in
    let counts : List SettledCount = c.args.counts.now in
    let l = c.args.lane.0 in
    let at = λ (r : SettledCount). λ (xs : List UndoRecord). IsRestAfter xs r.records r.sections in (
      (λ t. to_rest (settled_of counts) (kept_of counts) logs l (subst (at (count_of counts l)) c.records_in.ensures (subst (λ (r : SettledCount). at r c.records_in.result.now) c.count-count.ensures (c.rests_after.ensures.0 t)))),
      (λ h. c.rests_after.ensures.1 (subst (λ (r : SettledCount). at r c.records_in.result.now) (sym c.count-count.ensures) (subst (at (count_of counts l)) (sym c.records_in.ensures) (from_rest (settled_of counts) (kept_of counts) logs l h)))),
    )
