use Rattle.std.proofs.Common.{◌≡◌, ℕ, ap, ◌∙◌, length, arith}
use Rattle.std.specs.Prelude.{max}
use Rattle.journal_batches.specs.Batches.{stamp_at}
use Rattle.journal_batches.proofs.CodecLemmas.{latest_more, most_more}
use Rattle.journal_batches.proofs.codec.latest_stamp.Goals as goal

pub loop-i-preserved : goal.loop-i-preserved
loop-i-preserved c =
    let half = c.args.half.now in
    let i = c.loop-i.i in
    let f = λ (k : ℕ). stamp_at k half in
    let next : c.max-latest.result ≡ max c.loop-i.latest (f i) = c.max-latest.ensures ∙ ap (λ (n : ℕ). max c.loop-i.latest n) c.number_at.ensures.number in
    record {
      most = most_more f i c.loop-i.latest c.max-latest.result c.loop-i.invariant.most next;
      none = λ past. absurd (omega arith);
      one = λ _. latest_more f (length half) i c.loop-i.latest c.max-latest.result (omega arith) c.loop-i.invariant.none c.loop-i.invariant.one next;
    }
