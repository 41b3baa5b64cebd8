use Rattle.std.proofs.Common.{◌++◌, sym, ◌∙◌, arith}
use Rattle.std.proofs.lemmas.List.{drop_all}
use Rattle.image_parts.proofs.Numbers.{cut}
use Rattle.image_parts.proofs.lane_row.decode_row.Goals as goal

pub returns-clause-spelled : goal.returns-clause-spelled
returns-clause-spelled c =
    let bs = c.args.bytes.now in
    let a = c.u64_at.ensures.spelled in
    let b = c.u64_at-2.ensures.spelled in
    let d = c.u64_at-3.ensures.spelled in
    let e = c.u64_at-4.ensures.spelled in
    cut 0 8 bs ∙ (λ i. sym a i ++ (cut 8 8 bs ∙ (λ j. sym b j ++ (cut 16 8 bs ∙ (λ k. sym d k ++ (cut 24 8 bs ∙ (λ l. sym e l ++ drop_all 32 bs (omega arith) l)) k)) j)) i)
