use Rattle.std.proofs.Common.{◌≡◌, ◌≢◌, inl, inr, sym, ap, ◌∙◌, arith, get_or-set_other}
use Rattle.std.proofs.lemmas.Bool.{cases_lt}
use Rattle.std.proofs.lemmas.Grind.{get_or-set_at}
use Rattle.zelamiku.specs.PoolDoors.{ArePoolFields, pool_field}
use Rattle.zelamiku.proofs.PoolFields.{free_anywhere}
use Rattle.zelamiku.proofs.pool_calls.write_fields.Goals as goal

pub loop-cell-preserved : goal.loop-cell-preserved
loop-cell-preserved c = λ k d less.
    let o = c.args.object in
    let n = c.args.slots in
    let fields = c.loop-cell.fields in
    let i = c.loop-cell.cell in
    let field = c.field_of.result in
    elim (cases_lt k i) [
      | inl below ↦
          let apart : k ≢ i = omega arith in
          get_or-set_other fields i k field d apart ∙ c.loop-cell.invariant k d below
      | inr from ↦
          let is : k ≡ i = omega arith in
          get_or-set_at fields i k field d is (omega arith) ∙ c.field_of.ensures ∙ ap (pool_field o n) (sym is)
    ]

pub returns-clause-free : goal.returns-clause-free
returns-clause-free c =
    let kept = c.loop-cell.auto.fields in
    let long = c.requires.count in
    let over = c.loop-cell-test.false in
    let are : ArePoolFields c.args.object c.args.slots c.loop-cell.fields = record {
      count = omega arith;
      each = λ cell d low. c.loop-cell.invariant cell d (omega arith);
    } in
    free_anywhere c.free_law.ensures.free c.args.object c.args.slots c.loop-cell.fields c.requires.some are
