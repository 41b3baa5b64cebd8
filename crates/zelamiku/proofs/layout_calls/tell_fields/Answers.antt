use Rattle.std.proofs.Common.{◌≡◌, ◌≢◌, inl, inr, ℕ, sym, subst, arith, get_or-set_other}
use Rattle.std.proofs.lemmas.Bool.{cases_lt}
use Rattle.std.proofs.lemmas.Grind.{get_or-set_at}
use Rattle.law_hosted.specs.Copies.{copy_of}
use Rattle.zelamiku.specs.LayoutDoors.{TellsField}
use Rattle.zelamiku.proofs.layout_calls.tell_fields.Goals as goal

pub loop-i-preserved : goal.loop-i-preserved
loop-i-preserved c = λ k d less.
    let image = copy_of c.args.heap.now.helper.store.disk in
    let count = c.args.layout.fields in
    let fields = c.loop-i.fields in
    let i = c.loop-i.i in
    let entry = c.told_at.result in
    elim (cases_lt k i) [
      | inl below ↦
          let apart : k ≢ i = omega arith in
          subst (TellsField image count k) (sym (get_or-set_other fields i k entry d apart)) (c.loop-i.invariant k d below)
      | inr from ↦
          let is : k ≡ i = omega arith in
          subst (TellsField image count k) (sym (get_or-set_at fields i k entry d is (omega arith))) (subst (λ (j : ℕ). TellsField image count j entry) (sym is) c.told_at.ensures)
    ]
