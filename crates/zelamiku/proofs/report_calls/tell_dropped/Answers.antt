use Rattle.std.proofs.Common.{◌≡◌, ◌≢◌, inl, inr, ℕ, slice_get, sym, ap, ◌∙◌, arith, get_or-set_other}
use Rattle.std.proofs.lemmas.Bool.{cases_lt}
use Rattle.std.proofs.lemmas.Grind.{get_or-set_at}
use Rattle.zelamiku.proofs.Looking.{copied_is}
use Rattle.zelamiku.specs.ReportDoors.{told_at}
use Rattle.zelamiku.proofs.report_calls.tell_dropped.Goals as goal

pub loop-i-preserved : goal.loop-i-preserved
loop-i-preserved c = λ k d less.
    let sections = c.args.sections.now in
    let dropped = c.loop-i.dropped in
    let i = c.loop-i.i in
    let entry = c.told_at.result in
    elim (cases_lt k i) [
      | inl below ↦
          let apart : k ≢ i = omega arith in
          get_or-set_other dropped i k entry d apart ∙ c.loop-i.invariant k d below
      | inr from ↦
          let is : k ≡ i = omega arith in
          let found : c.copied.result ≡ slice_get sections i = c.copied.ensures ∙ copied_is sections i c.get.result c.get.ensures.lookup.0 c.get.ensures.lookup.1 in
          get_or-set_at dropped i k entry d is (omega arith) ∙ c.told_at.ensures ∙ ap told_at found ∙ ap (λ (j : ℕ). told_at (slice_get sections j)) (sym is)
    ]
