use Rattle.std.proofs.Common.{rules, ℕ, ◌+◌, length, sym, ap, ◌∙◌, subst}
use Rattle.guards.specs.Schema.{object_count, field_count}
use Rattle.monitor.specs.Words.{plan_of, AreFirst, LOCKS, room}
use Rattle.monitor.specs.declared.view.Key.{Key}
use Rattle.monitor.proofs.Openings.{opens}
use Rattle.monitor.proofs.opening.first_table.Goals as goal

pub of_words-requires : goal.of_words-requires
of_words-requires c =
    let key : Key = record { schema = c.of.result; first = c.of-2.result; last = c.args.last; lanes = c.args.lanes } in
    let heap = sym (c.in_ok-first.ensures.items_if_clones_equal (search rules)) ∙ ap (λ v. v.items) (sym c.of-2.ensures) in
    let first = subst (AreFirst _ c.args.heap.now) (sym c.deref.ensures.value) c.in_ok-words.ensures in
    opens (plan_of key) _ _ _ first (ap (λ (n : ℕ). LOCKS + room n + room n) (c.objects.ensures.count ∙ ap object_count (sym c.of.ensures))) heap
    (ap length (sym heap) ∙ c.requires.heap ∙ ap field_count (sym c.of.ensures)) c.requires.last
