use Rattle.std.proofs.Common.{◌≡◌, ℕ, ◌∙◌, sym, subst, IfOk, length, arith, slice_index}
use Rattle.std.proofs.lemmas.List.{length-map}
use Rattle.guards.specs.Schema.{first_of, firsts_of, field_count}
use Rattle.heap_model.specs.State.{initial_state}
use Rattle.script_monitors.specs.Table.{state_of}
use Rattle.script_monitors.proofs.StateLemmas.{same-values}
use Rattle.script_monitors.proofs.monitors.Monitors.new.Goals as goal

pub returns-in-Ok-clause-state : goal.returns-in-Ok-clause-state
returns-in-Ok-clause-state c =
    let long : length (firsts_of c.args.schema.fields) ≡ field_count c.args.schema = length-map c.args.schema.fields (λ f. f.first) in
    let values : slice_index c.in-Ok.values.items ≡ first_of c.args.schema = same-values c.in-Ok.values.items (firsts_of c.args.schema.fields) (c.in-Ok.ensures.count ∙ sym long) (λ f below. c.in-Ok.ensures.firsts f (omega arith)) in
    subst (λ (value : ℕ → ℕ). IfOk c.holding.result (λ m. state_of m ≡ initial_state value)) values c.holding.ensures.state
