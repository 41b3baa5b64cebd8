use Rattle.std.proofs.Common.{◌≡◌, rules}
use Rattle.std.proofs.lemmas.Fn.{always_returns_same}
use Rattle.store_round_sections.proofs.Orders.{fields_rise, guards_rise, keys_of}
use Rattle.store_round_sections.proofs.sorting.sort_by_guard.Goals as goal

pub returns-clause-sorted : goal.returns-clause-sorted
returns-clause-sorted c = guards_rise c.args.guards.now _ (c.sort_unstable_by_key.ensures.sorted (keys_of c.args.guards.now) (always_returns_same _ (λ a r. r ≡ keys_of c.args.guards.now a.0.now) _ (λ a r q k. search rules)))

pub returns-clause-within : goal.returns-clause-within
returns-clause-within c = fields_rise c.args.guards.now _ (c.sort_unstable_by_key.ensures.sorted (keys_of c.args.guards.now) (always_returns_same _ (λ a r. r ≡ keys_of c.args.guards.now a.0.now) _ (λ a r q k. search rules)))
