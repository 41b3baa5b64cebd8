use Rattle.std.proofs.Common.{List, rules, subst}
use Rattle.std.specs.List.Sorted.{IsPermutation}
use Rattle.std.proofs.lemmas.Fn.{filter_same}
use Rattle.std.proofs.lemmas.List.Sorted.{IsNonDecreasingBy-from_sort_by_key}
use Rattle.store_round_image.specs.declared.cells.HomeValue.{HomeValue}
use Rattle.store_rounds.proofs.cells.leave_changed_out.Goals as goal

pub returns-clause-left : goal.returns-clause-left
returns-clause-left c = subst (λ (xs : List HomeValue). IsPermutation xs c.sort_unstable_by_key.new.self.items) (filter_same _ _ _ (λ x b f' k. search rules) _ _ c.retain.ensures.filtered) c.sort_unstable_by_key.ensures.permutation

pub returns-clause-sorted : goal.returns-clause-sorted
returns-clause-sorted c = IsNonDecreasingBy-from_sort_by_key (λ (x : HomeValue). x.field.0) _ c.sort_unstable_by_key.ensures.sorted (λ a r q k. search rules)
