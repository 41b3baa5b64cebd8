use Rattle.std.proofs.Common.{refl, rules}
use Rattle.std.proofs.lemmas.List.Sorted.{IsNonDecreasingBy-from_sort_by_key}
use Rattle.store_round_image.specs.declared.cells.HomeValue.{HomeValue}
use Rattle.store_round_memory.proofs.Moving.{survey_moved, tells_moved}
use Rattle.store_round_memory.proofs.survey.Survey.sort_changed.Goals as goal

pub returns-clause-survey : goal.returns-clause-survey
returns-clause-survey c = λ objects fields was. survey_moved c.args.self.now _ c.sort_unstable_by_key.ensures.permutation refl refl refl refl objects fields c.sort_unstable_by_key.ensures.capacity was

pub returns-clause-tells : goal.returns-clause-tells
returns-clause-tells c = λ counts all older tells. tells_moved c.args.self.now _ c.sort_unstable_by_key.ensures.permutation refl refl refl refl counts all older tells

pub returns-clause-sorted : goal.returns-clause-sorted
returns-clause-sorted c = IsNonDecreasingBy-from_sort_by_key (λ (x : HomeValue). x.field.0) _ c.sort_unstable_by_key.ensures.sorted (λ a r q k. search rules)
