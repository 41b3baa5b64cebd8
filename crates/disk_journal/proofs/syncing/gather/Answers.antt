use Rattle.std.specs.List.Sorted.{IsNonDecreasing}
use Rattle.std.proofs.Common.{ℕ, List, ◌∙◌, ◌/◌, ap, length, subst, sym}
use Rattle.std.proofs.lemmas.List.Sorted.{IsNonDecreasingBy-from_sort}
use Rattle.disk_journal.specs.Kept.{AreWithin, Touches, words_among}
use Rattle.disk_journal.proofs.KeptLemmas.{touches_permuted, within_permuted}
use Rattle.disk_journal.proofs.WordLemmas.{words_permuted}
use Rattle.disk_journal.proofs.syncing.gather.Goals as goal

pub take_words-requires-clause-sorted : goal.take_words-requires-clause-sorted
take_words-requires-clause-sorted c =
    subst IsNonDecreasing (sym c.deref.ensures.value) (IsNonDecreasingBy-from_sort (λ (x : ℕ). x) c.sort_unstable.new.self.items c.sort_unstable.ensures.sorted)

pub take_words-requires-clause-within : goal.take_words-requires-clause-within
take_words-requires-clause-within c =
    subst (AreWithin (length c.args.image.now)) (sym c.deref.ensures.value)
    (within_permuted (length c.args.image.now) c.args.touched.now.items c.sort_unstable.new.self.items c.sort_unstable.ensures.permutation c.requires.within)

pub returns-clause-within : goal.returns-clause-within
returns-clause-within c =
    within_permuted (length c.args.image.now) c.args.touched.now.items c.sort_unstable.new.self.items c.sort_unstable.ensures.permutation c.requires.within

pub returns-clause-same : goal.returns-clause-same
returns-clause-same c = λ i touches. touches_permuted c.args.touched.now.items c.sort_unstable.new.self.items i c.sort_unstable.ensures.permutation touches

pub returns-clause-many : goal.returns-clause-many
returns-clause-many c = λ n. words_permuted n c.args.touched.now.items c.sort_unstable.new.self.items c.sort_unstable.ensures.permutation

pub returns-clause-all : goal.returns-clause-all
returns-clause-all c = λ i touches.
    c.take_words.ensures.all i
    (subst (λ (ps : List ℕ). Touches ps i) (sym c.deref.ensures.value)
    (touches_permuted c.args.touched.now.items c.sort_unstable.new.self.items i c.sort_unstable.ensures.permutation touches))

pub returns-clause-count : goal.returns-clause-count
returns-clause-count c =
    let n = length c.args.image.now / 8 in
    c.take_words.ensures.count ∙ ap (words_among n) c.deref.ensures.value
    ∙ words_permuted n c.args.touched.now.items c.sort_unstable.new.self.items c.sort_unstable.ensures.permutation
