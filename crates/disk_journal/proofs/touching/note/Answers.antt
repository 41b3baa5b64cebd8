use Rattle.std.proofs.Common.{◌≡◌, ◌+◌, ◌*◌, ◌/◌, ◌≤◌, List, ℕ, [], ◌∷◌, ◌++◌, inl, inr, ap, subst, sym, ◌∙◌, arith}
use Rattle.std.proofs.lemmas.Bool.{cases_lt}
use Rattle.std.proofs.lemmas.List.Elements.{All-append, All-cons, All-nil}
use Rattle.disk_journal.specs.Kept.{AreWithin, Touches, words_among}
use Rattle.disk_journal.proofs.WordLemmas.{one_pushed, one_word}
use Rattle.disk_journal.proofs.PageLemmas.{touches_last, touches_old}
use Rattle.disk_journal.proofs.touching.note.Goals as goal

pub loop-word-preserved : goal.loop-word-preserved
loop-word-preserved c =
    let was = c.loop-word.touched.items in
    let place = (c.args.first + c.loop-word.word) * 8 in
    let items = c.push_reserved.ensures.items in record {
      within = λ size less all.
          let P = λ (p : ℕ). (p ≡ p / 8 * 8) × (p + 8 ≤ size) in
          subst (AreWithin size) (sym items)
          (All-append P was (place ∷ []) (c.loop-word.invariant.within size (omega arith) all) (All-cons P place [] (omega arith, omega arith) (All-nil P)));
      old = λ i touches. subst (λ (xs : List ℕ). Touches xs i) (sym items) (touches_old was place i (c.loop-word.invariant.old i touches));
      these = λ i low high. subst (λ (xs : List ℕ). Touches xs i) (sym items) (elim (cases_lt i place) [
        | inl below ↦ touches_old was place i (c.loop-word.invariant.these i low below)
        | inr from ↦ touches_last was place i from (omega arith)
      ]);
      few = λ n.
          let one = one_word was (was ++ (place ∷ [])) place (one_pushed was place) n in
          omega (arith, ap (words_among n) items, one, c.loop-word.invariant.few n);
      len = omega arith;
      capacity = c.push_reserved.ensures.capacity ∙ c.loop-word.invariant.capacity;
    }

pub returns-clause-within : goal.returns-clause-within
returns-clause-within c = λ size less all. c.loop-word.invariant.within size (omega arith) all
