use Rattle.std.specs.Vec.{vec_capacity, vec_len}
use Rattle.std.proofs.Common.{◌+◌, ◌/◌, List, ℕ, length, get_or, not, ap, refl, sym, subst, ◌∙◌, arith}
use Rattle.std.proofs.lemmas.List.{take_all}
use Rattle.journal_batches.specs.declared.entry.Entry.{Entry}
use Rattle.disk_journal.specs.Kept.{Touches, words_among}
use Rattle.disk_journal.proofs.WordLemmas.{AreTaken, taken_more, taken_none, taken_same}
use Rattle.disk_journal.proofs.syncing.take_words.Goals as goal
use Rattle.disk_journal.proofs.syncing.take_words.Goals.{then-is_new, else-is_new}

pub loop-i-init : goal.loop-i-init
loop-i-init c = record {
  taken = subst (AreTaken c.args.image.now c.args.places.now 0) (sym c.requires.room.none) (taken_none c.args.image.now c.args.places.now);
  len = omega (arith, c.requires.room.zero);
  capacity = refl;
}

pub loop-i-preserved : goal.loop-i-preserved
loop-i-preserved c =
    let image = c.args.image.now in
    let places = c.args.places.now in
    let was = c.loop-i.invariant in
    let here = c.requires.within c.loop-i.i 0 c.loop-i-test.true in
    elim c.if-is_new.branch [
      | then-is_new w ↦
          let e : Entry = record { at = get_or places c.loop-i.i 0; word = w.number_at-word.result } in
          let items = ap (λ v. v.items) w.next-is ∙ w.push_reserved.ensures.items in
          record {
            taken = subst (AreTaken image places (c.loop-i.i + 1)) (sym items)
                (taken_more was.taken c.loop-i-test.true e (here.1, w.number_at-word.ensures) refl here.0 (c.is_new.ensures ∙ ap not w.if-is_new.true));
            len = omega (arith, ap (λ v. vec_len v) w.next-is, w.push_reserved.ensures.len, was.len);
            capacity = ap (λ v. vec_capacity v) w.next-is ∙ w.push_reserved.ensures.capacity ∙ was.capacity;
          }
      | else-is_new w ↦ record {
        taken = subst (AreTaken image places (c.loop-i.i + 1)) (sym (ap (λ v. v.items) w.next-is))
            (taken_same was.taken c.loop-i-test.true (c.is_new.ensures ∙ ap not w.if-is_new.false));
        len = omega (arith, ap (λ v. vec_len v) w.next-is, was.len);
        capacity = ap (λ v. vec_capacity v) w.next-is ∙ was.capacity;
      }
    ]

pub returns-clause-all : goal.returns-clause-all
returns-clause-all c = λ b touches.
    let all = take_all c.loop-i.i c.args.places.now (omega arith) in
    c.loop-i.invariant.taken.covers b (subst (λ (ps : List ℕ). Touches ps b) (sym all) touches)

pub returns-clause-count : goal.returns-clause-count
returns-clause-count c =
    let all = take_all c.loop-i.i c.args.places.now (omega arith) in
    c.loop-i.invariant.taken.count ∙ ap (words_among (length c.args.image.now / 8)) all
