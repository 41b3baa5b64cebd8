use Rattle.std.specs.Prelude.{All}
use Rattle.std.proofs.Common.{◌≡◌, ◌≤◌, ◌+◌, ◌*◌, ◌/◌, ◌∙◌, sym, subst, ⊎_elim, List, ℕ, refl, length}
use Rattle.disk_journal.proofs.KeptLemmas.{within_permuted}
use Rattle.disk_journal.proofs.OpeningLemmas.{if_ok_weaker, noted_differ, places_all}
use Rattle.disk_journal.proofs.opening.words_of.Goals as goal

pub entries_at-requires : goal.entries_at-requires
entries_at-requires c =
    let sorted = within_permuted (length c.args.image.now) c.note_batch-else-not-note_batch.new.places.items c.sort_unstable.new.self.items
    c.sort_unstable.ensures.permutation c.note_batch-else-not-note_batch.ensures.within in record {
      within = subst (λ (ps : List ℕ). All (λ place. place + 8 ≤ length c.args.image.now) ps) (sym c.deref.ensures.value) (λ k d low. (sorted k d low).1);
    }

pub returns-clause-places : goal.returns-clause-places
returns-clause-places c =
    let sorted = within_permuted (length c.args.image.now) c.note_batch-else-not-note_batch.new.places.items c.sort_unstable.new.self.items
    c.sort_unstable.ensures.permutation c.note_batch-else-not-note_batch.ensures.within in
    if_ok_weaker c.entries_at.result
    (λ entries at. places_all (λ (place : ℕ). place ≡ place / 8 * 8) entries.items c.deref.result.now at
    (subst (λ (ps : List ℕ). All (λ place. place ≡ place / 8 * 8) ps) (sym c.deref.ensures.value) (λ k d low. (sorted k d low).0)))
    c.entries_at.ensures.at

pub returns-clause-all : goal.returns-clause-all
returns-clause-all c =
    if_ok_weaker c.entries_at.result
    (λ entries at home made.
    noted_differ (length c.args.image.now) c.args.batches.now.first c.args.batches.now.second home c.args.image.now
    c.note_batch-else-not-note_batch.new.places.items c.sort_unstable.new.self.items entries.items refl c.sort_unstable.ensures.permutation (at ∙ c.deref.ensures.value)
    (λ i lies.
    ⊎_elim (λ one. c.if-not-note_batch-2.ensures.kept refl i (c.if-not-note_batch.ensures.all refl i one)) (λ two. c.if-not-note_batch-2.ensures.all refl i two) lies)
    made)
    c.entries_at.ensures.at
