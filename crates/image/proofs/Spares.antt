-- A commit over writes that are still pending: the other slot's gate is closed beside them.
use Rattle.std.proofs.Common.{◌≡◌, inl, inr, ⊎_elim, ℕ, ◌+◌, ◌<◌, ◌≤◌, List, [], ◌∷◌, length, get_or, Bool, cond, sym, ◌∙◌, ap, subst, arith}
use Rattle.std.proofs.lemmas.Bool.{cases_eq, eq-eqb, ne_eqb}
use Rattle.block_disk.specs.Device.{Range, Device, SameOutside, written, synced}
use Rattle.block_disk.specs.Images.{Always, ImageBut, LeavesOnly}
use Rattle.block_disk.proofs.Images.{after_sync, and_then, besides_none, besides_only, image_now, now_too, weaker}
use Rattle.block_disk.proofs.Ranges.{outside_refl, outside_trans, outside_wider, part_same, spliced_same}
use Rattle.image_parts.specs.Calls.{Write, Sync, after}
use Rattle.image.specs.Commit.{ClosedOrSame, IsSteady, OldOrDurable, OldOrNew, StillShows, body_calls, closing_calls, commit_calls, pending_calls, shutting_calls}
use Rattle.image_parts.specs.Control.{Spells}
use Rattle.image_parts.specs.Slots.{other, slot_at, slot_range, body, sequence_of, Shows}
use Rattle.image_parts.specs.declared.layout.Layout.{Layout}
use Rattle.image_parts.specs.declared.control.Control.{Control}
use Rattle.image_parts.specs.declared.slot.Slot.{Slot}
use Rattle.image.proofs.Commits.{body_apart, closing_shut, gate_apart, room, steady_now}
use Rattle.image_parts.proofs.CallLemmas.{after-append}

-- writing a closed gate over one that is open, and leaving one alone that is closed
pub shutting_open : (at : ℕ) (d : Device) → get_or d.now.bytes at 0 ≡ 165 → after (shutting_calls at d.now.bytes) d ≡ written at (0 ∷ []) d
shutting_open at d is = ap (λ (b : Bool). after (cond b (Write at (0 ∷ []) ∷ []) []) d) (eq-eqb _ _ is)

pub shutting_shut : (at : ℕ) (d : Device) → (get_or d.now.bytes at 0 ≡ 165 → ⊥) → after (shutting_calls at d.now.bytes) d ≡ d
shutting_shut at d not = ap (λ (b : Bool). after (cond b (Write at (0 ∷ []) ∷ []) []) d) (ne_eqb _ _ not)

-- nothing but the gate has changed
shutting_same : (at : ℕ) (d : Device) → at + 1 ≤ length d.now.bytes
    → SameOutside (record { start = at; len = 1 } ∷ []) d.now.bytes (after (shutting_calls at d.now.bytes) d).now.bytes
shutting_same at d fits =
    let g : List Range = record { start = at; len = 1 } ∷ [] in
    ⊎_elim
    (λ is. subst (λ (e : Device). SameOutside g d.now.bytes e.now.bytes) (sym (shutting_open at d is)) (spliced_same d.now.bytes (0 ∷ []) at fits))
    (λ not. subst (λ (e : Device). SameOutside g d.now.bytes e.now.bytes) (sym (shutting_shut at d not)) (outside_refl g d.now.bytes))
    (cases_eq (get_or d.now.bytes at 0) 165)

module _ (l : Layout) (d : Device) (s : Slot) (c : Control) (steady : IsSteady l d s c) where
  abbrev R : Range
  R = slot_range (other s)

  abbrev the_gate : Range
  the_gate = record { start = slot_at (other s); len = 1 }

  body_kept : (xs ys : List ℕ) → 2160 ≤ length xs → SameOutside (the_gate ∷ []) xs ys → body (other s) ys ≡ body (other s) xs
  body_kept xs ys enough same = part_same (slot_at (other s) + 8) 1040 (the_gate ∷ []) xs ys same (inr (omega arith), tt) (room (other s) (length xs) enough)

  wide : (xs ys : List ℕ) → SameOutside (the_gate ∷ []) xs ys → SameOutside (R ∷ []) xs ys
  wide xs ys same = outside_wider the_gate R xs ys (omega arith) (omega arith) same

  -- while the other gate is closed or as it was, the control still shows
  pub still_shows : (image : List ℕ) → ClosedOrSame d (slot_at (other s)) image → StillShows l d s c image
  still_shows image closed =
      let before = closed.from.0 in
      let left = closed.from.1 in
      let same = wide before image closed.from.2 in
      let was = steady.shows before left in
      record {
        from = (before, left, same);
        shows = record {
          room = omega (arith, was.room, same.size);
          is_open = gate_apart s before image same ∙ was.is_open;
          greater = λ is. subst (λ (b : List ℕ). sequence_of b < c.sequence) (sym (body_kept before image was.room closed.from.2))
              (was.greater (⊎_elim (λ shut. absurd (shut is)) (λ still. steady.gate before left ∙ sym still ∙ is) closed.closed));
          spells = subst (λ (b : List ℕ). Spells l b c) (sym (body_apart s before image was.room same)) was.spells;
        };
      }

  pub spare_shuts : (e : Device) → LeavesOnly d e (ClosedOrSame d (slot_at (other s))) → LeavesOnly d e (StillShows l d s c)
  spare_shuts e leaves = weaker d e (ClosedOrSame d (slot_at (other s))) (StillShows l d s c) still_shows leaves

  pub still_before : Always d (StillShows l d s c)
  still_before image left = record { from = besides_none d (R ∷ []) image left; shows = steady.shows image left }

  module _ (d1 : Device) (closing : LeavesOnly d d1 (StillShows l d s c)) where
    still_one : Always d1 (StillShows l d s c)
    still_one = now_too d d1 (StillShows l d s c) still_before closing

    -- once that is durable the control is steady again
    pub steady_synced : (d2 : Device) → d2 ≡ synced d1 → IsSteady l d2 s c
    steady_synced d2 is = steady_now l d2 s c (ap (λ (e : Device). e.now.pending) is)
        (subst (λ (e : Device). Shows l e.now.bytes s c) (sym is) (still_one d1.now.bytes (image_now d1)).shows)

    module _ (new : Control) where
      abbrev P : List ℕ → Type 0
      P = OldOrDurable l d s c new

      to_old : (image : List ℕ) → StillShows l d s c image → P image
      to_old image still = record { from = still.from; shows = inl still.shows }

      pub after_closing : LeavesOnly d d1 P
      after_closing = weaker d d1 (StillShows l d s c) P to_old closing

      pub after_syncing : (d2 : Device) → LeavesOnly d1 d2 (ImageBut d1 []) → LeavesOnly d d2 P
      after_syncing d2 syncing = and_then d d1 d2 P after_closing (after_sync d1 d2 P (λ image left. to_old image (still_one image left)) syncing).0

      module _ (shut : d1 ≡ after (shutting_calls (slot_at (other s)) d.now.bytes) d) (d2 : Device) (is : d2 ≡ synced d1) (syncing : LeavesOnly d1 d2 (ImageBut d1 [])) where
        fits : slot_at (other s) + 1 ≤ length d.now.bytes
        fits = omega (arith, room (other s) (length d.now.bytes) steady.fits)

        shut_same : SameOutside (R ∷ []) d.now.bytes d1.now.bytes
        shut_same = wide d.now.bytes d1.now.bytes
            (subst (λ (e : Device). SameOutside (the_gate ∷ []) d.now.bytes e.now.bytes) (sym shut) (shutting_same (slot_at (other s)) d fits))

        in_commit : (image : List ℕ) → OldOrNew l d2 s c new image → P image
        in_commit image o =
            let rest : d2.now.pending ≡ [] = ap (λ (e : Device). e.now.pending) is in
            let two : SameOutside (R ∷ []) d2.now.bytes image = besides_only d2 (R ∷ []) image rest o.from in
            let one : SameOutside (R ∷ []) d1.now.bytes image = subst (λ (e : Device). SameOutside (R ∷ []) e.now.bytes image) is two in
            let same : SameOutside (R ∷ []) d.now.bytes image = outside_trans (R ∷ []) d.now.bytes d1.now.bytes image shut_same one in
            record { from = (d.now.bytes, image_now d, same); shows = ⊎_elim (λ old. inl old) (λ now. inr (now, same)) o.shows }

        pub after_commit : (d3 : Device) → LeavesOnly d2 d3 (OldOrNew l d2 s c new) → LeavesOnly d d3 P
        after_commit d3 committing = and_then d d2 d3 P (after_syncing d2 syncing) (weaker d2 d3 (OldOrNew l d2 s c new) P in_commit committing)

-- the calls, one behind the other: the closed gate is left alone by the commit
pub pending_made : (s : Slot) (bytes : List ℕ) (d d1 d2 d3 : Device) → d1 ≡ after (shutting_calls (slot_at (other s)) d.now.bytes) d → d2 ≡ synced d1
    → (get_or d1.now.bytes (slot_at (other s)) 0 ≡ 165 → ⊥) → d3 ≡ after (commit_calls s d2.now.bytes bytes) d2
    → d3 ≡ after (pending_calls s d.now.bytes bytes) d
pending_made s bytes d d1 d2 d3 one two closed three =
    let at = slot_at (other s) in
    let not : get_or d2.now.bytes at 0 ≡ 165 → ⊥ = λ is. closed (ap (λ (e : Device). get_or e.now.bytes at 0) (sym two) ∙ is) in
    three ∙ after-append (closing_calls at d2.now.bytes) (body_calls (other s) bytes) d2
    ∙ ap (λ (e : Device). after (body_calls (other s) bytes) e) (closing_shut at d2 not ∙ two ∙ ap synced one)
    ∙ sym (after-append (shutting_calls at d.now.bytes) (Sync ∷ body_calls (other s) bytes) d)
