-- A commit that opens the gate of the other slot, which is closed, over writes that are still pending.
use Rattle.std.proofs.Common.{◌≡◌, ◌≢◌, inl, inr, ⊎_elim, ℕ, ◌+◌, ◌<◌, ◌≤◌, List, [], ◌∷◌, length, get_or, sym, ◌∙◌, ap, subst, arith}
use Rattle.std.proofs.lemmas.Bool.{cases_eq}
use Rattle.block_disk.specs.Bytes.{part, spliced}
use Rattle.block_disk.specs.Device.{Range, Device, SameOutside}
use Rattle.block_disk.specs.Images.{Always, ImageBut, LeavesOnly}
use Rattle.block_disk.proofs.Bytes.{part_spliced, spliced_at}
use Rattle.block_disk.proofs.Images.{and_then, besides_none, image_now, now_too, weaker}
use Rattle.block_disk.proofs.Ranges.{outside_trans, outside_wider, part_same, spliced_same}
use Rattle.image.specs.Commit.{IsSteady, OldOrTurned, slots_range}
use Rattle.image_parts.specs.Control.{Spells}
use Rattle.image_parts.specs.Slots.{other, slot_at, body_at, slot_range, gate, body, sequence_of, Shows}
use Rattle.image_parts.specs.declared.layout.Layout.{Layout}
use Rattle.image_parts.specs.declared.control.Control.{Control}
use Rattle.image_parts.specs.declared.slot.Slot.{Slot}
use Rattle.image.proofs.Commits.{body_apart, gate_apart, only, room, whole}
use Rattle.image_parts.proofs.SlotLemmas.{sequence_spelled}
use Rattle.image.proofs.Turning.{high, low, twice}

module _ (l : Layout) (d : Device) (s : Slot) (old new : Control) (steady : IsSteady l d s old) (bytes : List ℕ) (long : length bytes ≡ 1040)
    (closed : gate (other s) d.now.bytes ≢ 165) (spelled : Spells l bytes new) (newer : old.sequence < new.sequence)
    (place : ℕ) (place_is : place ≡ body_at (other s)) where
  abbrev the_body : Range
  the_body = record { start = place; len = length bytes }

  abbrev P : List ℕ → Type 0
  P = OldOrTurned l d s old new

  abbrev R : Range
  R = slot_range (other s)

  in_slot : (xs ys : List ℕ) → SameOutside (the_body ∷ []) xs ys → SameOutside (R ∷ []) xs ys
  in_slot xs ys same = outside_wider the_body R xs ys (omega (arith, place_is)) (omega (arith, place_is, long)) same

  in_slots : (xs ys : List ℕ) → SameOutside (R ∷ []) xs ys → SameOutside (slots_range ∷ []) xs ys
  in_slots xs ys same = outside_wider R slots_range xs ys (low (other s)) (omega (arith, high (other s))) same

  -- while the body is written the old control shows
  record Stays (image : List ℕ) : Type 0 where
    from : ImageBut d (slots_range ∷ []) image
    shows : Shows l image s old

  in_body : (image : List ℕ) → ImageBut d (the_body ∷ []) image → Stays image
  in_body image (before, left, same) =
      let slot = in_slot before image same in
      let was = steady.shows before left in
      let gate_is : gate (other s) image ≡ gate (other s) before = same.same (slot_at (other s)) (inl (omega (arith, place_is)), tt) in
      record {
        from = (before, left, in_slots before image slot);
        shows = record {
          room = omega (arith, was.room, same.size);
          is_open = gate_apart s before image slot ∙ was.is_open;
          greater = λ is. absurd (closed (sym (steady.gate before left) ∙ sym gate_is ∙ is));
          spells = subst (λ (b : List ℕ). Spells l b old) (sym (body_apart s before image was.room slot)) was.spells;
        };
      }

  to_old : (image : List ℕ) → Stays image → P image
  to_old image still = record { from = still.from; shows = inl still.shows }

  stays_before : Always d Stays
  stays_before image left = record { from = besides_none d (slots_range ∷ []) image left; shows = steady.shows image left }

  module _ (d1 : Device) (writing : LeavesOnly d d1 (ImageBut d (the_body ∷ []))) where
    pub after_body : LeavesOnly d d1 P
    after_body = weaker d d1 (ImageBut d (the_body ∷ [])) P (λ image from. to_old image (in_body image from)) writing

    stays_one : Always d1 Stays
    stays_one = now_too d d1 Stays stays_before (weaker d d1 (ImageBut d (the_body ∷ [])) Stays in_body writing)

    module _ (has : d1.now ≡ whole (spliced d.now.bytes place bytes)) (at : ℕ) (at_is : at ≡ slot_at (other s)) (d2 : Device)
        (opening : LeavesOnly d1 d2 (ImageBut d1 (record { start = at; len = 1 } ∷ []))) where
      abbrev X : List ℕ
      X = spliced d.now.bytes place bytes

      abbrev the_gate : Range
      the_gate = record { start = at; len = 1 }

      fits : place + length bytes ≤ length d.now.bytes
      fits = omega (arith, place_is, long, room (other s) (length d.now.bytes) steady.fits)

      changed : SameOutside (R ∷ []) d.now.bytes X
      changed = in_slot d.now.bytes X (spliced_same d.now.bytes bytes place fits)

      stands : body (other s) X ≡ bytes
      stands = ap (λ (k : ℕ). part k 1040 X) (sym place_is) ∙ ap (λ (n : ℕ). part place n X) (sym long) ∙ part_spliced d.now.bytes bytes place fits

      now_one : Shows l X s old
      now_one = subst (λ (xs : List ℕ). Shows l xs s old) (ap (λ m. m.bytes) has) (stays_one d1.now.bytes (image_now d1)).shows

      record Opened (image : List ℕ) : Type 0 where
        same : SameOutside (slots_range ∷ []) d.now.bytes image
        room : 2160 ≤ length image
        is_open : gate s image ≡ 165
        was : Spells l (body s image) old
        spells : Spells l (body (other s) image) new

      in_opening : (image : List ℕ) → SameOutside (the_gate ∷ []) X image → Opened image
      in_opening image same =
          let slot : SameOutside (R ∷ []) X image = outside_wider the_gate R X image (omega (arith, at_is)) (omega (arith, at_is)) same in
          let kept : body (other s) image ≡ body (other s) X = part_same (slot_at (other s) + 8) 1040 (the_gate ∷ []) X image same (inr (omega (arith, at_is)), tt) (room (other s) (length X) now_one.room) in
          record {
            same = outside_trans (slots_range ∷ []) d.now.bytes X image (in_slots d.now.bytes X changed) (in_slots X image slot);
            room = omega (arith, now_one.room, same.size);
            is_open = gate_apart s X image slot ∙ now_one.is_open;
            was = subst (λ (b : List ℕ). Spells l b old) (sym (body_apart s X image now_one.room slot)) now_one.spells;
            spells = subst (λ (b : List ℕ). Spells l b new) (sym (kept ∙ stands)) spelled;
          }

      shows_new : (image : List ℕ) → Opened image → gate (other s) image ≡ 165 → Shows l image (other s) new
      shows_new image opened is_open = record {
        room = opened.room;
        is_open = is_open;
        greater = subst (λ (t : Slot). gate t image ≡ 165 → sequence_of (body t image) < new.sequence) (sym (twice s))
            (λ g. omega (arith, sequence_spelled l (body s image) old opened.was, newer));
        spells = opened.spells;
      }

      shows_old : (image : List ℕ) → Opened image → gate (other s) image ≢ 165 → Shows l image s old
      shows_old image opened shut = record { room = opened.room; is_open = opened.is_open; greater = λ is. absurd (shut is); spells = opened.was }

      turning : (image : List ℕ) → ImageBut d1 (the_gate ∷ []) image → P image
      turning image (before, left, same) =
          let from : SameOutside (the_gate ∷ []) X image = subst (λ (xs : List ℕ). SameOutside (the_gate ∷ []) xs image) (only has left) same in
          let opened = in_opening image from in
          record {
            from = (d.now.bytes, image_now d, opened.same);
            shows = ⊎_elim (λ is. inr (shows_new image opened is, opened.same)) (λ shut. inl (shows_old image opened shut)) (cases_eq (gate (other s) image) 165);
          }

      -- whatever the opening answers
      pub after_opening : LeavesOnly d d2 P
      after_opening = and_then d d1 d2 P after_body (weaker d1 d2 (ImageBut d1 (the_gate ∷ [])) P turning opening)

      module _ (is : d2.now ≡ whole (spliced d1.now.bytes at (165 ∷ []))) where
        is_two : d2.now ≡ whole (spliced X at (165 ∷ []))
        is_two = is ∙ ap (λ (m : _). whole (spliced m.bytes at (165 ∷ []))) has

        gate_fits : at + 1 ≤ length X
        gate_fits = omega (arith, at_is, high (other s), now_one.room)

        open_two : gate (other s) (spliced X at (165 ∷ [])) ≡ 165
        open_two =
            let zero : slot_at (other s) ≡ at + 0 = omega (arith, at_is) in
            ap (λ (k : ℕ). get_or (spliced X at (165 ∷ [])) k 0) zero ∙ spliced_at X (165 ∷ []) at gate_fits 0 (omega arith)

        final : Opened (spliced X at (165 ∷ []))
        final = in_opening (spliced X at (165 ∷ [])) (spliced_same X (165 ∷ []) at gate_fits)

        pub steady_opened : IsSteady l d2 (other s) new
        steady_opened = record {
          fits = subst (λ (xs : List ℕ). 2160 ≤ length xs) (sym (ap (λ m. m.bytes) is_two)) final.room;
          shows = λ image left. subst (λ (xs : List ℕ). Shows l xs (other s) new) (sym (only is_two left)) (shows_new (spliced X at (165 ∷ [])) final open_two);
          gate = λ image left. ap (gate (other (other s))) (only is_two left ∙ sym (ap (λ m. m.bytes) is_two));
        }
