-- A commit that closes the gate of the control that counts, while the other slot is open with a smaller sequence.
use Rattle.std.proofs.Common.{◌≡◌, ◌≢◌, inl, inr, ⊎_elim, ℕ, ◌+◌, ◌<◌, ◌≤◌, List, [], ◌∷◌, ◌++◌, length, get_or, take, drop, sym, ◌∙◌, ap, subst, refl, arith}
use Rattle.std.specs.Int.{w64, from_be_bytes}
use Rattle.std.proofs.lemmas.Bool.{cases_eq}
use Rattle.std.proofs.lemmas.List.{drop-drop, drop-take}
use Rattle.block_disk.specs.Bytes.{part, spliced}
use Rattle.block_disk.specs.Device.{Range, Device, SameOutside, written, synced}
use Rattle.block_disk.specs.Images.{Always, ImageBut, LeavesOnly}
use Rattle.block_disk.proofs.Bytes.{part_part, part_spliced, spliced_at}
use Rattle.block_disk.proofs.Images.{and_then, besides_none, image_now, now_too, weaker}
use Rattle.block_disk.proofs.Ranges.{outside_trans, outside_wider, part_same, spliced_same}
use Rattle.image_parts.specs.Calls.{Write, Sync, after}
use Rattle.image.specs.Commit.{IsSteady, OldOrTurned, slots_range}
use Rattle.image_parts.specs.Control.{Spells}
use Rattle.image_parts.specs.Slots.{other, slot_at, body_at, slot_range, gate, body, sequence_of, Shows}
use Rattle.image_parts.specs.declared.layout.Layout.{Layout}
use Rattle.image_parts.specs.declared.control.Control.{Control}
use Rattle.image_parts.specs.declared.slot.Slot.{Slot}
use Rattle.image_parts.specs.declared.slot.Slot.TheVariants.{A, B}
use Rattle.image.proofs.Commits.{body_apart, gate_apart, only, room, whole}
use Rattle.image_parts.proofs.SlotLemmas.{sequence_spelled}
use Rattle.image_parts.proofs.Numbers.{cut}

pub twice : (s : Slot) → other (other s) ≡ s
twice A = refl
twice B = refl

pub low : (s : Slot) → 64 ≤ slot_at s
low A = omega arith
low B = omega arith

pub high : (s : Slot) → slot_at s + 1048 ≤ 2160
high A = omega arith
high B = omega arith

-- a change of this slot leaves the other one
gate_far : (s : Slot) (xs ys : List ℕ) → SameOutside (slot_range s ∷ []) xs ys → gate (other s) ys ≡ gate (other s) xs
gate_far A xs ys same = gate_apart B xs ys same
gate_far B xs ys same = gate_apart A xs ys same

body_far : (s : Slot) (xs ys : List ℕ) → 2160 ≤ length xs → SameOutside (slot_range s ∷ []) xs ys → body (other s) ys ≡ body (other s) xs
body_far A xs ys long same = body_apart B xs ys long same
body_far B xs ys long same = body_apart A xs ys long same

-- bytes behind the sequence leave it
same_sequence : (t : Slot) (r : Range) (xs ys : List ℕ) → slot_at t + 16 ≤ r.start → 2160 ≤ length xs → SameOutside (r ∷ []) xs ys
    → sequence_of (body t ys) ≡ sequence_of (body t xs)
unfolding sequence_of
same_sequence t r xs ys behind long same =
    let eight : part (slot_at t + 8 + 0) 8 ys ≡ part (slot_at t + 8 + 0) 8 xs = part_same (slot_at t + 8 + 0) 8 (r ∷ []) xs ys same (inl (omega (arith, behind)), tt) (omega (arith, room t (length xs) long)) in
    ap (from_be_bytes w64) (part_part 0 8 (slot_at t + 8) 1040 ys (omega arith) ∙ eight ∙ sym (part_part 0 8 (slot_at t + 8) 1040 xs (omega arith)))

-- a body is its sequence and the rest
two_parts : (b : ℕ) (xs : List ℕ) → part b 1040 xs ≡ part b 8 xs ++ part (b + 8) 1032 xs
two_parts b xs =
    let bs = part b 1040 xs in
    let first : part 0 8 bs ≡ part b 8 xs = part_part 0 8 b 1040 xs (omega arith) ∙ ap (λ (k : ℕ). part k 8 xs) (let z : b + 0 ≡ b = omega arith in z) in
    let last : drop 8 bs ≡ part (b + 8) 1032 xs = drop-take 8 1032 (drop b xs) ∙ ap (take 1032) (drop-drop 8 b xs) in
    cut 0 8 bs ∙ (λ i. first i ++ last i)

-- two writes, each made durable
pub two_made : (d d1 d2 : Device) (place p at a : ℕ) (bytes gate : List ℕ) → place ≡ p → at ≡ a → d1 ≡ synced (written place bytes d) → d2 ≡ synced (written at gate d1)
    → d2 ≡ after (Write p bytes ∷ Sync ∷ Write a gate ∷ Sync ∷ []) d
two_made d d1 d2 place p at a bytes gate place_is at_is one two =
    two ∙ ap (λ (k : ℕ). synced (written k gate d1)) at_is
    ∙ ap (λ (e : Device). synced (written a gate e)) (one ∙ ap (λ (k : ℕ). synced (written k bytes d)) place_is)

module _ (l : Layout) (d : Device) (s : Slot) (old new : Control) (steady : IsSteady l d s old) (rest : List ℕ) (long : length rest ≡ 1032)
    (open_now : gate (other s) d.now.bytes ≡ 165) (spelled : Spells l (part (body_at (other s)) 8 d.now.bytes ++ rest) new)
    (place : ℕ) (place_is : place ≡ body_at (other s) + 8) where
  abbrev the_rest : Range
  the_rest = record { start = place; len = length rest }

  abbrev P : List ℕ → Type 0
  P = OldOrTurned l d s old new

  in_slot : (xs ys : List ℕ) → SameOutside (the_rest ∷ []) xs ys → SameOutside (slot_range (other s) ∷ []) xs ys
  in_slot xs ys same = outside_wider the_rest (slot_range (other s)) xs ys (omega (arith, place_is)) (omega (arith, place_is, long)) same

  in_slots : (t : Slot) (xs ys : List ℕ) → SameOutside (slot_range t ∷ []) xs ys → SameOutside (slots_range ∷ []) xs ys
  in_slots t xs ys same = outside_wider (slot_range t) slots_range xs ys (low t) (omega (arith, high t)) same

  -- while the rest is written the old control shows
  record Still (image : List ℕ) : Type 0 where
    from : ImageBut d (slots_range ∷ []) image
    shows : Shows l image s old

  in_rest : (image : List ℕ) → ImageBut d (the_rest ∷ []) image → Still image
  in_rest image (before, left, same) =
      let slot = in_slot before image same in
      let was = steady.shows before left in
      let gate_is : gate (other s) image ≡ gate (other s) before = same.same (slot_at (other s)) (inl (omega (arith, place_is)), tt) in
      record {
        from = (before, left, in_slots (other s) before image slot);
        shows = record {
          room = omega (arith, was.room, same.size);
          is_open = gate_apart s before image slot ∙ was.is_open;
          greater = λ is. subst (λ (n : ℕ). n < old.sequence) (sym (same_sequence (other s) the_rest before image (omega (arith, place_is)) was.room same)) (was.greater (sym gate_is ∙ is));
          spells = subst (λ (b : List ℕ). Spells l b old) (sym (body_apart s before image was.room slot)) was.spells;
        };
      }

  to_old : (image : List ℕ) → Still image → P image
  to_old image still = record { from = still.from; shows = inl still.shows }

  still_before : Always d Still
  still_before image left = record { from = besides_none d (slots_range ∷ []) image left; shows = steady.shows image left }

  module _ (d1 : Device) (writing : LeavesOnly d d1 (ImageBut d (the_rest ∷ []))) where
    pub after_rest : LeavesOnly d d1 P
    after_rest = weaker d d1 (ImageBut d (the_rest ∷ [])) P (λ image from. to_old image (in_rest image from)) writing

    still_one : Always d1 Still
    still_one = now_too d d1 Still still_before (weaker d d1 (ImageBut d (the_rest ∷ [])) Still in_rest writing)

    module _ (has : d1.now ≡ whole (spliced d.now.bytes place rest)) (at : ℕ) (at_is : at ≡ slot_at s) (d2 : Device)
        (closing : LeavesOnly d1 d2 (ImageBut d1 (record { start = at; len = 1 } ∷ []))) where
      abbrev X : List ℕ
      X = spliced d.now.bytes place rest

      abbrev the_gate : Range
      the_gate = record { start = at; len = 1 }

      fits : place + length rest ≤ length d.now.bytes
      fits = omega (arith, place_is, long, room (other s) (length d.now.bytes) steady.fits)

      changed : SameOutside (slot_range (other s) ∷ []) d.now.bytes X
      changed = in_slot d.now.bytes X (spliced_same d.now.bytes rest place fits)

      -- the new control stands there, open, with the smaller sequence
      stands : Spells l (body (other s) X) new
      stands =
          let b = body_at (other s) in
          let eight : part b 8 X ≡ part b 8 d.now.bytes = part_same b 8 (the_rest ∷ []) d.now.bytes X (spliced_same d.now.bytes rest place fits) (inl (omega (arith, place_is)), tt) (omega (arith, room (other s) (length d.now.bytes) steady.fits)) in
          let others : part (b + 8) 1032 X ≡ rest = ap (λ (k : ℕ). part k 1032 X) (sym place_is) ∙ ap (λ (n : ℕ). part place n X) (sym long) ∙ part_spliced d.now.bytes rest place fits in
          subst (λ (bs : List ℕ). Spells l bs new) (sym (two_parts b X ∙ (λ i. eight i ++ others i))) spelled

      now_one : Shows l X s old
      now_one = subst (λ (xs : List ℕ). Shows l xs s old) (ap (λ m. m.bytes) has) (still_one d1.now.bytes (image_now d1)).shows

      open_one : gate (other s) X ≡ 165
      open_one = (spliced_same d.now.bytes rest place fits).same (slot_at (other s)) (inl (omega (arith, place_is)), tt) ∙ open_now

      record Turned (image : List ℕ) : Type 0 where
        same : SameOutside (slots_range ∷ []) d.now.bytes image
        room : 2160 ≤ length image
        spells : Spells l (body (other s) image) new
        is_open : gate (other s) image ≡ 165

      in_closing : (image : List ℕ) → SameOutside (the_gate ∷ []) X image → Turned image
      in_closing image same =
          let slot : SameOutside (slot_range s ∷ []) X image = outside_wider the_gate (slot_range s) X image (omega (arith, at_is)) (omega (arith, at_is)) same in
          record {
            same = outside_trans (slots_range ∷ []) d.now.bytes X image (in_slots (other s) d.now.bytes X changed) (in_slots s X image slot);
            room = omega (arith, now_one.room, same.size);
            spells = subst (λ (b : List ℕ). Spells l b new) (sym (body_far s X image now_one.room slot)) stands;
            is_open = gate_far s X image slot ∙ open_one;
          }

      shows_new : (image : List ℕ) → Turned image → gate s image ≢ 165 → Shows l image (other s) new
      shows_new image turned shut = record {
        room = turned.room;
        is_open = turned.is_open;
        greater = λ is. absurd (shut (subst (λ (t : Slot). gate t image ≡ 165) (twice s) is));
        spells = turned.spells;
      }

      shows_old : (image : List ℕ) → SameOutside (the_gate ∷ []) X image → Turned image → gate s image ≡ 165 → Shows l image s old
      shows_old image same turned is_open = record {
        room = turned.room;
        is_open = is_open;
        greater = λ is. omega (arith, now_one.greater open_one, sequence_spelled l (body (other s) X) new stands, sequence_spelled l (body (other s) image) new turned.spells);
        spells = subst (λ (b : List ℕ). Spells l b old)
            (sym (part_same (slot_at s + 8) 1040 (the_gate ∷ []) X image same (inr (omega (arith, at_is)), tt) (room s (length X) now_one.room))) now_one.spells;
      }

      turning : (image : List ℕ) → ImageBut d1 (the_gate ∷ []) image → P image
      turning image (before, left, same) =
          let from : SameOutside (the_gate ∷ []) X image = subst (λ (xs : List ℕ). SameOutside (the_gate ∷ []) xs image) (only has left) same in
          let turned = in_closing image from in
          record {
            from = (d.now.bytes, image_now d, turned.same);
            shows = ⊎_elim (λ is. inl (shows_old image from turned is)) (λ shut. inr (shows_new image turned shut, turned.same)) (cases_eq (gate s image) 165);
          }

      -- whatever the closing answers
      pub after_turn : LeavesOnly d d2 P
      after_turn = and_then d d1 d2 P after_rest (weaker d1 d2 (ImageBut d1 (the_gate ∷ [])) P turning closing)

      module _ (is : d2.now ≡ whole (spliced d1.now.bytes at (0 ∷ []))) where
        is_two : d2.now ≡ whole (spliced X at (0 ∷ []))
        is_two = is ∙ ap (λ (m : _). whole (spliced m.bytes at (0 ∷ []))) has

        gate_fits : at + 1 ≤ length X
        gate_fits = omega (arith, at_is, high s, now_one.room)

        shut_two : gate s (spliced X at (0 ∷ [])) ≢ 165
        shut_two is165 =
            let zero : slot_at s ≡ at + 0 = omega (arith, at_is) in
            let nought : gate s (spliced X at (0 ∷ [])) ≡ 0 = ap (λ (k : ℕ). get_or (spliced X at (0 ∷ [])) k 0) zero ∙ spliced_at X (0 ∷ []) at gate_fits 0 (omega arith) in
            omega (arith, nought, is165)

        final : Turned (spliced X at (0 ∷ []))
        final = in_closing (spliced X at (0 ∷ [])) (spliced_same X (0 ∷ []) at gate_fits)

        pub steady_turned : IsSteady l d2 (other s) new
        steady_turned = record {
          fits = subst (λ (xs : List ℕ). 2160 ≤ length xs) (sym (ap (λ m. m.bytes) is_two)) final.room;
          shows = λ image left. subst (λ (xs : List ℕ). Shows l xs (other s) new) (sym (only is_two left)) (shows_new (spliced X at (0 ∷ [])) final shut_two);
          gate = λ image left. ap (gate (other (other s))) (only is_two left ∙ sym (ap (λ m. m.bytes) is_two));
        }
