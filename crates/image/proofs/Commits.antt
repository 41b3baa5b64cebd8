-- What a crash leaves of the two slots while one is rewritten.
use Rattle.std.proofs.Common.{◌≡◌, ◌≢◌, inl, inr, ⊎_elim, ℕ, ◌+◌, ◌<◌, ◌≤◌, List, [], ◌∷◌, length, get_or, take, drop, Bool, cond, ◌++◌, refl, sym, ◌∙◌, ap, subst, arith}
use Rattle.std.specs.Int.{w64, from_be_bytes}
use Rattle.std.proofs.lemmas.Bool.{cases_eq, eq-eqb, ne_eqb}
use Rattle.std.proofs.lemmas.Nat.{from_be_bytes-to_be_bytes_8}
use Rattle.block_disk.specs.Device.{Range, Device, Moment, Image, SameOutside, SameMoments, written, synced}
use Rattle.block_disk.proofs.Bytes.{get_or_part, part_part, part_spliced, spliced_at}
use Rattle.block_disk.proofs.Images.{always_only, image_now, besides_then, besides_none, now_too, weaker, follows}
use Rattle.block_disk.specs.Bytes.{part, spliced}
use Rattle.image_parts.specs.Control.{Spells}
use Rattle.image_parts.specs.Slots.{other, slot_at, gate, body, sequence_of, Shows, slot_range, body_at}
use Rattle.image_parts.specs.declared.layout.Layout.{Layout}
use Rattle.image_parts.specs.declared.control.Control.{Control}
use Rattle.image_parts.specs.declared.slot.Slot.{Slot}
use Rattle.image_parts.specs.declared.slot.Slot.TheVariants.{A, B}
use Rattle.block_disk.specs.Images.{ImageBut, LeavesOnly, Always, IsApart, Survives}
use Rattle.block_disk.proofs.Ranges.{part_same, outside_wider, outside_none, outside_refl}
use Rattle.image_parts.proofs.SlotLemmas.{sequence_spelled, gate_clear, body_clear, shows_survives}
use Rattle.image_parts.proofs.CallLemmas.{after-append}
use Rattle.image.specs.Commit.{IsSteady, OldOrNew, ClosedOrSame, closing_calls, body_calls, commit_calls}
use Rattle.image_parts.specs.Calls.{Call, Write, Sync, after, after_one}

-- bytes that are all on the disk
abbrev pub whole : List ℕ → Moment
whole bytes = record { bytes = bytes; pending = [] }

-- after a write that was made durable
pub now_whole : (old new : Device) (at : ℕ) (bytes : List ℕ) → new ≡ synced (written at bytes old) → new.now ≡ whole (spliced old.now.bytes at bytes)
now_whole old new at bytes is i = (is i).now

pub only : {m : Moment} {bytes image : List ℕ} → m ≡ whole bytes → Image m image → image ≡ bytes
only {m} {bytes} {image} is left = outside_none bytes image (subst (λ (m : Moment). Image m image) is left)

-- before a commit each image shows the old control
pub steady_before : (l : Layout) (d : Device) (s : Slot) (old new : Control) → IsSteady l d s old → Always d (OldOrNew l d s old new)
steady_before l d s old new steady image left = record { from = besides_none d (slot_range (other s) ∷ []) image left; shows = inl (steady.shows image left) }

-- with the greater sequence in the other slot, that one shows
shows_other : (l : Layout) (image : List ℕ) (s : Slot) (old new : Control) → 2160 ≤ length image → Spells l (body s image) old → old.sequence < new.sequence
    → gate (other s) image ≡ 165 → Spells l (body (other s) image) new → Shows l image (other s) new
shows_other l image A old new room was newer is_open is = record { room = room; is_open = is_open; greater = λ g. omega (arith, sequence_spelled l (body A image) old was); spells = is }
shows_other l image B old new room was newer is_open is = record { room = room; is_open = is_open; greater = λ g. omega (arith, sequence_spelled l (body B image) old was); spells = is }

-- a change of one slot leaves the other one
pub gate_apart : (t : Slot) (xs ys : List ℕ) → SameOutside (slot_range (other t) ∷ []) xs ys → gate t ys ≡ gate t xs
gate_apart A xs ys same = same.same 64 (inl (omega arith), tt)
gate_apart B xs ys same = same.same 1112 (inr (omega arith), tt)

pub body_apart : (t : Slot) (xs ys : List ℕ) → 2160 ≤ length xs → SameOutside (slot_range (other t) ∷ []) xs ys → body t ys ≡ body t xs
body_apart A xs ys long same = part_same 72 1040 (slot_range B ∷ []) xs ys same (inl (omega arith), tt) (omega arith)
body_apart B xs ys long same = part_same 1120 1040 (slot_range A ∷ []) xs ys same (inr (omega arith), tt) (omega arith)

pub room : (t : Slot) (n : ℕ) → 2160 ≤ n → slot_at t + 8 + 1040 ≤ n
room A n long = omega arith
room B n long = omega arith

pub closes : (d0 d1 new : Device) (at : ℕ) → SameMoments d0 d1 → get_or d0.now.bytes at 0 ≡ 165 → LeavesOnly d1 new (ImageBut d1 (record { start = at; len = 1 } ∷ [])) → LeavesOnly d0 new (ClosedOrSame d0 at)
closes d0 d1 new at same was_open leaves =
    let d : Device = record { name = d0.name; now = d0.now; past = d0.past; failures = d1.failures } in
    let is : d1 ≡ d = λ i. record { name = same.name i; now = same.now i; past = same.past i; failures = d1.failures } in
    let moved : LeavesOnly d0 new (ImageBut d0 (record { start = at; len = 1 } ∷ [])) =
    let m = subst (λ (e : Device). LeavesOnly e new (ImageBut e (record { start = at; len = 1 } ∷ []))) is leaves in
    record { later = m.later; grows = record { name = m.grows.name; since = m.grows.since; moments = m.grows.moments }; each = m.each; keeps = m.keeps } in
    weaker d0 new (ImageBut d0 (record { start = at; len = 1 } ∷ [])) (ClosedOrSame d0 at)
    (λ image from. record { from = from; closed = ⊎_elim (λ here. inr (here ∙ sym was_open)) (λ shut. inl shut) (cases_eq (get_or image at 0) 165) })
    moved

module _ (l : Layout) (d0 : Device) (s : Slot) (old : Control) (steady : IsSteady l d0 s old) (new : Control) (bytes : List ℕ) (spelled : Spells l bytes new) (long : length bytes ≡ 1040)
    (newer : old.sequence < new.sequence) (at : ℕ) (at_is : at ≡ slot_at (other s)) (place : ℕ) (place_is : place ≡ body_at (other s)) where
  abbrev R : Range
  R = slot_range (other s)

  abbrev P : List ℕ → Type 0
  P = OldOrNew l d0 s old new

  abbrev the_gate : Range
  the_gate = record { start = at; len = 1 }

  abbrev the_body : Range
  the_body = record { start = place; len = length bytes }

  -- what a change of the other slot leaves of this one
  record Kept (image : List ℕ) : Type 0 where
    fits : 2160 ≤ length image
    is_open : gate s image ≡ 165
    spells : Spells l (body s image) old

  kept : (image : List ℕ) → ImageBut d0 (R ∷ []) image → Kept image
  kept image (before, left, same) =
      let was = steady.shows before left in
      let enough : 2160 ≤ length before = omega (arith, left.size, steady.fits) in
      record {
        fits = omega (arith, same.size);
        is_open = gate_apart s before image same ∙ was.is_open;
        spells = subst (λ (b : List ℕ). Spells l b old) (sym (body_apart s before image enough same)) was.spells;
      }

  shows_old : (image : List ℕ) → ImageBut d0 (R ∷ []) image → gate (other s) image ≢ 165 → Shows l image s old
  shows_old image from shut = let k = kept image from in record { room = k.fits; is_open = k.is_open; greater = λ is. absurd (shut is); spells = k.spells }

  shows_new : (image : List ℕ) → ImageBut d0 (R ∷ []) image → gate (other s) image ≡ 165 → body (other s) image ≡ bytes → Shows l image (other s) new
  shows_new image from is_open is =
      let k = kept image from in shows_other l image s old new k.fits k.spells newer is_open (subst (λ (b : List ℕ). Spells l b new) (sym is) spelled)

  wide_gate : (xs ys : List ℕ) → SameOutside (the_gate ∷ []) xs ys → SameOutside (R ∷ []) xs ys
  wide_gate xs ys same = outside_wider the_gate R xs ys (omega arith) (omega arith) same

  wide_body : (xs ys : List ℕ) → SameOutside (the_body ∷ []) xs ys → SameOutside (R ∷ []) xs ys
  wide_body xs ys same = outside_wider the_body R xs ys (omega arith) (omega arith) same

  -- the gate's range leaves the body
  body_kept : (xs ys : List ℕ) → 2160 ≤ length xs → SameOutside (the_gate ∷ []) xs ys → body (other s) ys ≡ body (other s) xs
  body_kept xs ys enough same = part_same (slot_at (other s) + 8) 1040 (the_gate ∷ []) xs ys same (inr (omega arith), tt) (room (other s) (length xs) enough)

  -- the body's range leaves the gate
  gate_kept : (xs ys : List ℕ) → SameOutside (the_body ∷ []) xs ys → gate (other s) ys ≡ gate (other s) xs
  gate_kept xs ys same = same.same (slot_at (other s)) (inl (omega arith), tt)

  at_gate : (image : List ℕ) → get_or image at 0 ≡ gate (other s) image
  at_gate image = ap (λ (k : ℕ). get_or image k 0) at_is

  in_slot : (image : List ℕ) → ImageBut d0 (the_gate ∷ []) image → ImageBut d0 (R ∷ []) image
  in_slot image (before, left, same) = (before, left, wide_gate before image same)

  -- while the gate is closed or as it was
  in_close : (image : List ℕ) → ClosedOrSame d0 at image → P image
  in_close image c =
      let from = in_slot image c.from in
      let was = steady.shows c.from.0 c.from.1 in
      let k = kept image from in
      let still : get_or image at 0 ≡ get_or d0.now.bytes at 0 → Shows l image s old = λ same. record {
        room = k.fits;
        is_open = k.is_open;
        greater = λ is. subst (λ (b : List ℕ). sequence_of b < old.sequence) (sym (body_kept c.from.0 image (omega (arith, c.from.1.size, steady.fits)) c.from.2))
            (was.greater (steady.gate c.from.0 c.from.1 ∙ sym (at_gate d0.now.bytes) ∙ sym same ∙ at_gate image ∙ is));
        spells = k.spells;
      } in
      record { from = from; shows = inl (⊎_elim (λ shut. shows_old image from (λ is. shut (at_gate image ∙ is))) still c.closed) }

  old_always : Always d0 P
  old_always = steady_before l d0 s old new steady

  module _ (d1 : Device) (closing : LeavesOnly d0 d1 (ClosedOrSame d0 at)) where
    pub after_close : LeavesOnly d0 d1 P
    after_close = weaker d0 d1 (ClosedOrSame d0 at) P in_close closing

    module _ (closed : Always d1 (λ image. get_or image at 0 ≢ 165)) (d2 : Device) (writing : LeavesOnly d1 d2 (ImageBut d1 (the_body ∷ []))) where
      from_one : Always d1 (ImageBut d0 (R ∷ []))
      from_one image left = (now_too d0 d1 P old_always after_close image left).from

      in_body : (image : List ℕ) → ImageBut d1 (the_body ∷ []) image → P image
      in_body image (before, left, same) =
          let from : ImageBut d0 (R ∷ []) image = besides_then d0 d1 (R ∷ []) image from_one (before, left, wide_body before image same) in
          record { from = from; shows = inl (shows_old image from (λ is. closed before left (at_gate before ∙ sym (gate_kept before image same) ∙ is))) }

      pub after_body : LeavesOnly d0 d2 P
      after_body = follows d0 d1 d2 P (the_body ∷ []) after_close writing in_body

      long_one : 2160 ≤ length d1.now.bytes
      long_one = (kept d1.now.bytes (from_one d1.now.bytes (outside_refl d1.now.pending d1.now.bytes))).fits

      body_is : (xs : List ℕ) → body (other s) xs ≡ part place (length bytes) xs
      body_is xs = ap (λ (k : ℕ). take 1040 (drop k xs)) (sym place_is) ∙ ap (λ (n : ℕ). take n (drop place xs)) (sym long)

      module _ (has : d2.now ≡ whole (spliced d1.now.bytes place bytes)) (d3 : Device) (opening : LeavesOnly d2 d3 (ImageBut d2 (the_gate ∷ []))) where
        -- the new body stands in the slot
        record Ready (image : List ℕ) : Type 0 where
          body : part (slot_at (other s) + 8) 1040 image ≡ bytes
          old_or_new : P image

        two : Always d2 Ready
        two image left =
            let is : image ≡ spliced d1.now.bytes place bytes = only has left in
            let here = part_spliced d1.now.bytes bytes place (omega (arith, room (other s) (length d1.now.bytes) long_one)) in
            record {
              body = body_is image ∙ ap (λ (b : List ℕ). part place (length bytes) b) is ∙ here;
              old_or_new = now_too d0 d2 P old_always after_body image left;
            }

        in_open : (image : List ℕ) → ImageBut d2 (the_gate ∷ []) image → Ready image
        in_open image (before, left, same) =
            let ready = two before left in
            let from : ImageBut d0 (R ∷ []) image =
            besides_then d0 d2 (R ∷ []) image (λ earlier was. (two earlier was).old_or_new.from) (before, left, wide_gate before image same) in
            let is_new = body_kept before image (kept before ready.old_or_new.from).fits same ∙ ready.body in
            record {
              body = is_new;
              old_or_new = record {
                from = from;
                shows = ⊎_elim (λ is. inr (shows_new image from is is_new)) (λ shut. inl (shows_old image from shut)) (cases_eq (gate (other s) image) 165);
              };
            }

        pub after_open : LeavesOnly d0 d3 P
        after_open = follows d0 d2 d3 P (the_gate ∷ []) after_body opening (λ image from. (in_open image from).old_or_new)

        module _ (is : d3.now ≡ whole (spliced d2.now.bytes at (165 ∷ []))) where
          ready_three : Always d3 Ready
          ready_three = now_too d2 d3 Ready two (weaker d2 d3 (ImageBut d2 (the_gate ∷ [])) Ready in_open opening)

          long_two : 2160 ≤ length d2.now.bytes
          long_two = (kept d2.now.bytes ((two d2.now.bytes (outside_refl d2.now.pending d2.now.bytes)).old_or_new.from)).fits

          opened : gate (other s) (spliced d2.now.bytes at (165 ∷ [])) ≡ 165
          opened =
              let zero : slot_at (other s) ≡ at + 0 = omega arith in
              ap (λ (k : ℕ). get_or (spliced d2.now.bytes at (165 ∷ [])) k 0) zero
              ∙ spliced_at d2.now.bytes (165 ∷ []) at (omega (arith, room (other s) (length d2.now.bytes) long_two)) 0 (omega arith)

          pub steady_new : IsSteady l d3 (other s) new
          steady_new = record {
            fits = (kept d3.now.bytes ((ready_three d3.now.bytes (outside_refl d3.now.pending d3.now.bytes)).old_or_new.from)).fits;
            shows = λ image left.
                let ready = ready_three image left in
                shows_new image ready.old_or_new.from (ap (gate (other s)) (only is left) ∙ opened) ready.body;
            gate = λ image left. ap (gate (other (other s))) (only is left ∙ sym (only is (outside_refl d3.now.pending d3.now.bytes)));
          }

-- with nothing pending, what shows is steady
pub steady_now : (l : Layout) (d : Device) (s : Slot) (c : Control) → d.now.pending ≡ [] → Shows l d.now.bytes s c → IsSteady l d s c
steady_now l d s c none shows = record {
  fits = shows.room;
  shows = always_only d (λ image. Shows l image s c) none shows;
  gate = always_only d (λ image. gate (other s) image ≡ gate (other s) d.now.bytes) none refl;
}

-- calls that write elsewhere leave the control steady
pub steady_stays : (l : Layout) (d e : Device) (s : Slot) (c : Control) (rs : List Range) → IsApart 64 2096 rs → IsSteady l d s c → Always e (ImageBut d rs) → IsSteady l e s c
steady_stays l d e s c rs apart steady left =
    let now = left e.now.bytes (image_now e) in
    let was = steady.gate now.0 now.1 in
    let room = (steady.shows now.0 now.1).room in
    record {
      fits = omega (arith, room, now.2.size);
      shows = λ image there. let from = left image there in shows_survives l s c rs apart from.0 image (steady.shows from.0 from.1) from.2;
      gate = λ image there. let from = left image there in
          gate_clear (other s) rs from.0 image apart from.2 (steady.shows from.0 from.1).room ∙ steady.gate from.0 from.1
          ∙ sym was ∙ sym (gate_clear (other s) rs now.0 e.now.bytes apart now.2 room);
    }

-- closing a gate that is open, and one that is closed
pub closing_open : (at : ℕ) (d : Device) → get_or d.now.bytes at 0 ≡ 165 → after (closing_calls at d.now.bytes) d ≡ synced (written at (0 ∷ []) d)
closing_open at d is = ap (λ (b : Bool). after (cond b (Write at (0 ∷ []) ∷ Sync ∷ []) []) d) (eq-eqb _ _ is)

pub closing_shut : (at : ℕ) (d : Device) → (get_or d.now.bytes at 0 ≡ 165 → ⊥) → after (closing_calls at d.now.bytes) d ≡ d
closing_shut at d not = ap (λ (b : Bool). after (cond b (Write at (0 ∷ []) ∷ Sync ∷ []) []) d) (ne_eqb _ _ not)

-- the calls of a commit, one after the other
pub commit_made : (s : Slot) (bytes : List ℕ) (d0 d1 d2 d3 : Device) (at place : ℕ) → at ≡ slot_at (other s) → place ≡ body_at (other s)
    → d1 ≡ after (closing_calls at d0.now.bytes) d0 → d2 ≡ synced (written place bytes d1) → d3 ≡ synced (written at (165 ∷ []) d2)
    → d3 ≡ after (commit_calls s d0.now.bytes bytes) d0
commit_made s bytes d0 d1 d2 d3 at place at_is place_is one two three =
    three ∙ ap (λ (k : ℕ). synced (written k (165 ∷ []) d2)) at_is
    ∙ ap (λ (d : Device). synced (written (slot_at (other s)) (165 ∷ []) d))
    (two ∙ (λ i. synced (written (place_is i) bytes ((one ∙ ap (λ (k : ℕ). after (closing_calls k d0.now.bytes) d0) at_is) i))))
    ∙ sym (after-append (closing_calls (slot_at (other s)) d0.now.bytes) (body_calls (other s) bytes) d0)
