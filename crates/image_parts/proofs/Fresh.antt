-- What making an image leaves.
use Rattle.std.proofs.Common.{◌≡◌, ◌⊎◌, inl, inr, ℕ, zero, suc, ◌+◌, ◌*◌, ◌<◌, ◌≤◌, List, [], ◌∷◌, ◌++◌, length, get_or, take, drop, replicate, refl, sym, ap, subst, ◌∙◌, arith, length-take, length-drop}
use Rattle.std.specs.Int.{to_be_bytes, w64}
use Rattle.std.proofs.Math.Numerals.{add-one}
use Rattle.std.proofs.Math.Seq.{take-add}
use Rattle.std.proofs.lemmas.List.{drop-drop, take_all, length-replicate}
use Rattle.std.proofs.lemmas.List.Elements.{All-take, All-drop, All-replicate}
use Rattle.block_disk.specs.Bytes.{part, spliced}
use Rattle.block_disk.specs.Device.{Device, SameOutside, written, synced}
use Rattle.block_disk.proofs.Bytes.{get_or_part, part_part}
use Rattle.block_disk.proofs.Ranges.{part_same}
use Rattle.guards.specs.Schema.{Declarations, first_of}
use Rattle.image_parts.specs.Calls.{Write, Sync, after}
use Rattle.image_parts.specs.Control.{AreRows, IsControl, control_bytes, empty_control}
use Rattle.image_parts.specs.Format.{IsFresh, HasField, all_field_calls, closed_slot, field_calls, format_calls, fresh_slot, name_calls, slot_calls}
use Rattle.image_parts.specs.Guards.{guard_bytes, guard_row_of}
use Rattle.image_parts.specs.Header.{header_bytes}
use Rattle.image_parts.specs.Layout.{IsLayoutOf, guard_at, cell_at, size_of}
use Rattle.image_parts.specs.Rows.{IsRow, empty_row}
use Rattle.image_parts.specs.Slots.{Shows, gate, body}
use Rattle.image_parts.specs.declared.layout.Layout.{Layout}
use Rattle.image_parts.specs.declared.slot.Slot.TheVariants.{A, B}
use Rattle.image_parts.proofs.CallLemmas.{after-append}
use Rattle.image_parts.proofs.Puts.{Puts, PutsFields, puts_spliced, stands, field_put, none_put, next_put}

-- the calls, one behind the other

pub field_made : (l : Layout) (schema : Declarations) (f : ℕ) (d0 d1 d2 : Device) → d1 ≡ after (all_field_calls l schema f) d0 → d2 ≡ after (field_calls l schema f) d1
    → d2 ≡ after (all_field_calls l schema (f + 1)) d0
field_made l schema f d0 d1 d2 before now =
    now ∙ ap (after (field_calls l schema f)) before ∙ sym (after-append (all_field_calls l schema f) (field_calls l schema f) d0)
    ∙ ap (λ (n : ℕ). after (all_field_calls l schema n) d0) (sym (add-one f))

module _ (l : Layout) (schema : Declarations) (d0 d1 d2 d3 d4 d5 : Device) (named : d1 ≡ after (name_calls l) d0) (slotted : d2 ≡ after slot_calls d1)
    (filled : d3 ≡ after (all_field_calls l schema l.fields) d2) (durable : d4 ≡ synced d3) (opened : d5 ≡ synced (written 8 (165 ∷ []) d4)) where
  pub format_made : d5 ≡ after (format_calls l schema) d0
  format_made =
      opened ∙ ap (λ (d : Device). synced (written 8 (165 ∷ []) d)) (durable ∙ ap synced (filled ∙ ap (after (all_field_calls l schema l.fields)) (slotted ∙ ap (after slot_calls) named)))
      ∙ sym (after-append (all_field_calls l schema l.fields) (Sync ∷ Write 8 (165 ∷ []) ∷ Sync ∷ []) (after slot_calls (after (name_calls l) d0)))

-- the header stands there, but for its gate
record PutsName (header old new : List ℕ) : Type 0 where
  front : part 0 8 new ≡ take 8 header
  rest : part 9 55 new ≡ drop 9 header
  size : length new ≡ length old

-- both slots stand there, and no other byte has changed
record PutsSlots (old new : List ℕ) : Type 0 where
  a : part 64 1048 new ≡ fresh_slot
  b : part 1112 1048 new ≡ closed_slot
  same : SameOutside (record { start = 64; len = 2096 } ∷ []) old new

long_slot : length fresh_slot ≡ 1048
unfolding fresh_slot
long_slot = refl

long_closed : length closed_slot ≡ 1048
unfolding closed_slot
long_closed = length-replicate {A = ℕ} 1048 0

name_put : (h old : List ℕ) → length h ≡ 64 → 64 ≤ length old → PutsName h old (spliced (spliced (spliced old 8 (0 ∷ [])) 0 (take 8 h)) 9 (drop 9 h))
name_put h old len enough =
    let eight : length (take 8 h) ≡ 8 = simp length-take (omega arith) in
    let more : length (drop 9 h) ≡ 55 = simp length-drop (omega arith) in
    let i1 = spliced old 8 (0 ∷ []) in
    let p = puts_spliced 8 (0 ∷ []) old (omega arith) in
    let q = puts_spliced 0 (take 8 h) i1 (omega (arith, p.same.size)) in
    let i2 = spliced i1 0 (take 8 h) in
    let r = puts_spliced 9 (drop 9 h) i2 (omega (arith, p.same.size, q.same.size)) in
    let i3 = spliced i2 9 (drop 9 h) in
    record {
      front = part_same 0 8 (record { start = 9; len = length (drop 9 h) } ∷ []) i2 i3 r.same (inl (omega arith), tt) (omega (arith, q.same.size, p.same.size)) ∙ stands 0 8 (take 8 h) i1 i2 eight q;
      rest = stands 9 55 (drop 9 h) i2 i3 more r;
      size = r.same.size ∙ q.same.size ∙ p.same.size;
    }

slots_put : (old : List ℕ) → 2160 ≤ length old → PutsSlots old (spliced (spliced old 64 fresh_slot) 1112 closed_slot)
slots_put old enough =
    let p = puts_spliced 64 fresh_slot old (omega (arith, long_slot)) in
    let i1 = spliced old 64 fresh_slot in
    let q = puts_spliced 1112 closed_slot i1 (omega (arith, p.same.size, long_closed)) in
    let i2 = spliced i1 1112 closed_slot in
    record {
      a = part_same 64 1048 (record { start = 1112; len = length closed_slot } ∷ []) i1 i2 q.same (inl (omega arith), tt) (omega (arith, p.same.size)) ∙ stands 64 1048 fresh_slot old i1 long_slot p;
      b = stands 1112 1048 closed_slot i1 i2 long_closed q;
      same = record {
        size = q.same.size ∙ p.same.size;
        same = λ i clear. q.same.same i (elim clear.0 [ inl below ↦ inl (omega arith) | inr above ↦ inr (omega (arith, long_closed)) ], tt)
            ∙ p.same.same i (elim clear.0 [ inl below ↦ inl (omega arith) | inr above ↦ inr (omega (arith, long_slot)) ], tt);
      };
    }

-- what the slots say
fresh_gate : (image : List ℕ) → part 64 1048 image ≡ fresh_slot → gate A image ≡ 165
unfolding fresh_slot
fresh_gate image is = sym (get_or_part 64 1048 image 0 (omega arith)) ∙ ap (λ (l : List ℕ). get_or l 0 0) is

fresh_body : (image : List ℕ) → part 64 1048 image ≡ fresh_slot → body A image ≡ control_bytes (empty_control 1)
unfolding fresh_slot
fresh_body image is = sym (part_part 8 1040 64 1048 image (omega arith)) ∙ ap (part 8 1040) is ∙ take_all 1040 (control_bytes (empty_control 1)) (omega arith)

closed_gate : (image : List ℕ) → part 1112 1048 image ≡ closed_slot → gate B image ≡ 0
unfolding closed_slot
closed_gate image is = sym (get_or_part 1112 1048 image 0 (omega arith)) ∙ ap (λ (l : List ℕ). get_or l 0 0) is

empty_valid : (capacity : ℕ) → IsRow capacity empty_row
empty_valid capacity = record { settled = omega arith; logged = omega arith; limit = omega arith; kept = omega arith; fits = omega arith }

-- rows of zeros are those of a control
pub empty_rows : (l : Layout) → AreRows l (replicate 32 empty_row)
empty_rows l = record {
  size = refl;
  lanes = All-take (IsRow l.capacity) l.lanes (replicate 32 empty_row) (All-replicate (IsRow l.capacity) 32 empty_row (empty_valid l.capacity));
  rest = All-drop (λ r. r ≡ empty_row) l.lanes (replicate 32 empty_row) (All-replicate (λ r. r ≡ empty_row) 32 empty_row refl);
}

first_valid : (l : Layout) → IsControl l (empty_control 1)
first_valid l = record { sequence = (omega arith, omega arith); version = inr refl; rows = empty_rows l }

fields_put : (l : Layout) (schema : Declarations) (n : ℕ) (d : Device) → n ≤ l.fields → size_of l ≤ length d.now.bytes
    → PutsFields l schema n d.now.bytes (after (all_field_calls l schema n) d).now.bytes
fields_put l schema zero d within fits = none_put l schema d.now.bytes
fields_put l schema (suc f) d within fits =
    let mid = after (all_field_calls l schema f) d in
    let before = fields_put l schema f d (omega arith) fits in
    let row = guard_bytes (guard_row_of schema f) in
    let cell = to_be_bytes w64 (first_of schema f) in
    let p = puts_spliced (guard_at f) row mid.now.bytes (omega (arith, before.same.size)) in
    let q = puts_spliced (cell_at l f) cell (spliced mid.now.bytes (guard_at f) row) (omega (arith, before.same.size, p.same.size)) in
    let one = field_put l schema f mid.now.bytes (spliced mid.now.bytes (guard_at f) row) (after (field_calls l schema f) mid).now.bytes (omega arith) (omega (arith, before.same.size)) p q in
    let more = next_put l schema f d.now.bytes mid.now.bytes (after (field_calls l schema f) mid).now.bytes (omega arith) fits before one in
    let made = sym (after-append (all_field_calls l schema f) (field_calls l schema f) d) in
    subst (λ (e : Device). PutsFields l schema (suc f) d.now.bytes e.now.bytes) made
    (subst (λ (n : ℕ). PutsFields l schema n d.now.bytes (after (field_calls l schema f) mid).now.bytes) (add-one f) more)

module _ (l : Layout) (schema : Declarations) (is : IsLayoutOf schema l) (old i1 i2 i3 i4 : List ℕ) (enough : size_of l ≤ length old)
    (p : PutsName (header_bytes l) old i1) (q : PutsSlots i1 i2) (r : PutsFields l schema l.fields i2 i3) (t : Puts 8 (165 ∷ []) i3 i4) where
  sizes : length i4 ≡ length old
  sizes = t.same.size ∙ r.same.size ∙ q.same.size ∙ p.size

  -- what lies beside the header's gate stays
  beside : (at n : ℕ) → (at + n ≤ 8) ⊎ (9 ≤ at) → at + n ≤ 64 → part at n i4 ≡ part at n i1
  beside at n apart low =
      part_same at n (record { start = 8; len = 1 } ∷ []) i3 i4 t.same (elim apart [ inl below ↦ inl below | inr above ↦ inr above ], tt) (omega (arith, sizes, t.same.size))
      ∙ part_same at n (record { start = 2160; len = 24 * l.fields } ∷ []) i2 i3 r.same (inl (omega arith), tt) (omega (arith, sizes, t.same.size, r.same.size))
      ∙ part_same at n (record { start = 64; len = 2096 } ∷ []) i1 i2 q.same (inl low, tt) (omega (arith, p.size))

  header_there : part 0 64 i4 ≡ header_bytes l
  header_there =
      let gate = t.here in
      let tail = ap (take 55) (drop-drop 1 8 i4) ∙ beside 9 55 (inr (omega arith)) (omega arith) ∙ p.rest in
      take-add 8 56 (drop 0 i4)
      ∙ (λ i. (beside 0 8 (inl (omega arith)) (omega arith) ∙ p.front) i ++ (take-add 1 55 (drop 8 i4) ∙ (λ j. gate j ++ tail j)) i)

  -- what lies in the slots stays, once they are written
  slot_kept : (at n : ℕ) → 64 ≤ at → at + n ≤ 2160 → part at n i4 ≡ part at n i2
  slot_kept at n low high =
      part_same at n (record { start = 8; len = 1 } ∷ []) i3 i4 t.same (inr (omega arith), tt) (omega (arith, sizes, t.same.size))
      ∙ part_same at n (record { start = 2160; len = 24 * l.fields } ∷ []) i2 i3 r.same (inl high, tt) (omega (arith, sizes, t.same.size, r.same.size))

  control_there : Shows l i4 A (empty_control 1)
  control_there = record {
    room = omega (arith, sizes);
    is_open = fresh_gate i4 (slot_kept 64 1048 (omega arith) (omega arith) ∙ q.a);
    greater = λ opened. absurd (omega (arith, opened, closed_gate i4 (slot_kept 1112 1048 (omega arith) (omega arith) ∙ q.b)));
    spells = record { bytes = fresh_body i4 (slot_kept 64 1048 (omega arith) (omega arith) ∙ q.a); valid = first_valid l };
  }

  field_there : (f : ℕ) → f < l.fields → HasField schema l f i4
  field_there f below =
      let has = r.has f below in
      let limits = is.built.limits in
      let guard = limits.guards f (omega (arith, is.fields)) in
      let owner = limits.owners f (omega (arith, is.fields)) in
      let first = limits.firsts f (omega (arith, is.fields)) in
      record {
        row = record {
          spelled = part_same (guard_at f) 16 (record { start = 8; len = 1 } ∷ []) i3 i4 t.same (inr (omega arith), tt) (omega (arith, sizes, t.same.size)) ∙ has.row;
          objects = record { guard = omega (arith, guard, is.objects); owner = omega (arith, owner, is.objects) };
          fits = record { guard = omega (arith, guard, limits.objects); owner = omega (arith, owner, limits.objects); first = first };
        };
        cell = record {
          spelled = part_same (cell_at l f) 8 (record { start = 8; len = 1 } ∷ []) i3 i4 t.same (inr (omega arith), tt) (omega (arith, sizes, t.same.size)) ∙ has.cell;
          fits = first;
        };
      }

  fresh : IsFresh schema l i4
  fresh = record { header = record { room = omega (arith, sizes); spelled = header_there; limits = is.limits }; control = control_there; fields = field_there }

-- the calls that make an image make it
pub fresh_made : (l : Layout) (schema : Declarations) (d : Device) → IsLayoutOf schema l → size_of l ≤ length d.now.bytes → IsFresh schema l (after (format_calls l schema) d).now.bytes
fresh_made l schema d is enough =
    let d1 = after (name_calls l) d in
    let d2 = after slot_calls d1 in
    let d3 = after (all_field_calls l schema l.fields) d2 in
    let p = name_put (header_bytes l) d.now.bytes refl (omega arith) in
    let q = slots_put d1.now.bytes (omega (arith, p.size)) in
    let r = fields_put l schema l.fields d2 (omega arith) (omega (arith, p.size, q.same.size)) in
    let t = puts_spliced 8 (165 ∷ []) d3.now.bytes (omega (arith, p.size, q.same.size, r.same.size)) in
    subst (λ (e : Device). IsFresh schema l e.now.bytes) (sym (after-append (all_field_calls l schema l.fields) (Sync ∷ Write 8 (165 ∷ []) ∷ Sync ∷ []) d2))
    (fresh l schema is d.now.bytes d1.now.bytes d2.now.bytes d3.now.bytes (spliced d3.now.bytes 8 (165 ∷ [])) enough p q r t)
