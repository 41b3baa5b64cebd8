-- A commit that turns whichever gate two syncs suffice for: what it makes by what the other slot begins with.
use Rattle.std.proofs.Common.{◌≡◌, inl, inr, ⊎_elim, ℕ, ◌+◌, ◌<◌, ◌≤◌, ◌^◌, ◌==◌, if◌then◌else◌, Bool, true, false, cond, List, [], ◌∷◌, ◌++◌, drop, Result, OnOk, IfOk, refl, sym, ◌∙◌, ap, subst, arith}
use Rattle.std.specs.Int.{w64, to_be_bytes}
use Rattle.std.proofs.lemmas.Bool.{eq-eqb, ne_eqb}
use Rattle.block_disk.specs.Bytes.{part}
use Rattle.block_disk.specs.Device.{Device, SameOutside}
use Rattle.block_disk.specs.Images.{LeavesOnly}
use Rattle.block_disk.proofs.Images.{weaker}
use Rattle.block_disk.proofs.Ranges.{outside_wider}
use Rattle.image_parts.specs.Calls.{Call, after}
use Rattle.image_parts.specs.Choice.{HeadOf}
use Rattle.image.specs.Commit.{IsSteady, OldOrDurable, OldOrTurned, body_calls, pending_calls, slots_range, turned_calls, turned_sequence, turning_calls}
use Rattle.image_parts.specs.Control.{AreRows, Spells, control_bytes, control_of}
use Rattle.image_parts.specs.Slots.{other, slot_range, body_at, gate, body, sequence_of}
use Rattle.image_parts.specs.declared.choice.Head.{Head}
use Rattle.image_parts.specs.declared.control.Control.{Control}
use Rattle.image_parts.specs.declared.error.ImageError.{ImageError}
use Rattle.image_parts.specs.declared.lane_row.LaneRow.{LaneRow}
use Rattle.image_parts.specs.declared.layout.Layout.{Layout}
use Rattle.image_parts.specs.declared.slot.Slot.{Slot}
use Rattle.image.proofs.Turning.{high, low}

-- the three cases
pick_shut : {A : Type 0} (x m : ℕ) (a b c : A) → (x ≡ 165 → ⊥) → (if x == 165 then (if m == 0 then a else b) else c) ≡ c
pick_shut x m a b c not = ap (λ (t : Bool). cond t (if m == 0 then a else b) c) (ne_eqb _ _ not)

pick_none : {A : Type 0} (x m : ℕ) (a b c : A) → x ≡ 165 → m ≡ 0 → (if x == 165 then (if m == 0 then a else b) else c) ≡ a
pick_none x m a b c is none = ap (λ (t : Bool). cond t (if m == 0 then a else b) c) (eq-eqb _ _ is) ∙ ap (λ (t : Bool). cond t a b) (eq-eqb _ _ none)

pick_some : {A : Type 0} (x m : ℕ) (a b c : A) → x ≡ 165 → (m ≡ 0 → ⊥) → (if x == 165 then (if m == 0 then a else b) else c) ≡ b
pick_some x m a b c is some = ap (λ (t : Bool). cond t (if m == 0 then a else b) c) (eq-eqb _ _ is) ∙ ap (λ (t : Bool). cond t a b) (ne_eqb _ _ some)

module _ (s : Slot) (n : ℕ) (image : List ℕ) (next : Control) where
  next_shut : (gate (other s) image ≡ 165 → ⊥) → turned_sequence s n image ≡ n + 1
  next_shut not = pick_shut (gate (other s) image) (sequence_of (body (other s) image)) (n + 1) (sequence_of (body (other s) image)) (n + 1) not

  next_none : gate (other s) image ≡ 165 → sequence_of (body (other s) image) ≡ 0 → turned_sequence s n image ≡ n + 1
  next_none is none = pick_none (gate (other s) image) (sequence_of (body (other s) image)) (n + 1) (sequence_of (body (other s) image)) (n + 1) is none

  next_some : gate (other s) image ≡ 165 → (sequence_of (body (other s) image) ≡ 0 → ⊥) → turned_sequence s n image ≡ sequence_of (body (other s) image)
  next_some is some = pick_some (gate (other s) image) (sequence_of (body (other s) image)) (n + 1) (sequence_of (body (other s) image)) (n + 1) is some

  abbrev to_open : List Call
  to_open = body_calls (other s) (control_bytes next)

  abbrev to_close : List Call
  to_close = turning_calls s (drop 8 (control_bytes next))

  abbrev to_rewrite : List Call
  to_rewrite = pending_calls s image (control_bytes next)

  calls_shut : (gate (other s) image ≡ 165 → ⊥) → turned_calls s image next ≡ body_calls (other s) (control_bytes next)
  calls_shut not = pick_shut (gate (other s) image) (sequence_of (body (other s) image)) to_rewrite to_close to_open not

  calls_none : gate (other s) image ≡ 165 → sequence_of (body (other s) image) ≡ 0 → turned_calls s image next ≡ pending_calls s image (control_bytes next)
  calls_none is none = pick_none (gate (other s) image) (sequence_of (body (other s) image)) to_rewrite to_close to_open is none

  calls_some : gate (other s) image ≡ 165 → (sequence_of (body (other s) image) ≡ 0 → ⊥) → turned_calls s image next ≡ turning_calls s (drop 8 (control_bytes next))
  calls_some is some = pick_some (gate (other s) image) (sequence_of (body (other s) image)) to_rewrite to_close to_open is some

-- what the other slot begins with, as it was read
pub record Found (d d1 : Device) (s : Slot) (h : Head) : Type 0 where
  pub untouched : d1 ≡ d
  pub head : HeadOf d.now.bytes (other s) h

pub spare_found : (d d1 : Device) (s t : Slot) (h : Head) → t ≡ other s → d1 ≡ d → HeadOf d.now.bytes t h → Found d d1 s h
spare_found d d1 s t h is untouched head = record { untouched = untouched; head = subst (λ (u : Slot). HeadOf d.now.bytes u h) is head }

-- what is known of the device before is known of it after
pub steady_found : (l : Layout) (d d1 : Device) (s : Slot) (h : Head) (c : Control) → Found d d1 s h → IsSteady l d s c → IsSteady l d1 s c
steady_found l d d1 s h c f steady = subst (λ (e : Device). IsSteady l e s c) (sym f.untouched) steady

pub found_open : (d d1 : Device) (s : Slot) (h : Head) → Found d d1 s h → h.is_open ≡ true → gate (other s) d1.now.bytes ≡ 165
found_open d d1 s h f is = subst (λ (e : Device). gate (other s) e.now.bytes ≡ 165) (sym f.untouched) (f.head.is_open.0 is)

shut_before : (d d1 : Device) (s : Slot) (h : Head) → Found d d1 s h → h.is_open ≡ false → gate (other s) d.now.bytes ≡ 165 → ⊥
shut_before d d1 s h f shut is =
    let yes : h.is_open ≡ true = f.head.is_open.1 is in
    let no : false ≡ true = sym shut ∙ yes in
    cc

pub found_shut : (d d1 : Device) (s : Slot) (h : Head) → Found d d1 s h → h.is_open ≡ false → gate (other s) d1.now.bytes ≡ 165 → ⊥
found_shut d d1 s h f shut is = shut_before d d1 s h f shut (subst (λ (e : Device). gate (other s) e.now.bytes ≡ 165) f.untouched is)

pub found_stands : (d d1 : Device) (s : Slot) (h : Head) → Found d d1 s h → to_be_bytes w64 h.sequence ≡ part (body_at (other s)) 8 d1.now.bytes
found_stands d d1 s h f = f.head.spelled ∙ ap (λ (e : Device). part (body_at (other s)) 8 e.now.bytes) (sym f.untouched)

-- A call over the device as it was read makes, of the control with the sequence that was found, what the commit makes.
module _ (l : Layout) (d d1 d2 : Device) (s : Slot) (n : ℕ) (rows : List LaneRow) (h : Head) (f : Found d d1 s h) (r : Result (Slot × ℕ) ImageError) where
  abbrev turned : ℕ
  turned = turned_sequence s n d.now.bytes

  -- it answers the other slot, and this sequence
  abbrev Made : ℕ → Type 0
  Made next = IfOk r (λ made. (made.0 ≡ other s) × (made.1 ≡ next))

  abbrev Steady : ℕ → Type 0
  Steady next = OnOk r (IsSteady l d2 (other s) (control_of next rows))

  leaves : (next : ℕ) (old : Control) → turned ≡ next → LeavesOnly d1 d2 (OldOrTurned l d1 s old (control_of next rows)) → LeavesOnly d d2 (OldOrTurned l d s old (control_of turned rows))
  leaves next old is were =
      subst (λ (k : ℕ). LeavesOnly d d2 (OldOrTurned l d s old (control_of k rows))) (sym is)
      (subst (λ (e : Device). LeavesOnly e d2 (OldOrTurned l e s old (control_of next rows))) f.untouched were)

  made_calls : (next : ℕ) (calls : List ℕ → List Call) → turned ≡ next → turned_calls s d.now.bytes (control_of next rows) ≡ calls d.now.bytes
      → OnOk r (d2 ≡ after (calls d1.now.bytes) d1) → OnOk r (d2 ≡ after (turned_calls s d.now.bytes (control_of turned rows)) d)
  made_calls next calls is are ok =
      subst (λ (k : ℕ). OnOk r (d2 ≡ after (turned_calls s d.now.bytes (control_of k rows)) d)) (sym is)
      (subst (λ (cs : List Call). OnOk r (d2 ≡ after cs d)) (sym are) (subst (λ (e : Device). OnOk r (d2 ≡ after (calls e.now.bytes) e)) f.untouched ok))

  -- the other slot is shut
  module _ (shut : h.is_open ≡ false) where
    to_next : turned ≡ n + 1
    to_next = next_shut s n d.now.bytes (control_of 0 rows) (shut_before d d1 s h f shut)

    pub opens_made : Made (n + 1) → Made turned
    opens_made made = subst Made (sym to_next) made

    pub opens_steady : Steady (n + 1) → Steady turned
    opens_steady ok = subst Steady (sym to_next) ok

    pub opens_calls : OnOk r (d2 ≡ after (body_calls (other s) (control_bytes (control_of (n + 1) rows))) d1) → OnOk r (d2 ≡ after (turned_calls s d.now.bytes (control_of turned rows)) d)
    opens_calls ok = made_calls (n + 1) (λ image. body_calls (other s) (control_bytes (control_of (n + 1) rows))) to_next
        (calls_shut s n d.now.bytes (control_of (n + 1) rows) (shut_before d d1 s h f shut)) ok

    pub opens_leaves : (old : Control) → LeavesOnly d1 d2 (OldOrTurned l d1 s old (control_of (n + 1) rows)) → LeavesOnly d d2 (OldOrTurned l d s old (control_of turned rows))
    opens_leaves old were = leaves (n + 1) old to_next were

  module _ (open_there : h.is_open ≡ true) where
    is : gate (other s) d.now.bytes ≡ 165
    is = f.head.is_open.0 open_there

    -- it is open, with a sequence of 1 or more
    module _ (positive : 0 < h.sequence) where
      some : sequence_of (body (other s) d.now.bytes) ≡ 0 → ⊥
      some zero = omega (arith, f.head.sequence, zero, positive)

      to_same : turned ≡ h.sequence
      to_same = next_some s n d.now.bytes (control_of 0 rows) is some ∙ sym f.head.sequence

      pub closes_made : Made h.sequence → Made turned
      closes_made made = subst Made (sym to_same) made

      pub closes_steady : Steady h.sequence → Steady turned
      closes_steady ok = subst Steady (sym to_same) ok

      pub closes_calls : OnOk r (d2 ≡ after (turning_calls s (drop 8 (control_bytes (control_of h.sequence rows)))) d1) → OnOk r (d2 ≡ after (turned_calls s d.now.bytes (control_of turned rows)) d)
      closes_calls ok = made_calls h.sequence (λ image. turning_calls s (drop 8 (control_bytes (control_of h.sequence rows)))) to_same
          (calls_some s n d.now.bytes (control_of h.sequence rows) is some) ok

      pub closes_leaves : (old : Control) → LeavesOnly d1 d2 (OldOrTurned l d1 s old (control_of h.sequence rows)) → LeavesOnly d d2 (OldOrTurned l d s old (control_of turned rows))
      closes_leaves old were = leaves h.sequence old to_same were

    -- it is open, with sequence 0
    module _ (zero : h.sequence ≤ 0) where
      none : sequence_of (body (other s) d.now.bytes) ≡ 0
      none = omega (arith, f.head.sequence, zero)

      to_more : turned ≡ n + 1
      to_more = next_none s n d.now.bytes (control_of 0 rows) is none

      pub rewrites_made : Made (n + 1) → Made turned
      rewrites_made made = subst Made (sym to_more) made

      pub rewrites_steady : Steady (n + 1) → Steady turned
      rewrites_steady ok = subst Steady (sym to_more) ok

      pub rewrites_calls : OnOk r (d2 ≡ after (pending_calls s d1.now.bytes (control_bytes (control_of (n + 1) rows))) d1) → OnOk r (d2 ≡ after (turned_calls s d.now.bytes (control_of turned rows)) d)
      rewrites_calls ok = made_calls (n + 1) (λ image. pending_calls s image (control_bytes (control_of (n + 1) rows))) to_more
          (calls_none s n d.now.bytes (control_of (n + 1) rows) is none) ok

      pub rewrites_leaves : (old : Control) → LeavesOnly d1 d2 (OldOrTurned l d1 s old (control_of (n + 1) rows)) → LeavesOnly d d2 (OldOrTurned l d s old (control_of turned rows))
      rewrites_leaves old were = leaves (n + 1) old to_more were

-- the bytes of a control spell it
pub content_spells : (l : Layout) (rows : List LaneRow) (n : ℕ) (content : List ℕ) → 0 < n → n < 2 ^ 64 → AreRows l rows → content ≡ control_bytes (control_of n rows) → Spells l content (control_of n rows)
content_spells l rows n content some fits are is = record { bytes = is; valid = record { sequence = (omega (arith, some), fits); version = inr refl; rows = are } }

-- bytes behind the sequence that stands there spell the control with that sequence
pub closing_spells : (l : Layout) (rows : List LaneRow) (n : ℕ) (content eight rest : List ℕ) → 0 < n → n < 2 ^ 64 → AreRows l rows → content ≡ control_bytes (control_of n rows) → rest ≡ drop 8 content
    → to_be_bytes w64 n ≡ eight → Spells l (eight ++ rest) (control_of n rows)
closing_spells l rows n content eight rest some fits are is rest_is told =
    let behind : rest ≡ drop 8 (control_bytes (control_of n rows)) = rest_is ∙ ap (drop 8) is in
    record {
      bytes = λ i. sym told i ++ behind i;
      valid = record { sequence = (omega (arith, some), fits); version = inr refl; rows = are };
    }

-- what a commit with three syncs leaves, a commit by one gate may leave
pub durable_turns : (l : Layout) (d e : Device) (s : Slot) (old new : Control) → LeavesOnly d e (OldOrDurable l d s old new) → LeavesOnly d e (OldOrTurned l d s old new)
durable_turns l d e s old new leaves =
    let wide : (xs ys : List ℕ) → SameOutside (slot_range (other s) ∷ []) xs ys → SameOutside (slots_range ∷ []) xs ys =
    λ xs ys same. outside_wider (slot_range (other s)) slots_range xs ys (low (other s)) (omega (arith, high (other s))) same in
    weaker d e (OldOrDurable l d s old new) (OldOrTurned l d s old new)
    (λ image o. record {
      from = (o.from.0, o.from.1, wide o.from.0 image o.from.2);
      shows = ⊎_elim (λ was. inl was) (λ now. inr (now.0, wide d.now.bytes image now.1)) o.shows;
    })
    leaves
