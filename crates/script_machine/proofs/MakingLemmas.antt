-- While an image is made over zeros, no crash leaves another one: the header's gate is opened last, over what is durable by then.
use Rattle.std.proofs.Common.{◌≡◌, inl, inr, ⊎_elim, ℕ, zero, suc, ◌+◌, ◌<◌, ◌≤◌, List, [], ◌∷◌, length, get_or, take, drop, replicate, refl, sym, ◌∙◌, ap, subst, arith}
use Rattle.std.specs.Int.{to_be_bytes, w64}
use Rattle.std.proofs.lemmas.Bool.{cases_lt}
use Rattle.std.proofs.lemmas.List.{length-replicate}
use Rattle.block_disk.specs.Bytes.{spliced}
use Rattle.block_disk.specs.Device.{Device, IsOutside, LeftSince, SameOutside, range_of, synced, written}
use Rattle.block_disk.specs.Images.{Always, ImageBut, LeavesOnly, Survives}
use Rattle.block_disk.proofs.Bytes.{get_or_part, length_spliced, spliced_at}
use Rattle.block_disk.proofs.Images.{after_sync, always_now, always_only, and_then, begin, besides_only, leaves_synced, leaves_written, left_now, passes, survives, weaker}
use Rattle.block_disk.proofs.Ranges.{outside_none, spliced_same}
use Rattle.guards.specs.Schema.{Declarations, first_of}
use Rattle.image_parts.specs.Calls.{Sync, Write, after}
use Rattle.image_parts.specs.Format.{IsFresh, all_field_calls, closed_slot, field_calls, format_calls, fresh_slot, name_calls, slot_calls}
use Rattle.image_parts.specs.Guards.{HasGuards, guard_bytes, guard_row_of}
use Rattle.image_parts.specs.Header.{HasHeader, header_bytes}
use Rattle.image_parts.specs.Layout.{IsLayoutOf, cell_at, guard_at, size_of}
use Rattle.image_parts.specs.declared.guard_row.GuardRow.{GuardRow}
use Rattle.image_parts.specs.declared.layout.Layout.{Layout}
use Rattle.image_parts.proofs.CallLemmas.{after-append}
use Rattle.image_parts.proofs.Fresh.{fresh_made}
use Rattle.image_parts.proofs.GuardLemmas.{one_row_there}
use Rattle.image_parts.proofs.Reading.{one_layout}

-- so many bytes, and a zero at this place
record HasZero (n at : ℕ) (image : List ℕ) : Type 0 where
  size : length image ≡ n
  zero_there : get_or image at 0 ≡ 0

-- calls that leave only images which have P
record Leaves (P : List ℕ → Type 0) (old new : Device) : Type 0 where
  each : LeavesOnly old new P
  now : Always new P

nothing : (P : List ℕ → Type 0) (d : Device) → Always d P → Leaves P d d
nothing P d always = record { each = begin d P; now = always }

one_more : (P : List ℕ → Type 0) (old mid new : Device) → Leaves P old mid → Leaves P mid new → Leaves P old new
one_more P old mid new a b = record { each = and_then old mid new P a.each b.each; now = b.now }

sync : (P : List ℕ → Type 0) (old : Device) → Always old P → Leaves P old (synced old)
sync P old always = let both = after_sync old (synced old) P always (leaves_synced old (synced old) refl) in record { each = both.0; now = both.1 }

elsewhere : (n at start : ℕ) (bytes : List ℕ) → IsOutside at (range_of start bytes) → Survives (range_of start bytes ∷ []) (HasZero n at)
elsewhere n at start bytes out old new was same = record { size = same.size ∙ was.size; zero_there = same.same at (out, tt) ∙ was.zero_there }

-- bytes are written elsewhere
put : (n at start : ℕ) (bytes : List ℕ) (old : Device) → IsOutside at (range_of start bytes) → start + length bytes ≤ n → Always old (HasZero n at)
    → Leaves (HasZero n at) old (written start bytes old)
put n at start bytes old out fits always =
    let long = (always_now old (HasZero n at) always).size in
    let both = survives old (written start bytes old) (range_of start bytes ∷ []) (HasZero n at) always (elsewhere n at start bytes out)
    (leaves_written start bytes old (written start bytes old) (omega (arith, fits, long)) refl) in
    record { each = both.0; now = both.1 }

long_slot : length fresh_slot ≡ 1048
unfolding fresh_slot
long_slot = refl

long_closed : length closed_slot ≡ 1048
unfolding closed_slot
long_closed = length-replicate {A = ℕ} 1048 0

-- the gate stays closed while the rest is written
module _ (l : Layout) (schema : Declarations) (n : ℕ) (enough : size_of l ≤ n) where
  abbrev Closed : List ℕ → Type 0
  Closed = HasZero n 8

  name : (d : Device) → Always d Closed → Leaves Closed d (written 9 (drop 9 (header_bytes l)) (written 0 (take 8 (header_bytes l)) d))
  name d always =
      let front = put n 8 0 (take 8 (header_bytes l)) d (inr (omega arith)) (omega (arith, enough)) always in
      let mid = written 0 (take 8 (header_bytes l)) d in
      one_more Closed d mid (written 9 (drop 9 (header_bytes l)) mid) front (put n 8 9 (drop 9 (header_bytes l)) mid (inl (omega arith)) (omega (arith, enough)) front.now)

  slots : (d : Device) → Always d Closed → Leaves Closed d (after slot_calls d)
  slots d always =
      let a = put n 8 64 fresh_slot d (inl (omega arith)) (omega (arith, enough, long_slot)) always in
      let mid = written 64 fresh_slot d in
      one_more Closed d mid (written 1112 closed_slot mid) a (put n 8 1112 closed_slot mid (inl (omega arith)) (omega (arith, enough, long_closed)) a.now)

  field : (f : ℕ) (d : Device) → f < l.fields → Always d Closed → Leaves Closed d (after (field_calls l schema f) d)
  field f d below always =
      let row = guard_bytes (guard_row_of schema f) in
      let cell = to_be_bytes w64 (first_of schema f) in
      let a = put n 8 (guard_at f) row d (inl (omega arith)) (omega (arith, enough, below)) always in
      let mid = written (guard_at f) row d in
      one_more Closed d mid (written (cell_at l f) cell mid) a (put n 8 (cell_at l f) cell mid (inl (omega arith)) (omega (arith, enough, below)) a.now)

  fields : (k : ℕ) (d : Device) → k ≤ l.fields → Always d Closed → Leaves Closed d (after (all_field_calls l schema k) d)
  fields zero d within always = nothing Closed d always
  fields (suc f) d within always =
      let mid = after (all_field_calls l schema f) d in
      let before = fields f d (omega arith) always in
      subst (Leaves Closed d) (sym (after-append (all_field_calls l schema f) (field_calls l schema f) d))
      (one_more Closed d mid (after (field_calls l schema f) mid) before (field f mid (omega arith) before.now))

-- what can be read of the image: this layout and the schema's rows, or nothing
abbrev pub IsNoOther : Declarations → Layout → List ℕ → Type 0
IsNoOther schema l image = (m : Layout) (rows : List GuardRow) → HasHeader image m → HasGuards m image rows
    → (m ≡ l) × ((f : ℕ) (d : GuardRow) → f < l.fields → get_or rows f d ≡ guard_row_of schema f)

-- a header begins with its name, and its gate is open
named : (l : Layout) (image : List ℕ) → HasHeader image l → get_or image 0 0 ≡ 77
named l image has = sym (get_or_part 0 64 image 0 (omega arith)) ∙ ap (λ (b : List ℕ). get_or b 0 0) has.spelled

is_open : (l : Layout) (image : List ℕ) → HasHeader image l → get_or image 8 0 ≡ 165
is_open l image has = sym (get_or_part 0 64 image 8 (omega arith)) ∙ ap (λ (b : List ℕ). get_or b 8 0) has.spelled

blank_reads : (schema : Declarations) (l : Layout) (n : ℕ) (image : List ℕ) → HasZero n 0 image → IsNoOther schema l image
blank_reads schema l n image is m rows header guards = absurd (omega (arith, is.zero_there, named m image header))

closed_reads : (schema : Declarations) (l : Layout) (n : ℕ) (image : List ℕ) → HasZero n 8 image → IsNoOther schema l image
closed_reads schema l n image is m rows header guards = absurd (omega (arith, is.zero_there, is_open m image header))

fresh_reads : (schema : Declarations) (l : Layout) (image : List ℕ) → IsFresh schema l image → IsNoOther schema l image
fresh_reads schema l image fresh m rows header guards =
    let same : m ≡ l = one_layout m l header.limits fresh.header.limits (sym header.spelled ∙ fresh.header.spelled) in
    let rows_of_l : HasGuards l image rows = subst (λ (k : Layout). HasGuards k image rows) same guards in
    (same, λ f d below. one_row_there l f image (get_or rows f d) (guard_row_of schema f) (rows_of_l.each f d below) (fresh.fields f below).row)

-- two images that differ at the gate alone, where both are open
same_image : (old a b : List ℕ) → SameOutside (range_of 8 (165 ∷ []) ∷ []) old a → SameOutside (range_of 8 (165 ∷ []) ∷ []) old b → get_or b 8 0 ≡ get_or a 8 0 → b ≡ a
same_image old a b p q gate = outside_none a b (record {
  size = q.size ∙ sym p.size;
  same = λ i clear. elim (cases_lt i 8) as (λ _. get_or b i 0 ≡ get_or a i 0) [
    | inl below ↦ q.same i (inl below, tt) ∙ sym (p.same i (inl below, tt))
    | inr not_below ↦ elim (cases_lt 8 i) as (λ _. get_or b i 0 ≡ get_or a i 0) [
      | inl above ↦ q.same i (inr (omega arith), tt) ∙ sym (p.same i (inr (omega arith), tt))
      | inr not_above ↦ let here : 8 ≡ i = omega (arith, not_below, not_above) in subst (λ k. get_or b k 0 ≡ get_or a k 0) here gate
    ]
  ];
})

-- the gate is opened over a durable image
opening : (schema : Declarations) (l : Layout) (d : Device) → d.now.pending ≡ [] → 9 ≤ length d.now.bytes → IsFresh schema l (spliced d.now.bytes 8 (165 ∷ []))
    → Leaves (IsNoOther schema l) d (synced (written 8 (165 ∷ []) d))
opening schema l d durable enough fresh =
    let made = spliced d.now.bytes 8 (165 ∷ []) in
    let open_now = written 8 (165 ∷ []) d in
    let leaves = leaves_written 8 (165 ∷ []) d open_now enough refl in
    let reads : (image : List ℕ) → ImageBut d (range_of 8 (165 ∷ []) ∷ []) image → IsNoOther schema l image =
    λ image torn m rows header guards.
    let same : image ≡ made = same_image d.now.bytes made image (spliced_same d.now.bytes (165 ∷ []) 8 enough) (besides_only d (range_of 8 (165 ∷ []) ∷ []) image durable torn)
    (is_open m image header ∙ sym (is_open l made fresh.header)) in
    fresh_reads schema l made fresh m rows (subst (λ (b : List ℕ). HasHeader b m) same header) (subst (λ (b : List ℕ). HasGuards m b rows) same guards) in
    let each = weaker d open_now (ImageBut d (range_of 8 (165 ∷ []) ∷ [])) (IsNoOther schema l) reads leaves in
    let ends : Always (synced open_now) (IsNoOther schema l) = always_only (synced open_now) (IsNoOther schema l) refl (fresh_reads schema l made fresh) in
    record {
      each = and_then d open_now (synced open_now) (IsNoOther schema l) each (passes open_now (synced open_now) (IsNoOther schema l) refl refl ends);
      now = ends;
    }

-- zeros begin with one
pub zero_first : (size : ℕ) → (let zeros : List ℕ = replicate size 0 in get_or zeros 0 0 ≡ 0)
zero_first zero = refl
zero_first (suc n) = refl

-- so it is at each moment from the first on
module _ (l : Layout) (schema : Declarations) (is : IsLayoutOf schema l) (d : Device) (enough : size_of l ≤ length d.now.bytes)
    (durable : d.now.pending ≡ []) (front : get_or d.now.bytes 0 0 ≡ 0) where
  abbrev n : ℕ
  n = length d.now.bytes

  abbrev NoOther : List ℕ → Type 0
  NoOther = IsNoOther schema l

  blank : Always d (HasZero n 0)
  blank = always_only d (HasZero n 0) durable (record { size = refl; zero_there = front })

  abbrev gated : Device
  gated = synced (written 8 (0 ∷ []) d)

  at_first : Leaves (HasZero n 0) d gated
  at_first =
      let one = put n 0 8 (0 ∷ []) d (inl (omega arith)) (omega (arith, enough)) blank in
      one_more (HasZero n 0) d (written 8 (0 ∷ []) d) gated one (sync (HasZero n 0) (written 8 (0 ∷ []) d) one.now)

  closed : Always gated (HasZero n 8)
  closed = always_only gated (HasZero n 8) refl (record {
    size = length_spliced d.now.bytes (0 ∷ []) 8 (omega (arith, enough));
    zero_there = spliced_at d.now.bytes (0 ∷ []) 8 (omega (arith, enough)) 0 (omega arith);
  })

  abbrev filled : Device
  filled = after (all_field_calls l schema l.fields) (after slot_calls (after (name_calls l) d))

  until_open : Leaves (HasZero n 8) gated (synced filled)
  until_open =
      let Closed : List ℕ → Type 0 = HasZero n 8 in
      let a = name l schema n enough gated closed in
      let b = slots l schema n enough (after (name_calls l) d) a.now in
      let c = fields l schema n enough l.fields (after slot_calls (after (name_calls l) d)) (omega arith) b.now in
      one_more Closed gated filled (synced filled)
      (one_more Closed gated (after slot_calls (after (name_calls l) d)) filled (one_more Closed gated (after (name_calls l) d) (after slot_calls (after (name_calls l) d)) a b) c)
      (sync Closed filled c.now)

  made_is : after (format_calls l schema) d ≡ synced (written 8 (165 ∷ []) (synced filled))
  made_is = after-append (all_field_calls l schema l.fields) (Sync ∷ Write 8 (165 ∷ []) ∷ Sync ∷ []) (after slot_calls (after (name_calls l) d))

  pub while_made : LeavesOnly d (after (format_calls l schema) d) NoOther
  while_made =
      let fresh : IsFresh schema l (spliced (synced filled).now.bytes 8 (165 ∷ [])) = subst (λ (e : Device). IsFresh schema l e.now.bytes) made_is (fresh_made l schema d is enough) in
      let long = (always_now (synced filled) (HasZero n 8) until_open.now).size in
      let opened = opening schema l (synced filled) refl (omega (arith, long, enough)) fresh in
      subst (λ (e : Device). LeavesOnly d e NoOther) (sym made_is)
      (and_then d (synced filled) (synced (written 8 (165 ∷ []) (synced filled))) NoOther
      (and_then d gated (synced filled) NoOther
      (weaker d gated (HasZero n 0) NoOther (λ image. blank_reads schema l n image) at_first.each)
      (weaker gated (synced filled) (HasZero n 8) NoOther (λ image. closed_reads schema l n image) until_open.each))
      opened.each)

  pub before_made : (image : List ℕ) → d.past ≡ [] → LeftSince 0 d image → NoOther image
  before_made image none left =
      blank_reads schema l n image (blank image (left_now d image (subst (λ (t : ℕ). LeftSince t d image) (sym (ap length none)) left)))

  -- whatever a crash leaves, from the first moment on
  pub no_other : d.past ≡ [] → (image : List ℕ) → LeftSince 0 (after (format_calls l schema) d) image → NoOther image
  no_other none image left = ⊎_elim (before_made image none) (λ it. it) (while_made.each 0 image (omega arith) left)
