-- What an image has is what is read of it.
use Rattle.std.proofs.Common.{◌≡◌, inl, inr, ℕ, List, get_or, Ok, Err, refl, sym, ap, subst, ◌∙◌, arith}
use Rattle.std.specs.Int.{w32, w64, from_be_bytes}
use Rattle.std.proofs.lemmas.Bool.{cases_Bool}
use Rattle.std.proofs.lemmas.List.{ext_get_or}
use Rattle.std.proofs.lemmas.Nat.{from_be_bytes-to_be_bytes_4, from_be_bytes-to_be_bytes_8}
use Rattle.block_disk.specs.Bytes.{part}
use Rattle.block_disk.proofs.Bytes.{part_part}
use Rattle.image_parts.specs.Control.{control_bytes}
use Rattle.image_parts.specs.Header.{HasHeader, IsFormatted}
use Rattle.image_parts.specs.Laws.{HeadersDiffer, ControlsDiffer, HeaderIsRead, ControlIsChosen, GuardsAreRead, CellIsRead, HomeIsRead, FreshIsImage}
use Rattle.image_parts.specs.Layout.{size_of}
use Rattle.image_parts.specs.Slots.{Shows, body}
use Rattle.image_parts.specs.declared.control.Control.{Control}
use Rattle.image_parts.specs.declared.error.ControlError.TheVariants as control
use Rattle.image_parts.specs.declared.error.HeaderError.TheVariants as header
use Rattle.image_parts.specs.declared.layout.Layout.{Layout}
use Rattle.image_parts.specs.declared.slot.Slot.{Slot}
use Rattle.image_parts.specs.declared.slot.Slot.TheVariants.{A, B}
use Rattle.image_parts.specs.Guards.{HasGuard, no_row}
use Rattle.image_parts.proofs.SlotLemmas.{sequence_spelled}
use Rattle.image_parts.proofs.Controls.{same_control}
use Rattle.image_parts.proofs.GuardLemmas.{one_row_there}

-- a layout has one header
pub one_layout : HeadersDiffer
one_layout l m p q is =
    let a = sym (from_be_bytes-to_be_bytes_4 l.objects (omega (arith, p.objects))) ∙ ap (λ (b : List ℕ). from_be_bytes w32 (part 12 4 b)) is ∙ from_be_bytes-to_be_bytes_4 m.objects (omega (arith, q.objects)) in
    let b = sym (from_be_bytes-to_be_bytes_4 l.fields (omega (arith, p.fields))) ∙ ap (λ (b : List ℕ). from_be_bytes w32 (part 16 4 b)) is ∙ from_be_bytes-to_be_bytes_4 m.fields (omega (arith, q.fields)) in
    let d = sym (from_be_bytes-to_be_bytes_4 l.capacity (omega (arith, p.capacity))) ∙ ap (λ (b : List ℕ). from_be_bytes w32 (part 20 4 b)) is ∙ from_be_bytes-to_be_bytes_4 m.capacity (omega (arith, q.capacity)) in
    let e = ap (λ (b : List ℕ). get_or b 9 0) is in
    λ i. record { objects = a i; fields = b i; lanes = e i; capacity = d i }

pub one_control : ControlsDiffer
one_control l c d p q is = same_control l (control_bytes c) c d (record { bytes = refl; valid = p }) (record { bytes = is; valid = q })

formatted : (l : Layout) (image : List ℕ) → HasHeader image l → IsFormatted image
formatted l image has = record { room = has.room; name = sym (part_part 0 9 0 64 image (omega arith)) ∙ ap (part 0 9) has.spelled }

pub header_is_read : HeaderIsRead
header_is_read l image (Ok m) has fits reads =
    let is = one_layout m l reads.0.limits has.limits (sym reads.0.spelled ∙ has.spelled) in inl (λ i. Ok (is i))
header_is_read l image (Err header.Fault) has fits reads = inr refl
header_is_read l image (Err header.NotFormatted) has fits reads = absurd (reads (formatted l image has))
header_is_read l image (Err header.BadHeader) has fits reads = absurd (reads.1 l has)
header_is_read l image (Err header.TooSmall) has fits reads =
    let is = one_layout reads.0 l reads.1.limits has.limits (sym reads.1.spelled ∙ has.spelled) in
    absurd (omega (arith, reads.2, fits, ap size_of is))

-- the slot and the control that show
one_shows : (l : Layout) (image : List ℕ) (s t : Slot) (c d : Control) → Shows l image s c → Shows l image t d → (t ≡ s) × (d ≡ c)
one_shows l image A A c d p q = (refl, same_control l (body A image) d c q.spells p.spells)
one_shows l image B B c d p q = (refl, same_control l (body B image) d c q.spells p.spells)
one_shows l image A B c d p q =
    absurd (omega (arith, p.greater q.is_open, q.greater p.is_open, sequence_spelled l (body A image) c p.spells, sequence_spelled l (body B image) d q.spells))
one_shows l image B A c d p q =
    absurd (omega (arith, p.greater q.is_open, q.greater p.is_open, sequence_spelled l (body B image) c p.spells, sequence_spelled l (body A image) d q.spells))

pub control_is_chosen : ControlIsChosen
control_is_chosen l image s c (Ok found) shows chooses = let is = one_shows l image s found.0 c found.1 shows chooses in inl (λ i. Ok (is.0 i, is.1 i))
control_is_chosen l image s c (Err control.Fault) shows chooses = inr refl
control_is_chosen l image s c (Err control.NoControl) shows chooses = absurd (chooses s shows.is_open)
control_is_chosen l image s c (Err control.BadControl) shows chooses = absurd (chooses.1 s c shows)

pub guards_are_read : GuardsAreRead
guards_are_read l image rows others p q =
    ext_get_or no_row rows others (p.size ∙ sym q.size)
    (λ f below. one_row_there l f image (get_or rows f no_row) (get_or others f no_row) (p.each f no_row (omega (arith, p.size))) (q.each f no_row (omega (arith, p.size))))

pub cell_is_read : CellIsRead
cell_is_read l f image v w p q =
    sym (from_be_bytes-to_be_bytes_8 v p.fits) ∙ ap (from_be_bytes w64) (sym p.spelled ∙ q.spelled) ∙ from_be_bytes-to_be_bytes_8 w q.fits

pub home_is_read : HomeIsRead
home_is_read l row f image v w p q = elim (cases_Bool row.transient) [
  | inl is ↦ p.transient is ∙ sym (q.transient is)
  | inr not ↦ cell_is_read l f image v w (p.persistent not) (q.persistent not)
]

pub fresh_is_image : FreshIsImage
fresh_is_image schema l image rows fresh fits long each = record {
  room = fits;
  header = fresh.header;
  guards = record { size = long; each = λ f d below. subst (HasGuard l f image) (sym (each f d below)) (fresh.fields f below).row };
}
