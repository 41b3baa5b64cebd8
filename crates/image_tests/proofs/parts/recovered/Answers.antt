use Rattle.std.proofs.Common.{◌≡◌, ℕ, ◌<◌, List, [], ◌∷◌, sym, ap, subst, ◌∙◌, inl, inr, arith, get_or}
use Rattle.std.proofs.lemmas.Bool.{cases_lt}
use Rattle.block_disk.specs.Device.{Moment}
use Rattle.block_disk.specs.Memory.{device_of}
use Rattle.guards.specs.Schema.{Declarations, first_of}
use Rattle.image_parts.specs.Cells.{HasCell, HasHome, HasHomes}
use Rattle.image_parts.specs.Control.{empty_control}
use Rattle.image_parts.specs.Format.{IsFresh}
use Rattle.image_parts.specs.Guards.{HasGuards, guard_row_of}
use Rattle.image_parts.specs.Image.{IsImageOf}
use Rattle.image_parts.specs.declared.guard_row.GuardRow.{GuardRow}
use Rattle.image_parts.proofs.GuardLemmas.{one_row_there}
use Rattle.image_parts.proofs.Reading.{cell_is_read}
use Rattle.image_parts.specs.Slots.{Shows}
use Rattle.image_parts.specs.declared.layout.Layout.{Layout}
use Rattle.image_parts.specs.declared.slot.Slot.TheVariants.{A}
use Rattle.image_tests.proofs.parts.recovered.Goals as goal

-- what is read of a fresh image is what its field has at home
home_is : (schema : Declarations) (l : Layout) (b : List ℕ) (rows : List GuardRow) (f v : ℕ) (d : GuardRow) → f < l.fields → IsFresh schema l b → HasGuards l b rows → HasCell l f b v
    → HasHome l (get_or rows f d) f b v
home_is schema l b rows f v d below fresh has cell =
    let row : get_or rows f d ≡ guard_row_of schema f = one_row_there l f b (get_or rows f d) (guard_row_of schema f) (has.each f d below) (fresh.fields f below).row in
    record {
      persistent = λ _. cell;
      transient = λ _. cell_is_read l f b v (first_of schema f) cell (fresh.fields f below).cell ∙ sym (ap (λ (r : GuardRow). r.first) row);
    }

two_homes : (l : Layout) (b : List ℕ) (rows : List GuardRow) (v w : ℕ) → l.fields ≡ 2 → ((f x : ℕ) (d : GuardRow) → f < l.fields → HasCell l f b x → HasHome l (get_or rows f d) f b x)
    → HasCell l 0 b v → HasCell l 1 b w → HasHomes l rows b (v ∷ w ∷ [])
two_homes l b rows v w two home p q = record {
  size = sym two;
  each = λ f d below. home f (get_or (v ∷ w ∷ []) f 0) d below (elim (cases_lt f 1) [
    | inl under ↦ let is : 0 ≡ f = omega arith in subst (λ (k : ℕ). HasCell l k b (get_or (v ∷ w ∷ []) k 0)) is p
    | inr from ↦ let is : 1 ≡ f = omega arith in subst (λ (k : ℕ). HasCell l k b (get_or (v ∷ w ∷ []) k 0)) is q
  ]);
}

pub of-requires : goal.of-requires
of-requires c =
    let l = c.in_ok-disk.layout in
    let m0 : Moment = (device_of c.in_ok-disk.disk).now in
    let one = c.in-Ok.ensures.same.now in
    let two = c.in-Ok-get_cell.ensures.same.now in
    let now : (device_of c.get_cell-2.new.disk).now ≡ m0 = c.in-Ok-get_cell-2.ensures.same.now ∙ two ∙ one in
    let first = subst (λ (m : Moment). HasCell l 0 m.bytes c.in-Ok-get_cell.first) one c.in-Ok-get_cell.ensures.ok in
    let second = subst (λ (m : Moment). HasCell l 1 m.bytes c.in-Ok-get_cell-2.second) (two ∙ one) c.in-Ok-get_cell-2.ensures.ok in
    let fresh = c.in_ok-disk.ensures.fresh in
    let homes = two_homes l m0.bytes c.in-Ok.guards.items c.in-Ok-get_cell.first c.in-Ok-get_cell-2.second c.if-layout-ne2.false
    (λ f x d below cell. home_is c.args.schema.now l m0.bytes c.in-Ok.guards.items f x d below fresh c.in-Ok.ensures.exact cell) first second in
    let here = subst (HasHomes l c.in-Ok.guards.items m0.bytes) (sym c.in_ok-heap.ensures) homes in
    let image : IsImageOf l c.in-Ok.guards.items m0.bytes = record { room = c.in_ok-disk.ensures.size; header = fresh.header; guards = c.in-Ok.ensures.exact } in
    record {
      image = subst (λ (m : Moment). IsImageOf l c.in-Ok.guards.items m.bytes) (sym now) image;
      control = subst (λ (m : Moment). Shows l m.bytes A (empty_control 1)) (sym now) fresh.control;
      homes = subst (λ (m : Moment). HasHomes l c.in-Ok.guards.items m.bytes c.in_ok-heap.heap.items) (sym now) here;
      durable = subst (λ (m : Moment). m.pending ≡ []) (sym now) c.in_ok-disk.ensures.durable;
    }
