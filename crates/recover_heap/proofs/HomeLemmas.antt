-- Which fields' stores logs keep, by an image's guard rows.
use Rattle.std.proofs.Common.{ℕ, zero, suc, ◌≡◌, ◌<◌, ◌≤◌, if◌then◌else◌, Bool, true, false, List, [], ◌∷◌, length, Option, Some, None, refl, ap, arith}
use Rattle.heap_model.specs.declared.ids.ObjectId.{ObjectId}
use Rattle.heap_model.specs.declared.record.UndoRecord.{UndoRecord}
use Rattle.heap_model.specs.declared.record.UndoRecord.TheVariants.{Acq, Rel, WaitRel, Put}
use Rattle.image_parts.specs.Layout.{IsLayout}
use Rattle.image_parts.specs.declared.guard_row.GuardRow.{GuardRow}
use Rattle.image_parts.specs.declared.layout.Layout.{Layout}
use Rattle.recover_logs.specs.Limits.{IsBelow, IsOfObjects}
use Rattle.undo_log.specs.Area.{IsLoggable}
use Rattle.undo_log.specs.StandsFor.{guard_in, is_transient_in, row_in}
use Rattle.recover_heap.specs.Logs.{AreGuards, logged_guard_in}

one_guard : (b : Bool) (g o : ObjectId) → (let w : Option ObjectId = if b then None else Some g in w ≡ Some o) → (b ≡ false) × (g ≡ o)
one_guard true g o is = absurd cc
one_guard false g o is = (refl, cc)

logged_at : (guards : List GuardRow) (f : ℕ) (o : ObjectId) → logged_guard_in guards f ≡ Some o → (is_transient_in guards f ≡ false) × ((row_in guards f).guard ≡ o)
logged_at [] f o is = absurd cc
logged_at (row ∷ rest) zero o is = one_guard row.transient row.guard o is
logged_at (row ∷ rest) (suc f) o is = logged_at rest f o is

-- a field whose stores logs keep has its row's guard
pub logged_agrees : (guards : List GuardRow) (f : ℕ) (o : ObjectId) → logged_guard_in guards f ≡ Some o → guard_in guards f ≡ o.0
logged_agrees guards f o is = ap (λ (x : ObjectId). x.0) (logged_at guards f o is).1

-- and is persistent
pub logged_persistent : (guards : List GuardRow) (f : ℕ) (o : ObjectId) → logged_guard_in guards f ≡ Some o → is_transient_in guards f ≡ false
logged_persistent guards f o is = (logged_at guards f o is).0

-- logs keep the stores of each persistent field
if_not : (b : Bool) (g : ObjectId) → b ≡ false → (let w : Option ObjectId = if b then None else Some g in w ≡ Some g)
if_not true g is = absurd cc
if_not false g is = refl

pub persistent_logged : (guards : List GuardRow) (f : ℕ) → f < length guards → is_transient_in guards f ≡ false → logged_guard_in guards f ≡ Some (row_in guards f).guard
persistent_logged [] f below is = absurd (omega (arith, below))
persistent_logged (row ∷ rest) zero below is = if_not row.transient row.guard is
persistent_logged (row ∷ rest) (suc f) below is = persistent_logged rest f (omega (arith, below)) is

-- the guards of an image are objects of it
logged_low : (guards : List GuardRow) (objects f : ℕ) → guard_in guards f < objects → IsBelow (logged_guard_in guards f) objects
logged_low [] objects f low = tt
logged_low (row ∷ rest) objects zero low = elim row.transient as (λ b. IsBelow (if b then None else Some row.guard) objects) [ true ↦ tt | false ↦ low ]
logged_low (row ∷ rest) objects (suc f) low = logged_low rest objects f low

low_more : (w : Option ObjectId) (few many : ℕ) → few ≤ many → IsBelow w few → IsBelow w many
low_more None few many le low = tt
low_more (Some o) few many le low = omega (arith, low)

-- a live record of an image names objects below 4,096
pub named_low : (l : Layout) (guards : List GuardRow) (r : UndoRecord) → IsLayout l → AreGuards l guards → IsLoggable l r → IsOfObjects (logged_guard_in guards) 4096 r
named_low l guards (Acq o n) limits are h = h.range.0
named_low l guards (Rel o n) limits are h = h.range.0
named_low l guards (WaitRel o n) limits are h = h.range.0
named_low l guards (Put f v) limits are h = low_more (logged_guard_in guards f.0) l.objects 4096 (omega (arith, limits.objects)) (logged_low guards l.objects f.0 (are.each f.0 h.named))
