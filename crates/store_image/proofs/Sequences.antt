-- How far a step carries the sequence of the control that counts.
use Rattle.std.proofs.Common.{◌≡◌, inl, inr, ⊎_elim, ℕ, ◌+◌, ◌<◌, ◌≤◌, ◌==◌, if◌then◌else◌, true, false, List, sym, subst, arith}
use Rattle.std.proofs.lemmas.Bool.Decides.{eqb_tells}
use Rattle.block_disk.specs.Device.{Range, Device}
use Rattle.block_disk.specs.Images.{Always, ImageBut, IsApart, LeavesOnly}
use Rattle.block_disk.proofs.Images.{image_now, survives, weaker}
use Rattle.image.specs.Commit.{IsSteady, OldOrNew, OldOrTurned, turned_sequence}
use Rattle.image_parts.specs.Slots.{other, gate, body, sequence_of}
use Rattle.image_parts.specs.declared.control.Control.{Control}
use Rattle.image_parts.specs.declared.layout.Layout.{Layout}
use Rattle.image_parts.specs.declared.slot.Slot.{Slot}
use Rattle.image_parts.proofs.SlotLemmas.{shows_survives}
use Rattle.store_image.specs.Sequences.{ShowsUpTo}

-- the sequence that stands behind the other slot's open gate is the smaller one, and else it is the next one
pub turned_up_to : (l : Layout) (d : Device) (s : Slot) (c : Control) → IsSteady l d s c → turned_sequence s c.sequence d.now.bytes ≤ c.sequence + 1
turned_up_to l d s c steady =
    let found : ℕ = sequence_of (body (other s) d.now.bytes) in
    let greater : gate (other s) d.now.bytes ≡ 165 → found < c.sequence = (steady.shows d.now.bytes (image_now d)).greater in
    elim (eqb_tells (gate (other s) d.now.bytes) 165) [
      | inl e ↦ subst (λ b. (if b then (if found == 0 then c.sequence + 1 else found) else c.sequence + 1) ≤ c.sequence + 1) (sym e.0)
          (let less : found < c.sequence = greater e.1 in
          elim (found == 0) as (λ b. (if b then c.sequence + 1 else found) ≤ c.sequence + 1) [
            | true ↦ omega arith
            | false ↦ omega (arith, less)
          ])
      | inr e ↦ subst (λ b. (if b then (if found == 0 then c.sequence + 1 else found) else c.sequence + 1) ≤ c.sequence + 1) (sym e.0) (omega arith)
    ]

-- a commit, at every moment, whatever it answers
module _ (l : Layout) (d e : Device) (s : Slot) (old new : Control) (last : ℕ) (was : old.sequence ≤ last) (is : new.sequence ≤ last) where
  pub new_up_to : LeavesOnly d e (OldOrNew l d s old new) → LeavesOnly d e (ShowsUpTo l last)
  new_up_to leaves = weaker d e (OldOrNew l d s old new) (ShowsUpTo l last)
      (λ image c. ⊎_elim
      (λ shows. record { slot = s; control = old; shows = shows; sequence = was })
      (λ shows. record { slot = other s; control = new; shows = shows; sequence = is }) c.shows) leaves

  pub turn_up_to : LeavesOnly d e (OldOrTurned l d s old new) → LeavesOnly d e (ShowsUpTo l last)
  turn_up_to leaves = weaker d e (OldOrTurned l d s old new) (ShowsUpTo l last)
      (λ image c. ⊎_elim
      (λ shows. record { slot = s; control = old; shows = shows; sequence = was })
      (λ shows. record { slot = other s; control = new; shows = shows.0; sequence = is }) c.shows) leaves

-- the control that counts
pub steady_up_to : (l : Layout) (d : Device) (s : Slot) (c : Control) (last : ℕ) → IsSteady l d s c → c.sequence ≤ last → Always d (ShowsUpTo l last)
steady_up_to l d s c last steady is image left = record { slot = s; control = c; shows = steady.shows image left; sequence = is }

-- calls that write outside of the slots leave it
pub stays_up_to : (l : Layout) (last : ℕ) (d e : Device) (rs : List Range) → IsApart 64 2096 rs → Always d (ShowsUpTo l last) → LeavesOnly d e (ImageBut d rs)
    → LeavesOnly d e (ShowsUpTo l last) × Always e (ShowsUpTo l last)
stays_up_to l last d e rs apart before leaves = survives d e rs (ShowsUpTo l last) before
    (λ xs ys h same. record { slot = h.slot; control = h.control; shows = shows_survives l h.slot h.control rs apart xs ys h.shows same; sequence = h.sequence }) leaves
