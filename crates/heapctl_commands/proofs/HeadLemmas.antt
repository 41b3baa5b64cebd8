-- What a slot holds by itself, by what is chosen once the other one's gate is closed.
use Rattle.std.proofs.Common.{ℕ, ◌≡◌, ◌+◌, ◌≤◌, ◌∙◌, List, [], ◌∷◌, length, Result, Ok, Err, inl, inr, refl, sym, subst, arith}
use Rattle.block_disk.specs.Bytes.{spliced}
use Rattle.block_disk.specs.Device.{range_of}
use Rattle.block_disk.proofs.Bytes.{length_spliced, spliced_above, spliced_at, spliced_below}
use Rattle.block_disk.proofs.Ranges.{part_same, spliced_same}
use Rattle.image_parts.specs.Control.{Spells}
use Rattle.image_parts.specs.Slots.{Chooses, body, gate, other, slot_at}
use Rattle.image_parts.specs.declared.control.Control.{Control}
use Rattle.image_parts.specs.declared.error.ControlError.{ControlError}
use Rattle.image_parts.specs.declared.error.ControlError.TheVariants.{Fault, NoControl, BadControl}
use Rattle.image_parts.specs.declared.layout.Layout.{Layout}
use Rattle.image_parts.specs.declared.slot.Slot.{Slot}
use Rattle.image_parts.specs.declared.slot.Slot.TheVariants.{A, B}
use Rattle.heapctl_commands.specs.Heads.{HoldsAlone, alone_of}

abbrev shut_byte : List ℕ
shut_byte = 0 ∷ []

-- the other one's gate is closed
abbrev pub shut : List ℕ → Slot → List ℕ
shut head s = spliced head (slot_at (other s)) shut_byte

pub fits : (head : List ℕ) (s : Slot) → 2160 ≤ length head → slot_at (other s) + length shut_byte ≤ length head
fits head A room = omega (arith, room)
fits head B room = omega (arith, room)

closed : (head : List ℕ) (s : Slot) → 2160 ≤ length head → gate (other s) (shut head s) ≡ 0
closed head A room = spliced_at head shut_byte 1112 (fits head A room) 0 (omega arith)
closed head B room = spliced_at head shut_byte 64 (fits head B room) 0 (omega arith)

kept_gate : (head : List ℕ) (s : Slot) → 2160 ≤ length head → gate s (shut head s) ≡ gate s head
kept_gate head A room = spliced_below head shut_byte 1112 (fits head A room) 64 (omega arith)
kept_gate head B room = spliced_above head shut_byte 64 (fits head B room) 1112 (omega arith)

kept_body : (head : List ℕ) (s : Slot) → 2160 ≤ length head → body s (shut head s) ≡ body s head
kept_body head A room = part_same 72 1040 (range_of 1112 shut_byte ∷ []) head (shut head A) (spliced_same head shut_byte 1112 (fits head A room)) (inl (omega arith), tt) (omega (arith, room))
kept_body head B room = part_same 1120 1040 (range_of 64 shut_byte ∷ []) head (shut head B) (spliced_same head shut_byte 64 (fits head B room)) (inr (omega arith), tt) (omega (arith, room))

-- the one whose gate is open then
it_is : (head : List ℕ) (s t : Slot) → 2160 ≤ length head → gate t (shut head s) ≡ 165 → t ≡ s
it_is head A A room is = refl
it_is head B B room is = refl
it_is head A B room is = absurd (let none : 0 ≡ 165 = sym (closed head A room) ∙ is in omega (arith, none))
it_is head B A room is = absurd (let none : 0 ≡ 165 = sym (closed head B room) ∙ is in omega (arith, none))

pub holds_alone : (l : Layout) (head : List ℕ) (s : Slot) → 2160 ≤ length head → (r : Result (Slot × Control) ControlError) → Chooses l (shut head s) r → HoldsAlone l head s (alone_of r)
holds_alone l head s room (Ok found) shows =
    let same : found.0 ≡ s = it_is head s found.0 room shows.is_open in (
      sym (kept_gate head s room) ∙ subst (λ (t : Slot). gate t (shut head s) ≡ 165) same shows.is_open,
      subst (λ (b : List ℕ). Spells l b found.1) (kept_body head s room) (subst (λ (t : Slot). Spells l (body t (shut head s)) found.1) same shows.spells),
    )
holds_alone l head s room (Err Fault) chosen = tt
holds_alone l head s room (Err NoControl) chosen = λ is. chosen s (kept_gate head s room ∙ is)
holds_alone l head s room (Err BadControl) chosen =
    let same : chosen.0.0 ≡ s = it_is head s chosen.0.0 room chosen.0.1 in
    let there : gate s (shut head s) ≡ 165 = subst (λ (t : Slot). gate t (shut head s) ≡ 165) same chosen.0.1 in (
      sym (kept_gate head s room) ∙ there,
      (λ c spells. chosen.1 s c (record {
        room = omega (arith, room, length_spliced head shut_byte (slot_at (other s)) (fits head s room));
        is_open = there;
        greater = λ is. absurd (let none : 0 ≡ 165 = sym (closed head s room) ∙ is in omega (arith, none));
        spells = subst (λ (b : List ℕ). Spells l b c) (sym (kept_body head s room)) spells;
      })),
    )
