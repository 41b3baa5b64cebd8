-- The end of a recovery: a sync, and a commit over a device on which nothing is pending.
use Rattle.std.proofs.Common.{◌≡◌, ℕ, ◌+◌, [], inl, inr, refl, sym, subst}
use Rattle.block_disk.specs.Device.{Device, synced}
use Rattle.block_disk.specs.Images.{Always, ImageBut, LeavesOnly}
use Rattle.block_disk.proofs.Images.{always_now, and_then, leaves_synced, weaker}
use Rattle.image.specs.Commit.{IsSteady, OldOrNew}
use Rattle.image_parts.specs.Control.{empty_control}
use Rattle.image_parts.specs.Slots.{Shows}
use Rattle.image_parts.specs.declared.control.Control.{Control}
use Rattle.image_parts.specs.declared.layout.Layout.{Layout}
use Rattle.image_parts.specs.declared.slot.Slot.{Slot}
use Rattle.image.proofs.Commits.{steady_now}
use Rattle.recover.specs.Ending.{IsEnding}

-- what every image shows is steady once all is durable
pub steady_synced : (l : Layout) (d mid : Device) (s : Slot) (c : Control) → mid ≡ synced d → Always d (λ image. Shows l image s c) → IsSteady l mid s c
steady_synced l d mid s c is shows =
    subst (λ (e : Device). IsSteady l e s c) (sym is) (steady_now l (synced d) s c refl (always_now d (λ image. Shows l image s c) shows))

-- the images that the end may leave
pub end_leaves : (l : Layout) (d mid new : Device) (s : Slot) (c : Control) (sequence : ℕ) → mid ≡ synced d → c.sequence ≡ sequence →
    LeavesOnly mid new (OldOrNew l mid s c (empty_control (sequence + 1))) → LeavesOnly d new (IsEnding l d s c)
end_leaves l d mid new s c sequence is same leaves =
    let made : LeavesOnly mid new (OldOrNew l (synced d) s c (empty_control (sequence + 1))) = subst (λ (e : Device). LeavesOnly mid new (OldOrNew l e s c (empty_control (sequence + 1)))) is leaves in
    let called : LeavesOnly mid new (OldOrNew l (synced d) s c (empty_control (c.sequence + 1))) = subst (λ (n : ℕ). LeavesOnly mid new (OldOrNew l (synced d) s c (empty_control (n + 1)))) (sym same) made in
    and_then d mid new (IsEnding l d s c) (weaker d mid (ImageBut d []) (IsEnding l d s c) (λ image from. inl from) (leaves_synced d mid is))
    (weaker mid new (OldOrNew l (synced d) s c (empty_control (c.sequence + 1))) (IsEnding l d s c) (λ image shown. inr shown) called)
