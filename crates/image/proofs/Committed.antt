-- A commit's promise as one record of its parts: what a crash leaves after it follows from what one leaves at each moment.
use Rattle.std.proofs.Common.{◌≡◌, ℕ, List, [], ◌∷◌, Result, OnOk, inl}
use Rattle.block_disk.specs.Device.{Device}
use Rattle.block_disk.specs.Images.{Always, LeavesOnly}
use Rattle.block_disk.specs.Since.{HasCauseSince}
use Rattle.block_disk.proofs.Images.{besides_none, now_too}
use Rattle.image_parts.specs.Calls.{Call, after}
use Rattle.image.specs.Commit.{IsSteady, OldOrDurable, OldOrTurned, slots_range}
use Rattle.image.specs.Commits.{Commits}
use Rattle.image_parts.specs.Slots.{other, slot_range}
use Rattle.image_parts.specs.declared.control.Control.{Control}
use Rattle.image_parts.specs.declared.error.ImageError.{ImageError}
use Rattle.image_parts.specs.declared.error.ImageError.TheVariants.{Fault}
use Rattle.image_parts.specs.declared.layout.Layout.{Layout}
use Rattle.image_parts.specs.declared.slot.Slot.{Slot}

-- before a commit each image shows the old control, and that is among what the commit may leave
abbrev pub Starts : (Layout → Device → Slot → Control → Control → List ℕ → Type 0) → Type 0
Starts Left = (l : Layout) (d : Device) (s : Slot) (c next : Control) → IsSteady l d s c → Always d (Left l d s c next)

pub durable_starts : Starts OldOrDurable
durable_starts l d s c next steady image left = record { from = besides_none d (slot_range (other s) ∷ []) image left; shows = inl (steady.shows image left) }

pub turned_starts : Starts OldOrTurned
turned_starts l d s c next steady image left = record { from = besides_none d (slots_range ∷ []) image left; shows = inl (steady.shows image left) }

-- the parts make the whole
pub commits : {T : Type 0} {l : Layout} {chosen : Slot} {Was : Control → Type 0} {next : Control} {calls : List Call}
    {Left : Layout → Device → Slot → Control → Control → List ℕ → Type 0} {old new : Device} {result : Result T ImageError}
    → Starts Left → OnOk result (IsSteady l new (other chosen) next) → OnOk result (new.now.pending ≡ []) → OnOk result (new ≡ after calls old)
    → ((c : Control) → IsSteady l old chosen c → Was c → LeavesOnly old new (Left l old chosen c next)) → HasCauseSince old new Fault result
    → Commits l chosen Was next calls Left old new result
commits {T} {l} {chosen} {Was} {next} {calls} {Left} {old} {new} {result} starts ok durable made leaves cause = record {
  ok = ok;
  durable = durable;
  calls = made;
  any_moment = leaves;
  crash = λ c steady was. now_too old new (Left l old chosen c next) (starts l old chosen c next steady) (leaves c steady was);
  cause = cause;
}
