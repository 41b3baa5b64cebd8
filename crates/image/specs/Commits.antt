-- What a commit of a control promises, whichever way it takes (this project's own).
use Rattle.std.specs.Prelude.{◌≡◌, ℕ, ◌+◌, ◌<◌, ◌++◌, List, [], Result, OnOk, drop}
use Rattle.block_disk.specs.Bytes.{part}
use Rattle.block_disk.specs.Device.{Device}
use Rattle.block_disk.specs.Images.{Always, LeavesOnly}
use Rattle.block_disk.specs.Since.{HasCauseSince}
use Rattle.image_parts.specs.Calls.{Call, after}
use Rattle.image.specs.Commit.{IsSteady, OldOrDurable, OldOrNew, OldOrTurned, body_calls, commit_calls, pending_calls, turned_calls, turned_sequence, turning_calls}
use Rattle.image_parts.specs.Control.{Spells, control_bytes, control_of}
use Rattle.image_parts.specs.Slots.{body_at, other}
use Rattle.image_parts.specs.declared.control.Control.{Control}
use Rattle.image_parts.specs.declared.error.ImageError.{ImageError}
use Rattle.image_parts.specs.declared.error.ImageError.TheVariants.{Fault}
use Rattle.image_parts.specs.declared.lane_row.LaneRow.{LaneRow}
use Rattle.image_parts.specs.declared.layout.Layout.{Layout}
use Rattle.image_parts.specs.declared.slot.Slot.{Slot}

-- A commit of the control `next`. `chosen` is the slot that counts before it, `Was` is what is known of the control there,
-- `planned` are the calls of a success, and `Left` is what a crash may leave.
pub record Commits {T : Type 0} (l : Layout) (chosen : Slot) (Was : Control → Type 0) (next : Control) (planned : List Call)
    (Left : Layout → Device → Slot → Control → Control → List ℕ → Type 0) (old new : Device) (result : Result T ImageError) : Type 0 where
  -- After success each image shows the new control, in the slot that wasn't chosen.
  pub ok : OnOk result (IsSteady l new (other chosen) next)
  -- After success nothing that was written is pending.
  pub durable : OnOk result (new.now.pending ≡ [])
  -- After success the device has made exactly the planned calls, in this order.
  pub calls : OnOk result (new ≡ after planned old)
  -- At every moment of the call a crash leaves an image that shows the old control or the new one.
  pub any_moment : (c : Control) → IsSteady l old chosen c → Was c → LeavesOnly old new (Left l old chosen c next)
  -- After the call a crash leaves such an image too, whatever the answer is.
  pub crash : (c : Control) → IsSteady l old chosen c → Was c → Always new (Left l old chosen c next)
  -- `Fault` is answered only if the device has failed.
  pub cause : HasCauseSince old new Fault result

-- a control with this sequence
abbrev pub HasSequence : ℕ → Control → Type 0
HasSequence n c = c.sequence ≡ n

-- a control with a smaller one
abbrev pub IsBefore : ℕ → Control → Type 0
IsBefore n c = c.sequence < n

-- the other slot's gate closes, its body is written, and its gate opens, each made durable before the next
abbrev pub CommitsApart : {T : Type 0} → Layout → Slot → ℕ → List LaneRow → Device → Device → Result T ImageError → Type 0
CommitsApart l chosen n rows old new result =
    Commits l chosen (HasSequence n) (control_of (n + 1) rows) (commit_calls chosen old.now.bytes (control_bytes (control_of (n + 1) rows))) OldOrNew old new result

-- so for bytes that spell a control with a greater sequence
abbrev pub CommitsBytes : {T : Type 0} → Layout → Slot → List ℕ → Device → Device → Result T ImageError → Type 0
CommitsBytes l chosen bytes old new result =
    (next : Control) → Spells l bytes next → Commits l chosen (IsBefore next.sequence) next (commit_calls chosen old.now.bytes bytes) OldOrNew old new result

-- what was written becomes durable together with the other slot's closed gate
abbrev pub CommitsPending : {T : Type 0} → Layout → Slot → ℕ → List LaneRow → Device → Device → Result T ImageError → Type 0
CommitsPending l chosen n rows old new result =
    Commits l chosen (HasSequence n) (control_of (n + 1) rows) (pending_calls chosen old.now.bytes (control_bytes (control_of (n + 1) rows))) OldOrDurable old new result

-- the other slot's gate, which reads closed, opens over these bytes
abbrev pub CommitsByOpening : {T : Type 0} → Layout → Slot → List ℕ → Device → Device → Result T ImageError → Type 0
CommitsByOpening l chosen bytes old new result =
    (next : Control) → Spells l bytes next → Commits l chosen (IsBefore next.sequence) next (body_calls (other chosen) bytes) OldOrTurned old new result

-- the chosen slot's gate closes; the other slot keeps the sequence that stands there, and these bytes are the rest of its body
abbrev pub CommitsByClosing : {T : Type 0} → Layout → Slot → List ℕ → Device → Device → Result T ImageError → Type 0
CommitsByClosing l chosen rest old new result =
    (next : Control) → Spells l (part (body_at (other chosen)) 8 old.now.bytes ++ rest) next
    → Commits l chosen (λ c. Unit {0}) next (turning_calls chosen rest) OldOrTurned old new result

-- one gate turns, whichever two syncs suffice for
abbrev pub CommitsByTurning : {T : Type 0} → Layout → Slot → ℕ → List LaneRow → Device → Device → Result T ImageError → Type 0
CommitsByTurning l chosen n rows old new result =
    Commits l chosen (HasSequence n) (control_of (turned_sequence chosen n old.now.bytes) rows)
    (turned_calls chosen old.now.bytes (control_of (turned_sequence chosen n old.now.bytes) rows)) OldOrTurned old new result

-- the other slot's gate opens over a control with this sequence
abbrev pub OpensSpare : {T : Type 0} → Layout → Slot → ℕ → List LaneRow → Device → Device → Result T ImageError → Type 0
OpensSpare l chosen n rows old new result =
    Commits l chosen (IsBefore n) (control_of n rows) (body_calls (other chosen) (control_bytes (control_of n rows))) OldOrTurned old new result

-- the chosen slot's gate closes, and a control with the sequence that stands in the other one counts
abbrev pub ClosesChosen : {T : Type 0} → Layout → Slot → ℕ → List LaneRow → Device → Device → Result T ImageError → Type 0
ClosesChosen l chosen n rows old new result =
    Commits l chosen (λ c. Unit {0}) (control_of n rows) (turning_calls chosen (drop 8 (control_bytes (control_of n rows)))) OldOrTurned old new result

-- the other slot is rewritten, with three syncs
abbrev pub RewritesSpare : {T : Type 0} → Layout → Slot → ℕ → List LaneRow → Device → Device → Result T ImageError → Type 0
RewritesSpare l chosen n rows old new result =
    Commits l chosen (HasSequence n) (control_of (n + 1) rows) (pending_calls chosen old.now.bytes (control_bytes (control_of (n + 1) rows))) OldOrTurned old new result

-- the slot that counts shows a control that may be replaced
abbrev pub IsReady : Layout → Device → Slot → (Control → Type 0) → Type 0
IsReady l d chosen Was = (c : Control) × IsSteady l d chosen c × Was c

-- the same, beside bytes that spell a control with a greater sequence
abbrev pub IsReadyFor : Layout → Device → Slot → List ℕ → Type 0
IsReadyFor l d chosen bytes = (old : Control) × (next : Control) × IsSteady l d chosen old × Spells l bytes next × (old.sequence < next.sequence)
