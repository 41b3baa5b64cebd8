-- What each step of a store promises: one record a step, of every past that it may be taken in (this project's own). `c` is the control that counts
-- before the call and `x` the device, `c'` and `y` are those after it. A new image is one that a crash during the call may leave, and that a crash
-- before it couldn't have left.
use Rattle.std.specs.Prelude.{◌≡◌, ◌≢◌, ◌+◌, ◌-◌, ◌≤◌, ◌^◌, ◌↔◌, ◌⊎◌, ℕ, List, [], ◌∷◌, Result, Ok, OnOk, OnErr, IfOk, IfErr, IsErrOf, length}
use Rattle.block_disk.specs.Device.{Device, Range}
use Rattle.block_disk.specs.Images.{Always, LeavesOnly}
use Rattle.block_disk.specs.Since.{HasCauseSince, LeavesBut, ReadsSameBut}
use Rattle.heap_model.specs.Cuts.{counts_of}
use Rattle.heap_model.specs.Setting.{Setting}
use Rattle.heap_model.specs.declared.cut.Cut.{Cut}
use Rattle.heap_model.specs.declared.record.UndoRecord.{UndoRecord}
use Rattle.image.specs.Commit.{IsSteady, OldOrNew, OldOrTurned, slots_range, turned_sequence}
use Rattle.image_parts.specs.Control.{control_of}
use Rattle.image_parts.specs.Cells.{cell_range}
use Rattle.image_parts.specs.Slots.{other, slot_range}
use Rattle.image_parts.specs.declared.control.Control.{Control}
use Rattle.image_parts.specs.declared.lane_row.LaneRow.{LaneRow}
use Rattle.image_parts.specs.declared.layout.Layout.{Layout}
use Rattle.store_image.specs.Consistent.{IsConsistent, ShowsEither, ShowsPast}
use Rattle.store_image.specs.KeptHeap.{StandsForCut, StandsForEither}
use Rattle.store_image.specs.Sequences.{ShowsUpTo}
use Rattle.store_image.specs.Steps.{MayGoHome, MayLog, MaySettle, step_ranges}
use Rattle.store_image.specs.declared.committed.Committed.{Committed}
use Rattle.heap_model.specs.Past.{Past, after_home, after_log, after_settle, after_trim}
use Rattle.heap_model.specs.declared.store_error.StoreError.{StoreError}
use Rattle.heap_model.specs.declared.store_error.StoreError.TheVariants.{Fault, Worn}

-- the control that counts
abbrev pub control_in : Committed → Control
control_in c = control_of c.sequence c.rows

-- each image of the device shows it
abbrev pub IsSteadyAt : Layout → Device → Committed → Type 0
IsSteadyAt l d c = IsSteady l d c.slot (control_in c)

-- what counts after a commit of these rows: the next sequence, in the other slot
abbrev pub committed_next : Committed → List LaneRow → Committed
committed_next c rows = record { slot = other c.slot; sequence = c.sequence + 1; rows = rows }

-- what counts after a commit of them by one gate, over this device
abbrev pub committed_turned : Committed → Device → List LaneRow → Committed
committed_turned c d rows = record { slot = other c.slot; sequence = turned_sequence c.slot c.sequence d.now.bytes; rows = rows }

-- What each call that commits a control promises, whatever past the store has.
pub record TakesOneSequence {T : Type 0} (l : Layout) (c : Committed) (d : Device) (c' : Committed) (d' : Device) (result : Result T StoreError) : Type 0 where
  -- After a refusal the same control counts.
  pub err : OnErr result (c' ≡ c)
  -- The call takes one sequence at most.
  pub sequence : c'.sequence ≤ c.sequence + 1
  -- Each new image shows a control of at most the next sequence.
  pub any_sequence : LeavesOnly d d' (ShowsUpTo l (c.sequence + 1))
  -- The call writes only the slots of the control, home cells and the lanes' areas.
  pub within : LeavesBut (step_ranges l) d d'
  -- The call answers `Fault` only if a call of the device has failed since it began.
  pub cause : HasCauseSince d d' Fault result

-- A commit of a control: `next` is what counts after it, `Left` what each new image shows, and `written` what may read otherwise afterwards.
pub record CommitsRows {T : Type 0} (l : Layout) (c next : Committed) (written : List Range) (Left : List ℕ → Type 0) (d : Device) (c' : Committed) (d' : Device)
    (result : Result T StoreError) : Type 0 where
  -- After a success the new control counts.
  pub ok : OnOk result (c' ≡ next)
  -- After a success each image of the device shows the new control.
  pub steady : OnOk result (IsSteadyAt l d' next)
  -- After a success the device reads as before, but for the bytes in `written`.
  pub same : OnOk result (ReadsSameBut written d d')
  -- `Fault` is the one refusal.
  pub only_fault : IfErr result (λ e. e ≡ Fault)
  -- Each new image shows the old control or the new one.
  pub any_moment : LeavesOnly d d' Left
  -- The call takes one sequence at most.
  pub takes : TakesOneSequence l c d c' d' result

-- `commit`: the next sequence counts, in the other slot.
abbrev pub CommitsNext : {T : Type 0} → Layout → Committed → List LaneRow → Device → Committed → Device → Result T StoreError → Type 0
CommitsNext l c rows d c' d' result =
    CommitsRows l c (committed_next c rows) (slot_range (other c.slot) ∷ []) (OldOrNew l d c.slot (control_in c) (control_in (committed_next c rows))) d c' d' result

-- `commit_written`: one gate is turned, and a new image that shows the new control has all that was written before.
abbrev pub CommitsTurned : {T : Type 0} → Layout → Committed → List LaneRow → Device → Committed → Device → Result T StoreError → Type 0
CommitsTurned l c rows d c' d' result =
    CommitsRows l c (committed_turned c d rows) (slots_range ∷ []) (OldOrTurned l d c.slot (control_in c) (control_in (committed_turned c d rows))) d c' d' result

-- What a step has in common with all others: it is refused as worn, or after a fault.
pub record TakesStep {D T : Type 0} (device : D → Device) (l : Layout) (c : Committed) (x : D) (c' : Committed) (y : D) (result : Result T StoreError) : Type 0 where
  -- `Worn` is answered before the device is called.
  pub no_call : IsErrOf result Worn → y ≡ x
  -- There is no other refusal than `Worn` and `Fault`.
  pub no_other : IfErr result (λ e. (e ≡ Worn) ⊎ (e ≡ Fault))
  -- The step takes one sequence at most.
  pub takes : TakesOneSequence l c (device x) c' (device y) result

-- `log_records`: the lanes' new records become durable, and count.
pub record LogsRecords {D : Type 0} (device : D → Device) (l : Layout) (fresh : ℕ → List UndoRecord) (c : Committed) (x : D) (c' : Committed) (y : D)
    (result : Result ℕ StoreError) : Type 0 where
  -- It is a step.
  pub step : TakesStep device l c x c' y result
  -- After a success the device agrees with the past whose records are all logged.
  pub ok : (s : Setting) (p : Past) → MayLog l s p c (device x) fresh → OnOk result (IsConsistent l s (after_log p) c' (device y))
  -- The answer is how many new records there were.
  pub count : (s : Setting) (p : Past) → MayLog l s p c (device x) fresh → IfOk result (λ count. count ≡ length p.fresh)
  -- Where there are none, nothing is done.
  pub none : (s : Setting) (p : Past) → MayLog l s p c (device x) fresh → p.fresh ≡ [] → (result ≡ Ok 0) × (c' ≡ c) × (device y ≡ device x)
  -- `Worn` is answered exactly where there are some and the sequence is at its last value.
  pub worn : (s : Setting) (p : Past) → MayLog l s p c (device x) fresh → IsErrOf result Worn ↔ ((c.sequence ≡ 2 ^ 64 - 1) × (p.fresh ≢ []))
  -- Each new image stands for the heap of the acknowledged cut.
  pub any_moment : (s : Setting) (p : Past) → MayLog l s p c (device x) fresh → LeavesOnly (device x) (device y) (StandsForCut l s p.logged p.cut)
  -- Each new image shows the past before or the one after.
  pub shown : (s : Setting) (p : Past) → MayLog l s p c (device x) fresh → LeavesOnly (device x) (device y) (ShowsEither l s p (after_log p))
  -- After the call a crash leaves an image that stands for the heap of the acknowledged cut, however the call ends.
  pub crash : (s : Setting) (p : Past) → MayLog l s p c (device x) fresh → Always (device y) (StandsForCut l s p.logged p.cut)

-- A part of that, once there are new records and a sequence is left.
pub record LogsAll (l : Layout) (d d' : Device) (s : Setting) (p : Past) : Type 0 where
  -- Each new image stands for the heap of the acknowledged cut.
  pub any_moment : LeavesOnly d d' (StandsForCut l s p.logged p.cut)
  -- Each new image shows the past before or the one after.
  pub shown : LeavesOnly d d' (ShowsEither l s p (after_log p))

-- `write_home`: the field's logged value stands in its home cell.
pub record GoesHome {T : Type 0} (l : Layout) (d : Device) (field value : ℕ) (d' : Device) (result : Result T StoreError) : Type 0 where
  -- After a success the device agrees with the past in which the field isn't dirty.
  pub ok : (s : Setting) (p : Past) (c : Committed) → MayGoHome l s p c d field value → OnOk result (IsConsistent l s (after_home p field) c d')
  -- `Fault` is the one refusal.
  pub only_fault : IfErr result (λ e. e ≡ Fault)
  -- Each new image stands for the heap of the acknowledged cut.
  pub any_moment : (s : Setting) (p : Past) (c : Committed) → MayGoHome l s p c d field value → LeavesOnly d d' (StandsForCut l s p.logged p.cut)
  -- Each new image shows this past.
  pub shown : (s : Setting) (p : Past) (c : Committed) → MayGoHome l s p c d field value → LeavesOnly d d' (ShowsPast l s p)
  -- Each new image shows a control of the sequence of the one that counts, or of a lower one.
  pub any_sequence : (s : Setting) (p : Past) (c : Committed) → MayGoHome l s p c d field value → LeavesOnly d d' (ShowsUpTo l c.sequence)
  -- The call writes only this cell.
  pub within : LeavesBut (cell_range l field ∷ []) d d'
  -- After the call a crash leaves an image that stands for the heap of the acknowledged cut, however the call ends.
  pub crash : (s : Setting) (p : Past) (c : Committed) → MayGoHome l s p c d field value → Always d' (StandsForCut l s p.logged p.cut)
  -- The call answers `Fault` only if a call of the device has failed since it began.
  pub cause : HasCauseSince d d' Fault result

-- `settle`: the cut is acknowledged.
pub record Settles {D T : Type 0} (device : D → Device) (l : Layout) (cut : Cut) (places : List ℕ) (c : Committed) (x : D)
    (c' : Committed) (y : D) (result : Result T StoreError) : Type 0 where
  -- It is a step.
  pub step : TakesStep device l c x c' y result
  -- After a success the device agrees with the past in which the cut is acknowledged.
  pub ok : (s : Setting) (p : Past) → MaySettle l s p c (device x) cut places → OnOk result (IsConsistent l s (after_settle p (counts_of cut)) c' (device y))
  -- `Worn` is answered exactly where the control's sequence is at its last value.
  pub worn : IsErrOf result Worn ↔ (c.sequence ≡ 2 ^ 64 - 1)
  -- Each new image stands for the heap of the old cut or of this one.
  pub any_moment : (s : Setting) (p : Past) → MaySettle l s p c (device x) cut places → LeavesOnly (device x) (device y) (StandsForEither l s p.logged p.cut (counts_of cut))
  -- Each new image shows the past before or the one after.
  pub shown : (s : Setting) (p : Past) → MaySettle l s p c (device x) cut places → LeavesOnly (device x) (device y) (ShowsEither l s p (after_settle p (counts_of cut)))
  -- After the call a crash leaves an image that stands for the heap of the old cut or of this one, however the call ends.
  pub crash : (s : Setting) (p : Past) → MaySettle l s p c (device x) cut places → Always (device y) (StandsForEither l s p.logged p.cut (counts_of cut))

-- `trim`: the records of what is acknowledged are given up.
pub record Trims {D T : Type 0} (device : D → Device) (l : Layout) (c : Committed) (x : D) (c' : Committed) (y : D) (result : Result T StoreError) : Type 0 where
  -- It is a step.
  pub step : TakesStep device l c x c' y result
  -- After a success the device agrees with the past in which these records are given up.
  pub ok : (s : Setting) (p : Past) → IsConsistent l s p c (device x) → OnOk result (IsConsistent l s (after_trim p) c' (device y))
  -- `Worn` is answered exactly where the control's sequence is at its last value.
  pub worn : IsErrOf result Worn ↔ (c.sequence ≡ 2 ^ 64 - 1)
  -- Each new image stands for the heap of the acknowledged cut.
  pub any_moment : (s : Setting) (p : Past) → IsConsistent l s p c (device x) → LeavesOnly (device x) (device y) (StandsForCut l s p.logged p.cut)
  -- Each new image shows the past before or the one after.
  pub shown : (s : Setting) (p : Past) → IsConsistent l s p c (device x) → LeavesOnly (device x) (device y) (ShowsEither l s p (after_trim p))
  -- After the call a crash leaves an image that stands for the heap of the acknowledged cut, however the call ends.
  pub crash : (s : Setting) (p : Past) → IsConsistent l s p c (device x) → Always (device y) (StandsForCut l s p.logged p.cut)
