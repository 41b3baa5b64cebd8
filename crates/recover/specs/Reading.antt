-- Which image is refused, and by what: the first thing that is wrong (docs/FORMAT.md, "Which image is refused").
use Rattle.std.specs.Prelude.{ℕ, ◌≡◌, ◌<◌, ◌≤◌, ◌⊎◌, true, false, List, length, Err, Vec, Result, MatchResult}
use Rattle.std.specs.declared.alloc.Global.{Global}
use Rattle.heap_model.specs.declared.record.UndoRecord.{UndoRecord}
use Rattle.image_parts.specs.Layout.{size_of}
use Rattle.image_parts.specs.Header.{IsFormatted, HasHeader}
use Rattle.image_parts.specs.Guards.{HasGuards}
use Rattle.image_parts.specs.Slots.{Shows, Chooses}
use Rattle.image_parts.specs.declared.layout.Layout.{Layout}
use Rattle.image_parts.specs.declared.slot.Slot.{Slot}
use Rattle.image_parts.specs.declared.control.Control.{Control}
use Rattle.image_parts.specs.declared.guard_row.GuardRow.{GuardRow}
use Rattle.image_parts.specs.declared.error.ControlError.TheVariants as control_error
use Rattle.undo_log.specs.StandsFor.{is_transient_in}
use Rattle.recover.specs.declared.logged_image.LoggedImage.{LoggedImage}
use Rattle.recover.specs.declared.front.Front.{Front}
use Rattle.recover.specs.declared.replayed.Replayed.{Replayed}
use Rattle.recover_heap.specs.declared.error.RecoverError.{RecoverError}
use Rattle.recover_heap.specs.declared.error.RecoverError.TheVariants.{Fault, NotFormatted, BadHeader, TooSmall, NoControl, BadControl, OldVersion, Worn, BadRecord, IllegalLog, NoMemory}
use Rattle.recover_heap.specs.Logs.{AreLogs, RefusesLogs, lanes_of, logged_guard_in}
use Rattle.recover.specs.Settled.{AreLegal, IsIllegalAt}

-- the image has the header of this layout, and room for it
pub record HasLayout (image : List ℕ) (l : Layout) : Type 0 where
  pub header : HasHeader image l
  pub room : size_of l ≤ length image

-- what each refusal to find the layout says of the image
abbrev pub RefusesLayout : List ℕ → RecoverError → Type 0
RefusesLayout image Fault = Unit {0}
RefusesLayout image NotFormatted = IsFormatted image → ⊥
RefusesLayout image BadHeader = IsFormatted image × ((l : Layout) → HasHeader image l → ⊥)
RefusesLayout image TooSmall = (l : Layout) × HasHeader image l × (length image < size_of l)
RefusesLayout image _ = ⊥

-- to read the guard rows
abbrev pub RefusesRows : Layout → List ℕ → RecoverError → Type 0
RefusesRows l image Fault = Unit {0}
RefusesRows l image BadHeader = (rows : List GuardRow) → HasGuards l image rows → ⊥
RefusesRows l image NoMemory = Unit {0}
RefusesRows l image _ = ⊥

-- to choose the control
abbrev pub RefusesControl : Layout → List ℕ → RecoverError → Type 0
RefusesControl l image Fault = Unit {0}
RefusesControl l image NoControl = Chooses l image (Err control_error.NoControl)
RefusesControl l image BadControl = Chooses l image (Err control_error.BadControl)
RefusesControl l image _ = ⊥

-- the image has this layout and these guard rows
pub record HasFront (image : List ℕ) (l : Layout) (guards : List GuardRow) : Type 0 where
  pub layout : HasLayout image l
  pub guards_are : HasGuards l image guards

-- the image has this layout and these guard rows, and shows this control in this slot; version 1 is from before there were
-- transient fields, so that no row is marked
pub record HasControl (image : List ℕ) (l : Layout) (guards : List GuardRow) (s : Slot) (c : Control) : Type 0 where
  pub front : HasFront image l guards
  pub shows : Shows l image s c
  pub marks : c.version ≡ 1 → (f : ℕ) → is_transient_in guards f ≡ false

-- a control of version 1 is shown, though the row of this field is marked
pub record HasStrayMark (image : List ℕ) (l : Layout) (guards : List GuardRow) : Type 0 where
  pub slot : Slot
  pub control : Control
  pub shows : Shows l image slot control
  pub version : control.version ≡ 1
  pub field : ℕ
  -- An image of version 1 with a marked guard row is refused as a bad control.
  pub marked : is_transient_in guards field ≡ true

-- nothing is wrong with the image's front, but that its control is of version 1
pub record IsOfOldVersion (image : List ℕ) : Type 0 where
  pub layout : Layout
  pub guards : List GuardRow
  pub slot : Slot
  pub control : Control
  pub shown : HasControl image layout guards slot control
  pub version : control.version ≡ 1

-- what the image holds, of whichever version, where nothing is wrong with it
pub record Holds (image : List ℕ) (found : LoggedImage) : Type 0 where
  pub control : HasControl image found.layout found.guards.items found.slot found.control
  pub logs : AreLogs found.layout image found.control.rows found.records.items
  pub legal : AreLegal (logged_guard_in found.guards.items) found.control.rows (lanes_of found.records.items)

-- A header is bad by itself, or by a guard row; the latter is told of where the device has room for the image.
abbrev pub HasBadHeader : List ℕ → Type 0
HasBadHeader image = RefusesLayout image BadHeader ⊎ ((l : Layout) × HasLayout image l × RefusesRows l image BadHeader)

-- what each refusal to read an image's front says of it: the first test that it doesn't pass
abbrev pub RefusesFront : List ℕ → RecoverError → Type 0
RefusesFront image Fault = Unit {0}
RefusesFront image NotFormatted = RefusesLayout image NotFormatted
RefusesFront image BadHeader = HasBadHeader image
RefusesFront image TooSmall = RefusesLayout image TooSmall
RefusesFront image NoControl = (l : Layout) × (guards : List GuardRow) × HasFront image l guards × RefusesControl l image NoControl
RefusesFront image BadControl = (l : Layout) × (guards : List GuardRow) × HasFront image l guards × (RefusesControl l image BadControl ⊎ HasStrayMark image l guards)
RefusesFront image NoMemory = Unit {0}
RefusesFront image _ = ⊥

-- to read and to replay the live records of an image with this layout, these guard rows and this control
abbrev pub RefusesLive : List ℕ → Layout → List GuardRow → Control → RecoverError → Type 0
RefusesLive image l guards c Fault = Unit {0}
RefusesLive image l guards c (BadRecord lane place) = RefusesLogs l image c.rows (BadRecord lane place)
RefusesLive image l guards c (IllegalLog lane place) =
    (logs : List (Vec UndoRecord Global)) × AreLogs l image c.rows logs × IsIllegalAt (logged_guard_in guards) c.rows (lanes_of logs) lane.0 place
RefusesLive image l guards c NoMemory = Unit {0}
RefusesLive image l guards c _ = ⊥

-- what each refusal to study an image says of it: the first test that it doesn't pass; either version is studied
abbrev pub RefusesImage : List ℕ → RecoverError → Type 0
RefusesImage image Fault = Unit {0}
RefusesImage image NotFormatted = RefusesFront image NotFormatted
RefusesImage image BadHeader = RefusesFront image BadHeader
RefusesImage image TooSmall = RefusesFront image TooSmall
RefusesImage image NoControl = RefusesFront image NoControl
RefusesImage image BadControl = RefusesFront image BadControl
RefusesImage image OldVersion = ⊥
RefusesImage image Worn = ⊥
RefusesImage image (BadRecord lane place) =
    (l : Layout) × (guards : List GuardRow) × (s : Slot) × (c : Control) × HasControl image l guards s c × RefusesLive image l guards c (BadRecord lane place)
RefusesImage image (IllegalLog lane place) =
    (l : Layout) × (guards : List GuardRow) × (s : Slot) × (c : Control) × HasControl image l guards s c × RefusesLive image l guards c (IllegalLog lane place)
RefusesImage image NoMemory = Unit {0}

-- a front as it was read: the image has that
abbrev pub IsFrontOf : List ℕ → Front → Type 0
IsFrontOf image f = HasControl image f.layout f.guards.items f.slot f.control

-- to read and to replay the live records of an image with this front
abbrev pub RefusesRest : List ℕ → Front → RecoverError → Type 0
RefusesRest image f e = RefusesLive image f.layout f.guards.items f.control e

-- What a reader answers: what the image has, or the first test that it doesn't pass.

abbrev pub ReadsLayout : List ℕ → Result Layout RecoverError → Type 0
ReadsLayout image result = MatchResult result (HasLayout image) (RefusesLayout image)

abbrev pub ReadsRows : Layout → List ℕ → Result (Vec GuardRow Global) RecoverError → Type 0
ReadsRows l image result = MatchResult result (λ rows. HasGuards l image rows.items) (RefusesRows l image)

abbrev pub ReadsControl : Layout → List ℕ → Result (Slot × Control) RecoverError → Type 0
ReadsControl l image result = MatchResult result (λ found. Shows l image found.0 found.1) (RefusesControl l image)

abbrev pub ReadsFront : List ℕ → Result Front RecoverError → Type 0
ReadsFront image result = MatchResult result (IsFrontOf image) (RefusesFront image)

abbrev pub ReadsLive : List ℕ → Front → Result Replayed RecoverError → Type 0
ReadsLive image f result = MatchResult result (λ r. Holds image r.image) (RefusesRest image f)
