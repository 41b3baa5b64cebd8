-- A store for rounds of two syncs: what it knows beside its device, and when it has a past (this project's own).
use Rattle.std.specs.Prelude.{ℕ, ◌≡◌, ◌<◌, ◌≤◌, ◌+◌, ◌-◌, ◌^◌, Bool, true, false, All, Contains, List, length, slice_index_or}
use Rattle.heap_model.specs.declared.ids.ObjectId.{ObjectId}
use Rattle.heap_model.specs.Setting.{Setting}
use Rattle.block_disk.specs.Device.{Device}
use Rattle.block_disk.specs.Images.{Always}
use Rattle.image_parts.specs.Layout.{IsLayout}
use Rattle.image_parts.specs.declared.layout.Layout.{Layout}
use Rattle.undo_log.specs.Dropped.{undo_logs, records_in}
use Rattle.undo_log.specs.StandsFor.{row_of}
use Rattle.heap_model.specs.Past.{Past, IsPast, IsTrimmed, after_log, applied, has_store}
use Rattle.store_image.specs.declared.committed.Committed.{Committed}
use Rattle.store_memory.specs.Memory.{Memory, lane_in}
use Rattle.store_memory.specs.Remembers.{Remembers}
use Rattle.store_memory.specs.Sections.{Logged, TellsSections}
use Rattle.store_helper_sections.specs.HelperSections.{HelperSection, helper_log}
use Rattle.store_helper_sections.specs.Image.{ShowsCutOf, kept_by}
use Rattle.store_round_image.specs.Turning.{IsValueIn, fields_of}
use Rattle.store_round_image.specs.declared.cells.HomeValue.{HomeValue}
use Rattle.store_round_making.specs.Rounds.{IsRoundOn}
use Rattle.store_round_memory.specs.Rounds.{Rounds, KnowsRounds}

-- What a store knows beside its device: the layout of the image and how many of its lanes are the threads'; the control that counts; what was
-- applied, and what is known of its sections and of the kept heap; each field's guard; what the cells of fields lack, which live records of
-- the helper's lane have; and whether the device has failed.
pub record Known : Type 0 where
  pub layout : Layout
  pub threads : ℕ
  pub committed : Committed
  pub memory : Memory
  pub sections : Logged
  pub rounds : Rounds
  pub guards : List ObjectId
  pub pending : List HomeValue
  pub has_failed : Bool

-- a store over whatever device
pub record Parts (D : Type 0) : Type 0 where
  pub disk : D
  pub known : Known

-- The list of what cells lack has a field at most once, and the lists have room for each field of the image, or for each record of a lane.
pub record HasRoom (l : Layout) (many pending_room cells_room helper_room : ℕ) : Type 0 where
  pub listed : many ≤ l.fields
  pub pending : l.fields ≤ pending_room
  pub cells : l.fields ≤ cells_room
  pub helper : l.capacity ≤ helper_room

-- All lanes of the image are the threads' but for one at most, the last: that is the helper's. The store knows how many records each lane's
-- area holds.
pub record FitsLayout (x : Known) : Type 0 where
  pub limits : IsLayout x.layout
  pub some : 1 ≤ x.threads
  pub within : x.threads ≤ x.layout.lanes
  pub most : x.layout.lanes ≤ x.threads + 1
  pub lanes : length x.memory.lanes ≡ x.threads
  pub capacity : x.memory.capacity ≡ x.layout.capacity
  pub logged_lanes : x.sections.lanes ≡ x.threads
  pub logged_capacity : x.sections.capacity ≡ x.layout.capacity
  pub rounds_lanes : x.rounds.lanes ≡ x.threads
  pub rounds_capacity : x.rounds.capacity ≡ x.layout.capacity

-- The setting has the objects and fields of the image with their guards, and its release numbers fit a record.
pub record FitsImage (x : Known) (s : Setting) : Type 0 where
  pub objects : s.objects ≡ x.layout.objects
  pub fields : s.fields ≡ x.layout.fields
  pub last : s.last ≤ 2 ^ 40 - 1
  pub many : length x.guards ≡ s.fields
  pub guards : (f : ℕ) (d : ObjectId) → f < s.fields → (slice_index_or x.guards f d).0 ≡ s.guard f

-- The device of a store that hasn't failed is as a round of two syncs leaves it, with these sections of the helper's. They store to the
-- fields whose cells lack what is kept, and to no others.
pub record IsRunning (x : Known) (s : Setting) (p : Past) (d : Device) : Type 0 where
  pub helped : List HelperSection
  pub on : IsRoundOn x.layout x.threads s p.logged p.cut helped x.committed d
  pub values : All (IsValueIn x.layout (kept_by s p.logged p.cut)) x.pending
  pub covered : (f : ℕ) → Contains (fields_of x.pending) f → has_store f (helper_log x.threads (kept_by s p.logged p.cut) helped) ≡ true
  pub complete : (f : ℕ) → has_store f (helper_log x.threads (kept_by s p.logged p.cut) helped) ≡ true → Contains (fields_of x.pending) f

-- The store has this past: what it knows tells of it, and its device agrees. All that is acknowledged is trimmed. Whatever a crash leaves
-- shows the acknowledged cut or a later one.
pub record HasPast (x : Known) (s : Setting) (p : Past) (d : Device) : Type 0 where
  pub layout : FitsLayout x
  pub setting : FitsImage x s
  pub past : IsPast s p
  pub trimmed : IsTrimmed p
  pub remembers : Remembers s x.memory p
  pub sections : TellsSections x.sections p.cut (applied p)
  pub rounds : KnowsRounds s x.rounds (after_log p)
  pub starts : (l : ℕ) → l < x.threads → (lane_in x.memory.lanes l).start ≡ records_in (p.cut l) (undo_logs p.logged l)
  pub kept : (l : ℕ) → l < x.threads → (row_of x.committed.rows l).kept ≡ p.cut l
  pub agrees : x.has_failed ≡ false → IsRunning x s p d
  pub images : Always d (ShowsCutOf x.layout x.threads s (applied p) p.cut)
