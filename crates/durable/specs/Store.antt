-- A store: what it knows beside its device, and when it has a past (this project's own).
use Rattle.std.specs.Prelude.{ℕ, ◌≡◌, ◌-◌, ◌<◌, ◌≤◌, ◌^◌, Bool, false, None, Some, Option, List, length}
use Rattle.heap_model.specs.Setting.{Setting}
use Rattle.heap_model.specs.Sections.{actions}
use Rattle.heap_model.specs.Cuts.{IsStable}
use Rattle.block_disk.specs.Device.{Device}
use Rattle.block_disk.specs.Images.{Always}
use Rattle.image_parts.specs.Layout.{IsLayout}
use Rattle.image_parts.specs.declared.layout.Layout.{Layout}
use Rattle.undo_log.specs.Dropped.{undo_logs, records_in}
use Rattle.heap_model.specs.Past.{Past, IsPast, after_log, after_settle, after_trim}
use Rattle.store_image.specs.Consistent.{TellsCut, ShowsPast, IsConsistent}
use Rattle.store_image.specs.KeptHeap.{StandsForCut}
use Rattle.store_memory.specs.Memory.{Memory, lane_in}
use Rattle.store_memory.specs.Remembers.{Remembers}
use Rattle.store_memory.specs.Sections.{Logged, TellsSections}
use Rattle.store_image.specs.declared.committed.Committed.{Committed}
use Rattle.durable.specs.declared.doubt.Doubt.{Doubt}
use Rattle.durable.specs.declared.doubt.Doubt.TheVariants.{Nothing, Logging, Settling, Trimming}
use Rattle.durable.specs.declared.store_call.StoreCall.{StoreCall}
use Rattle.durable.specs.declared.store_call.StoreCall.TheVariants.{Apply, Log, Home as HomeStep, Settle, Trim}

-- what a store knows beside its device: the layout of the image, the control that counts, what was applied, what was
-- logged, and whether the device has failed, and what is in doubt since
pub record Known : Type 0 where
  pub layout : Layout
  pub committed : Committed
  pub memory : Memory
  pub logged : Logged
  pub has_failed : Bool
  pub doubt : Doubt

-- a store over whatever device
pub record Parts (D : Type 0) : Type 0 where
  pub disk : D
  pub known : Known

-- it has the lanes of the image, and knows how many records each lane's area holds
pub record FitsLayout (x : Known) : Type 0 where
  pub limits : IsLayout x.layout
  pub lanes : length x.memory.lanes ≡ x.layout.lanes
  pub capacity : x.memory.capacity ≡ x.layout.capacity
  pub logged_lanes : x.logged.lanes ≡ x.layout.lanes
  pub logged_capacity : x.logged.capacity ≡ x.layout.capacity

-- the setting has the objects and fields of the image, and its release numbers fit a record
pub record FitsImage (l : Layout) (s : Setting) : Type 0 where
  pub objects : s.objects ≡ l.objects
  pub fields : s.fields ≡ l.fields
  pub last : s.last ≤ 2 ^ 40 - 1

-- no field has a logged store newer than its last home write
abbrev pub IsClean : Setting → Past → Type 0
IsClean s p = (f : ℕ) → f < s.fields → p.is_dirty f ≡ false

-- what is in doubt while this call runs
abbrev pub doubt_in : Option StoreCall → Doubt
doubt_in None = Nothing
doubt_in (Some (Apply l r)) = Nothing
doubt_in (Some Log) = Logging
doubt_in (Some HomeStep) = Nothing
doubt_in (Some Settle) = Settling
doubt_in (Some Trim) = Trimming

-- The image shows the past; or, where the logging is in doubt, what that makes of it; or, where a settling or a trim is, what that does.
pub data ShowsStep (l : Layout) (s : Setting) (p : Past) (w : Doubt) (image : List ℕ) : Type 0 where
  Shows : ShowsPast l s p image → ShowsStep l s p w image
  ShowsLogged : w ≡ Logging → ShowsPast l s (after_log p) image → ShowsStep l s p w image
  ShowsSettled : w ≡ Settling → IsClean s p → (cut : ℕ → ℕ) → IsStable (actions p.logged) cut → ShowsPast l s (after_settle p cut) image → ShowsStep l s p w image
  ShowsTrimmed : w ≡ Trimming → ShowsPast l s (after_trim p) image → ShowsStep l s p w image

-- The image stands for the heap of the acknowledged cut; or, where a settling is in doubt, of the stable one.
pub data StandsForStep (l : Layout) (s : Setting) (p : Past) (w : Doubt) (image : List ℕ) : Type 0 where
  Stands : StandsForCut l s p.logged p.cut image → StandsForStep l s p w image
  StandsSettled : w ≡ Settling → IsClean s p → (cut : ℕ → ℕ) → IsStable (actions p.logged) cut → StandsForCut l s p.logged cut image → StandsForStep l s p w image

-- The store has this past: what it knows tells of it, and its device agrees. After a fault the device is only known to show
-- the past, or what the call that met the fault makes of it.
pub record HasPast (x : Known) (s : Setting) (p : Past) (d : Device) : Type 0 where
  pub layout : FitsLayout x
  pub setting : FitsImage x.layout s
  pub past : IsPast s p
  pub remembers : Remembers s x.memory p
  pub sections : TellsSections x.logged p.base p.logged
  pub starts : (l : ℕ) → l < x.layout.lanes → (lane_in x.memory.lanes l).start ≡ records_in (p.base l) (undo_logs p.logged l)
  pub tells : TellsCut x.layout p.logged p.base p.cut x.committed.rows
  pub agrees : x.has_failed ≡ false → IsConsistent x.layout s p x.committed d
  pub images : Always d (ShowsStep x.layout s p x.doubt)
