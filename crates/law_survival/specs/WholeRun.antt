-- A whole run: calls of a store, a crash at some moment, and recovery of what that left (this project's own).
use Rattle.std.specs.Prelude.{ℕ, ◌≡◌, ◌⊎◌, ◌<◌, ◌≤◌, true, false, Some, List, length, take, slice_get}
use Rattle.heap_model.specs.Setting.{Setting}
use Rattle.heap_model.specs.Sections.{actions}
use Rattle.heap_model.specs.Cuts.{IsWhole, IsClosed, IsStable}
use Rattle.block_disk.specs.Device.{Device, LeftSince}
use Rattle.durable.specs.declared.doubt.Doubt.TheVariants.{Settling}
use Rattle.durable.specs.declared.store_call.StoreCall.{StoreCall}
use Rattle.durable.specs.declared.store_call.StoreCall.TheVariants.{Settle}
use Rattle.durable.specs.Calls.{IsClean, MakeAll}
use Rattle.durable.specs.Store.{Known}
use Rattle.store_image.specs.KeptHeap.{kept_heap}
use Rattle.heap_model.specs.Past.{Past, IsPast}
use Rattle.recover_heap.specs.declared.error.RecoverError.{RecoverError}
use Rattle.recover_heap.specs.declared.error.RecoverError.TheVariants.{Fault, NoMemory, Worn}
use Rattle.recover.specs.Recovery.{IsWorn}

-- a crash at some moment since this device may leave these bytes of the other
abbrev pub MayBeLeft : (old new : Device) → List ℕ → Type 0
MayBeLeft old new image = LeftSince (length old.past) new image

-- A settling was cut off after the first n calls: the next of them is one, or the store had failed in one before the first.
pub data IsSettling (x : Known) (calls : List StoreCall) (n : ℕ) : Type 0 where
  Next : slice_get calls n ≡ Some Settle → IsSettling x calls n
  Before : n ≡ 0 → x.has_failed ≡ true → x.doubt ≡ Settling → IsSettling x calls n

-- The cut is the acknowledged one. Only where a settling was cut off, with no field dirty, may it be the stable one.
abbrev pub KeepsCut : Known → Setting → (calls : List StoreCall) → (n : ℕ) → Past → (cut : ℕ → ℕ) → Type 0
KeepsCut x s calls n p cut = (cut ≡ p.cut) ⊎ (IsSettling x calls n × IsClean s p × IsStable (actions p.logged) cut)

-- The heap is the one acknowledged after the first n of the calls, and the sections that were kept are those: whole sections of
-- what was logged then, each with all that it depends on. Each section that was acknowledged before is one of them.
pub record Survives (x : Known) (s : Setting) (p : Past) (calls : List StoreCall) (heap : List ℕ) (kept : ℕ → ℕ) : Type 0 where
  pub n : ℕ
  pub within : n ≤ length calls
  pub then : Past
  pub made : MakeAll s p (take n calls) then
  -- a store may have that past
  pub is : IsPast s then
  pub cut : ℕ → ℕ
  pub acknowledged : KeepsCut x s calls n then cut
  pub whole : IsWhole (actions then.logged) cut
  pub closed : IsClosed (actions then.logged) cut
  pub stays : (lane : ℕ) → p.cut lane ≤ cut lane
  pub heap_is : heap ≡ kept_heap x.layout s then.logged cut
  pub kept_are : (lane : ℕ) → lane < x.layout.lanes → kept lane ≡ cut lane

-- What survives of a crash that came by the time when the first n calls had made this of the past: what was acknowledged after some of
-- these calls. Unless the store had failed before, no section is kept that wasn't acknowledged by then.
pub record SurvivesBy (x : Known) (s : Setting) (p : Past) (calls : List StoreCall) (n : ℕ) (then : Past) (heap : List ℕ) (kept : ℕ → ℕ) : Type 0 where
  pub survives : Survives x s p (take n calls) heap kept
  pub at_most : x.has_failed ≡ false → (lane : ℕ) → lane < x.layout.lanes → kept lane ≤ then.cut lane

-- why there is nothing to survive: only the device can fail, memory be wanting, and the sequence of controls be at its end
abbrev pub CannotRecover : (image : List ℕ) → RecoverError → Type 0
CannotRecover image e = (e ≡ Fault) ⊎ (e ≡ NoMemory) ⊎ ((e ≡ Worn) × IsWorn image)
