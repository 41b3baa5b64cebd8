-- Calls with no settling: nothing that a crash leaves of them is acknowledged anew (this project's own).
use Rattle.std.specs.Prelude.{ℕ, ◌≡◌, ◌≢◌, ◌<◌, true, List, [], ◌∷◌}
use Rattle.heap_model.specs.Setting.{Setting}
use Rattle.durable.specs.Store.{Known}
use Rattle.durable.specs.declared.store_call.StoreCall.{StoreCall}
use Rattle.durable.specs.declared.doubt.Doubt.TheVariants.{Settling}
use Rattle.durable.specs.declared.store_call.StoreCall.TheVariants.{Settle}
use Rattle.store_image.specs.KeptHeap.{kept_heap}
use Rattle.heap_model.specs.Past.{Past, IsPast}
use Rattle.law_survival.specs.WholeRun.{Survives}

-- none of the calls is a settling
abbrev pub HasNoSettling : List StoreCall → Type 0
HasNoSettling [] = Unit {0}
HasNoSettling (call ∷ calls) = (call ≢ Settle) × HasNoSettling calls

-- what survives is the heap of the sections that were acknowledged before the first call, and these are what was kept
pub record KeepsBefore (x : Known) (s : Setting) (p : Past) (heap : List ℕ) (kept : ℕ → ℕ) : Type 0 where
  pub heap_is : heap ≡ kept_heap x.layout s p.logged p.cut
  pub kept_are : (lane : ℕ) → lane < x.layout.lanes → kept lane ≡ p.cut lane

-- So it is after calls with no settling, unless the store had failed in one before.
abbrev pub UnsettledLaw : Type 0
UnsettledLaw = (x : Known) (s : Setting) (p : Past) (calls : List StoreCall) (heap : List ℕ) (kept : ℕ → ℕ) → IsPast s p → HasNoSettling calls
    → (x.has_failed ≡ true → x.doubt ≡ Settling → ⊥) → Survives x s p calls heap kept → KeepsBefore x s p heap kept
