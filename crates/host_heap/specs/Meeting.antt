-- A hosted heap whose disk has met its host's calls (this project's own).
use Rattle.std.specs.Prelude.{ℕ, ◌≡◌, List, [], Result, IfOk}
use Rattle.block_disk.specs.Device.{Image, Moment}
use Rattle.block_disk.specs.Memory.{moment_after}
use Rattle.disk_deferred.specs.Host.{Fetches, HasLooked, Host}
use Rattle.rtrb.specs.Ring.{known_items}
use Rattle.store_helper_sections.specs.Image.{ShowsCutOf}
use Rattle.thread_steps.specs.Views.{plan}
use Rattle.heap_model.specs.Past.{Past, applied}
use Rattle.trim_helper.specs.Meets.{SameHelper}
use Rattle.trim_helper.specs.Parts.{IsServing}
use Rattle.host_heap.specs.Hosting.{Hosting, hosted_device}

-- the host has made all calls that are known to have been handed over
pub record AreAllMade (c : Host) : Type 0 where
  pub none_left : c.left ≡ []
  pub none_known : known_items c.ring ≡ []

-- a fetch, and then a look at the ring
pub record FetchesAll (x y : Host) : Type 0 where
  pub fetched : Host
  pub fetches : Fetches x fetched
  pub looked : HasLooked fetched y

-- nothing of it has changed but for what its disk and the calls of its host know of one another
pub record SameButMet (x y : Hosting) : Type 0 where
  pub home : y.home ≡ x.home
  pub helper : SameHelper hosted_device x.helper y.helper
  pub unused : y.unused ≡ x.unused
  pub out : y.out ≡ x.out
  pub stop : y.stop ≡ x.stop

-- the host's device: on the bytes with which it began, the calls that the host has made
abbrev pub host_moment : Hosting → Moment
host_moment x = moment_after x.helper.store.disk.memory.first x.calls.made

-- the count is the acknowledged cut's of this lane
abbrev pub TellsCut : {E : Type 0} → Hosting → (lane : ℕ) → Result ℕ E → Type 0
TellsCut x lane answer = (p : Past) → IsServing hosted_device x.helper (plan x.home) p → IfOk answer (λ n. n ≡ p.cut lane)

-- whatever a crash of the host's device leaves now shows the cut of what was applied that was acknowledged before
abbrev pub KeepsCut : (x y : Hosting) → Type 0
KeepsCut x y = (p : Past) (image : List ℕ) → IsServing hosted_device x.helper (plan x.home) p → Image (host_moment y) image
    → ShowsCutOf x.helper.store.known.layout x.helper.store.known.threads (plan x.home) (applied p) p.cut image
