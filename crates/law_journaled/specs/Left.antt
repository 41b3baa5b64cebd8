-- What a crash of the device below a journal may leave of a heap's disk (this project's own).
use Rattle.std.specs.Prelude.{ℕ, suc, ◌≡◌, ◌≤◌, List, [], length, take, Result}
use Rattle.block_disk.specs.Device.{Device}
use Rattle.block_disk.specs.Memory.{Stop}
use Rattle.block_disk.specs.declared.error.Fault.{Fault}
use Rattle.atomic_sectors.specs.Left.{MixedSince}
use Rattle.disk_deferred.specs.Deferred.{Deferred, onto}
use Rattle.disk_deferred.specs.Host.{HaveMet, Host}
use Rattle.disk_deferred.specs.Syncs.{durable_moments, moments_of, syncs_in}
use Rattle.disk_deferred.specs.declared.call.DeviceCall.{DeviceCall}
use Rattle.host_journal.specs.Calls.{HasOrdered, HasSynced}
use Rattle.host_journal.specs.Hosted.{Hosted, StandsFor}
use Rattle.law_hosted.specs.Safe.{HostLeaves, LeavesBy}
use Rattle.law_journaled.specs.Given.{WasGiven}

-- A heap's disk has met its host, which makes the disk's calls by giving them to this journal. By the end of the journal's last sync it had made `synced`.
pub record LiesOver (d : Deferred) (c : Host) (synced : List Stop) (j : Hosted) : Type 0 where
  pub met : HaveMet d c
  pub given : WasGiven d.memory.first synced c.made j.heap j.base

-- The journal x is at rest, or in an order or a sync that ends as y, whatever the answer.
pub data ComesTo (x : Hosted) : Hosted → Type 0 where
  AtRest : ComesTo x x
  Orders : (y : Hosted) (answer : Result (Unit {0}) Fault) → HasOrdered x y answer → ComesTo x y
  Syncs : (y : Hosted) (answer : Result (Unit {0}) Fault) → HasSynced x y answer → ComesTo x y

-- Whatever a crash leaves of the device below the journal has the journal's label, and in what it stands for the disk's bytes have P. The crash may come
-- now, or at any moment of an order or a sync that is next.
abbrev pub HoldsDisk : Hosted → Deferred → (List ℕ → Type 0) → Type 0
HoldsDisk x d P = (y : Hosted) (image : List ℕ) → ComesTo x y → MixedSince (length x.disk.past) y.disk image
    → StandsFor x.areas (λ whole. P (take (length d.memory.first) whole)) image

-- What a crash of the host's device might have left, had there been no journal, at a moment when the host had made the calls in `synced`, and none
-- but those in `made`.
pub record LeftOnceMade (synced made : List Stop) (d : Deferred) (image : List ℕ) : Type 0 where
  -- the host at that moment
  pub host : Host
  pub met : HaveMet d host
  -- the calls that it has made beside those in `synced`
  pub since : List DeviceCall
  pub after : host.made ≡ onto synced since
  -- the calls of `made` that it hasn't made
  pub next : List DeviceCall
  pub before : made ≡ onto host.made next
  pub leaves : HostLeaves d host [] image

-- So are the disk's bytes in whatever a crash leaves of the device below, with the calls that the host had made by the journal's last sync, and those
-- that it has made by now.
abbrev pub JournalLeftLaw : Hosted → Type 0
JournalLeftLaw j = (d : Deferred) (c : Host) (synced : List Stop) → LiesOver d c synced j → HoldsDisk j d (LeftOnceMade synced c.made d)

-- A host's device leaves it, after at least the syncs in `synced`. So laws of `law_hosted` speak of it, by `LeavesSince` or `LeavesLater`.
abbrev pub HostLeavesLaw : Type 0
HostLeavesLaw = (synced made : List Stop) (d : Deferred) (image : List ℕ) → LeftOnceMade synced made d image
    → (c : Host) × LeavesBy d c image × (syncs_in synced ≤ syncs_in c.made)

-- these calls include all that had been handed over when the disk was the old one
abbrev pub AreAllHanded : (old : Device) → List Stop → Type 0
AreAllHanded old synced = durable_moments (moments_of old) ≤ suc (syncs_in synced)

-- Once the journal was synced with these calls, the disk's bytes have P in whatever a crash leaves of the device below.
abbrev pub HoldsSince : Hosted → (old : Device) → Deferred → (List ℕ → Type 0) → Type 0
HoldsSince j old d P = (c : Host) (synced : List Stop) → LiesOver d c synced j → AreAllHanded old synced → HoldsDisk j d P
