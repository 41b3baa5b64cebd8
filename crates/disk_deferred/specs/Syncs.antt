-- Which moments of a device come after so many syncs (this project's own).
use Rattle.std.specs.Prelude.{ℕ, suc, ◌⊎◌, ◌+◌, ◌<◌, ◌≤◌, List, [], ◌∷◌, length}
use Rattle.block_disk.specs.Device.{Device, Image, LeftSince, Moment, Range}
use Rattle.block_disk.specs.Images.{Continues}
use Rattle.block_disk.specs.Memory.{Stop, Wrote, WriteFailed, Synced, SyncFailed}

-- how many of these calls are syncs
abbrev pub syncs_in : List Stop → ℕ
syncs_in [] = 0
syncs_in (Wrote at bytes ∷ older) = syncs_in older
syncs_in (WriteFailed at len ∷ older) = syncs_in older
syncs_in (Synced ∷ older) = suc (syncs_in older)
syncs_in (SyncFailed ∷ older) = syncs_in older

-- one, where nothing is pending
abbrev pub one_if_none : List Range → ℕ
one_if_none [] = 1
one_if_none (r ∷ rs) = 0

-- at how many of these moments nothing was pending: at the first, and after each sync
abbrev pub durable_moments : List Moment → ℕ
durable_moments [] = 0
durable_moments (m ∷ before) = one_if_none m.pending + durable_moments before

-- its moments, the latest first
abbrev pub moments_of : Device → List Moment
moments_of d = d.now ∷ d.past

-- an image that a crash may leave at the last of these moments by which, at n moments at most, nothing was pending
abbrev pub LeftAt : (n : ℕ) → List Moment → List ℕ → Type 0
LeftAt n [] image = ⊥
LeftAt n (m ∷ before) image = ((durable_moments (m ∷ before) ≤ n) × Image m image) ⊎ ((n < durable_moments (m ∷ before)) × LeftAt n before image)

-- If the earlier device had at most so many, this image is of a moment since then.
abbrev pub SinceLaw : Type 0
SinceLaw = (n : ℕ) (old new : Device) (image : List ℕ) → Continues old new → durable_moments (moments_of old) ≤ n → LeftAt n (moments_of new) image → LeftSince (length old.past) new image
