-- What a crash may leave of a device of atomic sectors, at each moment (after block_disk's device, whose writes may tear anywhere).
use Rattle.std.specs.Prelude.{◌≡◌, ◌⊎◌, ℕ, ◌+◌, ◌≤◌, ◌==◌, if◌then◌else◌, List, [], ◌∷◌, ◌++◌, length, All}
use Rattle.block_disk.specs.Device.{Moment, Device}
use Rattle.block_disk.specs.Images.{Continues}
use Rattle.atomic_sectors.specs.Sectors.{IsMix, contents_since}

-- an image that a crash at the latest of these moments may leave
abbrev pub MixedAt : List Moment → List ℕ → Type 0
MixedAt moments image = IsMix (contents_since moments) image

-- an image that a crash now may leave
abbrev pub MixedNow : Device → List ℕ → Type 0
MixedNow d image = MixedAt (d.now ∷ d.past) image

-- an image of one of these moments whose number is t or more; a moment's number is how many were before it
abbrev pub MixedIn : ℕ → List Moment → List ℕ → Type 0
MixedIn t [] image = ⊥
MixedIn t (m ∷ before) image = ((t ≤ length before) × MixedAt (m ∷ before) image) ⊎ MixedIn t before image

-- an image that a crash at some moment from number t on might have left
abbrev pub MixedSince : ℕ → Device → List ℕ → Type 0
MixedSince t d image = MixedIn t (d.now ∷ d.past) image

-- calls after which a crash may leave the images that it might have left before them, and else only those that have P
pub record LeavesWhole (old new : Device) (P : List ℕ → Type 0) : Type 0 where
  pub later : length old.past ≤ length new.past
  pub grows : Continues old new
  pub each : (t : ℕ) (image : List ℕ) → t ≤ length old.past → MixedSince t new image → MixedSince t old image ⊎ P image

-- each image that a crash now may leave has P
abbrev pub AlwaysWhole : Device → (List ℕ → Type 0) → Type 0
AlwaysWhole d P = (image : List ℕ) → MixedNow d image → P image

-- calls at each of whose moments what reads has P
pub record Reads (P : List ℕ → Type 0) (old new : Device) : Type 0 where
  pub name : new.name ≡ old.name
  pub since : List Moment
  pub moments : new.now ∷ new.past ≡ since ++ (old.now ∷ old.past)
  pub each : All (λ m. P m.bytes) since

-- how often these moments, the latest first, have begun with a sync that succeeded
abbrev pub syncs_in : List Moment → ℕ
syncs_in [] = 0
syncs_in (m ∷ before) = (if length m.pending == 0 then 1 else 0) + syncs_in before

-- calls that make so many syncs that succeed; a sync that fails changes no moment, and isn't counted
pub record MakesSyncs (n : ℕ) (old new : Device) : Type 0 where
  pub since : List Moment
  pub moments : new.now ∷ new.past ≡ since ++ (old.now ∷ old.past)
  pub count : syncs_in since ≡ n
