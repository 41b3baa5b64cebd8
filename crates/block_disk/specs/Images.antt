-- What may be said of the images that calls leave, with no look at what is pending (this project's own).
use Rattle.std.specs.Prelude.{◌≡◌, ◌⊎◌, ℕ, ◌+◌, ◌≤◌, List, [], ◌∷◌, ◌++◌, length}
use Rattle.block_disk.specs.Device.{Range, Moment, Device, Image, LeftSince, SameOutside}

-- the one is the other device later: its moments are those of the other, with these since
pub record Continues (old new : Device) : Type 0 where
  pub name : new.name ≡ old.name
  pub since : List Moment
  pub moments : new.now ∷ new.past ≡ since ++ (old.now ∷ old.past)

-- calls after which a crash may leave the images that it might have left before them, and else only those that have P
pub record LeavesOnly (old new : Device) (P : List ℕ → Type 0) : Type 0 where
  pub later : length old.past ≤ length new.past
  pub grows : Continues old new
  pub each : (t : ℕ) (image : List ℕ) → t ≤ length old.past → LeftSince t new image → LeftSince t old image ⊎ P image
  pub keeps : (t : ℕ) (image : List ℕ) → t ≤ length old.past → LeftSince t old image → LeftSince t new image

-- each image that a crash now may leave has P
abbrev pub Always : Device → (List ℕ → Type 0) → Type 0
Always d P = (image : List ℕ) → Image d.now image → P image

-- an image that a crash now may leave, but for the bytes in these ranges
abbrev pub ImageBut : Device → List Range → List ℕ → Type 0
ImageBut d ranges image = (before : List ℕ) × Image d.now before × SameOutside ranges before image

-- what holds of an image goes on to hold whatever stands in these ranges
abbrev pub Survives : List Range → (List ℕ → Type 0) → Type 0
Survives ranges P = (old new : List ℕ) → P old → SameOutside ranges old new → P new

-- the n bytes at this place lie outside of each range
abbrev pub IsApart : ℕ → ℕ → List Range → Type 0
IsApart at n [] = Unit {0}
IsApart at n (r ∷ rs) = ((at + n ≤ r.start) ⊎ (r.start + r.len ≤ at)) × IsApart at n rs
