-- The calculus of images: what calls in a row leave follows from what each of them leaves (this project's own).
-- P and Q are whatever may be said of an image. The laws that don't speak of them are clauses of `image_law`,
-- `image_but_law` and `sync_law`. The others are of a size that no clause may have: proofs/Images.antt has each, under the
-- name in brackets, for this crate and those above.
use Rattle.std.specs.Prelude.{◌≡◌, ℕ, List, [], length}
use Rattle.block_disk.specs.Device.{Range, Device, Image, LeftSince, SameMoments, SameOutside, synced}
use Rattle.block_disk.specs.Images.{Always, ImageBut, LeavesOnly, Survives}

-- what reads is one of the images that a crash now may leave
abbrev pub ReadsLaw : Type 0
ReadsLaw = (d : Device) → Image d.now d.now.bytes

-- with nothing pending it is the only one [`always_only`]
abbrev pub OnlyLaw : Type 1
OnlyLaw = (d : Device) (P : List ℕ → Type 0) → d.now.pending ≡ [] → P d.now.bytes → Always d P

-- what follows from what each image has, each image has [`always_weaker`]
abbrev pub AlwaysLaw : Type 1
AlwaysLaw = (d : Device) (P Q : List ℕ → Type 0) → ((image : List ℕ) → P image → Q image) → Always d P → Always d Q

-- an image that a crash since this moment might have left is one that a crash now may leave
abbrev pub NowLaw : Type 0
NowLaw = (d : Device) (image : List ℕ) → LeftSince (length d.past) d image → Image d.now image

-- no call leaves nothing new [`begin`]
abbrev pub BeginLaw : Type 1
BeginLaw = (d : Device) (P : List ℕ → Type 0) → LeavesOnly d d P

-- a call that begins no moment leaves nothing new [`stays`]
abbrev pub StaysLaw : Type 1
StaysLaw = (old new : Device) (P : List ℕ → Type 0) → SameMoments old new → LeavesOnly old new P

-- calls, and then others [`and_then`]
abbrev pub ThenLaw : Type 1
ThenLaw = (old mid new : Device) (P : List ℕ → Type 0) → LeavesOnly old mid P → LeavesOnly mid new P → LeavesOnly old new P

-- what follows from P may be said too [`weaker`]
abbrev pub WeakerLaw : Type 1
WeakerLaw = (old new : Device) (P Q : List ℕ → Type 0) → ((image : List ℕ) → P image → Q image) → LeavesOnly old new P → LeavesOnly old new Q

-- one more call, of which it is known that it leaves images from before it but for some bytes [`follows`]
abbrev pub FollowsLaw : Type 1
FollowsLaw = (old mid new : Device) (P : List ℕ → Type 0) (rs : List Range) → LeavesOnly old mid P → LeavesOnly mid new (ImageBut mid rs)
    → ((image : List ℕ) → ImageBut mid rs image → P image) → LeavesOnly old new P

-- what held of each image before the calls and holds of those that they leave, holds of each image after them [`now_too`]
abbrev pub NowTooLaw : Type 1
NowTooLaw = (old new : Device) (P : List ℕ → Type 0) → Always old P → LeavesOnly old new P → Always new P

-- each image is one of those but for some ranges
abbrev pub NoneLaw : Type 0
NoneLaw = (d : Device) (rs : List Range) → Always d (ImageBut d rs)

-- more bytes in the same ranges
abbrev pub AgainLaw : Type 0
AgainLaw = (old mid : Device) (rs : List Range) (image : List ℕ) → Always mid (ImageBut old rs) → ImageBut mid rs image → ImageBut old rs image

-- in ranges that cover more
abbrev pub WiderLaw : Type 0
WiderLaw = (d : Device) (rs ss : List Range) (image : List ℕ) → ((old new : List ℕ) → SameOutside rs old new → SameOutside ss old new)
    → ImageBut d rs image → ImageBut d ss image

-- over a device with nothing pending: what reads, but for the ranges
abbrev pub ButLaw : Type 0
ButLaw = (d : Device) (rs : List Range) (image : List ℕ) → d.now.pending ≡ [] → ImageBut d rs image → SameOutside rs d.now.bytes image

-- what holds of each image and survives bytes in the ranges holds of each image but for them [`besides_survives`]
abbrev pub KeptLaw : Type 1
KeptLaw = (d : Device) (rs : List Range) (P : List ℕ → Type 0) → Always d P → Survives rs P → (image : List ℕ) → ImageBut d rs image → P image

-- and goes on to hold at each moment of calls that write nowhere else [`survives`]
abbrev pub SurvivesLaw : Type 1
SurvivesLaw = (old new : Device) (rs : List Range) (P : List ℕ → Type 0) → Always old P → Survives rs P → LeavesOnly old new (ImageBut old rs)
    → LeavesOnly old new P × Always new P

-- everything survives no change [`survives_none`]
abbrev pub NoChangeLaw : Type 1
NoChangeLaw = (P : List ℕ → Type 0) → Survives [] P

-- a sync leaves images from before it, and no others
abbrev pub SyncLaw : Type 0
SyncLaw = (old new : Device) → new ≡ synced old → LeavesOnly old new (ImageBut old [])
