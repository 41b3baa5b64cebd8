-- Where the parts of a journaled device lie: a page for its label, two halves for batches, and the image (docs/FORMAT.md, "A journal in two halves").
-- Pages are of 4,096 bytes.
use Rattle.std.specs.Prelude.{ℕ, ◌+◌, ◌*◌, Bool, true, false, List}
use Rattle.block_disk.specs.Bytes.{part, spliced}
use Rattle.journal_batches.specs.declared.areas.Areas.{Areas}

-- how many bytes a half has
abbrev pub half_bytes : Areas → ℕ
half_bytes a = a.half * 4096

-- how many bytes the image has
abbrev pub image_bytes : Areas → ℕ
image_bytes a = a.image * 4096

-- where a half begins: the second one where `second` is true
abbrev pub half_at : Areas → (second : Bool) → ℕ
half_at a false = 4096
half_at a true = 4096 + half_bytes a

-- where the image begins
abbrev pub image_at : Areas → ℕ
image_at a = 4096 + half_bytes a + half_bytes a

-- how many bytes all of it takes
abbrev pub room_of : Areas → ℕ
room_of a = image_at a + image_bytes a

-- what a half holds
abbrev pub half_of : Areas → (second : Bool) → List ℕ → List ℕ
half_of a second bytes = part (half_at a second) (half_bytes a) bytes

-- what the image's place holds
abbrev pub home_of : Areas → List ℕ → List ℕ
home_of a bytes = part (image_at a) (image_bytes a) bytes

-- the device with these bytes at the begin of a half
abbrev pub with_half : Areas → (second : Bool) → (content bytes : List ℕ) → List ℕ
with_half a second content bytes = spliced bytes (half_at a second) content

-- the device with these bytes in the image's place
abbrev pub with_home : Areas → (image bytes : List ℕ) → List ℕ
with_home a image bytes = spliced bytes (image_at a) image
