-- What is known of an image at a path (this project's own).
use Rattle.std.specs.Prelude.{◌≡◌, ◌≤◌, ◌⊎◌, ◌++◌, List, [], ℕ, Option, IfSome, length}
use Rattle.block_disk.specs.Device.{Image, Moment}
use Rattle.image_parts.specs.Header.{HasHeader, IsFormatted}
use Rattle.image_parts.specs.Layout.{size_of}
use Rattle.image_parts.specs.declared.layout.Layout.{Layout}
use Rattle.image_file.specs.declared.error.FileFault.{FileFault}
use Rattle.image_file.specs.declared.error.FileFault.TheVariants as files

-- this image is there, where it is known which one is
abbrev pub IsThere : List ℕ → Option (List ℕ) → Type 0
IsThere image held = IfSome held (λ there. there ≡ image)

-- an image begins with these bytes, and a study of it needs no others: they are all, or they have a header, and as many as it says
pub record BeginsWith (bytes image : List ℕ) : Type 0 where
  pub rest : List ℕ
  pub whole : image ≡ bytes ++ rest
  pub head : (rest ≡ []) ⊎ (64 ≤ length bytes)
  pub all : (l : Layout) → HasHeader image l → (rest ≡ []) ⊎ (size_of l ≤ length bytes)

-- the image that is there begins so, where it is known which one is
abbrev pub BeginsThere : List ℕ → Option (List ℕ) → Type 0
BeginsThere bytes held = IfSome held (BeginsWith bytes)

-- the image that is there may be refused so: as none only where it doesn't begin with an image's name and an open gate
abbrev pub MayNotBeHad : FileFault → Option (List ℕ) → Type 0
MayNotBeHad files.NotImage held = IfSome held (λ image. IsFormatted image → ⊥)
MayNotBeHad _ held = Unit {0}

-- what is there is what a crash may leave of a disk at this moment
abbrev pub IsLeft : Moment → Option (List ℕ) → Type 0
IsLeft m held = IfSome held (λ there. Image m there)

-- the image that was there is there still
abbrev pub Stays : (had has : Option (List ℕ)) → Type 0
Stays had has = IfSome had (λ was. IfSome has (λ there. there ≡ was))

-- what was known to be at a path, and what is now, stand in this relation
abbrev pub AtPath : {P : Type 0} (relation : Option (List ℕ) → Option (List ℕ) → Type 0) (holds : P → List ℕ → Option (List ℕ)) (old new : P)
    (path : List ℕ) → Type 0
AtPath relation holds old new path = relation (holds old path) (holds new path)
