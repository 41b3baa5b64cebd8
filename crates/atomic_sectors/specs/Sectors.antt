-- Sectors of which a crash leaves each as one of the writes since the last sync left it, or as it was at that sync (NVMe's atomic write unit).
use Rattle.std.specs.Prelude.{◌≡◌, ℕ, ◌*◌, ◌==◌, if◌then◌else◌, List, [], ◌∷◌, length, All, Any}
use Rattle.block_disk.specs.Bytes.{part}
use Rattle.block_disk.specs.Device.{Moment}

-- what a sector holds: 512 bytes; sectors are numbered from 0
abbrev pub sector : ℕ → List ℕ → List ℕ
sector i bytes = part (i * 512) 512 bytes

-- as many bytes as one of these contents has, and in each sector what one of them has there
pub record IsMix (contents : List (List ℕ)) (image : List ℕ) : Type 0 where
  pub size : Any (λ content. length image ≡ length content) contents
  pub each : (i : ℕ) → Any (λ content. sector i image ≡ sector i content) contents

-- what has read at these moments, the latest first, back to the last sync that succeeded
abbrev pub contents_since : List Moment → List (List ℕ)
contents_since [] = []
contents_since (m ∷ before) = m.bytes ∷ (if length m.pending == 0 then [] else contents_since before)

-- what holds of contents holds of whatever their sectors mix to
abbrev pub IsMixable : (List ℕ → Type 0) → Type 0
IsMixable P = (contents : List (List ℕ)) (image : List ℕ) → All P contents → IsMix contents image → P image
