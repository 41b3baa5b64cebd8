-- The word of a monitor that was inflated: the bits that spell it, and what the owner does to it
-- (this project's own).
use Rattle.std.specs.Prelude.{ℕ, ◌+◌, ◌-◌, ◌*◌, ◌^◌, ◌<◌}
use Rattle.lock_word.specs.declared.fat_word.FatShape.{FatShape}
use Rattle.lock_word.specs.declared.fat_word.FatShape.TheVariants.{Free, Held}

-- bits 24 to 63 are the release number, 8 to 23 the owner's locks less one and 0 to 7 its thread;
-- a free word has zeros in both
abbrev pub bits_of : FatShape → ℕ
bits_of (Free number) = number * 2 ^ 24
bits_of (Held thread again number) = number * 2 ^ 24 + again * 2 ^ 8 + thread

-- what a fat word may say: each part has room, and a held lock has an owner
abbrev pub HasWord : FatShape → Type 0
HasWord (Free number) = number < 2 ^ 40
HasWord (Held thread again number) = (0 < thread) × (thread < 2 ^ 8) × (again < 2 ^ 16) × (number < 2 ^ 40)

-- a held lock whose count has room for one lock more
abbrev pub CanNest : FatShape → Type 0
CanNest (Free number) = ⊥
CanNest (Held thread again number) = again + 1 < 2 ^ 16

-- a lock that its owner has locked more than once
abbrev pub CanUnnest : FatShape → Type 0
CanUnnest (Free number) = ⊥
CanUnnest (Held thread again number) = 0 < again

-- a held lock whose number isn't the last one
abbrev pub CanRelease : FatShape → Type 0
CanRelease (Free number) = ⊥
CanRelease (Held thread again number) = number + 1 < 2 ^ 40

-- one lock more by the owner
abbrev pub nested : FatShape → FatShape
nested (Free number) = Free number
nested (Held thread again number) = Held thread (again + 1) number

-- one lock less
abbrev pub unnested : FatShape → FatShape
unnested (Free number) = Free number
unnested (Held thread again number) = Held thread (again - 1) number

-- the owner gives the monitor up, which so has become free once more
abbrev pub released : FatShape → FatShape
released (Free number) = Free number
released (Held thread again number) = Free (number + 1)
