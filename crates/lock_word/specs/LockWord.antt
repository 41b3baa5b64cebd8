-- An object's lock word: the bits that spell it, and what the owner does to it.
-- (Thin Locks, PLDI 1998, section 2; the layout is this project's own.)
use Rattle.std.specs.Prelude.{ℕ, ◌+◌, ◌-◌, ◌*◌, ◌^◌, ◌<◌}
use Rattle.lock_word.specs.declared.lock_word.Shape.{Shape}
use Rattle.lock_word.specs.declared.lock_word.Shape.TheVariants.{Free, Thin, Fat}

-- bits 24 to 63 are the release number, and bit 23 tells a fat word; of a thin word bits 8 to 22
-- are the thread and 0 to 7 its locks less one, and a free word has zeros there; of a fat word
-- bits 0 to 22 are the slot
abbrev pub bits_of : Shape → ℕ
bits_of (Free number) = number * 2 ^ 24
bits_of (Thin thread again number) = number * 2 ^ 24 + thread * 2 ^ 8 + again
bits_of (Fat index number) = number * 2 ^ 24 + 2 ^ 23 + index

-- what a lock word may say: each part has room, a thin lock has an owner, and a slot is one of 1,024
abbrev pub HasWord : Shape → Type 0
HasWord (Free number) = number < 2 ^ 40
HasWord (Thin thread again number) = (0 < thread) × (thread < 2 ^ 15) × (again < 2 ^ 8) × (number < 2 ^ 40)
HasWord (Fat index number) = (index < 2 ^ 10) × (number < 2 ^ 40)

-- a thin lock whose count has room for one lock more
abbrev pub CanNest : Shape → Type 0
CanNest (Free number) = ⊥
CanNest (Thin thread again number) = again + 1 < 2 ^ 8
CanNest (Fat index number) = ⊥

-- a thin lock that its owner has locked more than once
abbrev pub CanUnnest : Shape → Type 0
CanUnnest (Free number) = ⊥
CanUnnest (Thin thread again number) = 0 < again
CanUnnest (Fat index number) = ⊥

-- a thin lock whose number isn't the last one
abbrev pub CanRelease : Shape → Type 0
CanRelease (Free number) = ⊥
CanRelease (Thin thread again number) = number + 1 < 2 ^ 40
CanRelease (Fat index number) = ⊥

-- one lock more by the owner
abbrev pub nested : Shape → Shape
nested (Free number) = Free number
nested (Thin thread again number) = Thin thread (again + 1) number
nested (Fat index number) = Fat index number

-- one lock less
abbrev pub unnested : Shape → Shape
unnested (Free number) = Free number
unnested (Thin thread again number) = Thin thread (again - 1) number
unnested (Fat index number) = Fat index number

-- the owner gives the monitor up, which so has become free once more
abbrev pub released : Shape → Shape
released (Free number) = Free number
released (Thin thread again number) = Free (number + 1)
released (Fat index number) = Fat index number
