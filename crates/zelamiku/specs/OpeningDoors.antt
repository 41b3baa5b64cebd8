-- How C's calls that make or open a heap put it into a handle (this project's own).
use Rattle.std.specs.Prelude.{ℕ, ◌≡◌, Some, None}
use Rattle.thread_rings.specs.Rings.{IsRingSize}
use Rattle.zelamiku.specs.Ended.{still_held}
use Rattle.zelamiku.specs.Own.{Held}
use Rattle.zelamiku.specs.declared.status.TheConstants.{OPEN, RING}

-- A call that puts something new into a handle. A handle that is in use keeps what it has, and `untold` says what C is told of a heap then.
abbrev pub PutsNew : (call : (after : Held) → (status : ℕ) → Type 0) (untold : Type 0) (before after : Held) (status : ℕ) → Type 0
PutsNew call untold None after status = call after status
PutsNew call untold (Some there) after status = untold × (after ≡ Some there) × (status ≡ OPEN)

-- The room of the rings is refused.
pub record RefusesRing (untold : Type 0) (before after : Held) (status : ℕ) : Type 0 where
  -- `RING` is answered, before all else, where rings are to have room for fewer than 4,096 records, or for more than 65,536.
  pub told : status ≡ RING
  -- After `RING` the handle has what it had, also what is left of a session that has ended.
  pub kept : after ≡ before
  pub nothing : untold

-- A call that puts a heap with rings of this room into a handle.
pub record PutsHeap (ring : ℕ) (call : (after : Held) → (status : ℕ) → Type 0) (untold : Type 0) (before after : Held) (status : ℕ) : Type 0 where
  pub put : IsRingSize ring → PutsNew call untold (still_held before) after status
  pub refused : (¬ IsRingSize ring) → RefusesRing untold before after status
