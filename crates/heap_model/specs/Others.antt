-- What one thread's step leaves to another.
use Rattle.std.specs.Prelude.{ℕ, ◌≡◌, ◌↔◌, Some}
use Rattle.heap_model.specs.Setting.{Setting}
use Rattle.heap_model.specs.State.{State, IsWoken}
use Rattle.heap_model.specs.Own.{hold_of, pause_of}

-- The thread owns what it owned, by as many locks and at the same numbers, and nothing more. It waits as it did, and once it
-- was removed from a wait set that stays so. The fields whose guards it owns have their values.
pub record Keeps (g : Setting) (thread : ℕ) (before after : State) : Type 0 where
  pub owned : (o : ℕ) → (before.owner o ≡ Some thread) ↔ (after.owner o ≡ Some thread)
  pub held : (o : ℕ) → hold_of after thread o ≡ hold_of before thread o
  pub paused : pause_of (after.waiting thread) ≡ pause_of (before.waiting thread)
  pub woken : (o : ℕ) → IsWoken o (before.waiting thread) → IsWoken o (after.waiting thread)
  pub values : (f : ℕ) → before.owner (g.guard f) ≡ Some thread → after.value f ≡ before.value f
