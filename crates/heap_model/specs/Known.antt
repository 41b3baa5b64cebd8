-- What a thread knows of a field's value by its own events, the newest first (this project's own).
use Rattle.std.specs.Prelude.{ℕ, ◌==◌, if◌then◌else◌, List, [], ◌∷◌, Option, Some, None}
use Rattle.heap_model.specs.declared.event.Event.{Event}
use Rattle.heap_model.specs.declared.event.Event.TheVariants.{Enter, NestedEnter, NestedExit, Exit, Load, Store, Wait, Resume, Notify, NotifyAll, Look}
use Rattle.heap_model.specs.Setting.{Setting}

-- the value that the thread loaded or stored last since it took the field's guard. While it holds that, nested locks and
-- events of other objects and fields change nothing
abbrev pub known_value : Setting → List Event → (field : ℕ) → Option ℕ
known_value g [] f = None
known_value g (Enter o n ∷ older) f = if o.0 == g.guard f then None else known_value g older f
known_value g (NestedEnter o ∷ older) f = known_value g older f
known_value g (NestedExit o ∷ older) f = known_value g older f
known_value g (Exit o n ∷ older) f = if o.0 == g.guard f then None else known_value g older f
known_value g (Load h v ∷ older) f = if h.0 == f then Some v else known_value g older f
known_value g (Store h before after ∷ older) f = if h.0 == f then Some after else known_value g older f
known_value g (Wait o n ∷ older) f = if o.0 == g.guard f then None else known_value g older f
known_value g (Resume o n ∷ older) f = if o.0 == g.guard f then None else known_value g older f
known_value g (Notify o woken ∷ older) f = known_value g older f
known_value g (NotifyAll o woken ∷ older) f = known_value g older f
known_value g (Look o sight ∷ older) f = known_value g older f
