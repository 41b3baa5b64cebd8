-- What the parts of a call answer.
use Rattle.std.specs.Prelude.{ℕ, ◌≡◌, ◌+◌, ◌<◌, ◌≤◌}
use Rattle.heap_model.specs.declared.limits.TheConstants.{SECTION_RECORDS}
use Rattle.heap_model.specs.declared.ids.ObjectId.{ObjectId}
use Rattle.heap_model.specs.Own.{Hold}
use Rattle.lock_word.specs.declared.lock_word.TheConstants.{FAT_SLOTS}
use Rattle.thread_steps.specs.Views.{View, Misses}
use Rattle.session.specs.declared.error.SessionError.{SessionError}
use Rattle.session.specs.declared.error.SessionError.TheVariants.{Behind, SectionFull, NoFat, Worn}
use Rattle.session.specs.declared.error.Still.{Still}
use Rattle.session.specs.declared.error.Still.TheVariants as still
use Rattle.session.specs.Logs.{Rooms, held_count}
use Rattle.session.specs.Calls.{IsBehind, IsFatSeen, IsFull, IsThin, MayBeFat, IsWaitWorn}

-- why there is no room for a wait
abbrev pub RefusesRoom : Rooms → View → View → SessionError → Type 0
RefusesRoom c v w Behind = (held_count v ≡ 1) × IsBehind c (SECTION_RECORDS + 1) w
RefusesRoom c v w SectionFull = (1 < held_count v) × IsFull v 2
RefusesRoom c v w _ = ⊥

-- why a wait for which there is room is refused
abbrev pub RefusesFat : View → View → ObjectId → Hold → SessionError → Type 0
RefusesFat v w o h NoFat = IsThin v o × (FAT_SLOTS ≤ w.slots)
RefusesFat v w o h Worn = MayBeFat w o × IsWaitWorn v h
RefusesFat v w o h _ = ⊥

-- a try to resume that missed: it found the word of the slot
abbrev pub MissesResume : View → View → ObjectId → (number : ℕ) → Still → Type 0
MissesResume v w o n still.InSet = ⊥
MissesResume v w o n (still.Held x) = IsFatSeen x × Misses v w o n x
