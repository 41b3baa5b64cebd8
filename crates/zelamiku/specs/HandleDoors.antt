-- C's calls, by the places where C keeps their handles, before and after (this project's own).
use Rattle.std.specs.Prelude.{ℕ, ◌≡◌, List}
use Rattle.recover.specs.declared.versions.Versions.{Versions}
use Rattle.zelamiku.specs.Handles.{Answers}
use Rattle.zelamiku.specs.Ended.{still_held}
use Rattle.zelamiku.specs.HeapDoors.{FormatsAt, HandsOut}
use Rattle.zelamiku.specs.OpeningDoors.{PutsHeap, PutsNew}
use Rattle.zelamiku.specs.Own.{Held}
use Rattle.zelamiku.specs.ReportDoors.{OpensAt, TellsNothing}
use Rattle.zelamiku.specs.declared.slot.Slot.{Slot}
use Rattle.zelamiku.specs.declared.state.Open.{Open}
use Rattle.zelamiku.specs.declared.words.Dropped.{Dropped}
use Rattle.zelamiku.specs.declared.words.Field.{Field}
use Rattle.zelamiku.specs.declared.words.Told.{Told}

-- a call of what the handle has
abbrev pub ByHandle : (call : (before after : Held) (status : ℕ) → Type 0) → (old new : Slot) (status : ℕ) → Type 0
ByHandle call old new status = call old.handle.state new.handle.state status

-- a call that is answered `NOTHING` where the handle has nothing
abbrev pub AnswersBy : (p : Open → (after : Held) → (status : ℕ) → Type 0) → (old new : Slot) (status : ℕ) → Type 0
AnswersBy p = ByHandle (Answers p)

-- `zelamiku_session`: the session's handle before and after, and the heap's
abbrev pub HandsOutBy : (was is old new : Slot) (status : ℕ) → Type 0
HandsOutBy was is = ByHandle (HandsOut (still_held was.handle.state) is.handle.state)

-- `zelamiku_format`
abbrev pub Makes : (objects : ℕ) (fields : List Field) (lanes capacity threads ring size : ℕ) → (old new : Slot) (status : ℕ) → Type 0
Makes objects fields lanes capacity threads ring size = ByHandle (PutsHeap ring (FormatsAt threads ring objects fields lanes capacity size) (size ≡ 0))

-- the same, where a ring can have this room
abbrev pub MakesNew : (objects : ℕ) (fields : List Field) (lanes capacity threads ring size : ℕ) → (old new : Slot) (status : ℕ) → Type 0
MakesNew objects fields lanes capacity threads ring size old new status =
    PutsNew (FormatsAt threads ring objects fields lanes capacity size) (size ≡ 0) (still_held old.handle.state) new.handle.state status

-- `zelamiku_open` of the current version, and `zelamiku_upgrade` of both
abbrev pub Opens : (versions : Versions) (bytes : List ℕ) (threads ring : ℕ) (told : Told) (dropped : List Dropped) → (old new : Slot) (status : ℕ) → Type 0
Opens versions bytes threads ring told dropped = ByHandle (PutsHeap ring (OpensAt threads ring versions bytes told dropped) (TellsNothing told dropped))

-- the same, where a ring can have this room
abbrev pub OpensNew : (versions : Versions) (bytes : List ℕ) (threads ring : ℕ) (told : Told) (dropped : List Dropped) → (old new : Slot) (status : ℕ) → Type 0
OpensNew versions bytes threads ring told dropped old new status =
    PutsNew (OpensAt threads ring versions bytes told dropped) (TellsNothing told dropped) (still_held old.handle.state) new.handle.state status
