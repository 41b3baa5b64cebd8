-- What a handle keeps of a session that has ended (this project's own).
use Rattle.std.specs.Prelude.{Bool, true, false, if◌then◌else◌, Some, None}
use Rattle.zelamiku.specs.Own.{Held}
use Rattle.zelamiku.specs.declared.state.Open.{Open}
use Rattle.zelamiku.specs.declared.state.Open.TheVariants as kind

-- a session has ended there
abbrev pub is_ended : Open → Bool
is_ended (kind.Ended back) = true
is_ended other = false

-- What a handle has when something is to be opened there: what is left of a session that has ended is let go first.
abbrev pub still_held : Held → Held
still_held None = None
still_held (Some there) = if is_ended there.«open» then None else Some there
