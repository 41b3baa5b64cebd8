-- What a handle lends (this project's own).
use Rattle.std.specs.Borrow.{Fml, Lends, MutBor}
use Rattle.std.specs.Prelude.{Some}
use Rattle.zelamiku.specs.contracts.handle.Handle.{the_row as handle_row}
use Rattle.zelamiku.specs.contracts.state.Inner.{the_row as inner_row}
use Rattle.zelamiku.specs.declared.handle.Handle.{Handle}
use Rattle.zelamiku.specs.declared.state.Inner.{Inner}

-- the handle, with this in it
abbrev pub with_state : Handle → Inner → Handle
with_state h there = record h { state = Some there }

-- once the borrow ends, the handle has what was left there last
abbrev pub LendsState : MutBor Handle → MutBor Inner → Fml
LendsState h r = Lends handle_row inner_row h r (with_state h.now)
