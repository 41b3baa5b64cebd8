-- What a handle owns: the box of what is open, or nothing.
use base.Fml.{Fml, ftrue}
use denote.RawPtr.{Ptr}
use Rattle.std.specs.Prelude.{Option, Some, None}
use Rattle.std.specs.Box.Ownership.{box_owns}
use Rattle.std.specs.Global.{Global}
use Rattle.std_heap.specs.contracts.GlobalAllocator.TheImpl.{ghosts}
use Rattle.zelamiku.specs.contracts.state.Inner.{the_row}

abbrev pub Held : Type 0
Held = Option the_row.Denot

abbrev pub handle_owns : Global → Ptr → Held → Fml
handle_owns alloc p (Some s) = box_owns (ghosts.dealloc_token alloc) the_row p s
handle_owns alloc p None = ftrue
