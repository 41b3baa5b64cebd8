-- What an answer says.
use Rattle.std.specs.Prelude.{ℕ, List, Option, Some, None}
use Rattle.heap_model.specs.declared.ids.Lane.{Lane}
use Rattle.script_machine.specs.declared.answer.Answer.{Answer}
use Rattle.script_machine.specs.declared.answer.Answer.TheVariants.{Acknowledged, Heap, Woke}

-- the values that it tells, if it tells a heap
abbrev pub heap_in : Answer → Option (List ℕ)
heap_in (Heap values) = Some values.items
heap_in _ = None

-- the counts by lane, if it tells what is acknowledged
abbrev pub acknowledged_in : Answer → Option (List ℕ)
acknowledged_in (Acknowledged sections) = Some sections.items
acknowledged_in _ = None

-- the threads that were woken, if it tells so
abbrev pub woken_in : Answer → Option (List Lane)
woken_in (Woke lanes) = Some lanes.items
woken_in _ = None
