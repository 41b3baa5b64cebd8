-- The lines that tell what workers have done (docs/SCRIPTS.md, "Workers").
use Rattle.std.specs.Prelude.{ℕ, List, ◌++◌, codes}
use Rattle.thread_drive.specs.declared.driven.Driven.{Driven}
use Rattle.inspect.specs.Pieces.{list_line}

-- how many sections of each lane are acknowledged, and the values of the heap
abbrev pub driven_text : Driven → List ℕ
driven_text d = list_line (codes "acknowledged") d.acknowledged.items ++ list_line (codes "heap") d.heap.items
