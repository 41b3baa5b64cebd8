-- Which cells a round writes (this project's own).
use Rattle.std.specs.Prelude.{nat_lt, if◌then◌else◌, Bool, true, false, List, length}
use Rattle.std.specs.List.{filter}
use Rattle.store_round_image.specs.declared.cells.HomeValue.{HomeValue}
use Rattle.store_round_memory.specs.Rounds.{Rounds}
use Rattle.store_round_memory.specs.Surveys.{is_marked}

-- the value's field doesn't change again
abbrev pub stays_put : Rounds → HomeValue → Bool
stays_put m c = if nat_lt c.field.0 (length m.kept) then (if is_marked m.marks c.field.0 then false else true) else true

-- the values whose fields don't change again
abbrev pub settled_values : Rounds → List HomeValue → List HomeValue
settled_values m cells = filter (λ c. stays_put m c) cells
