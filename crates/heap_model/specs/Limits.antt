-- How many records a section may have (this project's own).
use Rattle.std.specs.Prelude.{◌+◌, ◌≤◌, List, [], ◌∷◌, length}
use Rattle.heap_model.specs.declared.limits.TheConstants.{SECTION_RECORDS}
use Rattle.heap_model.specs.Sections.{Action, holding, open_section}

-- no section of the lane passes the limit: its records with the one that comes next, and the releases that it then still needs
abbrev pub IsWithinLimits : List Action → Type 0
IsWithinLimits [] = Unit {0}
IsWithinLimits (a ∷ older) = IsWithinLimits older × (length (open_section older) + 1 + length (holding (a ∷ older)) ≤ SECTION_RECORDS)
