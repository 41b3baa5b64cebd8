-- Where the sections of a lane began.
use Rattle.std.specs.Prelude.{ℕ, ◌≡◌, ◌+◌, ◌<◌, ◌≤◌, List, [], ◌∷◌, length}
use Rattle.std.specs.Coded.{×_prop, →_prop, Unit-prop, le_prop}
use Rattle.std.proofs.Props.{props}
use Rattle.heap_model.specs.declared.limits.TheConstants.{SECTION_RECORDS, LAST_PLACE}
use Rattle.heap_model.specs.Sections.{Action, holding}
use Rattle.heap_model.specs.Limits.{IsWithinLimits}

-- after these a whole section fits below the bound, and isn't at the last place
abbrev pub FitsBelow : (bound : ℕ) → List Action → Type 0
FitsBelow bound older = (length older + SECTION_RECORDS ≤ bound) × (length older < LAST_PLACE)

-- each section began where a whole one fits below the bound, and no section begins at the last place
abbrev pub BeganBelow : (bound : ℕ) → List Action → Type 0
BeganBelow bound [] = Unit {0}
BeganBelow bound (a ∷ older) = BeganBelow bound older × (length (holding older) ≡ 0 → FitsBelow bound older)

-- these facts have one proof each
pub IsWithinLimits-prop : (actions : List Action) → IsProp (IsWithinLimits actions)
IsWithinLimits-prop [] = Unit-prop
IsWithinLimits-prop (a ∷ older) = ×_prop (IsWithinLimits-prop older) le_prop

pub BeganBelow-prop : (bound : ℕ) (actions : List Action) → IsProp (BeganBelow bound actions)
BeganBelow-prop bound [] = Unit-prop
BeganBelow-prop bound (a ∷ older) = ×_prop (BeganBelow-prop bound older) (→_prop (×_prop le_prop le_prop))

-- the set for `by` after a ghost field of this crate
pub ruleset kept_props = (props, IsWithinLimits-prop, BeganBelow-prop)
