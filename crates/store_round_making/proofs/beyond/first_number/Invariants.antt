use Rattle.std.proofs.Common.{◌≡◌, None, take}
use Rattle.heap_model.specs.Log.{log_from}
use Rattle.store_helper_sections.specs.HelperSections.{first_taken}
use Rattle.store_round_making.proofs.beyond.first_number.Given as goal

-- none of the records so far takes the object
abbrev pub invariant-loop-entry : goal.invariant-loop-entry
invariant-loop-entry l = record { none : first_taken l.object.0 (log_from (take l.entry-index l.beyond)) ≡ None }
