use Rattle.std.proofs.Common.{◌≡◌, ◌≤◌, take}
use Rattle.heap_model.specs.Log.{lane, log_from}
use Rattle.heap_model.specs.Sections.{actions, holding, ended}
use Rattle.law_cuts.specs.Plain.{numbers}
use Rattle.law_cuts.proofs.numbering.ended_sections.Given as goal

abbrev pub invariant-loop-entry : goal.invariant-loop-entry
invariant-loop-entry l = record {
  held : numbers l.held.items ≡ holding (lane l.of.0 (actions (log_from (take l.entry-index l.records))));
  count : l.sections ≡ ended (lane l.of.0 (actions (log_from (take l.entry-index l.records))));
  bound : l.sections ≤ l.entry-index;
}
