use Rattle.std.proofs.Common.{ℕ, ◌≡◌, List, ◌++◌, take}
use Rattle.heap_model.specs.declared.record.Record.{Record as AnyRecord}
use Rattle.heap_model.specs.Setting.{Setting}
use Rattle.heap_model.specs.Log.{log_from}
use Rattle.store_memory.specs.Sections.{TellsSections, MayBeLogged}
use Rattle.store_memory.proofs.sections.LoggedSections.push_all.Given as goal

-- the records so far are known
abbrev pub invariant-loop-entry : goal.invariant-loop-entry
invariant-loop-entry l = record {
  tells : (s : Setting) (base : ℕ → ℕ) (log : List (ℕ × AnyRecord)) → MayBeLogged s l.fn.self base log (log_from l.records) → TellsSections l.self base (log_from (take l.entry-index l.records) ++ log);
  lanes : l.self.lanes ≡ l.fn.self.lanes;
  capacity : l.self.capacity ≡ l.fn.self.capacity;
}
