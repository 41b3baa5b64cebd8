use Rattle.std.proofs.Common.{Result, sym, subst}
use Rattle.heapctl_commands.specs.Obeying.{PlaysScript}
use Rattle.heapctl_commands.specs.declared.fault.WorkFault.{WorkFault}
use Rattle.heapctl_commands.proofs.ObeyLemmas.{played}
use Rattle.heapctl_commands.proofs.obeying.play_in_memory.Goals as goal

pub returns-then-is_strict : goal.returns-then-is_strict
returns-then-is_strict g c = rw c.if-is_strict.true (c.run_strictly.result, c.on_strict.ensures, c.run_strictly.ensures)

pub returns-else-is_strict : goal.returns-else-is_strict
returns-else-is_strict g c =
    let read = g.S.Read.remaining c.args.reader.now in
    let unread = g.S.Read.remaining c.run_script.new.reader in
    let written = g.W.Write.contents c.args.writer.now in
    let now = g.W.Write.contents c.run_script.new.writer in
    rw c.if-is_strict.false (subst (λ (r : Result (Unit {0}) WorkFault). PlaysScript r read unread written now) (sym c.on_script.ensures) (played c.run_script.result read unread written now c.run_script.ensures))
