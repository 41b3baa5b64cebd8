use Rattle.std.proofs.Common.{ap}
use Rattle.host_journal.specs.Hosted.{Hosted}
use Rattle.zelamiku.specs.Handles.{journal_held}
use Rattle.zelamiku.proofs.JournalLemmas.{read_kept}
use Rattle.zelamiku.proofs.journal_calls.read.Goals as goal

pub returns-in-Journal-clause-told : goal.returns-in-Journal-clause-told
returns-in-Journal-clause-told c =
    rw c.in-Journal.is (c.read.result, c.read.ensures.read, c.of_call.ensures, ap (λ (h : Hosted). journal_held h) c.read.ensures.same)

pub returns-in-Journal-clause-kept : goal.returns-in-Journal-clause-kept
returns-in-Journal-clause-kept c = read_kept c.args.bytes.now c.read.new.out c.read.result c.of_call.result c.read.ensures.read.refused c.of_call.ensures
