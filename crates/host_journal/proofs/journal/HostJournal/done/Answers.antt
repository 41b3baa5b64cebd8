use Rattle.std.proofs.Common.{subst}
use Rattle.disk_deferred.specs.Host.{MakesFirst}
use Rattle.host_journal.specs.Hosted.{Hosted}
use Rattle.host_journal.proofs.journal.HostJournal.done.Goals as goal

pub returns-clause-one : goal.returns-clause-one
returns-clause-one c = subst (λ (h : Hosted). MakesFirst h.calls c.done.new.self c.done.result) c.self.view_is c.done.ensures.one
