use Rattle.std.proofs.Common.{◌≡◌, [], subst}
use Rattle.std.specs.Prelude.{MatchOption}
use Rattle.disk_deferred.specs.Host.{IsFirst}
use Rattle.host_journal.specs.Hosted.{Hosted}
use Rattle.host_journal.proofs.journal.HostJournal.next_call.Goals as goal

pub returns-clause-first : goal.returns-clause-first
returns-clause-first c =
    subst (λ (h : Hosted). MatchOption c.next_call.result (h.calls.left ≡ []) (λ call. IsFirst call.now h.calls.left)) c.self.view_is c.next_call.ensures.first
