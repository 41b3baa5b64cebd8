use Rattle.std.proofs.Common.{false, inl, inr, arith, replicate}
use Rattle.std.proofs.lemmas.Bool.{cases_lt}
use Rattle.std.proofs.lemmas.List.{get_or-replicate, get_or_past, length-replicate}
use Rattle.recover_logs.proofs.ReplayLemmas.{zeros}
use Rattle.recover_logs.proofs.walk.nothing_met.Goals as goal

pub returns-clause-places : goal.returns-clause-places
returns-clause-places c = λ l. zeros 32 l

pub returns-clause-late : goal.returns-clause-late
returns-clause-late c = λ o.
    elim (cases_lt o 4096) [
      | inl lt ↦ get_or-replicate 4096 o false false lt
      | inr le ↦ get_or_past (replicate 4096 false) o false (omega (arith, length-replicate 4096 false))
    ]
