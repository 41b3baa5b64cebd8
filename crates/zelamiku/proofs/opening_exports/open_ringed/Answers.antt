use Rattle.std.proofs.Common.{ℕ, refl, subst}
use Rattle.zelamiku.specs.Ended.{still_held}
use Rattle.zelamiku.specs.OpeningDoors.{PutsNew}
use Rattle.zelamiku.specs.ReportDoors.{OpensAt, TellsNothing}
use Rattle.zelamiku.proofs.opening_exports.open_ringed.Goals as goal

pub returns-in-Some : goal.returns-in-Some
returns-in-Some c = record {
  put = λ size.
      subst (λ (n : ℕ). PutsNew (OpensAt c.args.threads n c.args.versions c.args.image.now c.open_at.new.told c.open_at.new.dropped) (TellsNothing c.open_at.new.told c.open_at.new.dropped) (still_held c.args.place.now.handle.state) c.open_at.new.place.handle.state c.open_at.result)
      c.in-Some.ensures.0
      c.open_at.ensures;
  refused = λ no. absurd (no c.in-Some.ensures.1);
}

pub returns-in-None : goal.returns-in-None
returns-in-None c = record {
  put = λ size. absurd (c.in-None.ensures size);
  refused = λ no. record { told = refl; kept = refl; nothing = record { told_is = c.nothing.ensures; none = c.tell_dropped.ensures } };
}
