use Rattle.std.proofs.Common.{◌≡◌, ℕ, refl, subst}
use Rattle.zelamiku.specs.Ended.{still_held}
use Rattle.zelamiku.specs.HeapDoors.{FormatsAt}
use Rattle.zelamiku.specs.OpeningDoors.{PutsNew}
use Rattle.zelamiku.proofs.opening_exports.zelamiku_format.Goals as goal

pub returns-in-Some : goal.returns-in-Some
returns-in-Some c = record {
  put = λ size.
      subst (λ (n : ℕ). PutsNew (FormatsAt c.args.threads n c.args.objects c.args.fields.now c.args.lanes c.args.capacity c.format_at.new.size) (c.format_at.new.size ≡ 0) (still_held c.args.place.now.handle.state) c.format_at.new.place.handle.state c.format_at.result)
      c.in-Some.ensures.0
      c.format_at.ensures;
  refused = λ no. absurd (no c.in-Some.ensures.1);
}

pub returns-in-None : goal.returns-in-None
returns-in-None c = record {
  put = λ size. absurd (c.in-None.ensures size);
  refused = λ no. record { told = refl; kept = refl; nothing = refl };
}
