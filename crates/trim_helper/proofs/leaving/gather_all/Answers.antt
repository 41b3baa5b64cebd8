use Rattle.std.proofs.Common.{◌≡◌, ◌∷◌, ◌++◌, List, refl, sym, ap, ◌∙◌, subst}
use Rattle.trim_helper.specs.Helping.{taken_in}
use Rattle.trim_helper.specs.Endings.{parts_of}
use Rattle.trim_helper.specs.Leaving.{HaveSeats}
use Rattle.trim_helper.specs.Serving.{Part}
use Rattle.trim_helper.proofs.Gathering.{parts_last}
use Rattle.trim_helper.proofs.LeavingLemmas.{seats_last}
use Rattle.trim_helper.proofs.Seeing.{sight_refl, sight_then}
use Rattle.trim_helper.proofs.leaving.gather_all.Goals as goal

pub ends-init : goal.ends-init
ends-init c = record { seats = c.requires.seats; helper = c.requires.helper; count = λ k. refl; sight = sight_refl c.args.seat.now; parts = refl }

pub gather-requires-clause-seat : goal.gather-requires-clause-seat
gather-requires-clause-seat c =
    (seats_last c.args.shared.now c.pop.new.self.items c.in-Some.one (subst (HaveSeats c.args.shared.now) c.in-Some.ensures.items c.ends.invariant.seats)).1

pub ends-preserved : goal.ends-preserved
ends-preserved c =
    let both = seats_last c.args.shared.now c.pop.new.self.items c.in-Some.one (subst (HaveSeats c.args.shared.now) c.in-Some.ensures.items c.ends.invariant.seats) in
    let rest = c.pop.new.self.items in
    let before : List Part = taken_in c.ends.seat in
    record {
      seats = both.0;
      helper = c.gather.ensures.helper;
      count = λ k. c.gather.ensures.count k ∙ c.ends.invariant.count k;
      sight = sight_then _ _ _ c.ends.invariant.sight c.gather.ensures.sight;
      parts = ap (λ (xs : List Part). parts_of rest ++ xs) c.gather.ensures.gathered ∙ sym (parts_last rest c.in-Some.one before)
          ∙ ap (λ es. parts_of es ++ before) (sym c.in-Some.ensures.items) ∙ c.ends.invariant.parts;
    }
