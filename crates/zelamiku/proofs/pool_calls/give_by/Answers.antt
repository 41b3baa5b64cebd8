use Rattle.std.proofs.Common.{refl, subst, arith}
use Rattle.pool.specs.FreeList.{Place}
use Rattle.pool.specs.SectionCalls.{GivesSlot}
use Rattle.zelamiku.specs.PoolDoors.{Gives, GivesNone, GivesToNone}
use Rattle.zelamiku.proofs.Doors.{stays_put}
use Rattle.zelamiku.proofs.pool_calls.give_by.Goals as goal

pub returns-in_default : goal.returns-in_default
returns-in_default c = (c.args.session, refl, stays_put c.args.session, GivesToNone c.in_default.ensures refl refl)

pub returns-then-slot-slots : goal.returns-then-slot-slots
returns-then-slot-slots c = (c.args.session, refl, stays_put c.args.session, GivesNone c.in-Some.ensures.0 c.if-slot-slots.true refl refl)

pub returns : goal.returns
returns c =
    let s = c.args.session in
    let t = c.give_slot-session.result.0 in
    let answer = c.give_slot-session.result.1 in
    let fits = c.in-Some.ensures in
    let gave = c.give_slot-session.ensures in
    let below = c.if-slot-slots.false in (
      t,
      refl,
      gave.heap,
      Gives answer fits.0 (omega arith) (subst (λ (p : Place). GivesSlot s.home s.session t.session p c.args.slot answer) fits.1 gave.told) c.of_given.ensures,
    )
