use Rattle.std.proofs.Common.{refl, subst}
use Rattle.pool.specs.FreeList.{Place}
use Rattle.pool.specs.SectionCalls.{TakesSlot}
use Rattle.zelamiku.specs.PoolDoors.{Takes, TakesOfNone}
use Rattle.zelamiku.proofs.Doors.{stays_put}
use Rattle.zelamiku.proofs.pool_calls.take_by.Goals as goal

pub returns-in_default-clause-told : goal.returns-in_default-clause-told
returns-in_default-clause-told c = (c.args.session, refl, stays_put c.args.session, TakesOfNone c.in_default.ensures refl refl refl)

pub returns-clause-told : goal.returns-clause-told
returns-clause-told c =
    let s = c.args.session in
    let t = c.take_slot-session.result.0 in
    let answer = c.take_slot-session.result.1 in
    let fits = c.in-Some.ensures in
    let took = c.take_slot-session.ensures in
    let given = c.slot_given-slot.ensures in (
      t,
      refl,
      took.heap,
      Takes answer fits.0 (subst (λ (p : Place). TakesSlot s.home s.session t.session p answer) fits.1 took.told) given.slot given.status,
    )
