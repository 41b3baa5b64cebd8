use Rattle.std.proofs.Common.{[], ◌≡◌, sym, subst, arith}
use Rattle.trim_helper.specs.Endings.{parts_of}
use Rattle.trim_helper.specs.Helping.{IsHelper, taken_in}
use Rattle.trim_helper.specs.Leaving.{HasLeft, HaveSeats, ReadNoMore}
use Rattle.trim_helper.specs.Parts.{IsServing}
use Rattle.trim_helper.proofs.LeavingLemmas.{have_seats}
use Rattle.trim_helper.proofs.Rounds.{parts_from}
use Rattle.trim_helper.proofs.leaving.leave.Goals as goal

pub end_sharing-requires-clause-helper : goal.end_sharing-requires-clause-helper
end_sharing-requires-clause-helper g c = subst (λ v. IsHelper c.args.shared v.seat) (sym c.helper.view_is) c.requires.helper

pub end_sharing-requires-clause-seats : goal.end_sharing-requires-clause-seats
end_sharing-requires-clause-seats g c =
    let x = c.args.helper in
    have_seats c.args.shared x.store.known.layout.capacity x.rings c.args.ended.items c.requires.ended

pub end_sharing-requires-clause-nothing : goal.end_sharing-requires-clause-nothing
end_sharing-requires-clause-nothing g c = subst (λ v. taken_in v.seat ≡ []) (sym c.helper.view_is) c.requires.nothing

pub returns-clause-history : goal.returns-clause-history
returns-clause-history g c = subst (λ v. HasLeft c.args.shared.plan (parts_of c.args.ended.items) v.seat) c.helper.view_is c.end_sharing.ensures.history

pub returns-clause-read : goal.returns-clause-read
returns-clause-read g c = λ s p serving.
    let inside = c.helper.inside in
    let x = parts_from inside.store inside.rings.items inside.waiting inside.is_settled inside.seat in
    let has = subst (λ v. IsServing g.D.Disk.device v s p) (sym c.helper.view_is) serving in
    subst (λ v. ReadNoMore (parts_of c.args.ended.items) v.store.known.threads p) c.helper.view_is
    (λ k among lt. let read = c.end_sharing.ensures.read k among in let most = has.counts k.lane lt in omega (arith, read, most))
