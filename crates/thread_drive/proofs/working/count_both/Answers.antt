use Rattle.std.proofs.Common.{ℕ, ◌+◌, [], ◌∷◌, refl, sym, ap, arith}
use Rattle.session.specs.Sessions.{capacity_of, view_of}
use Rattle.thread_drive.specs.Working.{MayTake, StopsAt}
use Rattle.thread_drive.proofs.Holding.{other_lock, weaker}
use Rattle.thread_drive.proofs.Refusing.{count_stops, enter_stops, refused_as}
use Rattle.thread_drive.proofs.working.count_both.Goals as goal

-- the object for all is another than the worker's own
not_all : (worker : ℕ) → MayTake ((worker + 1) ∷ []) 2 0
not_all worker = record { other = other_lock (worker + 1) 0 (λ same. absurd (omega (arith, same))); few = omega arith; room = omega arith }

pub returns-in-Err-clause-held : goal.returns-in-Err-clause-held
returns-in-Err-clause-held g c =
    let own = (c.args.worker + 1) ∷ [] in
    let seen = view_of c.count.new.thread in
    weaker seen.plan seen.events own 2 5 (omega arith) (c.count.ensures.held own 1 (omega arith) c.requires.held)

pub returns-in-Err-clause-refused : goal.returns-in-Err-clause-refused
returns-in-Err-clause-refused g c =
    count_stops g.J.Joint.home (c.args.worker + 1) (capacity_of c.args.thread.now) _ (c.args.worker + 1) [] c.in-Err.refusal (ap (λ (n : ℕ). n + 1) (sym c.from.ensures)) (let same = c.from.ensures in omega (arith, same)) (c.in-Err.ensures.refused ((c.args.worker + 1) ∷ []) 1 (omega arith) c.requires.held)

pub returns-in-Err-take-clause-held : goal.returns-in-Err-take-clause-held
returns-in-Err-take-clause-held g c =
    let own = (c.args.worker + 1) ∷ [] in
    let seen = view_of c.take.new.thread in
    let counted = c.count.ensures.held own 1 (omega arith) c.requires.held in
    weaker seen.plan seen.events own 2 5 (omega arith) (c.in-Err-take.ensures.taken own 2 (not_all c.args.worker) counted).1

pub returns-in-Err-take-clause-refused : goal.returns-in-Err-take-clause-refused
returns-in-Err-take-clause-refused g c =
    let own = (c.args.worker + 1) ∷ [] in
    let counted = c.count.ensures.held own 1 (omega arith) c.requires.held in
    enter_stops g.J.Joint.home (c.args.worker + 1) (capacity_of c.count.new.thread) (capacity_of c.args.thread.now) _ c.in-Err-take.refusal c.count.ensures.ring.1 (omega arith) (c.in-Err-take.ensures.taken own 2 (not_all c.args.worker) counted).0

pub leave-requires-clause-object : goal.leave-requires-clause-object
leave-requires-clause-object g c =
    let own = (c.args.worker + 1) ∷ [] in
    let counted = c.count.ensures.held own 1 (omega arith) c.requires.held in
    (c.in_default-take.ensures.taken own 2 (not_all c.args.worker) counted).0

pub leave-requires-clause-held : goal.leave-requires-clause-held
leave-requires-clause-held g c =
    let own = (c.args.worker + 1) ∷ [] in
    let counted = c.count.ensures.held own 1 (omega arith) c.requires.held in
    let both = (c.in_default-take.ensures.taken own 2 (not_all c.args.worker) counted).1 in
    (own, 4, c.count-counted.ensures.held (0 ∷ own) 3 (omega arith) both)

pub returns-clause-held : goal.returns-clause-held
returns-clause-held g c =
    let own = (c.args.worker + 1) ∷ [] in
    let counted = c.count.ensures.held own 1 (omega arith) c.requires.held in
    let both = (c.in_default-take.ensures.taken own 2 (not_all c.args.worker) counted).1 in
    c.leave.ensures.held own 4 (not_all c.args.worker).other (c.count-counted.ensures.held (0 ∷ own) 3 (omega arith) both)

pub returns-clause-refused : goal.returns-clause-refused
returns-clause-refused g c =
    let h = g.J.Joint.home in
    let own = (c.args.worker + 1) ∷ [] in
    let counted = c.count.ensures.held own 1 (omega arith) c.requires.held in
    let both = (c.in_default-take.ensures.taken own 2 (not_all c.args.worker) counted).1 in
    refused_as c.leave.result c.count-counted.result _ (StopsAt h (c.args.worker + 1) (capacity_of c.args.thread.now)) c.leave.ensures.same
    (λ e refused. count_stops h (c.args.worker + 1) (capacity_of c.args.thread.now) _ 0 own e refl (omega arith) refused) (c.count-counted.ensures.refused (0 ∷ own) 3 (omega arith) both)
