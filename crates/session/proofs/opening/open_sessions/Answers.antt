use Rattle.std.proofs.Common.{List, [], ◌∷◌, ◌++◌, append_assoc, append-nil, sym, ap, ◌∙◌, subst, All}
use Rattle.std.proofs.lemmas.List.Elements.{All-nil, All-cons}
use Rattle.monitor.specs.Seats.{Sitting}
use Rattle.session.specs.Sessions.{IsSessionOf, seat_of}
use Rattle.session.specs.Logs.{rooms}
use Rattle.session.specs.Opened.{AreFresh, AreOpened, IsOpened}
use Rattle.session.proofs.Owning.{seat_same}
use Rattle.session.proofs.Seating.{given_fresh, fresh_last}
use Rattle.session.proofs.opening.open_sessions.Goals as goal

pub seats-init : goal.seats-init
seats-init c = let k = rooms c.args.ring c.args.capacity in record {
  fresh = given_fresh c.args.shared.now c.args.seats.items c.requires.fresh.0 c.requires.heap c.requires.fresh.1;
  heap = subst (All (IsSessionOf c.args.shared.now)) (sym c.new-sessions.ensures.items) (All-nil (IsSessionOf c.args.shared.now));
  opened = (
    [],
    append-nil c.args.seats.items,
    subst (λ cs. AreOpened k [] c.new-sessions.result.items cs) (sym c.new-receivers.ensures.items) (subst (λ xs. AreOpened k [] xs []) (sym c.new-sessions.ensures.items) tt),
  );
}

pub open-requires-clause-fresh : goal.open-requires-clause-fresh
open-requires-clause-fresh c = let f = (fresh_last c.args.shared.now c.pop.new.self.items c.in-Some.seat (subst (AreFresh c.args.shared.now) c.in-Some.ensures.items c.seats.invariant.fresh)).1 in (f.none, f.clear)

pub open-requires-clause-heap : goal.open-requires-clause-heap
open-requires-clause-heap c = let f = (fresh_last c.args.shared.now c.pop.new.self.items c.in-Some.seat (subst (AreFresh c.args.shared.now) c.in-Some.ensures.items c.seats.invariant.fresh)).1 in (f.seat.0, f.seat.2)

pub seats-preserved : goal.seats-preserved
seats-preserved c = let s = c.in-Some.seat in let left = c.pop.new.self.items in let i = c.seats.invariant.opened in let k = rooms c.args.ring c.args.capacity in let e = c.in_ok-session.ensures in
    let last = fresh_last c.args.shared.now left s (subst (AreFresh c.args.shared.now) c.in-Some.ensures.items c.seats.invariant.fresh) in
    record {
      fresh = last.0;
      heap = subst (All (IsSessionOf c.args.shared.now)) (sym c.in_ok-insert.ensures.items) (All-cons (IsSessionOf c.args.shared.now) _ _ (seat_same s (seat_of c.in_ok-session.session) e.seat.0 e.seat.1 c.args.shared.now last.1.seat) c.seats.invariant.heap);
      opened = (
        s ∷ i.0,
        sym (append_assoc left (s ∷ []) i.0) ∙ ap (λ (xs : List Sitting). xs ++ i.0) (sym c.in-Some.ensures.items) ∙ i.1,
        subst (λ cs. AreOpened k (s ∷ i.0) c.insert.new.self.items cs) (sym c.in_ok-insert-2.ensures.items) (subst (λ xs. AreOpened k (s ∷ i.0) xs (c.in_ok-session.receiver ∷ c.seats.receivers.items)) (sym c.in_ok-insert.ensures.items)
            (subst (λ n. IsOpened (rooms n c.args.capacity) s c.in_ok-session.session c.in_ok-session.receiver) c.get.ensures.number e, i.2)),
      );
    }
