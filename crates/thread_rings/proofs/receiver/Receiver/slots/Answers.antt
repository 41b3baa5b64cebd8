use Rattle.std.proofs.Common.{List, ap, refl, subst}
use Rattle.thread_rings.specs.declared.sent.Sent.{Sent}
use Rattle.thread_rings.specs.Following.{greeted}
use Rattle.thread_rings.specs.Rings.{Receiving, ReceiverLooked, behind}
use Rattle.thread_rings.proofs.Greetings.{records_prefix}
use Rattle.thread_rings.proofs.receiver.Receiver.slots.Goals as goal

pub returns-clause-looked : goal.returns-clause-looked
returns-clause-looked c = let l = c.slots.ensures.looked in
    subst (λ (z : Receiving). ReceiverLooked z (record { ring = c.slots.new.self; told = c.self.inside.told })) c.self.view_is (l.0, ap (λ (xs : List Sent). behind xs) l.1, records_prefix _ _ l.2, ap (λ (xs : List Sent). greeted xs) l.1, refl)
