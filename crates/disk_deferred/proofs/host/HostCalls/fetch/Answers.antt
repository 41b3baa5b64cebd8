use Rattle.std.proofs.Common.{◌≡◌, inr, [], ◌∷◌, refl, sym, ◌∙◌, ap, subst, length, arith, List}
use Rattle.std.proofs.lemmas.Bool.{eqb-true}
use Rattle.disk_deferred.specs.Deferred.{onto, stops_in}
use Rattle.disk_deferred.specs.Handing.{AreToSync}
use Rattle.disk_deferred.specs.Host.{Host, made_of}
use Rattle.disk_deferred.specs.declared.call.DeviceCall.{DeviceCall}
use Rattle.rtrb.specs.Ring.{received, known_items}
use Rattle.disk_deferred.proofs.Onto.{made_fetched, order_fetched}
use Rattle.disk_deferred.proofs.host.HostCalls.fetch.Goals as goal

-- a list of no elements
empty : (xs : List DeviceCall) → length xs ≡ 0 → xs ≡ []
empty [] is = refl
empty (x ∷ xs) is = absurd (omega (arith, is))

pub invariant_of-self : goal.invariant_of-self
invariant_of-self c =
    let is : stops_in (received c.next_batch.new.ring) ≡ onto (stops_in (received c.self.inside.ring)) c.from.result.items =
    c.in-Some.ensures.taken ∙ ap (onto (stops_in (received c.self.inside.ring))) (sym c.from.ensures.0) in
    record { order = order_fetched (received c.self.inside.ring) (received c.next_batch.new.ring) c.from.result.items is; to_sync = inr (subst AreToSync (sym c.from.ensures.0) c.in-Some.ensures.some); begun = c.next_batch.ensures.begun }

pub returns-in-Some-clause-fetches : goal.returns-in-Some-clause-fetches
returns-in-Some-clause-fetches c =
    let ring = received c.self.inside.ring in
    let calls : c.from.result.items ≡ c.in-Some.calls.items = c.from.ensures.0 in
    let is : stops_in (received c.next_batch.new.ring) ≡ onto (stops_in ring) c.from.result.items = c.in-Some.ensures.taken ∙ ap (onto (stops_in ring)) (sym calls) in
    let none : c.self.inside.left.items ≡ [] = empty c.self.inside.left.items (sym c.self.inside.left.ok.0 ∙ eqb-true c.self.inside.left.len 0 (sym c.is_empty.ensures ∙ c.if-not-is_empty.false)) in
    record {
      made = made_fetched ring (received c.next_batch.new.ring) c.from.result.items is ∙ ap (made_of ring) (sym none) ∙ ap (λ (h : Host). h.made) c.self.view_is;
      left = λ some. absurd (some (ap (λ (h : Host). h.left) (sym c.self.view_is) ∙ none));
      takes = λ next more was known. calls ∙ c.in-Some.ensures.known next more (ap (λ (h : Host). known_items h.ring) c.self.view_is ∙ known);
      empty = λ gone. absurd (subst AreToSync (sym calls ∙ gone) c.in-Some.ensures.some);
    }
