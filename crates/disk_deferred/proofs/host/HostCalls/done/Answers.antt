use Rattle.std.proofs.Common.{◌≡◌, ◌∷◌, ◌++◌, refl, sym, ◌∙◌, ap, subst, List, length, drop, true, Option, Some, None, option_to_list, is_some, arith}
use Rattle.disk_deferred.specs.Deferred.{stop_of}
use Rattle.disk_deferred.specs.Handing.{AreLeft}
use Rattle.disk_deferred.specs.Host.{Host, made_of, IsInOrder}
use Rattle.disk_deferred.specs.declared.call.DeviceCall.{DeviceCall}
use Rattle.rtrb.specs.Ring.{received}
use Rattle.disk_deferred.proofs.Onto.{made_more, order_popped}
use Rattle.disk_deferred.proofs.Short.{left_behind}
use Rattle.disk_deferred.proofs.host.HostCalls.done.Goals as goal

-- what is left behind the first of them, if there is one
left_after : (o : Option DeviceCall) (old new : List DeviceCall) → old ≡ option_to_list o ++ new → AreLeft old → AreLeft new
left_after None old new items left = subst AreLeft items left
left_after (Some call) old new items left = left_behind call new (subst AreLeft items left)

pub invariant_of-self : goal.invariant_of-self
invariant_of-self c = record {
  order = order_popped (received c.self.inside.ring) c.pop_front.result c.self.inside.left.items c.pop_front.new.self.items c.pop_front.ensures.items c.self.invariant.order;
  to_sync = left_after c.pop_front.result c.self.inside.left.items c.pop_front.new.self.items c.pop_front.ensures.items c.self.invariant.to_sync;
  begun = c.self.invariant.begun;
}

-- there was one
some : (o : Option DeviceCall) (call : DeviceCall) (later rest : List DeviceCall) → call ∷ later ≡ option_to_list o ++ rest → rest ≡ later → is_some o ≡ true
some None call later rest is same = absurd (let n : length (call ∷ later) ≡ length rest = ap length is in let m : length rest ≡ length later = ap length same in omega (arith, n, m))
some (Some x) call later rest is same = refl

pub returns-clause-one : goal.returns-clause-one
returns-clause-one c = λ call later is.
    let handed = received c.self.inside.ring in
    let was : c.self.inside.left.items ≡ call ∷ later = ap (λ (h : Host). h.left) c.self.view_is ∙ is in
    let rest : c.pop_front.new.self.items ≡ later = c.pop_front.ensures.rest ∙ ap (drop 1) was in
    let order = subst (IsInOrder handed) was c.self.invariant.order in (
      c.is_some.ensures ∙ some c.pop_front.result call later c.pop_front.new.self.items (sym was ∙ c.pop_front.ensures.items) rest,
      rest,
      ap (made_of handed) rest ∙ made_more handed call later order ∙ ap (λ (l : List DeviceCall). stop_of call ∷ made_of handed l) (sym was)
          ∙ ap (λ (h : Host). stop_of call ∷ h.made) c.self.view_is,
    )
