use Rattle.std.proofs.Common.{◌≡◌, All, ap, subst, sym, arith}
use Rattle.image_parts.specs.declared.layout.Layout.{Layout}
use Rattle.thread_heap.specs.Joined.{IsJoined}
use Rattle.thread_heap_tests.proofs.heap.begin.Goals as goal

pub open-requires-clause-schema : goal.open-requires-clause-schema
open-requires-clause-schema g c = record {
  objects = ap (λ l. l.objects) c.in-Ok.ensures.layout;
  fields = ap (λ l. l.fields) c.in-Ok.ensures.layout;
  guarded = λ f d lt. ap (λ r. r.guard.0) (c.in-Ok.ensures.guards f d lt);
  marked = λ f d lt. ap (λ r. r.transient) (c.in-Ok.ensures.guards f d lt);
}

pub open-requires-clause-within : goal.open-requires-clause-within
open-requires-clause-within g c =
    let lanes : c.in-Ok.made.layout.lanes ≡ c.args.lanes = ap (λ l. l.lanes) c.in-Ok.ensures.layout in
    let within = c.requires.within in
    omega (arith, lanes, within)

pub open-requires-clause-most : goal.open-requires-clause-most
open-requires-clause-most g c =
    let lanes : c.in-Ok.made.layout.lanes ≡ c.args.lanes = ap (λ l. l.lanes) c.in-Ok.ensures.layout in
    let most = c.requires.most in
    omega (arith, lanes, most)

pub returns-clause-joined : goal.returns-clause-joined
returns-clause-joined g c =
    let o = c.in-Ok-open.heap in
    subst (λ (l : Layout). All (IsJoined o.shared l.capacity o.helper.rings) o.sessions.items) (sym c.in-Ok-open.ensures.opened.layout) c.in-Ok-open.ensures.opened.joined

pub returns-clause-helping : goal.returns-clause-helping
returns-clause-helping g c = c.in-Ok-open.ensures.opened.helping
