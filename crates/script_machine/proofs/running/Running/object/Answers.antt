use Rattle.std.proofs.Common.{◌≡◌, ◌∙◌, ◌<◌, ℕ, true, false, None, Some, Ok, Err, sym, subst, slice_get}
use Rattle.guards.specs.Schema.{Declarations}
use Rattle.heap_model.specs.State.{Awake}
use Rattle.script_machine.specs.declared.answer.Refusal.TheVariants as why
use Rattle.script_machine.specs.Lookups.{LooksUp, object_of}
use Rattle.script_machine.specs.States.{Live}
use Rattle.script_monitors.specs.Table.{Table, lanes_of, state_of}
use Rattle.script_machine.proofs.PlanLemmas.{is_awake, no_lane, not_there, is_asleep, is_found}
use Rattle.script_machine.proofs.running.Running.object.Goals as goal

pub returns-then-not-has_lane-clause-named : goal.returns-then-not-has_lane-clause-named
returns-then-not-has_lane-clause-named c =
    let a : Table = c.self.inside.monitors in
    let t : ℕ = c.args.thread.0 in
    subst (λ (x : Live). LooksUp object_of x.monitors x.monitors.schema.objects c.args.name.now t (Err why.Lane)) c.self.view_is
    (no_lane object_of a a.schema.objects c.args.name.now t
    (λ in'. absurd (let yes : c.has_lane.result ≡ true = c.has_lane.ensures.1 in' in let no : c.has_lane.result ≡ false = c.if-not-has_lane.true in cc)))

pub returns-in_default-clause-named : goal.returns-in_default-clause-named
returns-in_default-clause-named c =
    let a : Table = c.self.inside.monitors in
    let t : ℕ = c.args.thread.0 in
    let in' : t < lanes_of a = c.has_lane.ensures.0 c.if-not-has_lane.false in
    subst (λ (x : Live). LooksUp object_of x.monitors x.monitors.schema.objects c.args.name.now t (Err why.Unknown)) c.self.view_is
    (not_there object_of a a.schema.objects c.args.name.now t in' (λ k here.
    let own : c.object_named.result ≡ Some (object_of k) = c.object_named.ensures.own k (subst (λ (s : Declarations). slice_get s.objects k ≡ Some c.args.name.now) (sym c.schema.ensures) here) in
    absurd (let none : c.object_named.result ≡ None = c.in_default.is in cc)))

pub returns-then-is_waiting-clause-named : goal.returns-then-is_waiting-clause-named
returns-then-is_waiting-clause-named c =
    let a : Table = c.self.inside.monitors in
    let t : ℕ = c.args.thread.0 in
    let in' : t < lanes_of a = c.has_lane.ensures.0 c.if-not-has_lane.false in
    let here = subst (λ (s : Declarations). slice_get s.objects c.in-Some.object.0 ≡ Some c.args.name.now) c.schema.ensures (rw c.in-Some.is at c.object_named.ensures.found) in
    subst (λ (x : Live). LooksUp object_of x.monitors x.monitors.schema.objects c.args.name.now t (Err why.Waiting)) c.self.view_is
    (is_asleep object_of a a.schema.objects c.args.name.now t in' c.in-Some.object.0 here (c.is_waiting.ensures.0 c.if-is_waiting.true))

pub returns-clause-named : goal.returns-clause-named
returns-clause-named c =
    let a : Table = c.self.inside.monitors in
    let t : ℕ = c.args.thread.0 in
    let in' : t < lanes_of a = c.has_lane.ensures.0 c.if-not-has_lane.false in
    let here = subst (λ (s : Declarations). slice_get s.objects c.in-Some.object.0 ≡ Some c.args.name.now) c.schema.ensures (rw c.in-Some.is at c.object_named.ensures.found) in
    let awake : (state_of a).waiting t ≡ Awake = is_awake ((state_of a).waiting t)
    (λ asleep. absurd (let yes : c.is_waiting.result ≡ true = c.is_waiting.ensures.1 asleep in let no : c.is_waiting.result ≡ false = c.if-is_waiting.false in cc)) in
    subst (λ (x : Live). LooksUp object_of x.monitors x.monitors.schema.objects c.args.name.now t (Ok c.in-Some.object)) c.self.view_is
    (is_found object_of a a.schema.objects c.args.name.now t in' c.in-Some.object.0 here c.in-Some.object awake (λ j there.
    let own : c.object_named.result ≡ Some (object_of j) = c.object_named.ensures.own j (subst (λ (s : Declarations). slice_get s.objects j ≡ Some c.args.name.now) (sym c.schema.ensures) there) in
    let both : Some c.in-Some.object ≡ Some (object_of j) = sym c.in-Some.is ∙ own in cc))
