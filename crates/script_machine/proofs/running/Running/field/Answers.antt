use Rattle.std.proofs.Common.{◌≡◌, ◌∙◌, ◌<◌, ℕ, true, false, None, Some, Ok, Err, sym, subst, slice_get}
use Rattle.guards.specs.Schema.{Declarations, names_of}
use Rattle.heap_model.specs.State.{Awake}
use Rattle.script_machine.specs.declared.answer.Refusal.TheVariants as why
use Rattle.script_machine.specs.Lookups.{LooksUp, field_of}
use Rattle.script_machine.specs.States.{Live}
use Rattle.script_monitors.specs.Table.{Table, lanes_of, state_of}
use Rattle.script_machine.proofs.PlanLemmas.{is_awake, no_lane, not_there, is_asleep, is_found}
use Rattle.script_machine.proofs.running.Running.field.Goals as goal

pub returns-then-not-has_lane-clause-named : goal.returns-then-not-has_lane-clause-named
returns-then-not-has_lane-clause-named c =
    let a : Table = c.self.inside.monitors in
    let t : ℕ = c.args.thread.0 in
    subst (λ (x : Live). LooksUp field_of x.monitors (names_of x.monitors.schema.fields) c.args.name.now t (Err why.Lane)) c.self.view_is
    (no_lane field_of a (names_of a.schema.fields) c.args.name.now t
    (λ in'. absurd (let yes : c.has_lane.result ≡ true = c.has_lane.ensures.1 in' in let no : c.has_lane.result ≡ false = c.if-not-has_lane.true in cc)))

pub returns-in_default-clause-named : goal.returns-in_default-clause-named
returns-in_default-clause-named c =
    let a : Table = c.self.inside.monitors in
    let t : ℕ = c.args.thread.0 in
    let in' : t < lanes_of a = c.has_lane.ensures.0 c.if-not-has_lane.false in
    subst (λ (x : Live). LooksUp field_of x.monitors (names_of x.monitors.schema.fields) c.args.name.now t (Err why.Unknown)) c.self.view_is
    (not_there field_of a (names_of a.schema.fields) c.args.name.now t in' (λ k here.
    let own : c.field_named.result ≡ Some (field_of k) = c.field_named.ensures.own k (subst (λ (s : Declarations). slice_get (names_of s.fields) k ≡ Some c.args.name.now) (sym c.schema.ensures) here) in
    absurd (let none : c.field_named.result ≡ None = c.in_default.is in cc)))

pub returns-then-is_waiting-clause-named : goal.returns-then-is_waiting-clause-named
returns-then-is_waiting-clause-named c =
    let a : Table = c.self.inside.monitors in
    let t : ℕ = c.args.thread.0 in
    let in' : t < lanes_of a = c.has_lane.ensures.0 c.if-not-has_lane.false in
    let here = subst (λ (s : Declarations). slice_get (names_of s.fields) c.in-Some.field.0 ≡ Some c.args.name.now) c.schema.ensures (rw c.in-Some.is at c.field_named.ensures.found) in
    subst (λ (x : Live). LooksUp field_of x.monitors (names_of x.monitors.schema.fields) c.args.name.now t (Err why.Waiting)) c.self.view_is
    (is_asleep field_of a (names_of a.schema.fields) c.args.name.now t in' c.in-Some.field.0 here (c.is_waiting.ensures.0 c.if-is_waiting.true))

pub returns-clause-named : goal.returns-clause-named
returns-clause-named c =
    let a : Table = c.self.inside.monitors in
    let t : ℕ = c.args.thread.0 in
    let in' : t < lanes_of a = c.has_lane.ensures.0 c.if-not-has_lane.false in
    let here = subst (λ (s : Declarations). slice_get (names_of s.fields) c.in-Some.field.0 ≡ Some c.args.name.now) c.schema.ensures (rw c.in-Some.is at c.field_named.ensures.found) in
    let awake : (state_of a).waiting t ≡ Awake = is_awake ((state_of a).waiting t)
    (λ asleep. absurd (let yes : c.is_waiting.result ≡ true = c.is_waiting.ensures.1 asleep in let no : c.is_waiting.result ≡ false = c.if-is_waiting.false in cc)) in
    subst (λ (x : Live). LooksUp field_of x.monitors (names_of x.monitors.schema.fields) c.args.name.now t (Ok c.in-Some.field)) c.self.view_is
    (is_found field_of a (names_of a.schema.fields) c.args.name.now t in' c.in-Some.field.0 here c.in-Some.field awake (λ j there.
    let own : c.field_named.result ≡ Some (field_of j) = c.field_named.ensures.own j (subst (λ (s : Declarations). slice_get (names_of s.fields) j ≡ Some c.args.name.now) (sym c.schema.ensures) there) in
    let both : Some c.in-Some.field ≡ Some (field_of j) = sym c.in-Some.is ∙ own in cc))
