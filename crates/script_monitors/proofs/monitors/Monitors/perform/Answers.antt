use Rattle.std.proofs.Common.{ℕ, ◌+◌, ◌-◌, ◌∙◌, sym, ap, arith, subst}
use Rattle.script_monitors.specs.declared.monitor.Monitor.TheVariants.{Free}
use Rattle.script_monitors.specs.Monitor.{owner_in, count_in, number_in}
use Rattle.heap_model.specs.declared.event.Event.TheVariants.{Wait}
use Rattle.script_monitors.specs.Table.{IsWhole, IsAfter}
use Rattle.script_monitors.proofs.EventLemmas.{after-Enter, after-NestedEnter, after-NestedExit, after-Exit, after-Store}
use Rattle.script_monitors.proofs.monitors.Monitors.perform.Goals as goal

pub set_monitor-requires-clause-rise : goal.set_monitor-requires-clause-rise
set_monitor-requires-clause-rise c =
    let allowed = rw c.in-Enter.is at c.requires.allowed in
    let whole : IsWhole c.args.self.now = subst IsWhole c.self.view_is c.self.invariant in
    let bound = whole.bound in
    c.taken-taken.ensures.rise (omega (arith, allowed.3))

pub returns-in-Enter-clause-ok : goal.returns-in-Enter-clause-ok
returns-in-Enter-clause-ok c =
    let allowed = rw c.in-Enter.is at c.requires.allowed in
    let whole : IsWhole c.args.self.now = subst IsWhole c.self.view_is c.self.invariant in
    rw c.in-Enter.is (after-Enter c.args.self.now c.set_monitor.new.self c.args.thread.0 whole c.in-Enter.object c.taken-taken.result (rw c.in-Enter.is at c.requires.kind) c.set_monitor.ensures
    c.in-Enter.number c.taken-taken.ensures.owner c.taken-taken.ensures.count (c.taken-taken.ensures.number ∙ sym allowed.2))

pub returns-in_ok-nested-in-NestedEnter-clause-ok :
    goal.returns-in_ok-nested-in-NestedEnter-clause-ok
returns-in_ok-nested-in-NestedEnter-clause-ok c =
    let whole : IsWhole c.args.self.now = subst IsWhole c.self.view_is c.self.invariant in
    let found = c.monitor.ensures.monitor in
    let nested = c.in_ok-nested-in-NestedEnter.ensures in
    rw c.in-NestedEnter.is (after-NestedEnter c.args.self.now c.set_monitor-in-NestedEnter.new.self c.args.thread.0 whole c.in-NestedEnter.object c.in_ok-nested-in-NestedEnter.nested
    (rw c.in-NestedEnter.is at c.requires.kind) c.set_monitor-in-NestedEnter.ensures
    (nested.owner ∙ ap owner_in found) (nested.count ∙ ap (λ m. count_in m + 1) found) (nested.number ∙ ap number_in found))

pub returns-in-NestedExit-clause-ok : goal.returns-in-NestedExit-clause-ok
returns-in-NestedExit-clause-ok c =
    let whole : IsWhole c.args.self.now = subst IsWhole c.self.view_is c.self.invariant in
    let found = c.monitor-in-NestedExit.ensures.monitor in
    let unnested = c.unnested-unnested.ensures in
    rw c.in-NestedExit.is (after-NestedExit c.args.self.now c.set_monitor-in-NestedExit.new.self c.args.thread.0 whole c.in-NestedExit.object c.unnested-unnested.result
    (rw c.in-NestedExit.is at c.requires.kind) c.set_monitor-in-NestedExit.ensures
    (unnested.owner ∙ ap owner_in found) (unnested.count ∙ ap (λ m. count_in m - 1) found) (unnested.number ∙ ap number_in found))

pub returns-in-Exit-clause-ok : goal.returns-in-Exit-clause-ok
returns-in-Exit-clause-ok c =
    let whole : IsWhole c.args.self.now = subst IsWhole c.self.view_is c.self.invariant in
    let allowed = rw c.in-Exit.is at c.requires.allowed in
    rw c.in-Exit.is (after-Exit c.args.self.now c.set_monitor-in-Exit.new.self c.args.thread.0 whole c.in-Exit.object c.freed-freed.result
    (rw c.in-Exit.is at c.requires.kind) c.set_monitor-in-Exit.ensures
    c.in-Exit.number (c.freed-freed.ensures ∙ ap (λ m. Free (number_in m + 1)) c.monitor-in-Exit.ensures.monitor ∙ ap (λ n. Free (n + 1)) allowed.3))

pub returns-in-Store-clause-ok : goal.returns-in-Store-clause-ok
returns-in-Store-clause-ok c =
    let whole : IsWhole c.args.self.now = subst IsWhole c.self.view_is c.self.invariant in
    rw c.in-Store.is (after-Store c.args.self.now c.set_value.new.self c.args.thread.0 whole c.in-Store.field c.in-Store.before c.in-Store.after (rw c.in-Store.is at c.requires.kind) c.set_value.ensures)

pub returns-in-Wait-clause-ok : goal.returns-in-Wait-clause-ok
returns-in-Wait-clause-ok c =
    let allowed = rw c.in-Wait.is at c.requires.allowed in
    rw c.in-Wait.is (subst (λ (n : ℕ). IsAfter c.args.self.now c.args.thread.0 (Wait c.in-Wait.object n) c.go_waiting.new.self) allowed.2 c.go_waiting.ensures)
