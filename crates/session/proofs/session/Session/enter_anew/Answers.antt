use Rattle.std.proofs.Common.{◌+◌, ◌≤◌, Err, MatchResult, ap, ◌∙◌, subst}
use Rattle.heap_model.specs.declared.limits.TheConstants.{SECTION_RECORDS}
use Rattle.session.specs.Calls.{HasRing, EntersFirst}
use Rattle.session.specs.Sessions.{rooms_of, view_of, free_of}
use Rattle.session.proofs.Looks.{held_looks, more_looks, looks_hold, looks_count, finds_none_by}
use Rattle.session.proofs.Fattening.{at_once, waited}
use Rattle.session.proofs.Enters.{leaves_earlier}
use Rattle.session.proofs.Waits.{same_rooms}
use Rattle.session.proofs.session.Session.enter_anew.Goals as goal

pub enter_waiting-requires-clause-free : goal.enter_waiting-requires-clause-free
enter_waiting-requires-clause-free g c =
    let s = c.args.self.now in let t = c.enter_first.new.self in let e = c.enter_first.ensures in
    let is = c.in-Err-Held.is ∙ ap Err c.in-Err-Held.field-0-is in
    let looks = held_looks (rooms_of s) (view_of s) (view_of t) c.args.object c.in-Err-Held.field-0-0
    (subst (λ x. EntersFirst (rooms_of s) (view_of s) (view_of t) c.args.object x) is e.first) in
    finds_none_by (view_of t) t.parts.held.items c.args.object t.sits.stays.holds (looks_hold (view_of s) (view_of t) c.args.object c.args.object.0 looks ∙ c.requires.free.free)

pub returns-in-Ok-clause-first : goal.returns-in-Ok-clause-first
returns-in-Ok-clause-first g c = let e = c.in-Ok.ensures in at_once (rooms_of c.args.self.now) _ _ c.args.object _ e.first

pub returns-in-Err-clause-first : goal.returns-in-Err-clause-first
returns-in-Err-clause-first g c = let e = c.in-Err.ensures in at_once (rooms_of c.args.self.now) _ _ c.args.object _ e.first

pub returns-in-Err-Held-clause-first : goal.returns-in-Err-Held-clause-first
returns-in-Err-Held-clause-first g c =
    let s = c.args.self.now in let t = c.enter_first.new.self in let e = c.enter_first.ensures in let w = c.enter_waiting.ensures.first in
    let is = c.in-Err-Held.is ∙ ap Err c.in-Err-Held.field-0-is in
    let looks = held_looks (rooms_of s) (view_of s) (view_of t) c.args.object c.in-Err-Held.field-0-0
    (subst (λ x. EntersFirst (rooms_of s) (view_of s) (view_of t) c.args.object x) is e.first) in
    waited (rooms_of s) (view_of s) w.0 (view_of c.enter_waiting.new.self) c.args.object c.enter_waiting.result
    (more_looks (view_of s) (view_of t) w.0 c.args.object looks w.1)
    (subst (λ k. EntersFirst k w.0 (view_of c.enter_waiting.new.self) c.args.object c.enter_waiting.result) (same_rooms s.parts t.parts e.ring) w.2)
    c.enter_waiting.ensures.fat

pub returns-in-Err-Held-clause-ring_room : goal.returns-in-Err-Held-clause-ring_room
returns-in-Err-Held-clause-ring_room g c none =
    let s = c.args.self.now in let t = c.enter_first.new.self in let e = c.enter_first.ensures in
    let is = c.in-Err-Held.is ∙ ap Err c.in-Err-Held.field-0-is in
    let looks = held_looks (rooms_of s) (view_of s) (view_of t) c.args.object c.in-Err-Held.field-0-0
    (subst (λ x. EntersFirst (rooms_of s) (view_of s) (view_of t) c.args.object x) is e.first) in
    let u = c.enter_waiting.new.self in
    leaves_earlier (rooms_of s) SECTION_RECORDS (free_of u) (view_of s) (view_of t) (view_of u) c.enter_waiting.result looks.2.trimmed_looks
    (subst (λ k. MatchResult c.enter_waiting.result (λ _. SECTION_RECORDS ≤ free_of u + 1) (HasRing k SECTION_RECORDS (free_of u) (view_of t) (view_of u))) (same_rooms s.parts t.parts e.ring)
    (c.enter_waiting.ensures.ring_room (looks_count (view_of s) (view_of t) c.args.object looks ∙ none)))
