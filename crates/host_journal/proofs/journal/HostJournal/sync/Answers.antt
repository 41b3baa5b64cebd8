use Rattle.std.proofs.Common.{◌∙◌, List, Ok, Err, refl, sym, subst}
use Rattle.block_disk.specs.Memory.{Stop}
use Rattle.host_journal.specs.Calls.{HasSynced}
use Rattle.host_journal.specs.Gathered.{IsHosted, view_of}
use Rattle.host_journal.specs.Hosted.{Hosted}
use Rattle.host_journal.proofs.Answering.{sync_failed, sync_made, sync_untaken}
use Rattle.host_journal.proofs.Hosting.{hosted_kept, hosted_synced, none_kept}
use Rattle.host_journal.proofs.journal.HostJournal.sync.Goals as goal

pub invariant_of-self : goal.invariant_of-self
invariant_of-self c =
    let h = c.self.inside in
    hosted_kept h.parts c.gather.new.parts h.trace.past h.marks.past.stops c.gather.ensures.gathers.keeps c.self.invariant

pub turn-requires : goal.turn-requires
turn-requires c =
    let h = c.self.inside in
    (hosted_kept h.parts c.gather.new.parts h.trace.past h.marks.past.stops c.gather.ensures.gathers.keeps c.self.invariant).gathers.counted

pub invariant_of-self-then-not-turn : goal.invariant_of-self-then-not-turn
invariant_of-self-then-not-turn c =
    let h = c.self.inside in
    let g = c.gather.new.parts in
    hosted_kept g c.turn.new.parts h.trace.past h.marks.past.stops c.turn.ensures.turns.keeps
    (hosted_kept h.parts g h.trace.past h.marks.past.stops c.gather.ensures.gathers.keeps c.self.invariant)

pub invariant_of-self-2 : goal.invariant_of-self-2
invariant_of-self-2 c =
    let h = c.self.inside in
    let g = c.gather.new.parts in
    let t = c.turn.new.parts in
    let kept = hosted_kept h.parts g h.trace.past h.marks.past.stops c.gather.ensures.gathers.keeps c.self.invariant in
    let none = (λ i. (c.turn.ensures.turns.group i).items) ∙ (c.if-not-gather.ensures.none refl).0 in
    subst (λ (stops : List Stop). IsHosted t c.sync.new.self.past stops) (λ i. (sym c.sync-2.ensures i).stops)
    (hosted_synced t h.trace.past c.sync.new.self.past h.marks.past.stops none (c.if-not-turn.ensures.taken refl) c.sync.ensures
    (hosted_kept g t h.trace.past h.marks.past.stops c.turn.ensures.turns.keeps kept))

pub returns-then-not-gather : goal.returns-then-not-gather
returns-then-not-gather c =
    let h = c.self.inside in
    let g = c.gather.new.parts in
    subst (λ (v : Hosted). HasSynced v (view_of g h.trace.past h.marks.past.stops h.calls) (Err (record {}))) c.self.view_is
    (sync_untaken h.parts g h.trace.past h.marks.past.stops h.calls (record {}) c.self.invariant c.gather.ensures.gathers)

pub returns-then-not-turn : goal.returns-then-not-turn
returns-then-not-turn c =
    let h = c.self.inside in
    let g = c.gather.new.parts in
    let t = c.turn.new.parts in
    subst (λ (v : Hosted). HasSynced v (view_of t h.trace.past h.marks.past.stops h.calls) (Err (record {}))) c.self.view_is
    (sync_failed h.parts g t h.trace.past h.marks.past.stops h.calls (record {}) c.self.invariant c.gather.ensures.gathers (c.if-not-gather.ensures.none refl).0
    c.turn.ensures.turns (c.if-not-turn.ensures.turns_err refl))

pub returns : goal.returns
returns c =
    let h = c.self.inside in
    let g = c.gather.new.parts in
    let t = c.turn.new.parts in
    let e = c.if-not-turn.ensures in
    let none = (c.if-not-gather.ensures.none refl).0 in
    let kept = hosted_kept h.parts g h.trace.past h.marks.past.stops c.gather.ensures.gathers.keeps c.self.invariant in
    subst (λ (v : Hosted). HasSynced v (view_of t c.sync.new.self.past c.sync-2.new.self.past.stops h.calls) (Ok tt)) c.self.view_is
    (sync_made h.parts g t h.trace.past c.sync.new.self.past h.marks.past.stops c.sync-2.new.self.past.stops h.calls c.self.invariant c.gather.ensures.gathers none
    c.turn.ensures.turns ((λ i. (c.turn.ensures.turns.group i).items) ∙ none) (c.if-not-turn.ensures.taken refl) (none_kept g t kept.gathers.counted none (c.if-not-turn.ensures.words refl)) c.sync.ensures
    (λ i. (c.sync-2.ensures i).stops) (c.if-not-turn.ensures.one_sync refl) (c.if-not-turn.ensures.count refl))
