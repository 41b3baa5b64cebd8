use Rattle.std.proofs.Common.{◌≤◌, sym, subst}
use Rattle.std.proofs.lemmas.Bool.{false≢true}
use Rattle.journal_batches.specs.declared.areas.Areas.{Areas}
use Rattle.journal_batches.specs.Spelled.{pages_for}
use Rattle.host_journal.proofs.Turning.{gathers_none, gathers_turn, turned_on}
use Rattle.host_journal.proofs.taking.make_room.Goals as goal

pub returns-then-fits-clause-gathers : goal.returns-then-fits-clause-gathers
returns-then-fits-clause-gathers c = gathers_none c.args.parts.now

pub returns-clause-gathers : goal.returns-clause-gathers
returns-clause-gathers c =
    let g = c.args.parts.now in
    gathers_turn g c.turn.new.parts
    (λ fits. false≢true (c.if-fits.ensures.1 (subst (λ (a : Areas). pages_for g.words ≤ a.half) (sym c.areas.ensures) fits))) c.turn.ensures.turns

pub returns-clause-takes_on : goal.returns-clause-takes_on
returns-clause-takes_on c = λ done heap base is. turned_on heap base c.turn.new.parts (c.turn.ensures.turns.keeps heap base is) (c.turn.ensures.taken done)
