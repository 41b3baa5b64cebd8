use Rattle.std.proofs.Common.{refl, ◌∙◌}
use Rattle.disk_journal.specs.declared.error.JournalError.TheVariants.{NoMemory}
use Rattle.zelamiku.specs.JournalDoors.{IsNewJournal, NoJournalMade}
use Rattle.zelamiku.proofs.Emptiness.{nothing_still}
use Rattle.zelamiku.proofs.journal_exports.zelamiku_journal_create.Goals as goal

pub returns-in_default : goal.returns-in_default
returns-in_default c =
    let none = nothing_still c.args.place.now.handle.state c.is_taken.new.place.handle.state c.is_taken.ensures.still c.if-is_taken.ensures.told in
    rw none (NoJournalMade NoMemory tt (c.in_default.ensures.err ∙ c.is_taken.ensures.still ∙ none) refl)

pub returns-in-Ok-put_new : goal.returns-in-Ok-put_new
returns-in-Ok-put_new c =
    let none = nothing_still c.args.place.now.handle.state c.is_taken.new.place.handle.state c.is_taken.ensures.still c.if-is_taken.ensures.told in
    rw none (IsNewJournal c.in-Ok.journal c.in-Ok.ensures.ok (λ none. c.in-Ok.ensures.no_half none refl) c.in-Ok-put_new.ensures.ok refl)

pub returns-in-Err : goal.returns-in-Err
returns-in-Err c =
    let none = nothing_still c.args.place.now.handle.state c.is_taken.new.place.handle.state c.is_taken.ensures.still c.if-is_taken.ensures.told in
    rw none (NoJournalMade c.in-Err.refusal c.in-Err.ensures.why (c.is_taken.ensures.still ∙ none) c.of_journal.ensures)
