use Rattle.std.proofs.Common.{refl, ◌∙◌}
use Rattle.disk_journal.specs.declared.error.JournalError.TheVariants.{NoMemory}
use Rattle.zelamiku.specs.JournalDoors.{IsOpen, NotOpen}
use Rattle.zelamiku.proofs.Emptiness.{nothing_still}
use Rattle.zelamiku.proofs.journal_exports.zelamiku_journal_open.Goals as goal

pub returns-in_default : goal.returns-in_default
returns-in_default c =
    let none = nothing_still c.args.place.now.handle.state c.is_taken.new.place.handle.state c.is_taken.ensures.still c.if-is_taken.ensures.told in
    rw none (NotOpen NoMemory tt refl (c.in_default.ensures.err ∙ c.is_taken.ensures.still ∙ none) refl)

pub returns-in-Ok-put_new : goal.returns-in-Ok-put_new
returns-in-Ok-put_new c =
    let none = nothing_still c.args.place.now.handle.state c.is_taken.new.place.handle.state c.is_taken.ensures.still c.if-is_taken.ensures.told in
    rw none (IsOpen c.in-Ok.journal c.in-Ok.ensures.ok (λ none. c.in-Ok.ensures.unlabelled none refl) c.size-size.ensures c.in-Ok-put_new.ensures.ok refl)

pub returns-in-Err : goal.returns-in-Err
returns-in-Err c =
    let none = nothing_still c.args.place.now.handle.state c.is_taken.new.place.handle.state c.is_taken.ensures.still c.if-is_taken.ensures.told in
    rw none (NotOpen c.in-Err.refusal c.in-Err.ensures.why refl (c.is_taken.ensures.still ∙ none) c.of_journal.ensures)
