-- The numbers by which C sees what a journal answers (`zelamiku_core.h`).
use Rattle.std.specs.Prelude.{ℕ, Result, Ok, Err}
use Rattle.block_disk.specs.declared.error.DiskError.{DiskError}
use Rattle.block_disk.specs.declared.error.DiskError.TheVariants as disk
use Rattle.block_disk.specs.declared.error.Fault.{Fault}
use Rattle.disk_journal.specs.declared.error.JournalError.{JournalError}
use Rattle.disk_journal.specs.declared.error.JournalError.TheVariants as journal
use Rattle.zelamiku.specs.declared.status.TheConstants.{FAULT, NOT_FORMATTED, NO_MEMORY, OK, TOO_SMALL, WORN_JOURNAL}

-- why no journal is made or opened
abbrev pub journal_status : JournalError → ℕ
journal_status journal.NoJournal = NOT_FORMATTED
journal_status journal.TooSmall = TOO_SMALL
journal_status journal.Worn = WORN_JOURNAL
journal_status journal.Fault = FAULT
journal_status journal.NoMemory = NO_MEMORY

-- what a read or a write answers
abbrev pub call_status : {A : Type 0} → Result A DiskError → ℕ
call_status (Ok value) = OK
call_status (Err disk.OutOfRange) = TOO_SMALL
call_status (Err disk.Fault) = FAULT

-- what an order or a sync answers
abbrev pub turn_status : {A : Type 0} → Result A Fault → ℕ
turn_status (Ok value) = OK
turn_status (Err e) = FAULT
