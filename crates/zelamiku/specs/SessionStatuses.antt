-- The status that C gets for each answer of a session.
use Rattle.std.specs.Prelude.{ℕ, Result, Ok, Err}
use Rattle.session.specs.declared.error.SessionError.{SessionError}
use Rattle.session.specs.declared.error.SessionError.TheVariants as refusal
use Rattle.session.specs.declared.error.Still.{Still}
use Rattle.session.specs.declared.error.Still.TheVariants as still
use Rattle.zelamiku.specs.declared.status.TheConstants.{OK, UNKNOWN_OBJECT, UNKNOWN_FIELD, NOT_HELD, BEHIND, SECTION_FULL, TOO_MANY, TOO_DEEP, NO_FAT, WORN, HELD, IN_SET}

-- the status of a refusal
abbrev pub refusal_status : SessionError → ℕ
refusal_status refusal.UnknownObject = UNKNOWN_OBJECT
refusal_status refusal.UnknownField = UNKNOWN_FIELD
refusal_status refusal.NotHeld = NOT_HELD
refusal_status refusal.Behind = BEHIND
refusal_status refusal.SectionFull = SECTION_FULL
refusal_status refusal.TooMany = TOO_MANY
refusal_status refusal.TooDeep = TOO_DEEP
refusal_status refusal.NoFat = NO_FAT
refusal_status refusal.Worn = WORN
refusal_status (refusal.Held word) = HELD

-- the status of a session that waits on
abbrev pub still_status : Still → ℕ
still_status still.InSet = IN_SET
still_status (still.Held word) = HELD

-- the status of an answer
abbrev pub status_of : {A : Type 0} → Result A SessionError → ℕ
status_of (Ok value) = OK
status_of (Err e) = refusal_status e
