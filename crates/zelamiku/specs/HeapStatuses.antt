-- The numbers by which C sees why a call of a heap is refused (`zelamiku.h`).
use Rattle.std.specs.Prelude.{ℕ}
use Rattle.guards.specs.declared.error.SchemaError.{SchemaError}
use Rattle.guards.specs.declared.error.SchemaError.TheVariants as schema
use Rattle.host_heap.specs.declared.closing.NotClosed.{NotClosed}
use Rattle.host_heap.specs.declared.closing.NotClosed.TheVariants as unclosed
use Rattle.host_heap.specs.declared.error.AcknowledgedError.{AcknowledgedError}
use Rattle.host_heap.specs.declared.error.AcknowledgedError.TheVariants as acknowledged
use Rattle.host_heap.specs.declared.error.CloseRefusal.{CloseRefusal}
use Rattle.host_heap.specs.declared.error.CloseRefusal.TheVariants as refusal
use Rattle.host_heap.specs.declared.error.HostError.{HostError}
use Rattle.host_heap.specs.declared.error.HostError.TheVariants as host
use Rattle.host_heap.specs.declared.error.RoundError.{RoundError}
use Rattle.host_heap.specs.declared.error.RoundError.TheVariants as rounds
use Rattle.image_parts.specs.declared.error.ImageError.{ImageError}
use Rattle.image_parts.specs.declared.error.ImageError.TheVariants as image
use Rattle.recover_heap.specs.declared.error.RecoverError.{RecoverError}
use Rattle.recover_heap.specs.declared.error.RecoverError.TheVariants as recover
use Rattle.heap_model.specs.declared.store_error.StoreError.{StoreError}
use Rattle.heap_model.specs.declared.store_error.StoreError.TheVariants as store
use Rattle.trim_helper.specs.declared.close_error.CloseError.TheVariants as close
use Rattle.zelamiku.specs.declared.status.TheConstants.{NO_MEMORY, CALLS_LEFT, BAD_LANE, RUNNING, UNKNOWN_OBJECT, TOO_MANY, WORN, FAULT, FAILED, UNFINISHED, EMPTY, NOT_FORMATTED, BAD_HEADER, TOO_SMALL, NO_CONTROL, BAD_CONTROL, BAD_RECORD, ILLEGAL_LOG, OLD_VERSION}

-- why objects and fields make no heap
abbrev pub schema_status : SchemaError → ℕ
schema_status schema.NoMemory = NO_MEMORY
schema_status schema.UnknownObject = UNKNOWN_OBJECT
schema_status schema.TooMany = TOO_MANY
schema_status schema.Empty = EMPTY
schema_status schema.DoubleName = EMPTY

-- why no image is made
abbrev pub image_status : ImageError → ℕ
image_status image.NoMemory = NO_MEMORY
image_status image.Fault = FAULT
image_status image.BadHeader = BAD_HEADER
image_status image.Worn = WORN
image_status image.TooSmall = TOO_SMALL

-- why an image isn't recovered
abbrev pub recover_status : RecoverError → ℕ
recover_status recover.NoMemory = NO_MEMORY
recover_status recover.Fault = FAULT
recover_status recover.NotFormatted = NOT_FORMATTED
recover_status recover.BadHeader = BAD_HEADER
recover_status recover.TooSmall = TOO_SMALL
recover_status recover.NoControl = NO_CONTROL
recover_status recover.BadControl = BAD_CONTROL
recover_status recover.OldVersion = OLD_VERSION
recover_status recover.Worn = WORN
recover_status (recover.BadRecord lane place) = BAD_RECORD
recover_status (recover.IllegalLog lane place) = ILLEGAL_LOG

-- why a heap isn't made or opened
abbrev pub host_status : HostError → ℕ
host_status host.NoMemory = NO_MEMORY
host_status (host.Schema e) = schema_status e
host_status (host.Image e) = image_status e
host_status (host.Recover e) = recover_status e

-- why a round has stopped; none is stopped by the others
abbrev pub store_status : StoreError → ℕ
store_status store.Failed = FAILED
store_status store.Worn = WORN
store_status store.Fault = FAULT
store_status store.Unfinished = UNFINISHED
store_status store.BadLane = FAILED
store_status store.BadId = FAILED
store_status store.NotNext = FAILED
store_status store.TooLong = FAILED
store_status store.LogFull = FAILED
store_status store.Unwritten = FAILED

-- why a round isn't made, or has stopped
abbrev pub round_status : RoundError → ℕ
round_status rounds.CallsLeft = CALLS_LEFT
round_status (rounds.Store e) = store_status e

-- why it isn't told how many sections of a lane are acknowledged
abbrev pub acknowledged_status : AcknowledgedError → ℕ
acknowledged_status acknowledged.BadLane = BAD_LANE
acknowledged_status acknowledged.CallsLeft = CALLS_LEFT

-- why a heap has stopped in place of being closed; none is stopped by `Missing`
abbrev pub close_status : CloseRefusal → ℕ
close_status refusal.NoMemory = NO_MEMORY
close_status (refusal.Close (close.Missing lane)) = BAD_LANE
close_status (refusal.Close (close.Unfinished lane)) = UNFINISHED
close_status (refusal.Close close.Failed) = FAILED
close_status (refusal.Close close.Worn) = WORN
close_status (refusal.Close close.Fault) = FAULT

-- why a heap isn't closed
abbrev pub not_closed_status : NotClosed → ℕ
not_closed_status (unclosed.Running y) = RUNNING
not_closed_status (unclosed.CallsLeft y) = CALLS_LEFT
not_closed_status (unclosed.InUse y) = RUNNING
not_closed_status (unclosed.Stopped y e) = close_status e
