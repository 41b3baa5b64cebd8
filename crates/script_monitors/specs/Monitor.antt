-- What one monitor says of its owner (JLS 17.1).
use Rattle.std.specs.Prelude.{ℕ, ◌+◌, ◌<◌, ◌^◌, Option, Some, None}
use Rattle.script_monitors.specs.declared.monitor.Monitor.{Monitor}
use Rattle.script_monitors.specs.declared.monitor.Monitor.TheVariants.{Free, Held}

-- the thread that owns it
abbrev pub owner_in : Monitor → Option ℕ
owner_in (Free number) = None
owner_in (Held thread again number) = Some thread.0

-- the count of the owner's locks
abbrev pub count_in : Monitor → ℕ
count_in (Free number) = 0
count_in (Held thread again number) = again + 1

-- how often it has become free
abbrev pub number_in : Monitor → ℕ
number_in (Free number) = number
number_in (Held thread again number) = number

-- it is free, or has a next number to become free with
abbrev pub MayRise : Monitor → Type 0
MayRise (Free number) = Unit {0}
MayRise (Held thread again number) = number + 1 < 2 ^ 64
