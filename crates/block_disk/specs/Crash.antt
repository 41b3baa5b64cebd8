-- The image of a crash at any stop of a disk in memory (this project's own).
use Rattle.std.specs.Prelude.{ℕ, ◌-◌, List, [], ◌∷◌, length, drop, replicate, nat_le, if◌then◌else◌}
use Rattle.block_disk.specs.Bytes.{spliced}
use Rattle.block_disk.specs.Device.{Range, LeftSince}
use Rattle.block_disk.specs.Memory.{Stop, Wrote, WriteFailed, Synced, SyncFailed, Memory, bytes_after, pending_after, durable_after, moments_before, device_of}
use Rattle.block_disk.specs.declared.crash.Fill.{Fill}
use Rattle.block_disk.specs.declared.crash.Fill.TheVariants.{Lost, Kept, Byte}

-- the first n stops
abbrev pub first_stops : ℕ → List Stop → List Stop
first_stops n stops = drop (length stops - n) stops

-- what a crash finds done that cuts the newest stop short: a write has begun, a sync has fixed nothing
abbrev pub cut_short : List Stop → List Stop
cut_short [] = []
cut_short (Wrote at bytes ∷ older) = Wrote at bytes ∷ older
cut_short (WriteFailed at len ∷ older) = WriteFailed at len ∷ older
cut_short (Synced ∷ older) = older
cut_short (SyncFailed ∷ older) = SyncFailed ∷ older

-- what a crash finds done that comes with stops 1 to k - 1 ended and stop k begun, or with all ended
abbrev pub done_at : ℕ → List Stop → List Stop
done_at k stops = if nat_le k (length stops) then cut_short (first_stops k stops) else stops

-- the image with this byte at each place of the ranges
abbrev pub filled : ℕ → List Range → List ℕ → List ℕ
filled byte [] image = image
filled byte (r ∷ rs) image = filled byte rs (spliced image r.start (replicate r.len byte))

-- The image of a crash after these stops. Each pending range has its bytes at the last sync, or what reads, or one byte
-- in every place. Outside of them what reads is what read at that sync.
abbrev pub crash_bytes : Fill → List ℕ → List Stop → List ℕ
crash_bytes Lost first stops = durable_after first stops
crash_bytes Kept first stops = bytes_after first stops
crash_bytes (Byte byte) first stops = filled byte (pending_after stops) (bytes_after first stops)

-- an image that a crash at some moment since stop k was begun might have left
abbrev pub LeftSinceStop : ℕ → Memory → List ℕ → Type 0
LeftSinceStop k m image = LeftSince (length (moments_before m.first (first_stops (k - 1) m.stops))) (device_of m) image
