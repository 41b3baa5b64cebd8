-- What a crash left of a run of workers, at whatever moment it came (this project's own).
use Rattle.std.specs.Prelude.{◌⊎◌, List}
use Rattle.block_disk.specs.Device.{Device}
use Rattle.thread_work.specs.Crashes.{HaveLeft, IsLeftBehind, IsLeftByCalls, IsLostAfter, KeepsSome}
use Rattle.image_parts.specs.declared.layout.Layout.{Layout}
use Rattle.monitor.specs.Seats.{Home}
use Rattle.trim_helper.specs.declared.ended.Ended.{Ended}
use Rattle.thread_drive.specs.Working.{HasCounted}
use Rattle.thread_drive.specs.declared.error.DriveError.{DriveError}
use Rattle.thread_drive.specs.declared.error.DriveError.TheVariants.{NoMemory, Helper, Session, Close, Recover}

-- What recovery makes of each image that a crash left at any moment since a heap was opened on the one device, where its run was stopped so on
-- the other, and what that one is. Recovery accepts them all.
abbrev pub CrashesOf : Home → Layout → (opened new : Device) → DriveError → Type 0
CrashesOf h l opened new NoMemory = KeepsSome h l opened new ⊎ ((closed : Device) × IsLeftBehind HasCounted h l closed opened new)
CrashesOf h l opened new (Helper e) = (ended : List Ended) × HaveLeft HasCounted h l ended opened new
CrashesOf h l opened new (Session e) = (ended : List Ended) × HaveLeft HasCounted h l ended opened new
CrashesOf h l opened new (Close e) = IsLeftByCalls HasCounted h l opened new
CrashesOf h l opened new (Recover e) = IsLostAfter HasCounted h l opened new e
CrashesOf h l opened new _ = ⊥
