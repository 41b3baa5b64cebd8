-- What the program's words leave beside the path that they name (docs/SCRIPTS.md, "One process at a time").
use Rattle.std.specs.Prelude.{ℕ, ◌≡◌, false, not, List, Option, None, Some, Result}
use Rattle.std.specs.Borrow.{Bor}
use Rattle.disk_sector_file.specs.declared.image_kind.ImageKind.{ImageKind}
use Rattle.image_file.specs.Beside.{KeepsBeside, LeavesBeside, MakesBeside, StaysBeside}
use Rattle.heapctl_commands.specs.declared.fault.WorkFault.{WorkFault}
use Rattle.heapctl_words.specs.declared.words.Words.{Words}
use Rattle.heapctl_words.specs.declared.words.Words.TheVariants as words

-- what is known to be anywhere is there still, and lies as it did
pub record LeavesAll (had has : List ℕ → Option (List ℕ)) (lay lies : List ℕ → Option ImageKind) : Type 0 where
  pub there : (path : List ℕ) → has path ≡ had path
  pub lies_so : (path : List ℕ) → lies path ≡ lay path

-- a script was played over the image at a path, where one was named
abbrev pub PlaysBeside : (image : Option (Bor (List ℕ))) → (had has : List ℕ → Option (List ℕ)) (lay lies : List ℕ → Option ImageKind) → Type 0
PlaysBeside None had has lay lies = LeavesAll had has lay lies
PlaysBeside (Some path) had has lay lies = StaysBeside path.now had has lay lies

-- workers have worked on it, or on one that was made there
abbrev pub DrivesBeside : (image : Option (Bor (List ℕ))) → (had has : List ℕ → Option (List ℕ)) → Type 0
DrivesBeside None had has = (path : List ℕ) → has path ≡ had path
DrivesBeside (Some path) had has = KeepsBeside false path.now had has

-- nothing is lost beside the path that words name
abbrev pub Spares : Words → Result (Unit {0}) WorkFault → (had has : List ℕ → Option (List ℕ)) (lay lies : List ℕ → Option ImageKind) → Type 0
Spares (words.Run image schema is_strict) result had has lay lies = PlaysBeside image had has lay lies
Spares (words.Get image schema) result had has lay lies = LeavesBeside image.now had has lay lies
Spares (words.Set image schema) result had has lay lies = StaysBeside image.now had has lay lies
Spares (words.Format image schema lanes capacity kind is_forced) result had has lay lies = MakesBeside (not is_forced) result image.now had has
Spares (words.Show image last schema) result had has lay lies = LeavesBeside image.now had has lay lies
Spares (words.Draw image last schema) result had has lay lies = LeavesBeside image.now had has lay lies
Spares (words.Dump image schema part) result had has lay lies = LeavesBeside image.now had has lay lies
Spares (words.Recover image) result had has lay lies = LeavesBeside image.now had has lay lies
Spares (words.Upgrade image) result had has lay lies = LeavesBeside image.now had has lay lies
Spares (words.Drive workers rounds seconds image) result had has lay lies = DrivesBeside image had has
