-- The sectors of a file (this project's own).
use Rattle.std.specs.Prelude.{◌≡◌, ◌*◌, ◌^◌, ◌<◌, ℕ, List, Option, IfSome, length, option_map}
use Rattle.block_disk.specs.Device.{Device, written}
use Rattle.block_disk.specs.Since.{IsSameOrTorn}
use Rattle.disk_file.specs.Backing.{Held, TornFile, put_at}
use Rattle.disk_sectors.specs.declared.size.SectorSize.{SectorSize}
use Rattle.disk_sectors.specs.Size.{bytes_in, place_of}

-- the device that they are, how many bytes a sector has, and what the file holds, where that is known
pub record OnFile : Type 0 where
  pub device : Device
  pub size : SectorSize
  pub file : Option Held

-- there are so many of them, and they hold the bytes that were read, where these are still known
pub record AreSectors (size : SectorSize) (count : ℕ) (known : Option (List ℕ)) (d : Device) : Type 0 where
  pub long : length d.now.bytes ≡ count * bytes_in size
  pub bound : count * bytes_in size < 2 ^ 64
  pub reads : IfSome known (λ bytes. d.now.bytes ≡ bytes)

-- a write of these bytes in this sector, as its device sees it
abbrev pub PutsOnDevice : (number : ℕ) → List ℕ → (old new : OnFile) → Type 0
PutsOnDevice number bytes old new = new.device ≡ written (place_of old.size number) bytes old.device

-- as its file sees it: the bytes stand there, and no others have changed
abbrev pub PutsInFile : (number : ℕ) → List ℕ → (old new : OnFile) → Type 0
PutsInFile number bytes old new = new.file ≡ option_map (put_at (place_of old.size number) bytes) old.file

-- a write of them that fails: the device is as it was, or any bytes stand in this sector
abbrev pub TearsOnDevice : (number : ℕ) → List ℕ → (old new : OnFile) → Type 0
TearsOnDevice number bytes old new = IsSameOrTorn (place_of old.size number) (length bytes) old.device new.device

-- the file is as it was, but for any bytes in this sector
abbrev pub TearsInFile : (number : ℕ) → List ℕ → (old new : OnFile) → Type 0
TearsInFile number bytes old new = TornFile (place_of old.size number) (length bytes) old.file new.file
