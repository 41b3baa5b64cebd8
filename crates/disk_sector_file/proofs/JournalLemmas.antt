-- What lies behind a file's journal.
use Rattle.std.proofs.Common.{◌≡◌, ◌∙◌, ◌+◌, ◌≤◌, false, true, List, ℕ, None, Option, Some, IfSome, ap, arith, length, length-take, sym, take, take-take, take_all}
use Rattle.block_disk.specs.Bytes.{part}
use Rattle.block_disk.specs.Device.{Device, new_device}
use Rattle.block_disk.proofs.Bytes.{part_part}
use Rattle.disk_file.specs.Backing.{GivesPart, Held}
use Rattle.disk_journal.specs.Disks.{Layered}
use Rattle.disk_journal.specs.Labels.{HasLabel}
use Rattle.disk_sector_file.specs.FileLabels.{IsBehind}
use Rattle.journal_batches.specs.declared.areas.Areas.{Areas}
use Rattle.journal_batches.specs.Areas.{half_at, half_bytes, half_of, home_of, image_at, image_bytes, room_of}
use Rattle.journal_batches.specs.Batches.{batch_in}
use Rattle.journal_batches.specs.Shown.{shown, under_both}

-- a part of the first n bytes is that part of all
part_of_first : (at len n : ℕ) (bytes : List ℕ) → at + len ≤ n → part at len (part 0 n bytes) ≡ part at len bytes
part_of_first at len n bytes le = part_part at len 0 n bytes le ∙ ap (λ (k : ℕ). part k len bytes) (omega arith)

-- what the first n bytes stand for, all of them do, if the parts lie within n
shown_by_first : (a : Areas) (n : ℕ) (bytes : List ℕ) → room_of a ≤ n → shown a (part 0 n bytes) ≡ shown a bytes
shown_by_first a n bytes room =
    let first : half_of a false (part 0 n bytes) ≡ half_of a false bytes = part_of_first (half_at a false) (half_bytes a) n bytes (omega (arith, room)) in
    let second : half_of a true (part 0 n bytes) ≡ half_of a true bytes = part_of_first (half_at a true) (half_bytes a) n bytes (omega (arith, room)) in
    let home : home_of a (part 0 n bytes) ≡ home_of a bytes = part_of_first (image_at a) (image_bytes a) n bytes (omega (arith, room)) in
    λ i. under_both (batch_in (first i)) (batch_in (second i)) (home i)

-- the image that the first bytes of a file stand for is the one behind its journal
behind : (reads bytes image : List ℕ) (n : ℕ) (a : Areas) → bytes ≡ part 0 n reads → HasLabel a bytes → room_of a ≤ length bytes → image ≡ shown a bytes
    → IsBehind reads image
behind reads bytes image n a first label room stands =
    let long = ap length first in
    let within : room_of a ≤ n = omega (arith, room, long, length-take n reads) in record {
      areas = a;
      label = sym (take-take 24 n reads (omega (arith, within))) ∙ ap (λ (xs : List ℕ). take 24 xs) (sym first) ∙ label;
      room = omega (arith, room, long, length-take n reads);
      stands = stands ∙ ap (λ (xs : List ℕ). shown a xs) first ∙ shown_by_first a n reads within;
    }

-- so it is with a disk that was opened on these bytes
pub looked : (file : Option Held) (n : ℕ) (bytes : List ℕ) (disk : Layered) → GivesPart 0 n bytes file → HasLabel disk.areas bytes
    → room_of disk.areas ≤ length bytes → disk.device ≡ new_device (shown disk.areas bytes) → IfSome file (λ h. IsBehind h.reads disk.device.now.bytes)
looked None n bytes disk given label room ok = tt
looked (Some h) n bytes disk given label room ok =
    behind h.reads bytes disk.device.now.bytes n disk.areas given label room (ap (λ (d : Device). d.now.bytes) ok)

-- and on all that the file reads
pub opened : (file : Option Held) (bytes : List ℕ) (disk : Layered) → IfSome file (λ h. bytes ≡ h.reads) → HasLabel disk.areas bytes
    → room_of disk.areas ≤ length bytes → disk.device ≡ new_device (shown disk.areas bytes) → IfSome file (λ h. IsBehind h.reads disk.device.now.bytes)
opened None bytes disk given label room ok = tt
opened (Some h) bytes disk given label room ok =
    behind h.reads bytes disk.device.now.bytes (length h.reads) disk.areas (given ∙ sym (take_all (length h.reads) h.reads (omega arith))) label room (ap (λ (d : Device). d.now.bytes) ok)
