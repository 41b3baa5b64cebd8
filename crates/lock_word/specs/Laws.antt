-- The laws of words: what can be told from the bits alone.
use Rattle.std.specs.Prelude.{ℕ, ◌≡◌, ◌+◌, ◌^◌, ◌<◌, ◌≢◌, true, ◌↔◌, Contains, Some, None}
use Rattle.std.specs.Int.{bit_not}
use Rattle.std.proofs.Common.{bit_or, bit_and, w64}
use Rattle.std.specs.FinSet as set
use Rattle.std.specs.Ordering.{nat_cmp}
use Rattle.heap_model.specs.declared.ids.Lane.{Lane}
use Rattle.heap_model.specs.State.{State}
use Rattle.heap_model.specs.Events.{MaySee}
use Rattle.lock_word.specs.declared.lock_word.Shape.{Shape}
use Rattle.lock_word.specs.declared.lock_word.Shape.TheVariants.{Free, Thin, Fat}
use Rattle.lock_word.specs.LockWord.{bits_of, HasWord}
use Rattle.lock_word.specs.declared.fat_word.FatShape.{FatShape}
use Rattle.lock_word.specs.FatWord as fat_word
use Rattle.lock_word.specs.WaitMask.{mask_of, lanes_of, IsLaneSet}
use Rattle.lock_word.specs.Spelling.{Spells, FatSpells, FatShows, Shows, fat_sight, sight_of}
use Rattle.lock_word.specs.Members.{members}

-- One word spells one lock.
abbrev pub OneWordLaw : Type 0
OneWordLaw = (bits : ℕ) (x y : Shape) → Spells bits x → Spells bits y → x ≡ y

abbrev pub OneFatWordLaw : Type 0
OneFatWordLaw = (bits : ℕ) (x y : FatShape) → FatSpells bits x → FatSpells bits y → x ≡ y

-- A word has 64 bits.
abbrev pub RoomLaw : Type 0
RoomLaw = (lock : Shape) → HasWord lock → bits_of lock < 2 ^ 64

abbrev pub FatRoomLaw : Type 0
FatRoomLaw = (lock : FatShape) → fat_word.HasWord lock → fat_word.bits_of lock < 2 ^ 64

-- What a look tells of a lock may be seen in each state of which the lock says what is so.
abbrev pub SightLaw : Type 0
SightLaw = (slots : ℕ → ℕ) (s : State) (thread object : ℕ) (lock : Shape) → Shows slots s object lock → ((index number : ℕ) → lock ≢ Fat index number) → MaySee s thread object (sight_of lock None)

abbrev pub FatSightLaw : Type 0
FatSightLaw = (s : State) (thread object : ℕ) (lock : FatShape) → FatShows s object lock → MaySee s thread object (fat_sight lock)

-- Each set of lanes has one mask, and each mask of 32 bits is that of one set.
abbrev pub MaskLaw : Type 0
MaskLaw = (lanes : set.FinSet nat_cmp) → IsLaneSet lanes → (mask_of lanes < 2 ^ 32) × (lanes_of (mask_of lanes) ≡ lanes)

abbrev pub LanesLaw : Type 0
LanesLaw = (mask : ℕ) → mask < 2 ^ 32 → IsLaneSet (lanes_of mask) × (mask_of (lanes_of mask) ≡ mask)

-- Setting one bit of the 64 puts one lane into the set.
abbrev pub SetLaw : Type 0
SetLaw = (lanes : set.FinSet nat_cmp) (lane : ℕ) → lane < 32 → bit_or (mask_of lanes) (2 ^ lane) ≡ mask_of (set.insert lanes lane)

-- Clearing one bit of the 64 takes one lane out of the set.
abbrev pub ClearLaw : Type 0
ClearLaw = (lanes : set.FinSet nat_cmp) (lane : ℕ) → lane < 32 → bit_and (mask_of lanes) (bit_not w64 (2 ^ lane)) ≡ mask_of (set.remove lanes lane)

-- Swapping in 0 empties the set.
abbrev pub EmptyLaw : Type 0
EmptyLaw = (mask_of set.empty ≡ 0) × (lanes_of 0 ≡ set.empty)

-- The members are the lanes in the set.
abbrev pub MembersLaw : Type 0
MembersLaw = (lanes : set.FinSet nat_cmp) → IsLaneSet lanes → (lane : Lane) → Contains (members lanes) lane ↔ (set.contains lanes lane.0 ≡ true)
