-- What a word says of a monitor: its owner, the count of the owner's locks, and how often it has become free
-- (JLS 17.1; Thin Locks, PLDI 1998, section 2).
use Rattle.std.specs.Prelude.{ℕ, ◌≡◌, ◌+◌, ◌-◌, Option, Some, None}
use Rattle.heap_model.specs.declared.ids.Lane.{Lane}
use Rattle.heap_model.specs.declared.event.Sight.{Sight}
use Rattle.heap_model.specs.declared.event.Sight.TheVariants.{Found}
use Rattle.heap_model.specs.State.{State}
use Rattle.lock_word.specs.declared.lock_word.Shape.{Shape}
use Rattle.lock_word.specs.declared.lock_word.Shape.TheVariants.{Free, Thin, Fat}
use Rattle.lock_word.specs.LockWord.{bits_of, HasWord}
use Rattle.lock_word.specs.declared.fat_word.FatShape.{FatShape}
use Rattle.lock_word.specs.declared.fat_word.FatShape.TheVariants as fat
use Rattle.lock_word.specs.FatWord as fat_word

-- these bits are those of the lock
abbrev pub Spells : (bits : ℕ) → Shape → Type 0
Spells bits lock = (bits ≡ bits_of lock) × HasWord lock

-- these bits are those of the inflated lock
abbrev pub FatSpells : (bits : ℕ) → FatShape → Type 0
FatSpells bits lock = (bits ≡ fat_word.bits_of lock) × fat_word.HasWord lock

-- threads are numbered from 1, and lanes from 0
abbrev pub lane_of_thread : (thread : ℕ) → Lane
lane_of_thread thread = record { 0 = thread - 1 }

-- in this state nobody owns the monitor, which has become free so often
abbrev pub IsFree : State → (object number : ℕ) → Type 0
IsFree s object number = (s.owner object ≡ None) × (s.count object ≡ 0) × (s.number object ≡ number)

-- in this state the thread owns the monitor, by `again + 1` locks
abbrev pub IsOwned : State → (object thread again number : ℕ) → Type 0
IsOwned s object thread again number = (s.owner object ≡ Some (thread - 1)) × (s.count object ≡ again + 1) × (s.number object ≡ number)

-- what the inflated lock says of the object's monitor is so
abbrev pub FatShows : State → (object : ℕ) → FatShape → Type 0
FatShows s object (fat.Free number) = IsFree s object number
FatShows s object (fat.Held thread again number) = IsOwned s object thread again number

-- what the lock says of the object's monitor is so; an inflated one says it by the word of its slot
abbrev pub Shows : (slots : ℕ → ℕ) → State → (object : ℕ) → Shape → Type 0
Shows slots s object (Free number) = IsFree s object number
Shows slots s object (Thin thread again number) = IsOwned s object thread again number
Shows slots s object (Fat index number) = (lock : FatShape) × FatSpells (slots index) lock × FatShows s object lock

-- the slot that the lock names
abbrev pub slot_named : Shape → Option ℕ
slot_named (Free number) = None
slot_named (Thin thread again number) = None
slot_named (Fat index number) = Some index

-- what a look at an inflated lock tells
abbrev pub fat_sight : FatShape → Sight
fat_sight (fat.Free number) = Found None 0 number
fat_sight (fat.Held thread again number) = Found (Some (lane_of_thread thread)) (again + 1) number

-- what a look at a lock tells; at one that names a slot, with the word of that slot
abbrev pub sight_of : Shape → Option FatShape → Sight
sight_of (Free number) inflated = Found None 0 number
sight_of (Thin thread again number) inflated = Found (Some (lane_of_thread thread)) (again + 1) number
sight_of (Fat index number) None = Found None 0 number
sight_of (Fat index number) (Some inflated) = fat_sight inflated
