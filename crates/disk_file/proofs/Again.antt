-- What a file has while bytes are written to it again.
use Rattle.std.proofs.Common.{◌≡◌, inl, inr, ℕ, List, [], ◌++◌, ◌∷◌, length, Option, Some, None, Result, Ok, Err, OnOk, OnErr, option_map, subst, sym, arith}
use Rattle.block_disk.specs.Device.{Range, IsClear, IsOutside, SameOutside}
use Rattle.block_disk.proofs.Ranges.{outside_none, outside_more, outside_refl, outside_trans, clear_left, clear_right}
use Rattle.disk_file.specs.Backing.{Held, IsPendingIn, KeepsBut, Reads, ReadsBut, TornFile, Unsettled, put_at, settled}

-- with no ranges left it reads the bytes
pub reads_all : (bytes : List ℕ) (file : Option Held) → ReadsBut [] bytes file → Reads bytes file
reads_all bytes None near = tt
reads_all bytes (Some h) near = outside_none bytes h.reads near

-- but for ranges that cover more
pub reads_more : (rs ss : List Range) (bytes : List ℕ) (file : Option Held) → ((i : ℕ) → IsClear i ss → IsClear i rs) → ReadsBut rs bytes file → ReadsBut ss bytes file
reads_more rs ss bytes None to near = tt
reads_more rs ss bytes (Some h) to near = outside_more rs ss bytes h.reads to near

pub keeps_more : (rs ss : List Range) (bytes : List ℕ) (file : Option Held) → ((i : ℕ) → IsClear i ss → IsClear i rs) → KeepsBut rs bytes file → KeepsBut ss bytes file
keeps_more rs ss bytes None to near = tt
keeps_more rs ss bytes (Some h) to near = outside_more rs ss bytes h.kept.bytes to near

-- clear of these and of others
pub clear_both : (i : ℕ) (rs ss : List Range) → IsClear i rs → IsClear i ss → IsClear i (rs ++ ss)
clear_both i [] ss first second = second
clear_both i (r ∷ rs) ss first second = (first.0, clear_both i rs ss first.1 second)

-- clear of ranges that cover others, and of some more
pub clear_too : (i : ℕ) (rs ss more : List Range) → (IsClear i rs → IsClear i ss) → IsClear i (rs ++ more) → IsClear i (ss ++ more)
clear_too i rs ss more to clear = clear_both i ss more (to (clear_left i rs more clear)) (clear_right i rs more clear)

-- a sync leaves what its device has, and what it reads
pub keeps_settled : (rs : List Range) (bytes : List ℕ) (file : Option Held) → KeepsBut rs bytes file → KeepsBut rs bytes (option_map settled file)
keeps_settled rs bytes None near = tt
keeps_settled rs bytes (Some h) near = near

-- a sync that fails leaves it as near
pub reads_unsettled : (rs : List Range) (bytes : List ℕ) (old new : Option Held) → Unsettled old new → ReadsBut rs bytes old → ReadsBut rs bytes new
reads_unsettled rs bytes old None un near = tt
reads_unsettled rs bytes None (Some h) un near = absurd un
reads_unsettled rs bytes (Some was) (Some h) un near = subst (λ (xs : List ℕ). SameOutside rs bytes xs) (sym un.0) near

pub keeps_unsettled : (rs ss : List Range) (bytes : List ℕ) (old new : Option Held) → ((i : ℕ) → IsClear i ss → IsClear i rs) → Unsettled old new → KeepsBut ss bytes old → IsPendingIn rs old → KeepsBut ss bytes new
keeps_unsettled rs ss bytes old None to un near waits = tt
keeps_unsettled rs ss bytes None (Some h) to un near waits = absurd un
keeps_unsettled rs ss bytes (Some was) (Some h) to un near waits =
    outside_trans ss bytes was.kept.bytes h.kept.bytes near (outside_more was.kept.pending ss was.kept.bytes h.kept.bytes (λ i clear. waits i (to i clear)) un.1.kept)

-- and nothing more waits
pub waits_unsettled : (rs : List Range) (old new : Option Held) → Unsettled old new → IsPendingIn rs old → IsPendingIn rs new
waits_unsettled rs old None un waits = tt
waits_unsettled rs None (Some h) un waits = absurd un
waits_unsettled rs (Some was) (Some h) un waits = λ i clear. un.1.pending i (waits i clear) (waits i clear)

-- a write in one range
pub waits_put : (rs : List Range) (content : List ℕ) (at : ℕ) (file : Option Held) → ((i : ℕ) → IsClear i rs → IsOutside i (record { start = at; len = length content }))
    → IsPendingIn rs file → IsPendingIn rs (option_map (put_at at content) file)
waits_put rs content at None covers waits = tt
waits_put rs content at (Some h) covers waits = λ i clear. (covers i clear, waits i clear)

pub waits_torn : (rs : List Range) (at n : ℕ) (old new : Option Held) → ((i : ℕ) → IsClear i rs → IsOutside i (record { start = at; len = n }))
    → TornFile at n old new → IsPendingIn rs old → IsPendingIn rs new
waits_torn rs at n old None covers torn waits = tt
waits_torn rs at n None (Some h) covers torn waits = absurd torn
waits_torn rs at n (Some was) (Some h) covers torn waits = λ i clear. torn.pending i (covers i clear, tt) (waits i clear)

-- the same range, by other words
pub same_range : (i at n : ℕ) (r : Range) → at ≡ r.start → n ≡ r.len → IsOutside i r → IsOutside i (record { start = at; len = n })
same_range i at n r low long out = elim out [ inl below ↦ inl (omega (arith, below, low)) | inr above ↦ inr (omega (arith, above, low, long)) ]

-- what holds either way
pub either_way : {T E A B C : Type 0} (r : Result T E) → OnOk r A → OnErr r B → (A → C) → (B → C) → C
either_way (Ok x) ok err f g = f ok
either_way (Err e) ok err f g = g err

-- what it reads it reads but for any ranges
pub reads_near : (rs : List Range) (bytes : List ℕ) (file : Option Held) → Reads bytes file → ReadsBut rs bytes file
reads_near rs bytes None has = tt
reads_near rs bytes (Some h) has = subst (λ (xs : List ℕ). SameOutside rs bytes xs) (sym has) (outside_refl rs bytes)

-- and what its device has but for some, it has but for more
pub keeps_mended : (spans stale : List Range) (bytes : List ℕ) (file : Option Held) → KeepsBut stale bytes file → KeepsBut (spans ++ stale) bytes file
keeps_mended spans stale bytes file kept = keeps_more stale (spans ++ stale) bytes file (λ i clear. clear_right i spans stale clear) kept
