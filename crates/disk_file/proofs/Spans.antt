-- Lists of ranges, one of which is replaced, or that get one more.
use Rattle.std.proofs.Common.{◌≡◌, ℕ, zero, suc, ◌+◌, ◌<◌, ◌≤◌, List, [], ◌∷◌, ◌++◌, length, get_or, refl, arith, Option}
use Rattle.std.proofs.Math.ListN.{set}
use Rattle.disk_file.specs.Backing.{Held, Reads, ReadsBut}
use Rattle.block_disk.specs.Device.{Range, IsOutside, IsClear}
use Rattle.disk_file.proofs.Again.{reads_all}
use Rattle.disk_file.specs.Buffered.{AllWithin, LastCovers}

-- clear of all is clear of each
pub clear_at : (i k : ℕ) (rs : List Range) (d : Range) → k < length rs → IsClear i rs → IsOutside i (get_or rs k d)
clear_at i k [] d within clear = absurd (omega arith)
clear_at i zero (r ∷ rs) d within clear = clear.0
clear_at i (suc k) (r ∷ rs) d within clear = clear_at i k rs d (omega arith) clear.1

-- the range that is put there
pub clear_put : (i k : ℕ) (rs : List Range) (r : Range) → k < length rs → IsClear i (set rs k r) → IsOutside i r
clear_put i k [] r within clear = absurd (omega arith)
clear_put i zero (s ∷ rs) r within clear = clear.0
clear_put i (suc k) (s ∷ rs) r within clear = clear_put i k rs r (omega arith) clear.1

-- clear of what was there too
pub clear_was : (i k : ℕ) (rs : List Range) (r d : Range) → k < length rs → IsOutside i (get_or rs k d) → IsClear i (set rs k r) → IsClear i rs
clear_was i k [] r d within out clear = tt
clear_was i zero (s ∷ rs) r d within out clear = (out, clear.1)
clear_was i (suc k) (s ∷ rs) r d within out clear = (clear.0, clear_was i k rs r d (omega arith) out clear.1)

-- clear of what stands there now
pub clear_set : (i k : ℕ) (rs : List Range) (r : Range) → IsOutside i r → IsClear i rs → IsClear i (set rs k r)
clear_set i k [] r out clear = tt
clear_set i zero (s ∷ rs) r out clear = (out, clear.1)
clear_set i (suc k) (s ∷ rs) r out clear = (clear.0, clear_set i k rs r out clear.1)

-- clear of a list with one range more
pub clear_pushed : (i : ℕ) (rs : List Range) (r : Range) → IsClear i (rs ++ r ∷ []) → IsOutside i r × IsClear i rs
clear_pushed i [] r clear = (clear.0, tt)
clear_pushed i (s ∷ rs) r clear = let rest = clear_pushed i rs r clear.1 in (rest.0, (clear.0, rest.1))

pub clear_push : (i : ℕ) (rs : List Range) (r : Range) → IsOutside i r → IsClear i rs → IsClear i (rs ++ r ∷ [])
clear_push i [] r out clear = (out, tt)
clear_push i (s ∷ rs) r out clear = (clear.0, clear_push i rs r out clear.1)

-- with no ranges left a file reads the bytes
pub reads_empty : (rs : List Range) (bytes : List ℕ) (file : Option Held) → length rs ≡ 0 → ReadsBut rs bytes file → Reads bytes file
reads_empty [] bytes file empty near = reads_all bytes file near
reads_empty (r ∷ rs) bytes file empty near = absurd (omega (arith, empty))

-- none are left
pub none_left : (rs : List Range) → length rs ≡ 0 → rs ≡ []
none_left [] empty = refl
none_left (r ∷ rs) empty = absurd (omega (arith, empty))

-- all but the first lie within
pub within_rest : (size : ℕ) (r : Range) (rs : List Range) → AllWithin size (r ∷ rs) → AllWithin size rs
within_rest size r rs all = λ k d within. all (suc k) d (omega arith)

-- the last range is a new one
pub last_push : (rs : List Range) (r s : Range) → s.start ≤ r.start → r.start + r.len ≤ s.start + s.len → LastCovers r (rs ++ s ∷ [])
last_push [] r s low high = (low, high)
last_push (t ∷ []) r s low high = (low, high)
last_push (t ∷ u ∷ rs) r s low high = last_push (u ∷ rs) r s low high

-- the last range is put there anew
pub last_set : (rs : List Range) (k : ℕ) (r s : Range) → k + 1 ≡ length rs → s.start ≤ r.start → r.start + r.len ≤ s.start + s.len → LastCovers r (set rs k s)
last_set [] k r s end low high = absurd (omega (arith, end))
last_set (t ∷ []) zero r s end low high = (low, high)
last_set (t ∷ []) (suc k) r s end low high = absurd (omega (arith, end))
last_set (t ∷ u ∷ rs) zero r s end low high = absurd (omega (arith, end))
last_set (t ∷ u ∷ []) (suc zero) r s end low high = (low, high)
last_set (t ∷ u ∷ []) (suc (suc k)) r s end low high = absurd (omega (arith, end))
last_set (t ∷ u ∷ v ∷ rs) (suc zero) r s end low high = absurd (omega (arith, end))
last_set (t ∷ u ∷ v ∷ rs) (suc (suc k)) r s end low high = last_set (u ∷ v ∷ rs) (suc k) r s (omega (arith, end)) low high

-- what the last range covers
pub last_at : (rs : List Range) (k : ℕ) (r d : Range) → k + 1 ≡ length rs → LastCovers r rs → ((get_or rs k d).start ≤ r.start) × (r.start + r.len ≤ (get_or rs k d).start + (get_or rs k d).len)
last_at [] k r d end covers = absurd covers
last_at (t ∷ []) zero r d end covers = covers
last_at (t ∷ []) (suc k) r d end covers = absurd (omega (arith, end))
last_at (t ∷ u ∷ rs) zero r d end covers = absurd (omega (arith, end))
last_at (t ∷ u ∷ rs) (suc k) r d end covers = last_at (u ∷ rs) k r d (omega (arith, end)) covers

-- then there is one
pub last_some : (rs : List Range) (r : Range) → LastCovers r rs → 0 < length rs
last_some [] r covers = absurd covers
last_some (s ∷ rs) r covers = omega arith
