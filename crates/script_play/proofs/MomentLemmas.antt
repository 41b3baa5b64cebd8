-- Which moment of the device a crash was of, among the moments of a play and among those of a first part of it.
use Rattle.std.proofs.Common.{◌≡◌, ◌⊎◌, inl, inr, ℕ, zero, suc, ◌+◌, ◌-◌, ◌<◌, ◌≤◌, List, [], ◌∷◌, ◌++◌, length, drop, Bool, if◌then◌else◌, refl, sym, ap, subst, arith, length-append}
use Rattle.std.proofs.lemmas.Bool.{cases_lt, le-leb, lt-leb}
use Rattle.block_disk.specs.Crash.{first_stops, cut_short, done_at}
use Rattle.block_disk.specs.Device.{Device, Moment, Image, LeftIn}
use Rattle.block_disk.specs.Images.{Continues}
use Rattle.block_disk.specs.Memory.{Memory, Stop, Wrote, WriteFailed, Synced, SyncFailed, moment_after, moments_before}
use Rattle.block_disk.proofs.Images.{left_now}

-- an image of the moment with this number
abbrev pub LeftAt : ℕ → List Moment → List ℕ → Type 0
LeftAt e [] image = ⊥
LeftAt e (m ∷ before) image = ((e ≡ length before) × Image m image) ⊎ LeftAt e before image

-- it is one of a moment since any that isn't later
at_since : (e t : ℕ) (ms : List Moment) (image : List ℕ) → t ≤ e → LeftAt e ms image → LeftIn t ms image
at_since e t [] image low left = left
at_since e t (m ∷ before) image low (inl now) = let is = now.0 in inl (omega (arith, low, is), now.1)
at_since e t (m ∷ before) image low (inr was) = inr (at_since e t before image low was)

-- a moment of few before it is one of the earlier ones
at_before : (e : ℕ) (since ms : List Moment) (image : List ℕ) → e < length ms → LeftAt e (since ++ ms) image → LeftAt e ms image
at_before e [] ms image low left = left
at_before e (m ∷ since) ms image low (inl now) = let is = now.0 in absurd (omega (arith, low, is, length-append since ms))
at_before e (m ∷ since) ms image low (inr was) = at_before e since ms image low was

-- the moments after these stops, the latest first
abbrev moments : List ℕ → List Stop → List Moment
moments first stops = moment_after first stops ∷ moments_before first stops

-- what was of a moment is so after one more stop
at_later : (e : ℕ) (first image : List ℕ) (s : Stop) (older : List Stop) → LeftAt e (moments first older) image → LeftAt e (moments first (s ∷ older)) image
at_later e first image (Wrote at bytes) older left = inr left
at_later e first image (WriteFailed at len) older left = inr left
at_later e first image Synced older left = inr left
at_later e first image SyncFailed older left = left

at_drop : (e : ℕ) (first image : List ℕ) (n : ℕ) (stops : List Stop) → LeftAt e (moments first (drop n stops)) image → LeftAt e (moments first stops) image
at_drop e first image zero stops left = left
at_drop e first image (suc n) [] left = left
at_drop e first image (suc n) (s ∷ older) left = at_later e first image s older (at_drop e first image n older left)

at_cut : (e : ℕ) (first image : List ℕ) (stops : List Stop) → LeftAt e (moments first (cut_short stops)) image → LeftAt e (moments first stops) image
at_cut e first image [] left = left
at_cut e first image (Wrote at bytes ∷ older) left = left
at_cut e first image (WriteFailed at len ∷ older) left = left
at_cut e first image (Synced ∷ older) left = inr left
at_cut e first image (SyncFailed ∷ older) left = left

-- an image of the moment after the first t, or of the next, of these moments
pub record Came (t : ℕ) (ms : List Moment) (image : List ℕ) : Type 0 where
  pub number : ℕ
  pub low : t ≤ number
  pub high : number ≤ t + 1
  pub left : LeftAt number ms image

-- a crash in a stop is of the moment before it, or of the one that it has begun
begun : (first : List ℕ) (s : Stop) (older : List Stop) → (length (moments_before first older) ≤ length (moments_before first (cut_short (s ∷ older))))
    × (length (moments_before first (cut_short (s ∷ older))) ≤ length (moments_before first older) + 1)
begun first (Wrote at bytes) older = (omega arith, omega arith)
begun first (WriteFailed at len) older = (omega arith, omega arith)
begun first Synced older = (omega arith, omega arith)
begun first SyncFailed older = (omega arith, omega arith)

-- there is a stop where some are left
one_left : (n : ℕ) (stops : List Stop) → n < length stops → (s : Stop) × (drop n stops ≡ s ∷ drop (suc n) stops)
one_left n [] within = absurd (omega arith)
one_left zero (s ∷ older) within = (s, refl)
one_left (suc n) (s ∷ older) within = one_left n older (omega arith)

came_in : (first image : List ℕ) (stops : List Stop) (n : ℕ) → n < length stops → Image (moment_after first (cut_short (drop n stops))) image
    → Came (length (moments_before first (drop (suc n) stops))) (moments first stops) image
came_in first image stops n within left =
    let one = one_left n stops within in
    let t : ℕ = length (moments_before first (drop (suc n) stops)) in
    let bounds = subst (λ (ss : List Stop). (t ≤ length (moments_before first (cut_short ss))) × (length (moments_before first (cut_short ss)) ≤ t + 1)) (sym one.1)
    (begun first one.0 (drop (suc n) stops)) in
    let e : ℕ = length (moments_before first (cut_short (drop n stops))) in
    record {
      number = e;
      low = bounds.0;
      high = bounds.1;
      left = at_drop e first image n stops (at_cut e first image (drop n stops) (inl (refl, left)));
    }

-- a crash that comes with stop k begun, or with all ended
pub came : (m : Memory) (k : ℕ) (image : List ℕ) → 1 ≤ k → Image (moment_after m.first (done_at k m.stops)) image
    → Came (length (moments_before m.first (first_stops (k - 1) m.stops))) (moment_after m.first m.stops ∷ moments_before m.first m.stops) image
came m k image low left = elim (cases_lt (length m.stops) k) [
  | inl after ↦
      let none : length m.stops - (k - 1) ≡ 0 = omega (arith, after) in
      let all : done_at k m.stops ≡ m.stops = ap (λ (b : Bool). if b then cut_short (first_stops k m.stops) else m.stops) (lt-leb k (length m.stops) after) in
      let at_end : first_stops (k - 1) m.stops ≡ m.stops = ap (λ (n : ℕ). drop n m.stops) none in
      let now = subst (λ (ss : List Stop). Image (moment_after m.first ss) image) all left in
      subst (λ (ss : List Stop). Came (length (moments_before m.first ss)) (moments m.first m.stops) image) (sym at_end)
      (record { number = length (moments_before m.first m.stops); low = omega arith; high = omega arith; left = inl (refl, now) })
  | inr within ↦
      let n = length m.stops - k in
      let next : length m.stops - (k - 1) ≡ suc n = omega (arith, low, within) in
      let cut : done_at k m.stops ≡ cut_short (drop n m.stops) =
      ap (λ (b : Bool). if b then cut_short (first_stops k m.stops) else m.stops) (le-leb k (length m.stops) within) in
      subst (λ (j : ℕ). Came (length (moments_before m.first (drop j m.stops))) (moments m.first m.stops) image) (sym next)
      (came_in m.first image m.stops n (omega (arith, low, within)) (subst (λ (ss : List Stop). Image (moment_after m.first ss) image) cut left))
]

-- of a moment since this one
pub came_since : (t u : ℕ) (ms : List Moment) (image : List ℕ) → u ≤ t → Came t ms image → LeftIn u ms image
came_since t u ms image le is = let low = is.low in at_since is.number u ms image (omega (arith, le, low)) is.left

-- with no moment later, it is one that a crash now may leave
pub came_now : (t : ℕ) (d : Device) (image : List ℕ) → length d.past ≤ t → Came t (d.now ∷ d.past) image → Image d.now image
came_now t d image le is = left_now d image (came_since t (length d.past) (d.now ∷ d.past) image le is)

-- a first part of the play that the crash came within had its moment already
pub came_before : (t : ℕ) (old new : Device) (image : List ℕ) → Continues old new → t < length old.past → Came t (new.now ∷ new.past) image → Came t (old.now ∷ old.past) image
came_before t old new image grows low is =
    let high = is.high in
    record {
      number = is.number;
      low = is.low;
      high = is.high;
      left = at_before is.number grows.since (old.now ∷ old.past) image (omega (arith, high, low)) (subst (λ (ms : List Moment). LeftAt is.number ms image) grows.moments is.left);
    }
