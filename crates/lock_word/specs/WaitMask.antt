-- A wait set as a mask: bit l is set where lane l waits (this project's own).
use Rattle.std.specs.Prelude.{◌≡◌, ℕ, zero, suc, ◌+◌, ◌*◌, ◌^◌, ◌<◌, ◌==◌, true, false, cond}
use Rattle.std.specs.Int.{bit_at}
use Rattle.std.specs.FinSet as set
use Rattle.std.specs.Ordering.{nat_cmp}

-- the lane's bit: 1 where it is in the set
abbrev pub bit_of : set.FinSet nat_cmp → ℕ → ℕ
bit_of lanes lane = cond (set.contains lanes lane) 1 0

-- the mask of the lanes below `count` that are in the set
unfoldable pub mask_below : set.FinSet nat_cmp → ℕ → ℕ
mask_below lanes zero = 0
mask_below lanes (suc lane) = bit_of lanes lane * 2 ^ lane + mask_below lanes lane

-- the mask of the set: the sum of 2 ^ l for each lane l that waits
abbrev pub mask_of : set.FinSet nat_cmp → ℕ
mask_of lanes = mask_below lanes 32

-- the lanes below `count` whose bits are set
unfoldable pub lanes_below : ℕ → ℕ → set.FinSet nat_cmp
lanes_below mask zero = set.empty
lanes_below mask (suc lane) = cond (bit_at mask lane == 1) (set.insert (lanes_below mask lane) lane) (lanes_below mask lane)

-- the lanes whose bits are set
abbrev pub lanes_of : ℕ → set.FinSet nat_cmp
lanes_of mask = lanes_below mask 32

-- a set of lanes, which are numbered from 0 to 31
abbrev pub IsLaneSet : set.FinSet nat_cmp → Type 0
IsLaneSet lanes = (lane : ℕ) → set.contains lanes lane ≡ true → lane < 32

-- the lowest lane in the set
pub record IsLeast (lanes : set.FinSet nat_cmp) (least : ℕ) : Type 0 where
  pub among : set.contains lanes least ≡ true
  pub lowest : (lane : ℕ) → lane < least → set.contains lanes lane ≡ false
  pub small : least < 32
