-- Where a table keeps the places after the sections of the lanes (this project's own).
use Rattle.std.specs.Prelude.{ℕ, ◌+◌, ◌-◌, ◌*◌, ◌%◌, ◌++◌, List, length, replicate, slice_set}

-- the slot of the lane's section with this number: a row has a slot for each lane, and there is a row more than a lane may have records since what was trimmed
abbrev pub slot_of : (capacity lanes lane section : ℕ) → ℕ
slot_of c k l n = n % (c + 1) * k + l

-- the table with this place in the slot, up to which it grows
abbrev pub with_slot : List ℕ → (slot place : ℕ) → List ℕ
with_slot ends slot place = slice_set (ends ++ replicate (slot + 1 - length ends) 0) slot place
