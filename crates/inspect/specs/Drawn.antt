-- What of a study is drawn: of each lane the section that it is in, and the last so many that have ended (this project's own).
use Rattle.std.specs.Prelude.{ℕ, ◌+◌, ◌-◌, Bool, nat_le, List, [], ◌∷◌, reverse, slice_index_or}
use Rattle.recover_logs.specs.Lanes.{count_of}
use Rattle.recover_heap.specs.Logs.{records_of}
use Rattle.recover.specs.declared.studied.Study.{Study}
use Rattle.inspect.specs.declared.section.SectionId.{SectionId}
use Rattle.inspect.specs.Sections.{by_lane, numbering_of}

-- the number of the lane's first section that is drawn
abbrev pub drawn_from : (last : ℕ) → Study → (lane : ℕ) → ℕ
drawn_from last s l = (numbering_of s l).first + ((count_of (reverse (records_of s.records.items l))).ended - last)

-- of each lane
abbrev pub bounds : (last : ℕ) → Study → List ℕ
bounds last s = by_lane (λ l. drawn_from last s l ∷ []) s.layout.lanes

-- by these numbers
abbrev pub first_drawn : (firsts : List ℕ) → (lane : ℕ) → ℕ
first_drawn firsts l = slice_index_or firsts l 0

abbrev pub is_drawn : (firsts : List ℕ) → SectionId → Bool
is_drawn firsts id = nat_le (first_drawn firsts id.lane.0) id.number
