-- What a session keeps to, so that the store takes each of its records: by the lane's records alone, the newest first.
use Rattle.std.specs.Prelude.{ℕ, ◌≡◌, ◌+◌, ◌<◌, ◌≤◌, ◌^◌, List, [], ◌∷◌, map, length}
use Rattle.heap_model.specs.declared.record.Record.{Record}
use Rattle.heap_model.specs.declared.limits.TheConstants.{SECTION_RECORDS}
use Rattle.heap_model.specs.Sections.{action, holding, open_section}

-- The lane's next record fits: the section's records with this one and the releases that it then needs are within the limit, and a
-- section begins below place 2 ^ 62, where the area from `start` has room for it.
pub record FitsNext (start capacity : ℕ) (older : List Record) (r : Record) : Type 0 where
  pub short : length (open_section (map action older)) + 1 + length (holding (action r ∷ map action older)) ≤ SECTION_RECORDS
  pub low : length (holding (map action older)) ≡ 0 → length older < 2 ^ 62
  pub room : length (holding (map action older)) ≡ 0 → length older + SECTION_RECORDS ≤ start + capacity

-- each record of the lane did
abbrev pub KeepsLimits : (start capacity : ℕ) → List Record → Type 0
KeepsLimits start capacity [] = Unit {0}
KeepsLimits start capacity (r ∷ older) = KeepsLimits start capacity older × FitsNext start capacity older r
