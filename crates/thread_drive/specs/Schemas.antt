-- The schema of workers, and which image is theirs.
use Rattle.std.specs.Prelude.{ℕ, zero, suc, false, List, ◌++◌, codes, decimal}
use Rattle.guards.specs.Schema.{Declarations, Field, nothing, with_field, with_object}
use Rattle.thread_work.specs.Runs.{Holds, HoldsAnother, IsOf}
use Rattle.image_parts.specs.declared.guard_row.GuardRow.{GuardRow}
use Rattle.image_parts.specs.declared.layout.Layout.{Layout}
use Rattle.store_image.specs.Formatting.{AreLimits}

-- a persistent field that its object guards, and that begins with 0
abbrev pub count_field : (name : List ℕ) (object : ℕ) → Field
count_field name object = record { name = name; owner = object; guard = object; first = 0; is_transient = false }

-- the names of a worker's own object and field
abbrev pub own_object : (worker : ℕ) → List ℕ
own_object k = codes "w" ++ decimal k

abbrev pub own_field : (worker : ℕ) → List ℕ
own_field k = codes "own" ++ decimal k

-- the object for all with its total, and then each worker's own object and field, so many
abbrev pub schema_of : (workers : ℕ) → Declarations
schema_of zero = with_field (with_object nothing (codes "all")) (count_field (codes "total") 0)
schema_of (suc k) = with_field (with_object (schema_of k) (own_object k)) (count_field (own_field k) (suc k))

-- so many workers may have an image, with lanes of 4,000 records: there are 1 to 32
abbrev pub MayHaveImage : (workers : ℕ) → Type 0
MayHaveImage workers = AreLimits workers 4000

-- an image of this layout with these guard rows is one of so many workers: each has a lane, there is at most one lane more, and objects and
-- fields are theirs
abbrev pub IsOfWorkers : (workers : ℕ) (layout : Layout) (guards : List GuardRow) → Type 0
IsOfWorkers workers layout guards = IsOf (schema_of workers) workers layout guards

-- this is an image of so many workers
abbrev pub HoldsWorkers : (workers : ℕ) (image : List ℕ) → Type 0
HoldsWorkers workers image = Holds (schema_of workers) workers image

-- this is an image, and none of so many workers
abbrev pub HoldsOthers : (workers : ℕ) (image : List ℕ) → Type 0
HoldsOthers workers image = HoldsAnother (schema_of workers) workers image
