-- What a live section takes from one of another lane: an object that was released at the number before (Atlas).
use Rattle.std.specs.Prelude.{ℕ, ◌≡◌, ◌-◌, ◌==◌, ◌&&◌, if◌then◌else◌, List, [], ◌∷◌, reverse, Option, Some, None}
use Rattle.std.specs.Ordering.{nat_cmp, ordering_then}
use Rattle.std.specs.BTreeMap.{BTreeMap, get}
use Rattle.heap_model.specs.declared.record.UndoRecord.{UndoRecord}
use Rattle.heap_model.specs.declared.record.UndoRecord.TheVariants.{Acq, Rel, WaitRel, Put}
use Rattle.heap_model.specs.declared.ids.ObjectId.{ObjectId}
use Rattle.recover_heap.specs.Logs.{records_of}
use Rattle.recover.specs.declared.studied.Study.{Study}
use Rattle.inspect.specs.declared.numbering.Numbering.{Numbering}
use Rattle.recover_logs.specs.declared.lane_count.LaneCount.{LaneCount}
use Rattle.inspect.specs.declared.section.Link.{Link}
use Rattle.inspect.specs.declared.section.SectionId.{SectionId}
use Rattle.inspect.specs.Sections.{section_id, told, by_lane, numbering_of}

-- a release of an object at a number, by a section
pub record Release : Type 0 where
  pub object : ℕ
  pub number : ℕ
  pub section : SectionId

-- the release that the record is, if it is one
abbrev pub released_by : Numbering → LaneCount → UndoRecord → List Release
released_by n p (Acq o k) = []
released_by n p (Rel o k) = record { object = o.0; number = k; section = section_id n p.ended } ∷ []
released_by n p (WaitRel o k) = record { object = o.0; number = k; section = section_id n p.ended } ∷ []
released_by n p (Put f before) = []

-- the live releases of a study, by lane and place
abbrev pub releases_of : Study → List Release
releases_of s = by_lane (λ l. told (released_by (numbering_of s l)) (reverse (records_of s.records.items l))) s.layout.lanes

-- the second, where there is one, else the first
abbrev pub last_of : Option SectionId → Option SectionId → Option SectionId
last_of first None = first
last_of first (Some x) = Some x

-- the section of the last of these releases that is of the object at this number; legal logs have one at most
abbrev pub releaser_in : List Release → (object number : ℕ) → Option SectionId
releaser_in [] o n = None
releaser_in (x ∷ later) o n = last_of (if x.object == o && x.number == n then Some x.section else None) (releaser_in later o n)

-- that section, if it is of another lane
abbrev pub of_other : SectionId → Option SectionId → Option SectionId
of_other taker None = None
of_other taker (Some from) = if from.lane.0 == taker.lane.0 then None else Some from

-- the section of another lane whose release a section takes that acquires the object at this number
abbrev pub taken_in : (ℕ → ℕ → Option SectionId) → SectionId → (object number : ℕ) → Option SectionId
taken_in find taker o n = if n == 0 then None else of_other taker (find o (n - 1))

abbrev pub link_to : SectionId → ObjectId → ℕ → Option SectionId → List Link
link_to taker o n None = []
link_to taker o n (Some from) = record { taker = taker; releaser = from; object = o; number = n } ∷ []

-- a link, if there is one
abbrev pub one_or_none : Option Link → List Link
one_or_none None = []
one_or_none (Some k) = k ∷ []

-- what the section takes from another lane's by the record
abbrev pub link_from : (ℕ → ℕ → Option SectionId) → SectionId → UndoRecord → List Link
link_from find taker (Acq o n) = link_to taker o n (taken_in find taker o.0 n)
link_from find taker (Rel o n) = []
link_from find taker (WaitRel o n) = []
link_from find taker (Put f before) = []

abbrev pub linked_by : (ℕ → ℕ → Option SectionId) → Numbering → LaneCount → UndoRecord → List Link
linked_by find n p r = link_from find (section_id n p.ended) r

-- what the sections of the study's lane take from those of others, by place
abbrev pub links_in : Study → (lane : ℕ) → List Link
links_in s l = told (linked_by (releaser_in (releases_of s)) (numbering_of s l)) (reverse (records_of s.records.items l))

-- what a table of releases finds
abbrev pub finds : BTreeMap (ℕ × ℕ) SectionId → (object number : ℕ) → Option SectionId
finds table o n = get (λ x y. ordering_then (nat_cmp x.0 y.0) (nat_cmp x.1 y.1)) table (o, n)

-- a table tells these releases
abbrev pub Tells : BTreeMap (ℕ × ℕ) SectionId → List Release → Type 0
Tells table list = (o n : ℕ) → finds table o n ≡ releaser_in list o n
