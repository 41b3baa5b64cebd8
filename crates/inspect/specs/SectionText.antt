-- The lines of sections and of dependences (docs/SCRIPTS.md, "The inspector's lines").
use Rattle.std.specs.Prelude.{ℕ, List, [], ◌∷◌, codes, option_map, reverse, Option}
use Rattle.std.specs.Fmt.{decimal}
use Rattle.std.specs.List.{flat_map}
use Rattle.heap_model.specs.declared.record.UndoRecord.{UndoRecord}
use Rattle.recover_logs.specs.declared.lane_count.LaneCount.{LaneCount}
use Rattle.inspect.specs.declared.form.Form.{Form}
use Rattle.inspect.specs.declared.form.Form.TheVariants.{Lines, Graph}
use Rattle.inspect.specs.declared.numbering.Numbering.{Numbering}
use Rattle.inspect.specs.declared.section.Link.{Link}
use Rattle.inspect.specs.declared.section.Section.{Section}
use Rattle.inspect.specs.declared.section.SectionId.{SectionId}
use Rattle.inspect.specs.Pieces.{line, thread_of}
use Rattle.inspect.specs.GraphText.{node_text, link_edge, state_text}
use Rattle.inspect.specs.Links.{link_from, linked_by}
use Rattle.inspect.specs.Sections.{told, ended_by, whole_sections, unfinished_section, live_sections}

-- a section's thread and number, whether it has ended, and how many live records it has
abbrev pub section_line : Section → List ℕ
section_line s = line (codes "section t" ∷ decimal (thread_of s.id.lane) ∷ codes " " ∷ decimal s.id.number ∷ codes " "
    ∷ state_text s.is_whole ∷ codes " records " ∷ decimal s.records ∷ [])

-- the section that takes, the one that released, the object and the number of the acquire
abbrev pub link_line : Link → List ℕ
link_line k = line (codes "depends t" ∷ decimal (thread_of k.taker.lane) ∷ codes " " ∷ decimal k.taker.number
    ∷ codes " on t" ∷ decimal (thread_of k.releaser.lane) ∷ codes " " ∷ decimal k.releaser.number
    ∷ codes " object " ∷ decimal k.object.0 ∷ codes " number " ∷ decimal k.number ∷ [])

-- a section, in one of the forms
abbrev pub section_text : Form → Numbering → Section → List ℕ
section_text Lines = λ n s. section_line s
section_text (Graph p) = node_text p.firsts.now p.dropped.now

-- a dependence, in one of the forms
abbrev pub link_text : Form → Link → List ℕ
link_text Lines = link_line
link_text (Graph p) = link_edge (option_map (λ x. x.now) p.names) p.firsts.now

-- a lane's live sections, by its live records, which have the oldest first
abbrev pub live_text : Form → Numbering → List UndoRecord → List ℕ
live_text form n records = flat_map (section_text form n) (live_sections n (reverse records))

-- those of them that have ended
abbrev pub whole_text : Form → Numbering → List UndoRecord → List ℕ
whole_text form n records = flat_map (section_text form n) (whole_sections n (reverse records))

-- the section that the record ends, if it ends one
abbrev pub ended_text : Form → Numbering → LaneCount → UndoRecord → List ℕ
ended_text form n p r = flat_map (section_text form n) (ended_by n p r)

-- the section that the lane is in, if it is in one
abbrev pub unfinished_text : Form → Numbering → LaneCount → List ℕ
unfinished_text form n p = flat_map (section_text form n) (unfinished_section n p)

-- what a lane's sections take from those of other lanes, by its live records, which have the oldest first
abbrev pub taken_text : Form → (ℕ → ℕ → Option SectionId) → Numbering → List UndoRecord → List ℕ
taken_text form find n records = flat_map (link_text form) (told (linked_by find n) (reverse records))

-- what the section takes from another lane's by the record, if it takes something
abbrev pub taking_text : Form → (ℕ → ℕ → Option SectionId) → SectionId → UndoRecord → List ℕ
taking_text form find taker r = flat_map (link_text form) (link_from find taker r)
