-- The lines of a study (docs/SCRIPTS.md, "The inspector's lines").
use Rattle.std.specs.Prelude.{ℕ, ◌+◌, List, [], ◌∷◌, codes, take, reverse}
use Rattle.std.specs.Fmt.{decimal}
use Rattle.std.specs.List.{flat_map, concat}
use Rattle.image_parts.specs.Layout.{size_of}
use Rattle.image_parts.specs.declared.control.Control.{Control}
use Rattle.image_parts.specs.declared.lane_row.LaneRow.{LaneRow}
use Rattle.image_parts.specs.declared.layout.Layout.{Layout}
use Rattle.image_parts.specs.declared.slot.Slot.{Slot}
use Rattle.image_parts.specs.declared.slot.Slot.TheVariants.{A, B}
use Rattle.undo_log.specs.StandsFor.{row_of}
use Rattle.recover_heap.specs.Logs.{records_of}
use Rattle.recover.specs.declared.studied.Study.{Study}
use Rattle.inspect.specs.declared.form.Form.TheVariants.{Lines}
use Rattle.inspect.specs.declared.numbering.Numbering.{Numbering}
use Rattle.inspect.specs.declared.section.Link.{Link}
use Rattle.inspect.specs.declared.section.Section.{Section}
use Rattle.inspect.specs.Pieces.{line, list_line}
use Rattle.inspect.specs.Sections.{by_lane, live_sections, numbering_of}
use Rattle.inspect.specs.Links.{links_in}
use Rattle.inspect.specs.SectionText.{section_text, link_text}
use Rattle.inspect.specs.TransientText.{transient_line}

-- the numbers of the image, and its size in bytes
abbrev pub image_line : Layout → List ℕ
image_line l = line (codes "image lanes " ∷ decimal l.lanes ∷ codes " capacity " ∷ decimal l.capacity ∷ codes " objects " ∷ decimal l.objects
    ∷ codes " fields " ∷ decimal l.fields ∷ codes " size " ∷ decimal (size_of l) ∷ [])

abbrev pub slot_text : Slot → List ℕ
slot_text A = codes "a"
slot_text B = codes "b"

-- the control that counts, and its slot
abbrev pub control_line : Slot → Control → List ℕ
control_line s c = line (codes "control " ∷ slot_text s ∷ codes " sequence " ∷ decimal c.sequence ∷ codes " version " ∷ decimal c.version ∷ [])

-- a lane's row
abbrev pub lane_line : (lane : ℕ) → LaneRow → List ℕ
lane_line l row = line (codes "lane t" ∷ decimal (l + 1) ∷ codes " start " ∷ decimal row.start ∷ codes " settled " ∷ decimal row.settled
    ∷ codes " logged " ∷ decimal row.logged ∷ codes " kept " ∷ decimal row.kept ∷ [])

abbrev pub lane_lines : (lanes : ℕ) → List LaneRow → List ℕ
lane_lines lanes rows = by_lane (λ l. lane_line l (row_of rows l)) lanes

-- the image, its control, its transient fields and its lanes
abbrev pub head_text : Study → List ℕ
head_text s = concat (image_line s.layout ∷ control_line s.slot s.control ∷ transient_line s.guards.items ∷ lane_lines s.layout.lanes s.control.rows ∷ [])

-- a text of each live section of a lane, by number
abbrev pub lane_sections : (Numbering → Section → List ℕ) → Study → (lane : ℕ) → List ℕ
lane_sections text s l = flat_map (text (numbering_of s l)) (live_sections (numbering_of s l) (reverse (records_of s.records.items l)))

-- the live sections, by lane and number
abbrev pub sections_text : Study → List ℕ
sections_text s = by_lane (lane_sections (section_text Lines) s) s.layout.lanes

-- a text of each dependence of a live section on one of another lane, by section and place
abbrev pub links_text : (Link → List ℕ) → Study → List ℕ
links_text text s = by_lane (λ l. flat_map text (links_in s l)) s.layout.lanes

-- the cut that is kept, and the heap that the image stands for
abbrev pub end_text : Study → List ℕ
end_text s = concat (list_line (codes "cut") (take s.layout.lanes s.report.kept.counts) ∷ list_line (codes "heap") s.heap.items ∷ [])

-- what an image holds
abbrev pub study_text : Study → List ℕ
study_text s = concat (head_text s ∷ sections_text s ∷ links_text (link_text Lines) s ∷ end_text s ∷ [])
