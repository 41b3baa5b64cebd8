-- A graph of sections, in Graphviz's DOT language (this project's own). Lanes are columns, since nodes of one rank are drawn in one.
-- `firsts` has the number of each lane's first section that is drawn.
use Rattle.std.specs.Prelude.{ℕ, ◌-◌, ◌==◌, ◌&&◌, if◌then◌else◌, nat_le, Bool, true, false, List, [], ◌∷◌, ◌++◌, codes, Option, None, Some, slice_get}
use Rattle.std.specs.Fmt.{decimal}
use Rattle.std.specs.List.{concat}
use Rattle.guards.specs.Schema.{Declarations}
use Rattle.recover.specs.declared.report.Dropped.{Dropped}
use Rattle.recover.specs.declared.report.Why.{Why}
use Rattle.recover.specs.declared.report.Why.TheVariants.{Unfinished, After, Unsettled}
use Rattle.inspect.specs.declared.numbering.Numbering.{Numbering}
use Rattle.inspect.specs.declared.section.Link.{Link}
use Rattle.inspect.specs.declared.section.Section.{Section}
use Rattle.inspect.specs.declared.section.SectionId.{SectionId}
use Rattle.inspect.specs.Drawn.{first_drawn, is_drawn}
use Rattle.inspect.specs.Pieces.{line, thread_of}

-- whether a section has ended, in a word
abbrev pub state_text : Bool → List ℕ
state_text true = codes "whole"
state_text false = codes "unfinished"

-- this is about that section
abbrev pub is_about : Dropped → SectionId → Bool
is_about d id = d.lane.0 == id.lane.0 && d.section == id.number

-- why a section is dropped, if it is
abbrev pub reason_in : List Dropped → SectionId → Option Why
reason_in [] id = None
reason_in (d ∷ rest) id = if is_about d id then Some d.why else reason_in rest id

-- a section's node begins with its thread and number, whether it has ended, and its records
abbrev pub node_front : Section → List ℕ
node_front s = concat (codes "\"t" ∷ decimal (thread_of s.id.lane) ∷ codes "." ∷ decimal s.id.number
    ∷ codes "\" [label=\"t" ∷ decimal (thread_of s.id.lane) ∷ codes " " ∷ decimal s.id.number ∷ codes "\\n"
    ∷ state_text s.is_whole ∷ codes ", " ∷ decimal s.records ∷ codes " records" ∷ [])

-- an acknowledged section is drawn filled
abbrev pub plain_end : (kept : Bool) → List ℕ
plain_end true = codes "\", style=filled]"
plain_end false = codes "\"]"

-- one that is dropped has a colour, and says why; of one that has not ended its first words do
abbrev pub reason_end : Why → List (List ℕ)
reason_end Unfinished = codes "\", style=filled, fillcolor=lightpink]" ∷ []
reason_end (After lane section) = codes "\\nafter t" ∷ decimal (thread_of lane) ∷ codes " " ∷ decimal section ∷ codes "\", style=filled, fillcolor=orange]" ∷ []
reason_end Unsettled = codes "\\nunsettled\", style=filled, fillcolor=khaki]" ∷ []

abbrev pub node_end : Option Why → (kept : Bool) → List ℕ
node_end None kept = line (plain_end kept ∷ [])
node_end (Some why) kept = line (reason_end why)

abbrev pub node_line : Numbering → Option Why → Section → List ℕ
node_line n why s = node_front s ++ node_end why (nat_le s.id.number n.kept)

-- the first section of a lane stands below the heading of the lane's column: by an edge that isn't drawn
abbrev pub heading_edge : Section → List ℕ
heading_edge s = line (codes "\"t" ∷ decimal (thread_of s.id.lane) ∷ codes "\" -> \"t" ∷ decimal (thread_of s.id.lane) ∷ codes "." ∷ decimal s.id.number
    ∷ codes "\" [style=invis]" ∷ [])

-- another stands below the one before it, on which it depends: the edge begins at the upper one, and is drawn backwards
abbrev pub before_edge : Section → List ℕ
before_edge s = line (codes "\"t" ∷ decimal (thread_of s.id.lane) ∷ codes "." ∷ decimal (s.id.number - 1)
    ∷ codes "\" -> \"t" ∷ decimal (thread_of s.id.lane) ∷ codes "." ∷ decimal s.id.number ∷ codes "\" [style=dotted, dir=back]" ∷ [])

-- what a section stands below
abbrev pub order_edge : (firsts : List ℕ) → Section → List ℕ
order_edge firsts s = if nat_le s.id.number (first_drawn firsts s.id.lane.0) then heading_edge s else before_edge s

abbrev pub whole_node : (firsts : List ℕ) (dropped : List Dropped) → Numbering → Section → List ℕ
whole_node firsts dropped n s = node_line n (reason_in dropped s.id) s ++ order_edge firsts s

-- a section that is drawn
abbrev pub node_text : (firsts : List ℕ) (dropped : List Dropped) → Numbering → Section → List ℕ
node_text firsts dropped n s = if is_drawn firsts s.id then whole_node firsts dropped n s else []

-- the name that a schema has for an object
abbrev pub name_in : Option Declarations → (object : ℕ) → Option (List ℕ)
name_in None o = None
name_in (Some schema) o = slice_get schema.objects o

abbrev pub named_text : (name : Option (List ℕ)) → (object : ℕ) → List ℕ
named_text None o = concat (codes "object " ∷ decimal o ∷ [])
named_text (Some name) o = concat (name ∷ [])

-- an object, by its name where it has one
abbrev pub object_text : Option Declarations → (object : ℕ) → List ℕ
object_text names o = named_text (name_in names o) o

-- a dependence: from the section that takes to the one that released. It moves no section from its place.
abbrev pub edge_front : Link → List ℕ
edge_front k = concat (codes "\"t" ∷ decimal (thread_of k.taker.lane) ∷ codes "." ∷ decimal k.taker.number
    ∷ codes "\" -> \"t" ∷ decimal (thread_of k.releaser.lane) ∷ codes "." ∷ decimal k.releaser.number ∷ codes "\" [label=\"" ∷ [])

abbrev pub edge_end : Link → List ℕ
edge_end k = line (codes " number " ∷ decimal k.number ∷ codes "\", constraint=false]" ∷ [])

abbrev pub whole_edge : Option Declarations → Link → List ℕ
whole_edge names k = concat (edge_front k ∷ object_text names k.object.0 ∷ edge_end k ∷ [])

-- of two sections that are drawn
abbrev pub link_edge : Option Declarations → (firsts : List ℕ) → Link → List ℕ
link_edge names firsts k = if is_drawn firsts k.taker && is_drawn firsts k.releaser then whole_edge names k else []
