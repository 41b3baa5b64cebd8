-- A study as a graph, in Graphviz's DOT language (this project's own).
use Rattle.std.specs.Prelude.{ℕ, ◌+◌, ◌-◌, ◌==◌, if◌then◌else◌, List, [], ◌∷◌, codes, Option, None}
use Rattle.std.specs.Fmt.{decimal}
use Rattle.std.specs.List.{concat}
use Rattle.guards.specs.Schema.{Declarations}
use Rattle.recover.specs.declared.report.Dropped.{Dropped}
use Rattle.recover.specs.declared.studied.Study.{Study}
use Rattle.inspect.specs.Drawn.{bounds, first_drawn}
use Rattle.inspect.specs.GraphText.{node_text, link_edge}
use Rattle.inspect.specs.Pieces.{line}
use Rattle.inspect.specs.Sections.{by_lane, numbering_of}
use Rattle.inspect.specs.StudyText.{lane_sections, links_text}

-- the beginning, with the legend
abbrev pub graph_head : List ℕ
graph_head = line (codes "digraph sections {\nrankdir=LR\nlabelloc=b\nlabeljust=l\nlabel=\"grey: acknowledged, and kept\\l"
    ∷ codes "dropped by recovery: pink, it has not ended; orange, it depends on one that is dropped; yellow, it was not settled\\l"
    ∷ codes "dotted: depends on the thread's section before it\\lplain: depends on the section that freed what it took; number N: by the object's Nth release since the heap was opened\\l\"" ∷ [])

-- the heading of a lane's column is its thread
abbrev pub whole_head : (lane : ℕ) → List ℕ
whole_head l = line (codes "subgraph t" ∷ decimal (l + 1) ∷ codes " {\nrank=same\n\"t" ∷ decimal (l + 1) ∷ codes "\" [shape=plaintext]" ∷ [])

-- and how many of its first sections are left out
abbrev pub cut_head : (lane count : ℕ) → List ℕ
cut_head l count = line (codes "subgraph t" ∷ decimal (l + 1) ∷ codes " {\nrank=same\n\"t" ∷ decimal (l + 1) ∷ codes "\" [shape=plaintext, label=\"t" ∷ decimal (l + 1)
    ∷ codes "\\nleft out here: " ∷ decimal count ∷ codes " before these\"]" ∷ [])

-- the beginning of a lane's column
abbrev pub column_head : (lane left_out : ℕ) → List ℕ
column_head l left_out = if left_out == 0 then whole_head l else cut_head l left_out

-- it stands right of the column of the lane before it, if there is one: by an edge that isn't drawn
abbrev pub column_edge : (lane : ℕ) → List ℕ
column_edge l = if l == 0 then [] else line (codes "\"t" ∷ decimal l ∷ codes "\" -> \"t" ∷ decimal (l + 1) ∷ codes "\" [style=invis]" ∷ [])

-- how many of the lane's first live sections are left out
abbrev pub left_out_of : (firsts : List ℕ) → Study → (lane : ℕ) → ℕ
left_out_of firsts s l = first_drawn firsts l - (numbering_of s l).first

-- the column of a lane, with a node for each live section that is drawn
abbrev pub column_text : (firsts : List ℕ) (dropped : List Dropped) → Study → (lane : ℕ) → List ℕ
column_text firsts dropped s l =
    concat (column_head l (left_out_of firsts s l) ∷ lane_sections (node_text firsts dropped) s l ∷ line (codes "}" ∷ []) ∷ column_edge l ∷ [])

abbrev pub columns_text : (firsts : List ℕ) (dropped : List Dropped) → Study → List ℕ
columns_text firsts dropped s = by_lane (column_text firsts dropped s) s.layout.lanes

-- the lanes' columns, and an edge for each dependence on a section of another lane
abbrev pub graph_of : Option Declarations → (firsts : List ℕ) (dropped : List Dropped) → Study → List ℕ
graph_of names firsts dropped s =
    concat (graph_head ∷ columns_text firsts dropped s ∷ links_text (link_edge names firsts) s ∷ line (codes "}" ∷ []) ∷ [])

-- by the names of this schema, if there is one: the section that each lane is in, and the last so many that have ended
abbrev pub picture_text : Option Declarations → (last : ℕ) → Study → List ℕ
picture_text names last s = graph_of names (bounds last s) s.report.dropped.items s

-- by numbers, and the last fifty
abbrev pub graph_text : Study → List ℕ
graph_text s = picture_text None 50 s
