-- A graph by a picture, which says what of a study is drawn, and by which names.
use Rattle.std.specs.Prelude.{ℕ, List, Option, option_map}
use Rattle.std.specs.Borrow.{Bor}
use Rattle.guards.specs.Schema.{Declarations}
use Rattle.recover.specs.declared.studied.Study.{Study}
use Rattle.inspect.specs.declared.numbering.Numbering.{Numbering}
use Rattle.inspect.specs.declared.picture.Picture.{Picture}
use Rattle.inspect.specs.declared.section.Link.{Link}
use Rattle.inspect.specs.declared.section.Section.{Section}
use Rattle.inspect.specs.GraphText.{node_text, whole_node, link_edge}
use Rattle.inspect.specs.WholeGraph.{graph_of, columns_text, column_text}

-- the schema that is lent, if one is
abbrev pub names_of : Option (Bor Declarations) → Option Declarations
names_of names = option_map (λ x. x.now) names

abbrev pub drawn_graph : Picture → Study → List ℕ
drawn_graph p s = graph_of (names_of p.names) p.firsts.now p.dropped.now s

abbrev pub drawn_columns : Picture → Study → List ℕ
drawn_columns p s = columns_text p.firsts.now p.dropped.now s

abbrev pub drawn_column : Picture → Study → (lane : ℕ) → List ℕ
drawn_column p s l = column_text p.firsts.now p.dropped.now s l

-- the node of a section, where it is drawn
abbrev pub drawn_node : Picture → Numbering → Section → List ℕ
drawn_node p n s = node_text p.firsts.now p.dropped.now n s

-- the node of a section that is drawn
abbrev pub node_by : Picture → Numbering → Section → List ℕ
node_by p n s = whole_node p.firsts.now p.dropped.now n s

-- the edge of a dependence, where both of its sections are drawn
abbrev pub drawn_edge : Picture → Link → List ℕ
drawn_edge p k = link_edge (names_of p.names) p.firsts.now k
