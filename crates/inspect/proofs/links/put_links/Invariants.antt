use Rattle.std.proofs.Common.{◌≡◌, take, reverse}
use Rattle.std.specs.List.{flat_map}
use Rattle.std.specs.Io.KnownBytes.{Appends}
use Rattle.recover_logs.specs.Lanes.{count_of}
use Rattle.inspect.specs.Sections.{told}
use Rattle.inspect.specs.Links.{finds, linked_by}
use Rattle.inspect.specs.SectionText.{link_text}
use Rattle.inspect.proofs.links.put_links.Given as goal

abbrev pub invariant-loop-entry : goal.invariant-loop-entry
invariant-loop-entry g l = record {
  gone : l.gone ≡ count_of (reverse (take l.entry-index l.records));
  written : Appends (g.W.Write.contents l.initial.writer) (g.W.Write.contents l.writer) (flat_map (link_text l.form) (told (linked_by (finds l.releases) l.numbering) (reverse (take l.entry-index l.records))));
}
