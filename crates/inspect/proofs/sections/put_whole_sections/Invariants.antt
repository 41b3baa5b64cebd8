use Rattle.std.proofs.Common.{◌≡◌, take, reverse}
use Rattle.std.specs.List.{flat_map}
use Rattle.std.specs.Io.KnownBytes.{Appends}
use Rattle.recover_logs.specs.Lanes.{count_of}
use Rattle.inspect.specs.Sections.{whole_sections}
use Rattle.inspect.specs.SectionText.{section_text}
use Rattle.inspect.proofs.sections.put_whole_sections.Given as goal

abbrev pub invariant-loop-entry : goal.invariant-loop-entry
invariant-loop-entry g l = record {
  gone : l.gone ≡ count_of (reverse (take l.entry-index l.records));
  written : Appends (g.W.Write.contents l.initial.writer) (g.W.Write.contents l.writer) (flat_map (section_text l.form l.numbering) (whole_sections l.numbering (reverse (take l.entry-index l.records))));
}
