use Rattle.std.proofs.Common.{ℕ}
use Rattle.std.specs.List.{flat_map}
use Rattle.std.specs.Io.KnownBytes.{Appends}
use Rattle.inspect.specs.Sections.{by_lane}
use Rattle.inspect.specs.Links.{links_in}
use Rattle.inspect.specs.SectionText.{link_text}
use Rattle.inspect.proofs.study_lines.put_all_links.Given as goal

abbrev pub invariant-loop-lane : goal.invariant-loop-lane
invariant-loop-lane g l = Appends (g.W.Write.contents l.initial.writer) (g.W.Write.contents l.writer) (by_lane (λ (lane : ℕ). flat_map (link_text l.form) (links_in l.study lane)) l.lane)
