use Rattle.std.proofs.Common.{◌≡◌, ◌++◌, List, take, reverse}
use Rattle.recover_logs.specs.Lanes.{count_of}
use Rattle.inspect.specs.Sections.{told}
use Rattle.inspect.specs.Links.{Release, Tells, released_by}
use Rattle.inspect.proofs.releases.note_lane.Given as goal

abbrev pub invariant-loop-entry : goal.invariant-loop-entry
invariant-loop-entry l = record {
  gone : l.gone ≡ count_of (reverse (take l.entry-index l.records));
  noted : (older : List Release) → Tells l.initial.releases older → Tells l.releases (older ++ told (released_by l.numbering) (reverse (take l.entry-index l.records)));
}
