use Rattle.std.proofs.Common.{◌≡◌, take, map, reverse}
use Rattle.law_cuts.specs.Plain.{HasSections}
use Rattle.law_cuts.proofs.numbering.numbered.Given as goal

abbrev pub invariant-loop-i : goal.invariant-loop-i
invariant-loop-i l = record {
  entries : map (λ s. s.entry) l.steps.items ≡ take l.i l.records;
  sections : HasSections (reverse l.steps.items);
}
