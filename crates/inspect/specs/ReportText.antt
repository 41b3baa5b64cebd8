-- The lines of a report (docs/SCRIPTS.md, "Lines").
use Rattle.std.specs.Prelude.{ℕ, List, [], ◌∷◌, codes, take}
use Rattle.std.specs.Fmt.{decimal}
use Rattle.std.specs.List.{flat_map, concat}
use Rattle.recover.specs.declared.report.Report.{Report}
use Rattle.recover.specs.declared.report.Dropped.{Dropped}
use Rattle.recover.specs.declared.report.Why.{Why}
use Rattle.recover.specs.declared.report.Why.TheVariants.{Unfinished, After, Unsettled}
use Rattle.inspect.specs.Pieces.{line, list_line, thread_of}

-- why a section is dropped
abbrev pub why_text : Why → List (List ℕ)
why_text Unfinished = codes " unfinished" ∷ []
why_text (After lane section) = codes " after t" ∷ decimal (thread_of lane) ∷ codes " " ∷ decimal section ∷ []
why_text Unsettled = codes " unsettled" ∷ []

abbrev pub dropped_line : Dropped → List ℕ
dropped_line d = line (codes "dropped t" ∷ decimal (thread_of d.lane) ∷ codes " " ∷ decimal d.section ∷ why_text d.why)

abbrev pub dropped_lines : List Dropped → List ℕ
dropped_lines dropped = flat_map dropped_line dropped

-- what is kept of the first lanes, each dropped section, how many fields took their old value back, and the heap
abbrev pub report_text : Report → (heap : List ℕ) → (lanes : ℕ) → List ℕ
report_text r heap lanes = concat (
    list_line (codes "kept") (take lanes r.kept.counts)
    ∷ dropped_lines r.dropped.items
    ∷ line (codes "undone " ∷ decimal r.undone ∷ [])
    ∷ list_line (codes "heap") heap
    ∷ [])
