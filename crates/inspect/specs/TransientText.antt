-- The line of the transient fields (docs/SCRIPTS.md, "The inspector's lines").
use Rattle.std.specs.Prelude.{ℕ, List, [], ◌∷◌, ◌++◌, if◌then◌else◌, codes, length}
use Rattle.std.specs.Fmt.{decimal}
use Rattle.std.specs.List.{concat, list_any}
use Rattle.image_parts.specs.declared.guard_row.GuardRow.{GuardRow}
use Rattle.undo_log.specs.StandsFor.{row_in}
use Rattle.inspect.specs.Sections.{by_lane}

-- the number of a transient field, after a space
abbrev pub mark_text : (field : ℕ) → GuardRow → List ℕ
mark_text f row = if row.transient then concat (codes " " ∷ decimal f ∷ []) else []

-- those of the first fields, so many
abbrev pub marks_text : List GuardRow → (fields : ℕ) → List ℕ
marks_text rows fields = by_lane (λ f. mark_text f (row_in rows f)) fields

-- the line of their numbers
abbrev pub marks_line : List GuardRow → List ℕ
marks_line rows = codes "transient" ++ marks_text rows (length rows) ++ codes "\n"

-- the numbers of the transient fields, where there are any
abbrev pub transient_line : List GuardRow → List ℕ
transient_line rows = if list_any (λ row. row.transient) rows then marks_line rows else []
