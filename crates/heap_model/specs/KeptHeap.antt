-- The heap that a cut keeps.
use Rattle.std.specs.Prelude.{ℕ, ◌==◌, if◌then◌else◌, List, [], ◌∷◌}
use Rattle.heap_model.specs.declared.record.Record.{Record}
use Rattle.heap_model.specs.declared.record.Record.TheVariants.{Acq, Rel, WaitRel, Put}
use Rattle.heap_model.specs.Sections.{actions}
use Rattle.heap_model.specs.Cuts.{is_counted}

-- the field's value after the stores of the cut's sections, in the order of the log
abbrev pub kept_value : (first cut : ℕ → ℕ) → (field : ℕ) → List (ℕ × Record) → ℕ
kept_value first cut f [] = first f
kept_value first cut f ((l, Acq o n) ∷ older) = kept_value first cut f older
kept_value first cut f ((l, Rel o n) ∷ older) = kept_value first cut f older
kept_value first cut f ((l, WaitRel o n) ∷ older) = kept_value first cut f older
kept_value first cut f ((l, Put g before after) ∷ older) =
    if g.0 == f then (if is_counted cut l (actions older) then after else kept_value first cut f older) else kept_value first cut f older

-- the field's value v with the old values of the dropped stores put back, the newest first (Atlas)
abbrev pub put_back : (cut : ℕ → ℕ) → (field v : ℕ) → List (ℕ × Record) → ℕ
put_back cut f v [] = v
put_back cut f v ((l, Acq o n) ∷ older) = put_back cut f v older
put_back cut f v ((l, Rel o n) ∷ older) = put_back cut f v older
put_back cut f v ((l, WaitRel o n) ∷ older) = put_back cut f v older
put_back cut f v ((l, Put g before after) ∷ older) =
    put_back cut f (if g.0 == f then (if is_counted cut l (actions older) then v else before) else v) older
