-- What a store finds of the records beyond a cut (this project's own). Lists of (lane, record) have their newest element first.
use Rattle.std.specs.Prelude.{ℕ, ◌≡◌, ◌<◌, ◌==◌, if◌then◌else◌, List, [], ◌∷◌, length, slice_index, Option, Some, None}
use Rattle.heap_model.specs.declared.record.LaneRecord.{LaneRecord}
use Rattle.heap_model.specs.declared.record.Record.{Record}
use Rattle.heap_model.specs.declared.record.Record.TheVariants.{Acq, Rel, WaitRel, Put}
use Rattle.heap_model.specs.Base.{records_since}
use Rattle.heap_model.specs.Cuts.{IsClosed}
use Rattle.heap_model.specs.Log.{IsLegal, log_from, value}
use Rattle.heap_model.specs.Sections.{actions}
use Rattle.heap_model.specs.Setting.{Setting}
use Rattle.store_helper_sections.specs.Image.{kept_by}

-- the field's value v with the old values of these stores put back, the newest first (Atlas)
abbrev pub put_all_back : (field v : ℕ) → List (ℕ × Record) → ℕ
put_all_back f v [] = v
put_all_back f v ((l, Acq o n) ∷ older) = put_all_back f v older
put_all_back f v ((l, Rel o n) ∷ older) = put_all_back f v older
put_all_back f v ((l, WaitRel o n) ∷ older) = put_all_back f v older
put_all_back f v ((l, Put g before after) ∷ older) = put_all_back f (if g.0 == f then before else v) older

-- the record is no store, or one to a field of so many
abbrev pub IsStoreIn : (fields : ℕ) → Record → Type 0
IsStoreIn n (Acq o i) = Unit {0}
IsStoreIn n (Rel o i) = Unit {0}
IsStoreIn n (WaitRel o i) = Unit {0}
IsStoreIn n (Put f before after) = f.0 < n

abbrev pub IsOfFields : (fields : ℕ) → LaneRecord → Type 0
IsOfFields n e = IsStoreIn n e.record

-- the number at which the record takes the object, if it does
abbrev pub taken_by : Record → (object : ℕ) → Option ℕ
taken_by (Acq p n) o = if p.0 == o then Some n else None
taken_by (Rel p n) o = None
taken_by (WaitRel p n) o = None
taken_by (Put f before after) o = None

-- Of fields that have their values after all records of a legal log, what its records beyond a closed cut put back is what the cut keeps.
abbrev pub KeptValues : (beyond : List LaneRecord) → (before after : List ℕ) → Type 0
KeptValues beyond before after = (s : Setting) (log : List (ℕ × Record)) (cut : ℕ → ℕ) → IsLegal s log → IsClosed (actions log) cut → log_from beyond ≡ records_since cut log →
    (f : ℕ) → f < length after → slice_index before f ≡ value s.first f log → slice_index after f ≡ kept_by s log cut f
