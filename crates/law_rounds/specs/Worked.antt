-- A worked round (this project's own). The first thread's section stores 5 to the first field and ends; the second thread has taken the guard
-- from it, at number 1, and has stored 7 in a section that is open. So the cut has the first section alone, and the helper's stores 5 just
-- before the second thread takes the guard: at number 0.
use Rattle.std.specs.Prelude.{ℕ, ◌≡◌, ◌-◌, ◌^◌, ◌==◌, if◌then◌else◌, true, List, [], ◌∷◌}
use Rattle.heap_model.specs.declared.ids.FieldId.{FieldId}
use Rattle.heap_model.specs.declared.ids.ObjectId.{ObjectId}
use Rattle.heap_model.specs.declared.record.Record.{Record}
use Rattle.heap_model.specs.declared.record.Record.TheVariants.{Acq, Rel, Put}
use Rattle.heap_model.specs.Base.{records_since}
use Rattle.heap_model.specs.Setting.{Setting}
use Rattle.image_parts.specs.declared.layout.Layout.{Layout}
use Rattle.store_helper_sections.specs.HelperSections.{ArePreceding, HelperSection}
use Rattle.store_helper_sections.specs.Image.{IsRoundOf, kept_by}

-- two threads' lanes and the helper's, four objects, and a field of each of the first two
abbrev pub worked_layout : Layout
worked_layout = record { objects = 4; fields = 2; lanes = 3; capacity = 4000 }

abbrev pub worked_setting : Setting
worked_setting = record { objects = 4; fields = 2; guard = λ f. f; first = λ f. if f == 0 then 10 else 20; is_logged = λ f. true; last = 2 ^ 40 - 1 }

abbrev pub first_object : ObjectId
first_object = record { 0 = 0 }

abbrev pub first_field : FieldId
first_field = record { 0 = 0 }

abbrev pub worked_log : List (ℕ × Record)
worked_log = (1, Put first_field 5 7) ∷ (1, Acq first_object 1) ∷ (0, Rel first_object 0) ∷ (0, Put first_field 10 5) ∷ (0, Acq first_object 0) ∷ []

abbrev pub worked_cut : ℕ → ℕ
worked_cut l = if l == 0 then 1 else 0

-- the helper's section at this number
abbrev pub worked_section : (number : ℕ) → HelperSection
worked_section n = record { guard = first_object; number = n; fields = first_field ∷ [] }

-- There is such a round, and it keeps what the first thread stored; at no other number may the helper's section stand.
pub record WorkedRound : Type 0 where
  pub round : IsRoundOf worked_layout 2 worked_setting worked_log worked_cut (worked_section 0 ∷ [])
  pub first : kept_by worked_setting worked_log worked_cut 0 ≡ 5
  pub second : kept_by worked_setting worked_log worked_cut 1 ≡ 20
  pub number : (n : ℕ) → ArePreceding worked_setting (records_since worked_cut worked_log) (worked_section n ∷ []) → n ≡ 0
