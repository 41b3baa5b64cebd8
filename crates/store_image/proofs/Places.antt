-- Where a lane's sections end, counted in its records.
use Rattle.std.proofs.Common.{ℕ, ◌≡◌, suc, ◌+◌, ◌-◌, ◌<◌, ◌≤◌, ◌==◌, if◌then◌else◌, nat_lt, true, false, List, [], ◌∷◌, ◌++◌, length, map, refl, sym, ap, ◌∙◌, inl, inr, arith, length-append}
use Rattle.std.proofs.lemmas.Bool.{lt-ltb, le-ltb, cases_lt}
use Rattle.std.proofs.lemmas.List.{map-append}
use Rattle.std.proofs.lemmas.Bool.Decides.{eqb_tells}
use Rattle.heap_model.specs.declared.record.Record.{Record}
use Rattle.heap_model.specs.declared.record.UndoRecord.{UndoRecord}
use Rattle.heap_model.specs.declared.record.UndoRecord.TheVariants as undo
use Rattle.heap_model.specs.Record.{undo_of}
use Rattle.heap_model.specs.Log.{lane}
use Rattle.heap_model.specs.Sections.{action, actions, holding, without, ended, undo_action}
use Rattle.heap_model.specs.Cuts.{is_counted}
use Rattle.heap_model.specs.Base.{records_since, records_until}
use Rattle.law_cuts.proofs.Stores.{lane_same}
use Rattle.law_cuts.proofs.Lanes.{lane_actions, ended_in_lane}
use Rattle.law_histories.proofs.Parts.{lane_until}
use Rattle.law_histories.proofs.Reorder.{split_lane}
use Rattle.law_histories.proofs.Rebase.{ended_add, until_ends}
use Rattle.undo_log.specs.Dropped.{undo_logs, records_in}
use Rattle.undo_log.proofs.Back.{actions_undo, length_undo}

-- a record of the first n sections, and one that is none
pub in_sections : (n : ℕ) (r : UndoRecord) (older : List UndoRecord) → ended (map undo_action older) < n → records_in n (r ∷ older) ≡ length older + 1
in_sections n r older lt = ap (λ b. if b then length older + 1 else records_in n older) (lt-ltb _ _ lt)

pub past_sections : (n : ℕ) (r : UndoRecord) (older : List UndoRecord) → n ≤ ended (map undo_action older) → records_in n (r ∷ older) ≡ records_in n older
past_sections n r older le = ap (λ b. if b then length older + 1 else records_in n older) (le-ltb _ _ le)

-- sections have no more records than there are
pub records_within : (n : ℕ) (xs : List UndoRecord) → records_in n xs ≤ length xs
records_within n [] = omega arith
records_within n (r ∷ older) = elim (cases_lt (ended (map undo_action older)) n) [
  | inl lt ↦ omega (arith, in_sections n r older lt)
  | inr le ↦ omega (arith, past_sections n r older le, records_within n older)
]

-- and a section has a record at least
ended_within : (xs : List UndoRecord) → ended (map undo_action xs) ≤ length xs
ended_within [] = omega arith
ended_within (undo.Acq o n ∷ xs) = omega (arith, ended_within xs)
ended_within (undo.Put f v ∷ xs) = omega (arith, ended_within xs)
ended_within (undo.Rel o n ∷ xs) = elim (length (without o.0 (holding (map undo_action xs))) == 0) as (λ b. (if b then ended (map undo_action xs) + 1 else ended (map undo_action xs)) ≤ suc (length xs))
    [ true ↦ omega (arith, ended_within xs) | false ↦ omega (arith, ended_within xs) ]
ended_within (undo.WaitRel o n ∷ xs) = elim (length (without o.0 (holding (map undo_action xs))) == 0) as (λ b. (if b then ended (map undo_action xs) + 1 else ended (map undo_action xs)) ≤ suc (length xs))
    [ true ↦ omega (arith, ended_within xs) | false ↦ omega (arith, ended_within xs) ]

pub one_more : (r : UndoRecord) (xs : List UndoRecord) → ended (map undo_action (r ∷ xs)) ≤ ended (map undo_action xs) + 1
one_more (undo.Acq o n) xs = omega arith
one_more (undo.Put f v) xs = omega arith
one_more (undo.Rel o n) xs = elim (length (without o.0 (holding (map undo_action xs))) == 0) as (λ b. (if b then ended (map undo_action xs) + 1 else ended (map undo_action xs)) ≤ ended (map undo_action xs) + 1)
    [ true ↦ omega arith | false ↦ omega arith ]
one_more (undo.WaitRel o n) xs = elim (length (without o.0 (holding (map undo_action xs))) == 0) as (λ b. (if b then ended (map undo_action xs) + 1 else ended (map undo_action xs)) ≤ ended (map undo_action xs) + 1)
    [ true ↦ omega arith | false ↦ omega arith ]

pub sections_within : (n : ℕ) (xs : List UndoRecord) → n ≤ ended (map undo_action xs) → n ≤ records_in n xs
sections_within n [] le = le
sections_within n (r ∷ older) le = elim (cases_lt (ended (map undo_action older)) n) [
  | inl lt ↦ omega (arith, in_sections n r older lt, one_more r older, ended_within older, le)
  | inr ge ↦ omega (arith, past_sections n r older ge, sections_within n older ge)
]

-- a lane's sections, told by its undo records
pub ended_undo : (log : List (ℕ × Record)) (l : ℕ) → ended (map undo_action (undo_logs log l)) ≡ ended (lane l (actions log))
ended_undo log l = ap ended (actions_undo (lane l log)) ∙ sym (ended_in_lane l log)

-- a record of the lane, and one of another
mine : (l m : ℕ) (r : Record) (older : List (ℕ × Record)) → m ≡ l → undo_logs ((m, r) ∷ older) l ≡ undo_of r ∷ undo_logs older l
mine l m r older same = ap (map undo_of) (lane_same l m r older same)

theirs : (l m : ℕ) (r : Record) (older : List (ℕ × Record)) → (m == l) ≡ false → undo_logs ((m, r) ∷ older) l ≡ undo_logs older l
theirs l m r older apart = ap (λ b. map undo_of (if b then r ∷ lane l older else lane l older)) apart

-- what a lane has of the base, and of the records since
module _ (base : ℕ → ℕ) (l : ℕ) where
  abbrev gone : List (ℕ × Record) → List UndoRecord
  gone log = undo_logs (records_until base log) l

  abbrev left : List (ℕ × Record) → List UndoRecord
  left log = undo_logs (records_since base log) l

  -- they are all that it has
  pub both_parts : (log : List (ℕ × Record)) → length (left log) + length (gone log) ≡ length (undo_logs log l)
  both_parts log = omega (
    arith,
    length_undo (lane l (records_since base log)),
    length_undo (lane l (records_until base log)),
    length_undo (lane l log),
    length-append (lane l (records_since base log)) (lane l (records_until base log)),
    ap (λ (xs : List Record). length xs) (split_lane base l log),
  )

  -- a record of the base comes after the base's alone
  all_gone : (older : List (ℕ × Record)) → ended (lane l (actions older)) < base l → length (gone older) ≡ length (undo_logs older l)
  all_gone older lt = ap (λ (xs : List Record). length (map undo_of xs)) (lane_until base l older lt)

  counted_is : (m : ℕ) (older : List (ℕ × Record)) → m ≡ l → is_counted base m (actions older) ≡ nat_lt (ended (lane l (actions older))) (base l)
  counted_is m older same = ap (λ (k : ℕ). is_counted base k (actions older)) same

  since_mine : (m : ℕ) (r : Record) (older : List (ℕ × Record)) → m ≡ l → base l ≤ ended (lane l (actions older)) → left ((m, r) ∷ older) ≡ undo_of r ∷ left older
  since_mine m r older same le =
      ap (λ b. undo_logs (if b then records_since base older else (m, r) ∷ records_since base older) l) (counted_is m older same ∙ le-ltb _ _ le)
      ∙ mine l m r (records_since base older) same

  since_gone : (m : ℕ) (r : Record) (older : List (ℕ × Record)) → m ≡ l → ended (lane l (actions older)) < base l → left ((m, r) ∷ older) ≡ left older
  since_gone m r older same lt =
      ap (λ b. undo_logs (if b then records_since base older else (m, r) ∷ records_since base older) l) (counted_is m older same ∙ lt-ltb _ _ lt)

  since_theirs : (m : ℕ) (r : Record) (older : List (ℕ × Record)) → (m == l) ≡ false → left ((m, r) ∷ older) ≡ left older
  since_theirs m r older apart =
      elim (is_counted base m (actions older)) as (λ t. undo_logs (if t then records_since base older else (m, r) ∷ records_since base older) l ≡ left older)
      [ true ↦ refl | false ↦ theirs l m r (records_since base older) apart ]

  until_mine : (m : ℕ) (r : Record) (older : List (ℕ × Record)) → m ≡ l → ended (lane l (actions older)) < base l → gone ((m, r) ∷ older) ≡ undo_of r ∷ gone older
  until_mine m r older same lt =
      ap (λ b. undo_logs (if b then (m, r) ∷ records_until base older else records_until base older) l) (counted_is m older same ∙ lt-ltb _ _ lt)
      ∙ mine l m r (records_until base older) same

  until_left : (m : ℕ) (r : Record) (older : List (ℕ × Record)) → m ≡ l → base l ≤ ended (lane l (actions older)) → gone ((m, r) ∷ older) ≡ gone older
  until_left m r older same le =
      ap (λ b. undo_logs (if b then (m, r) ∷ records_until base older else records_until base older) l) (counted_is m older same ∙ le-ltb _ _ le)

  until_theirs : (m : ℕ) (r : Record) (older : List (ℕ × Record)) → (m == l) ≡ false → gone ((m, r) ∷ older) ≡ gone older
  until_theirs m r older apart =
      elim (is_counted base m (actions older)) as (λ t. undo_logs (if t then (m, r) ∷ records_until base older else records_until base older) l ≡ gone older)
      [ true ↦ theirs l m r (records_until base older) apart | false ↦ refl ]

  -- the place behind the base is the number of its records
  pub base_place : (log : List (ℕ × Record)) → records_in (base l) (undo_logs log l) ≡ length (gone log)
  base_place [] = refl
  base_place ((m, r) ∷ older) = elim (eqb_tells m l) [
    | inl e ↦ elim (cases_lt (ended (lane l (actions older))) (base l)) [
      | inl lt ↦ ap (records_in (base l)) (mine l m r older e.1)
          ∙ in_sections (base l) (undo_of r) (undo_logs older l) (omega (arith, lt, ended_undo older l))
          ∙ omega (arith, all_gone older lt, ap (λ (xs : List UndoRecord). length xs) (until_mine m r older e.1 lt))
      | inr le ↦ ap (records_in (base l)) (mine l m r older e.1)
          ∙ past_sections (base l) (undo_of r) (undo_logs older l) (omega (arith, le, ended_undo older l))
          ∙ base_place older ∙ ap (λ (xs : List UndoRecord). length xs) (sym (until_left m r older e.1 le))
    ]
    | inr e ↦ ap (records_in (base l)) (theirs l m r older e.0) ∙ base_place older ∙ ap (λ (xs : List UndoRecord). length xs) (sym (until_theirs m r older e.0))
  ]

  -- the live records lie between the places behind the base and behind the last
  pub live_size : (log : List (ℕ × Record)) → records_in (base l) (undo_logs log l) + length (left log) ≡ length (undo_logs log l)
  live_size log = omega (arith, base_place log, both_parts log)

  -- sections since the base, where it has ended
  ended_since : (log : List (ℕ × Record)) → base l ≤ ended (lane l (actions log)) → ended (map undo_action (left log)) + base l ≡ ended (lane l (actions log))
  ended_since log le =
      let ends = until_ends base l log le in
      let parts : lane l (actions (records_since base log)) ++ lane l (actions (records_until base log)) ≡ lane l (actions log) =
      (λ i. lane_actions l (records_since base log) i ++ lane_actions l (records_until base log) i)
      ∙ sym (map-append action (lane l (records_since base log)) (lane l (records_until base log)))
      ∙ ap (map action) (split_lane base l log) ∙ sym (lane_actions l log) in
      omega (
        arith,
        ended_undo (records_since base log) l,
        ended_add (lane l (actions (records_since base log))) (lane l (actions (records_until base log))) ends.0,
        ends.1,
        ap ended parts,
      )

  -- the place behind a greater cut's sections
  pub cut_place : (cut : ℕ → ℕ) (log : List (ℕ × Record)) → base l ≤ cut l →
      records_in (cut l) (undo_logs log l) ≡ records_in (base l) (undo_logs log l) + records_in (cut l - base l) (left log)
  cut_place cut [] more = refl
  cut_place cut ((m, r) ∷ older) more = elim (eqb_tells m l) [
    | inl e ↦ elim (cases_lt (ended (lane l (actions older))) (base l)) [
      | inl lt ↦
          let now : records_in (cut l) (undo_logs ((m, r) ∷ older) l) ≡ length (undo_logs older l) + 1 =
          ap (records_in (cut l)) (mine l m r older e.1) ∙ in_sections (cut l) (undo_of r) (undo_logs older l) (omega (arith, lt, more, ended_undo older l)) in
          let before : records_in (base l) (undo_logs ((m, r) ∷ older) l) ≡ length (undo_logs older l) + 1 =
          ap (records_in (base l)) (mine l m r older e.1) ∙ in_sections (base l) (undo_of r) (undo_logs older l) (omega (arith, lt, ended_undo older l)) in
          let none : records_in (cut l - base l) (left ((m, r) ∷ older)) ≡ records_in (cut l - base l) (left older) = ap (records_in (cut l - base l)) (since_gone m r older e.1 lt) in
          omega (arith, now, before, none, records_within (cut l - base l) (left older), both_parts older, all_gone older lt)
      | inr le ↦
          let before : records_in (base l) (undo_logs ((m, r) ∷ older) l) ≡ records_in (base l) (undo_logs older l) =
          ap (records_in (base l)) (mine l m r older e.1) ∙ past_sections (base l) (undo_of r) (undo_logs older l) (omega (arith, le, ended_undo older l)) in
          let left_is : records_in (cut l - base l) (left ((m, r) ∷ older)) ≡ records_in (cut l - base l) (undo_of r ∷ left older) =
          ap (records_in (cut l - base l)) (since_mine m r older e.1 le) in
          elim (cases_lt (ended (lane l (actions older))) (cut l)) [
            | inl lt ↦
                let now : records_in (cut l) (undo_logs ((m, r) ∷ older) l) ≡ length (undo_logs older l) + 1 =
                ap (records_in (cut l)) (mine l m r older e.1) ∙ in_sections (cut l) (undo_of r) (undo_logs older l) (omega (arith, lt, ended_undo older l)) in
                omega (arith, now, before, left_is, in_sections (cut l - base l) (undo_of r) (left older) (omega (arith, lt, le, ended_since older le)), live_size older)
            | inr ge ↦
                let now : records_in (cut l) (undo_logs ((m, r) ∷ older) l) ≡ records_in (cut l) (undo_logs older l) =
                ap (records_in (cut l)) (mine l m r older e.1) ∙ past_sections (cut l) (undo_of r) (undo_logs older l) (omega (arith, ge, ended_undo older l)) in
                omega (arith, now, before, left_is, past_sections (cut l - base l) (undo_of r) (left older) (omega (arith, ge, le, ended_since older le)), cut_place cut older more)
          ]
    ]
    | inr e ↦
        ap (records_in (cut l)) (theirs l m r older e.0) ∙ cut_place cut older more
        ∙ (λ i. records_in (base l) (sym (theirs l m r older e.0) i) + records_in (cut l - base l) (sym (since_theirs m r older e.0) i))
  ]
