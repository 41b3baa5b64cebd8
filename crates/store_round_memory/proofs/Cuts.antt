-- What a later cut keeps of the records beyond a cut, told by the places of both.
use Rattle.std.proofs.Common.{ℕ, ◌≡◌, ◌+◌, ◌-◌, ◌<◌, ◌≤◌, ◌==◌, if◌then◌else◌, nat_lt, Bool, true, false, List, [], ◌∷◌, ◌++◌, length, map, slice_index, Option, Some, None, append_assoc, refl, sym, ap, ◌∙◌, subst, inl, inr, arith}
use Rattle.std.proofs.lemmas.List.{map-append}
use Rattle.std.proofs.lemmas.Bool.Decides.{eqb_tells}
use Rattle.std.proofs.lemmas.Bool.{cases_Bool, cases_lt, le-ltb, lt-ltb, ltb-false, ltb-true}
use Rattle.heap_model.specs.declared.record.Record.{Record}
use Rattle.heap_model.specs.declared.record.Record.TheVariants.{Acq, Rel, WaitRel, Put}
use Rattle.heap_model.specs.declared.record.UndoRecord.{UndoRecord}
use Rattle.heap_model.specs.Base.{records_since, records_until}
use Rattle.heap_model.specs.Cuts.{is_counted}
use Rattle.heap_model.specs.KeptHeap.{kept_value}
use Rattle.heap_model.specs.Log.{IsLegal, IsOfLanes, lane}
use Rattle.heap_model.specs.Record.{undo_of}
use Rattle.heap_model.specs.Sections.{action, actions, ended, undo_action}
use Rattle.heap_model.specs.Setting.{Setting}
use Rattle.law_cuts.proofs.Lanes.{lane_actions}
use Rattle.law_cuts.proofs.Stores.{ended_rises, lane_same}
use Rattle.law_histories.proofs.Rebase.{ended_add, until_ends}
use Rattle.law_histories.proofs.Reorder.{split_lane}
use Rattle.undo_log.specs.Dropped.{records_in, undo_logs}
use Rattle.undo_log.proofs.Back.{length_undo}
use Rattle.heap_model.specs.Past.{has_store}
use Rattle.store_image.proofs.Growing.{undo_append}
use Rattle.store_image.proofs.Places.{cut_place, ended_undo, in_sections, past_sections, records_within}
use Rattle.store_round_memory.specs.Counting.{is_kept, kept_store, records_left}

-- a record is one of the first n sections just where its place is before that behind them
ended_up : (more older : List UndoRecord) → ended (map undo_action older) ≤ ended (map undo_action (more ++ older))
ended_up [] older = omega arith
ended_up (r ∷ more) older = omega (arith, ended_up more older, ended_rises (undo_action r) (map undo_action (more ++ older)))

at_least : (n : ℕ) (more : List UndoRecord) (r : UndoRecord) (older : List UndoRecord) → ended (map undo_action older) < n → length older < records_in n (more ++ r ∷ older)
at_least n [] r older lt = omega (arith, in_sections n r older lt)
at_least n (x ∷ more) r older lt = elim (cases_lt (ended (map undo_action (more ++ r ∷ older))) n) [
  | inl low ↦ omega (arith, in_sections n x (more ++ r ∷ older) low, at_least n more r older lt, records_within n (more ++ r ∷ older))
  | inr past ↦ omega (arith, past_sections n x (more ++ r ∷ older) past, at_least n more r older lt)
]

at_most : (n : ℕ) (more : List UndoRecord) (r : UndoRecord) (older : List UndoRecord) → n ≤ ended (map undo_action older) → records_in n (more ++ r ∷ older) ≤ length older
at_most n [] r older le = omega (arith, past_sections n r older le, records_within n older)
at_most n (x ∷ more) r older le =
    let up : ended (map undo_action older) ≤ ended (map undo_action (more ++ r ∷ older)) = omega (arith, ended_up more (r ∷ older), ended_rises (undo_action r) (map undo_action older)) in
    omega (arith, past_sections n x (more ++ r ∷ older) (omega (arith, le, up)), at_most n more r older le)

place_tells : (n : ℕ) (more : List UndoRecord) (r : UndoRecord) (older : List UndoRecord) → nat_lt (length older) (records_in n (more ++ r ∷ older)) ≡ nat_lt (ended (map undo_action older)) n
place_tells n more r older = elim (cases_lt (ended (map undo_action older)) n) [
  | inl lt ↦ lt-ltb _ _ (at_least n more r older lt) ∙ sym (lt-ltb _ _ lt)
  | inr le ↦ le-ltb _ _ (at_most n more r older le) ∙ sym (le-ltb _ _ le)
]

-- the counts tell of each of the records whether the cut counts it
abbrev pub Agree : (counts : List ℕ) (cut : ℕ → ℕ) → List (ℕ × Record) → Type 0
Agree counts cut [] = Unit {0}
Agree counts cut (x ∷ older) = (is_kept counts x.0 older ≡ is_counted cut x.0 (actions older)) × Agree counts cut older

module _ (counts : List ℕ) (cut : ℕ → ℕ) (lanes : ℕ) (xs : List (ℕ × Record)) (are : (l : ℕ) → l < lanes → slice_index counts l ≡ records_in (cut l) (undo_logs xs l)) where
  agree_from : (newer ys : List (ℕ × Record)) → newer ++ ys ≡ xs → IsOfLanes lanes ys → Agree counts cut ys
  agree_from newer [] is of = tt
  agree_from newer ((l, r) ∷ older) is of =
      let own : undo_logs ((l, r) ∷ older) l ≡ undo_of r ∷ undo_logs older l = ap (map undo_of) (lane_same l l r older refl) in
      let all : undo_logs xs l ≡ undo_logs newer l ++ undo_of r ∷ undo_logs older l = ap (λ (zs : List (ℕ × Record)). undo_logs zs l) (sym is) ∙ undo_append newer ((l, r) ∷ older) l ∙ ap (λ (us : List UndoRecord). undo_logs newer l ++ us) own in
      let count : slice_index counts l ≡ records_in (cut l) (undo_logs newer l ++ undo_of r ∷ undo_logs older l) = are l of.0 ∙ ap (records_in (cut l)) all in
      let long : length (lane l older) ≡ length (undo_logs older l) = sym (length_undo (lane l older)) in (
        (λ i. nat_lt (long i) (count i)) ∙ place_tells (cut l) (undo_logs newer l) (undo_of r) (undo_logs older l) ∙ ap (λ (n : ℕ). nat_lt n (cut l)) (ended_undo older l),
        agree_from (newer ++ (l, r) ∷ []) older (append_assoc newer ((l, r) ∷ []) older ∙ is) of.1,
      )

  pub agree : IsOfLanes lanes xs → Agree counts cut xs
  agree of = agree_from [] xs refl of

-- what the counts leave is what is beyond the cut
pub left_is : (counts : List ℕ) (cut : ℕ → ℕ) (xs : List (ℕ × Record)) → Agree counts cut xs → records_left counts xs ≡ records_since cut xs
left_is counts cut [] are = refl
left_is counts cut (x ∷ older) are = λ i. if are.0 i then left_is counts cut older are.1 i else x ∷ left_is counts cut older are.1 i

-- the number, or else this one
abbrev pub or_else : Option ℕ → ℕ → ℕ
or_else None v = v
or_else (Some w) v = w

or_if : (b : Bool) (w v : ℕ) (rest : Option ℕ) → or_else (if b then Some w else rest) v ≡ (if b then w else or_else rest v)
or_if true w v rest = refl
or_if false w v rest = refl

pick_if : (b : Bool) (one rest : Option ℕ) (v : ℕ) → or_else (if b then one else rest) v ≡ (if b then or_else one v else or_else rest v)
pick_if true one rest v = refl
pick_if false one rest v = refl

-- what the cut keeps of a field is the newest kept store's value
pub value_is : (first : ℕ → ℕ) (counts : List ℕ) (cut : ℕ → ℕ) (f : ℕ) (xs : List (ℕ × Record)) → Agree counts cut xs → kept_value first cut f xs ≡ or_else (kept_store counts f xs) (first f)
value_is first counts cut f [] are = refl
value_is first counts cut f ((l, Acq o n) ∷ older) are = value_is first counts cut f older are.1
value_is first counts cut f ((l, Rel o n) ∷ older) are = value_is first counts cut f older are.1
value_is first counts cut f ((l, WaitRel o n) ∷ older) are = value_is first counts cut f older are.1
value_is first counts cut f ((l, Put g before after) ∷ older) are =
    (λ i. if g.0 == f then (if sym are.0 i then after else value_is first counts cut f older are.1 i) else value_is first counts cut f older are.1 i)
    ∙ ap (λ (v : ℕ). if g.0 == f then v else or_else (kept_store counts f older) (first f)) (sym (or_if (is_kept counts l older) after (first f) (kept_store counts f older)))
    ∙ sym (pick_if (g.0 == f) (if is_kept counts l older then Some after else kept_store counts f older) (kept_store counts f older) (first f))

-- whether there is one
abbrev pub is_one : Option ℕ → Bool
is_one None = false
is_one (Some n) = true

-- the cut keeps a store to a field just where there is a newest one
pub store_is : (counts : List ℕ) (cut : ℕ → ℕ) (f : ℕ) (xs : List (ℕ × Record)) → Agree counts cut xs → has_store f (records_until cut xs) ≡ is_one (kept_store counts f xs)
store_is counts cut f [] are = refl
store_is counts cut f ((l, Acq o n) ∷ older) are = elim (is_counted cut l (actions older)) as (λ b. has_store f (if b then (l, Acq o n) ∷ records_until cut older else records_until cut older) ≡ is_one (kept_store counts f older)) [ true ↦ store_is counts cut f older are.1 | false ↦ store_is counts cut f older are.1 ]
store_is counts cut f ((l, Rel o n) ∷ older) are = elim (is_counted cut l (actions older)) as (λ b. has_store f (if b then (l, Rel o n) ∷ records_until cut older else records_until cut older) ≡ is_one (kept_store counts f older)) [ true ↦ store_is counts cut f older are.1 | false ↦ store_is counts cut f older are.1 ]
store_is counts cut f ((l, WaitRel o n) ∷ older) are = elim (is_counted cut l (actions older)) as (λ b. has_store f (if b then (l, WaitRel o n) ∷ records_until cut older else records_until cut older) ≡ is_one (kept_store counts f older)) [ true ↦ store_is counts cut f older are.1 | false ↦ store_is counts cut f older are.1 ]
store_is counts cut f ((l, Put g before after) ∷ older) are =
    let rest : has_store f (records_until cut older) ≡ is_one (kept_store counts f older) = store_is counts cut f older are.1 in
    ap (λ b. has_store f (if b then (l, Put g before after) ∷ records_until cut older else records_until cut older)) (sym are.0)
    ∙ elim (is_kept counts l older) as (λ b. has_store f (if b then (l, Put g before after) ∷ records_until cut older else records_until cut older) ≡ is_one (if g.0 == f then (if b then Some after else kept_store counts f older) else kept_store counts f older)) [
      | true ↦ elim (g.0 == f) as (λ b. (if b then true else has_store f (records_until cut older)) ≡ is_one (if b then Some after else kept_store counts f older)) [ true ↦ refl | false ↦ rest ]
      | false ↦ elim (g.0 == f) as (λ b. has_store f (records_until cut older) ≡ is_one (if b then kept_store counts f older else kept_store counts f older)) [ true ↦ rest | false ↦ rest ]
    ]

-- whether the record is a store to the field
abbrev stores : (field : ℕ) → Record → Bool
stores f (Acq o n) = false
stores f (Rel o n) = false
stores f (WaitRel o n) = false
stores f (Put g before after) = g.0 == f

one_of : (f l : ℕ) (r : Record) (older : List (ℕ × Record)) → has_store f ((l, r) ∷ older) ≡ (if stores f r then true else has_store f older)
one_of f l (Acq o n) older = refl
one_of f l (Rel o n) older = refl
one_of f l (WaitRel o n) older = refl
one_of f l (Put g before after) older = refl

-- a store is kept or beyond
pub store_parts : (cut : ℕ → ℕ) (f : ℕ) (xs : List (ℕ × Record)) → has_store f xs ≡ (if has_store f (records_until cut xs) then true else has_store f (records_since cut xs))
store_parts cut f [] = refl
store_parts cut f ((l, r) ∷ older) =
    let until : List (ℕ × Record) = records_until cut older in
    let since : List (ℕ × Record) = records_since cut older in
    one_of f l r older ∙ ap (λ b. if stores f r then true else b) (store_parts cut f older)
    ∙ elim (is_counted cut l (actions older)) as (λ b. (if stores f r then true else (if has_store f until then true else has_store f since))
    ≡ (if has_store f (if b then (l, r) ∷ until else until) then true else has_store f (if b then since else (l, r) ∷ since))) [
      | true ↦ elim (stores f r) as (λ b. (if b then true else (if has_store f until then true else has_store f since)) ≡ (if (if b then true else has_store f until) then true else has_store f since)) [ true ↦ refl | false ↦ refl ]
          ∙ ap (λ b. if b then true else has_store f since) (sym (one_of f l r until))
      | false ↦ elim (has_store f until) as (λ c. (if stores f r then true else (if c then true else has_store f since)) ≡ (if c then true else (if stores f r then true else has_store f since)))
          [ true ↦ elim (stores f r) as (λ b. (if b then true else true) ≡ true) [ true ↦ refl | false ↦ refl ] | false ↦ refl ]
          ∙ ap (λ b. if has_store f until then true else b) (sym (one_of f l r since))
    ]

pub until_store : (cut : ℕ → ℕ) (f : ℕ) (xs : List (ℕ × Record)) → has_store f (records_until cut xs) ≡ true → has_store f xs ≡ true
until_store cut f xs is = store_parts cut f xs ∙ ap (λ b. if b then true else has_store f (records_since cut xs)) is

pub since_store : (cut : ℕ → ℕ) (f : ℕ) (xs : List (ℕ × Record)) → has_store f (records_until cut xs) ≡ false → has_store f xs ≡ true → has_store f (records_since cut xs) ≡ true
since_store cut f xs out is = sym (ap (λ b. if b then true else has_store f (records_since cut xs)) out) ∙ sym (store_parts cut f xs) ∙ is

-- a legal log stores to the setting's logged fields alone
pub stored_field : (s : Setting) (f : ℕ) (log : List (ℕ × Record)) → IsLegal s log → has_store f log ≡ true → (f < s.fields) × (s.is_logged f ≡ true)
stored_field s f [] legal is = absurd (let no : false ≡ true = is in cc)
stored_field s f ((l, Acq o n) ∷ older) legal is = stored_field s f older legal.0 is
stored_field s f ((l, Rel o n) ∷ older) legal is = stored_field s f older legal.0 is
stored_field s f ((l, WaitRel o n) ∷ older) legal is = stored_field s f older legal.0 is
stored_field s f ((l, Put g before after) ∷ older) legal is = elim (eqb_tells g.0 f) [
  | inl e ↦ subst (λ (k : ℕ). (k < s.fields) × (s.is_logged k ≡ true)) e.1 legal.3
  | inr e ↦ stored_field s f older legal.0 (sym (ap (λ b. if b then true else has_store f older) e.0) ∙ is)
]

-- the sections that have ended beyond a cut
ended_beyond : (base : ℕ → ℕ) (l : ℕ) (log : List (ℕ × Record)) → base l ≤ ended (lane l (actions log)) → ended (lane l (actions (records_since base log))) + base l ≡ ended (lane l (actions log))
ended_beyond base l log le =
    let ends = until_ends base l log le in
    let parts : lane l (actions (records_since base log)) ++ lane l (actions (records_until base log)) ≡ lane l (actions log) =
    (λ i. lane_actions l (records_since base log) i ++ lane_actions l (records_until base log) i) ∙ sym (map-append action (lane l (records_since base log)) (lane l (records_until base log)))
    ∙ ap (map action) (split_lane base l log) ∙ sym (lane_actions l log) in
    omega (arith, ended_add (lane l (actions (records_since base log))) (lane l (actions (records_until base log))) ends.0, ends.1, ap ended parts)

-- a later cut, counted from a smaller one
module _ (base cut : ℕ → ℕ) (more : (l : ℕ) → base l ≤ cut l) where
  abbrev pub ahead : ℕ → ℕ
  ahead l = cut l - base l

  -- beyond the smaller cut it counts what it counts
  same_count : (l : ℕ) (older : List (ℕ × Record)) → is_counted base l (actions older) ≡ false → is_counted ahead l (actions (records_since base older)) ≡ is_counted cut l (actions older)
  same_count l older out =
      let le : base l ≤ ended (lane l (actions older)) = ltb-false _ _ out in
      let far : ended (lane l (actions (records_since base older))) + base l ≡ ended (lane l (actions older)) = ended_beyond base l older le in
      elim (cases_lt (ended (lane l (actions older))) (cut l)) [
        | inl lt ↦ lt-ltb _ _ (omega (arith, far, lt, more l)) ∙ sym (lt-ltb _ _ lt)
        | inr past ↦ le-ltb _ _ (omega (arith, far, past, more l)) ∙ sym (le-ltb _ _ past)
      ]

  counted_too : (l : ℕ) (older : List (ℕ × Record)) → is_counted base l (actions older) ≡ true → is_counted cut l (actions older) ≡ true
  counted_too l older is = lt-ltb _ _ (omega (arith, ltb-true _ _ is, more l))

  pub since_since : (log : List (ℕ × Record)) → records_since ahead (records_since base log) ≡ records_since cut log
  since_since [] = refl
  since_since (x ∷ older) = elim (is_counted base x.0 (actions older)) as (λ b. is_counted base x.0 (actions older) ≡ b →
      records_since ahead (if b then records_since base older else x ∷ records_since base older) ≡ (if is_counted cut x.0 (actions older) then records_since cut older else x ∷ records_since cut older)) [
        | true ↦ λ is. since_since older ∙ ap (λ b. if b then records_since cut older else x ∷ records_since cut older) (sym (counted_too x.0 older is))
        | false ↦ λ out. λ i. if same_count x.0 older out i then since_since older i else x ∷ since_since older i
      ] refl

  -- a store that it keeps beyond the smaller cut is one that it keeps
  store_more : (f l : ℕ) (r : Record) (older : List (ℕ × Record)) → has_store f (records_until cut older) ≡ true → has_store f ((l, r) ∷ records_until cut older) ≡ true
  store_more f l r older is = one_of f l r (records_until cut older) ∙ elim (stores f r) as (λ b. (if b then true else has_store f (records_until cut older)) ≡ true) [ true ↦ refl | false ↦ is ]

  store_newer : (f l : ℕ) (r : Record) (older : List (ℕ × Record)) (b : Bool) → (has_store f (records_until ahead (records_since base older)) ≡ true → has_store f (records_until cut older) ≡ true) →
      has_store f (if b then (l, r) ∷ records_until ahead (records_since base older) else records_until ahead (records_since base older)) ≡ true →
      has_store f (if b then (l, r) ∷ records_until cut older else records_until cut older) ≡ true
  store_newer f l r older false before is = before is
  store_newer f l r older true before is = elim (cases_Bool (stores f r)) [
    | inl e ↦ one_of f l r (records_until cut older) ∙ ap (λ b. if b then true else has_store f (records_until cut older)) e
    | inr e ↦ store_more f l r older (before (sym (ap (λ b. if b then true else has_store f (records_until ahead (records_since base older))) e) ∙ sym (one_of f l r (records_until ahead (records_since base older))) ∙ is))
  ]

  pub until_since : (f : ℕ) (log : List (ℕ × Record)) → has_store f (records_until ahead (records_since base log)) ≡ true → has_store f (records_until cut log) ≡ true
  until_since f [] is = is
  until_since f ((l, r) ∷ older) stored =
      let before : has_store f (records_until ahead (records_since base older)) ≡ true → has_store f (records_until cut older) ≡ true = until_since f older in
      elim (is_counted base l (actions older)) as (λ b. is_counted base l (actions older) ≡ b →
      has_store f (records_until ahead (if b then records_since base older else (l, r) ∷ records_since base older)) ≡ true → has_store f (if is_counted cut l (actions older) then (l, r) ∷ records_until cut older else records_until cut older) ≡ true) [
        | true ↦ λ counted is. ap (λ b. has_store f (if b then (l, r) ∷ records_until cut older else records_until cut older)) (counted_too l older counted) ∙ store_more f l r older (before is)
        | false ↦ λ out is. store_newer f l r older (is_counted cut l (actions older)) before
            (sym (ap (λ b. has_store f (if b then (l, r) ∷ records_until ahead (records_since base older) else records_until ahead (records_since base older))) (same_count l older out)) ∙ is)
      ] refl stored

-- by lane how many records the later cut has of those beyond the smaller one
pub counts_ahead : (base cut : ℕ → ℕ) (log : List (ℕ × Record)) (l start place count : ℕ) → base l ≤ cut l → start ≡ records_in (base l) (undo_logs log l) → place ≡ records_in (cut l) (undo_logs log l) → count ≡ place - start →
    count ≡ records_in (cut l - base l) (undo_logs (records_since base log) l)
counts_ahead base cut log l start place count more starts places is = omega (arith, starts, places, is, cut_place base l cut log more)
