-- A round that covers what changes leaves no cell that lacks what it keeps.
use Rattle.std.proofs.Common.{ℕ, ◌≡◌, ◌<◌, ◌≤◌, ◌⊎◌, ◌==◌, if◌then◌else◌, Bool, true, false, List, [], ◌∷◌, ◌++◌, refl, sym, ap, ◌∙◌, subst, inl, inr, arith}
use Rattle.std.specs.Prelude.{All, Contains}
use Rattle.std.proofs.lemmas.Bool.{cases_Bool, lt-ltb, ltb-true}
use Rattle.std.proofs.lemmas.Bool.Decides.{eqb_tells}
use Rattle.std.proofs.lemmas.List.{append-nil}
use Rattle.heap_model.specs.declared.ids.FieldId.{FieldId}
use Rattle.heap_model.specs.declared.record.Record.{Record}
use Rattle.heap_model.specs.declared.record.Record.TheVariants.{Acq, Rel, WaitRel, Put}
use Rattle.heap_model.specs.Base.{records_since}
use Rattle.heap_model.specs.Cuts.{IsClosed, IsWhole, counts_of, is_counted}
use Rattle.heap_model.specs.KeptHeap.{kept_value}
use Rattle.heap_model.specs.Log.{lane}
use Rattle.heap_model.specs.Sections.{actions, ended}
use Rattle.heap_model.specs.Setting.{Setting}
use Rattle.block_disk.specs.Device.{Device}
use Rattle.block_disk.proofs.Images.{image_now}
use Rattle.law_cuts.proofs.Stays.{cut_stays}
use Rattle.image_parts.specs.Cells.{HasCell}
use Rattle.image_parts.specs.Control.{AreRows}
use Rattle.image_parts.specs.Rows.{IsRow}
use Rattle.image_parts.specs.declared.layout.Layout.{Layout}
use Rattle.undo_log.specs.Dropped.{records_in, undo_logs}
use Rattle.undo_log.specs.StandsFor.{row_of}
use Rattle.heap_model.specs.Past.{has_store}
use Rattle.store_image.specs.NewRecords.{FitsLane}
use Rattle.store_image.specs.declared.committed.Committed.{Committed}
use Rattle.store_image.proofs.Growing.{kept_grown, places_grown, since_grown}
use Rattle.store_image.proofs.Rows.{row_is}
use Rattle.store_helper_sections.specs.Going.{from_heap}
use Rattle.store_helper_sections.specs.HelperSections.{HelperSection, helper_log}
use Rattle.store_helper_sections.specs.Image.{HasHeap, kept_by, round_records}
use Rattle.store_helper_sections.proofs.Padding.{if_same, if_apart}
use Rattle.store_round_image.specs.Turning.{IsValueIn, fields_of}
use Rattle.store_round_making.specs.Rounds.{IsRoundOn}
use Rattle.store_round_making.specs.Turns.{AcknowledgeTurnLaw, HomesLaw, IsCovered, LogTurnLaw}

-- A store among some records is one among more of them.
pub store_left : (f : ℕ) (xs ys : List (ℕ × Record)) → has_store f xs ≡ true → has_store f (xs ++ ys) ≡ true
store_left f [] ys h = absurd (let no : false ≡ true = h in cc)
store_left f ((l, Acq o n) ∷ xs) ys h = store_left f xs ys h
store_left f ((l, Rel o n) ∷ xs) ys h = store_left f xs ys h
store_left f ((l, WaitRel o n) ∷ xs) ys h = store_left f xs ys h
store_left f ((l, Put g v w) ∷ xs) ys h =
    (elim (g.0 == f) as (λ b. (if b then true else has_store f xs) ≡ true → (if b then true else has_store f (xs ++ ys)) ≡ true) [ true ↦ λ is. refl | false ↦ store_left f xs ys ]) h

pub store_right : (f : ℕ) (xs ys : List (ℕ × Record)) → has_store f ys ≡ true → has_store f (xs ++ ys) ≡ true
store_right f [] ys h = h
store_right f ((l, Acq o n) ∷ xs) ys h = store_right f xs ys h
store_right f ((l, Rel o n) ∷ xs) ys h = store_right f xs ys h
store_right f ((l, WaitRel o n) ∷ xs) ys h = store_right f xs ys h
store_right f ((l, Put g v w) ∷ xs) ys h = elim (g.0 == f) as (λ b. (if b then true else has_store f (xs ++ ys)) ≡ true) [ true ↦ refl | false ↦ store_right f xs ys h ]

pub store_either : (f : ℕ) (xs ys : List (ℕ × Record)) → has_store f (xs ++ ys) ≡ true → (has_store f xs ≡ true) ⊎ (has_store f ys ≡ true)
store_either f [] ys h = inr h
store_either f ((l, Acq o n) ∷ xs) ys h = store_either f xs ys h
store_either f ((l, Rel o n) ∷ xs) ys h = store_either f xs ys h
store_either f ((l, WaitRel o n) ∷ xs) ys h = store_either f xs ys h
store_either f ((l, Put g v w) ∷ xs) ys h =
    (elim (g.0 == f) as (λ b. (if b then true else has_store f (xs ++ ys)) ≡ true → ((if b then true else has_store f xs) ≡ true) ⊎ (has_store f ys ≡ true)) [ true ↦ λ is. inl refl | false ↦ store_either f xs ys ]) h

-- among fewer records there is none either
store_fewer : (f : ℕ) (x : ℕ × Record) (xs : List (ℕ × Record)) → has_store f (x ∷ xs) ≡ false → has_store f xs ≡ false
store_fewer f (l, Acq o n) xs h = h
store_fewer f (l, Rel o n) xs h = h
store_fewer f (l, WaitRel o n) xs h = h
store_fewer f (l, Put g v w) xs h =
    (elim (g.0 == f) as (λ b. (if b then true else has_store f xs) ≡ false → has_store f xs ≡ false) [ true ↦ λ is. absurd (let no : true ≡ false = is in cc) | false ↦ λ is. is ]) h

-- A greater cut keeps of a field what the cut keeps, where no record beyond the cut stores to it.
module _ (first cut next : ℕ → ℕ) (f : ℕ) (more : (l : ℕ) → cut l ≤ next l) where
  none_older : (x : ℕ × Record) (older : List (ℕ × Record)) → has_store f (records_since cut (x ∷ older)) ≡ false → has_store f (records_since cut older) ≡ false
  none_older x older h =
      (elim (is_counted cut x.0 (actions older)) as (λ b. has_store f (if b then records_since cut older else x ∷ records_since cut older) ≡ false → has_store f (records_since cut older) ≡ false) [
        | true ↦ λ is. is
        | false ↦ store_fewer f x (records_since cut older)
      ]) h

  -- a store to it that the cut counts leaves the same in both
  counted_value : (c : ℕ → ℕ) (l : ℕ) (g : FieldId) (v w : ℕ) (older : List (ℕ × Record)) → g.0 ≡ f → is_counted c l (actions older) ≡ true → kept_value first c f ((l, Put g v w) ∷ older) ≡ w
  counted_value c l g v w older is counted =
      if_same g.0 f (if is_counted c l (actions older) then w else kept_value first c f older) (kept_value first c f older) is
      ∙ ap (λ (b : Bool). if b then w else kept_value first c f older) counted

  counted_on : (l : ℕ) (older : List (ℕ × Record)) → is_counted cut l (actions older) ≡ true → is_counted next l (actions older) ≡ true
  counted_on l older is =
      let low : ended (lane l (actions older)) < cut l = ltb-true (ended (lane l (actions older))) (cut l) is in
      lt-ltb (ended (lane l (actions older))) (next l) (omega (arith, low, more l))

  beyond_stores : (l : ℕ) (g : FieldId) (v w : ℕ) (older : List (ℕ × Record)) → g.0 ≡ f → is_counted cut l (actions older) ≡ false → has_store f (records_since cut ((l, Put g v w) ∷ older)) ≡ true
  beyond_stores l g v w older is off =
      ap (λ (b : Bool). has_store f (if b then records_since cut older else (l, Put g v w) ∷ records_since cut older)) off ∙ if_same g.0 f true (has_store f (records_since cut older)) is

  pub same_kept : (log : List (ℕ × Record)) → has_store f (records_since cut log) ≡ false → kept_value first next f log ≡ kept_value first cut f log
  same_kept [] none = refl
  same_kept ((l, Acq o n) ∷ older) none = same_kept older (none_older (l, Acq o n) older none)
  same_kept ((l, Rel o n) ∷ older) none = same_kept older (none_older (l, Rel o n) older none)
  same_kept ((l, WaitRel o n) ∷ older) none = same_kept older (none_older (l, WaitRel o n) older none)
  same_kept ((l, Put g v w) ∷ older) none = elim (eqb_tells g.0 f) [
    | inl e ↦ elim (cases_Bool (is_counted cut l (actions older))) [
      | inl is ↦ counted_value next l g v w older e.1 (counted_on l older is) ∙ sym (counted_value cut l g v w older e.1 is)
      | inr off ↦ absurd (let no : true ≡ false = sym (beyond_stores l g v w older e.1 off) ∙ none in cc)
    ]
    | inr e ↦
        if_apart g.0 f (if is_counted next l (actions older) then w else kept_value first next f older) (kept_value first next f older) e.1
        ∙ same_kept older (none_older (l, Put g v w) older none)
        ∙ sym (if_apart g.0 f (if is_counted cut l (actions older) then w else kept_value first cut f older) (kept_value first cut f older) e.1)
  ]

pub homes : HomesLaw
homes l t s log cut sections newer later c d next cells on legal more pending changed f low logged = elim (cases_Bool (has_store f (records_since cut (newer ++ log)))) [
  | inl stored ↦ covered (changed f stored)
  | inr none ↦ elim (parts.homes f low logged) [
    | inr cell ↦ inr (inr (subst (HasCell l f d.now.bytes) (sym (same none)) cell))
    | inl live ↦ elim (store_either f (records_since cut log) (helper_log t (kept_by s log cut) sections) live) [
      | inr helped ↦ covered (pending f helped)
      | inl stored ↦
          let now : has_store f (records_since cut (newer ++ log)) ≡ true =
          subst (λ (xs : List (ℕ × Record)). has_store f xs ≡ true) (sym (since_grown cut newer log on.round.whole)) (store_right f newer (records_since cut log) stored) in
          absurd (let no : true ≡ false = sym now ∙ none in cc)
    ]
  ]
]
  where
    parts : HasHeap l (from_heap s (kept_by s log cut)) (round_records t s log cut sections) c.rows d.now.bytes
    parts = on.heap.parts d.now.bytes (image_now d)

    same : has_store f (records_since cut (newer ++ log)) ≡ false → kept_by s (newer ++ log) next f ≡ kept_by s log cut f
    same none = same_kept s.first cut next f more (newer ++ log) none ∙ sym (kept_grown s newer log cut f legal on.round.whole)

    covered : IsCovered (round_records t s (newer ++ log) next later) cells f →
        (has_store f (round_records t s (newer ++ log) next later) ≡ true) ⊎ Contains (fields_of cells) f ⊎ HasCell l f d.now.bytes (kept_by s (newer ++ log) next f)
    covered (inl is) = inl is
    covered (inr is) = inr (inl is)

-- a lane has room for no records
none_fit : (l : Layout) (t : ℕ) (s : Setting) (log : List (ℕ × Record)) (cut : ℕ → ℕ) (sections : List HelperSection) (c : Committed) (d : Device) → IsRoundOn l t s log cut sections c d →
    (k : ℕ) → k < l.lanes → FitsLane l (row_of c.rows k) []
none_fit l t s log cut sections c d on k low =
    let rows : AreRows l c.rows = (on.heap.steady.shows d.now.bytes (image_now d)).spells.valid.rows in
    let row : IsRow l.capacity (row_of c.rows k) = row_is l c.rows rows on.heap.limits.lanes.1 k low in
    record { loggable = λ k e lt. absurd (omega (arith, lt)); room = omega (arith, row.fits); limit = omega (arith, row.limit) }

pub logs : LogTurnLaw
logs l t s log cut sections newer c d next places cells fresh may = record {
  on = may.on;
  all_lanes = may.all_lanes;
  helper_lane = inl refl;
  legal = may.legal;
  lanes = may.lanes;
  whole = subst (IsWhole (actions (newer ++ log))) (sym cuts) stays.0;
  closed = subst (IsClosed (actions (newer ++ log))) (sym cuts) stays.1;
  more = more;
  preceding = tt;
  behind = λ k low. may.behind k low ∙ sym (places_grown (cut k) newer log k (may.on.round.whole k)) ∙ ap (λ (n : ℕ). records_in n (undo_logs (newer ++ log) k)) (sym (may.same k));
  records = may.records;
  fits = may.fits;
  helper_are = refl;
  helper_fits = λ there. none_fit l t s log cut sections c d may.on t there;
  values = subst (λ (heap : ℕ → ℕ). All (IsValueIn l heap) cells) heaps may.values;
  covered = may.covered;
  homes = homes l t s log cut sections newer [] c d (counts_of next) cells may.on may.legal more pending changed;
}
  where
    cuts : counts_of next ≡ cut
    cuts = λ i k. may.same k i

    more : (k : ℕ) → cut k ≤ counts_of next k
    more k = omega (arith, may.same k)

    stays : IsWhole (actions (newer ++ log)) cut × IsClosed (actions (newer ++ log)) cut
    stays = cut_stays s newer log cut may.legal may.on.round.whole may.on.round.closed

    heaps : kept_by s log cut ≡ kept_by s (newer ++ log) (counts_of next)
    heaps = (λ i f. kept_grown s newer log cut f may.legal may.on.round.whole i) ∙ ap (kept_by s (newer ++ log)) (sym cuts)

    -- what is live after the round
    live : round_records t s (newer ++ log) (counts_of next) [] ≡ newer ++ records_since cut log
    live = append-nil (records_since (counts_of next) (newer ++ log)) ∙ ap (λ (n : ℕ → ℕ). records_since n (newer ++ log)) cuts ∙ since_grown cut newer log may.on.round.whole

    pending : (f : ℕ) → has_store f (helper_log t (kept_by s log cut) sections) ≡ true → IsCovered (round_records t s (newer ++ log) (counts_of next) []) cells f
    pending f stored = subst (λ (xs : List (ℕ × Record)). IsCovered xs cells f) (sym live) (may.pending f stored)

    changed : (f : ℕ) → has_store f (records_since cut (newer ++ log)) ≡ true → IsCovered (round_records t s (newer ++ log) (counts_of next) []) cells f
    changed f stored = inl (subst (λ (xs : List (ℕ × Record)). has_store f xs ≡ true) (sym live) (subst (λ (xs : List (ℕ × Record)). has_store f xs ≡ true) (since_grown cut newer log may.on.round.whole) stored))

pub acknowledges : AcknowledgeTurnLaw
acknowledges l t s log cut c d next places cells fresh may = record {
  on = may.on;
  all_lanes = may.all_lanes;
  helper_lane = inl refl;
  legal = may.on.round.legal;
  lanes = may.on.round.lanes;
  whole = may.whole;
  closed = may.closed;
  more = may.more;
  preceding = tt;
  behind = may.behind;
  records = may.none;
  fits = λ k low. subst (FitsLane l (row_of c.rows k)) (sym (may.none k low)) (none_fit l t s log cut [] c d may.on k (omega (arith, low, may.on.round.within)));
  helper_are = refl;
  helper_fits = λ there. none_fit l t s log cut [] c d may.on t there;
  values = may.values;
  covered = λ f is. store_left f (records_since cut log) [] (may.covered f is);
  homes = homes l t s log cut [] [] [] c d (counts_of next) cells may.on may.on.round.legal may.more
      (λ f stored. absurd (let no : false ≡ true = stored in cc))
      (λ f stored. elim (may.changed f stored) [ inl still ↦ inl (store_left f (records_since (counts_of next) log) [] still) | inr cell ↦ inr cell ]);
}
