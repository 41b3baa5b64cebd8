-- An image whose live records go on from a heap stands for it.
use Rattle.std.proofs.Common.{ℕ, ◌≡◌, ◌≢◌, ◌+◌, ◌<◌, ◌⊎◌, ◌==◌, if◌then◌else◌, Bool, true, false, List, [], ◌∷◌, ◌++◌, map, length, refl, sym, ap, ◌∙◌, subst, inl, inr, arith}
use Rattle.std.specs.Prelude.{not, slice_index}
use Rattle.std.proofs.lemmas.Bool.{cases_eq, cases_lt, cases_Bool, le-ltb}
use Rattle.std.proofs.lemmas.Bool.Decides.{eqb_tells}
use Rattle.std.proofs.lemmas.List.{append-nil}
use Rattle.heap_model.specs.declared.record.Record.{Record}
use Rattle.heap_model.specs.declared.record.Record.TheVariants.{Acq, Rel, WaitRel, Put}
use Rattle.heap_model.specs.declared.record.UndoRecord.{UndoRecord}
use Rattle.heap_model.specs.declared.record.UndoRecord.TheVariants as undo
use Rattle.heap_model.specs.Record.{undo_of}
use Rattle.heap_model.specs.Setting.{Setting}
use Rattle.heap_model.specs.Log.{lane}
use Rattle.heap_model.specs.Sections.{Action, Takes, actions, Section, Did, ended, Earlier, Took}
use Rattle.heap_model.specs.Cuts.{IsWhole, IsClosed, is_counted}
use Rattle.heap_model.specs.KeptHeap.{kept_value}
use Rattle.law_cuts.proofs.Lanes.{lane_append}
use Rattle.image_parts.specs.Cells.{HasHome}
use Rattle.image_parts.specs.declared.layout.Layout.{Layout}
use Rattle.undo_log.specs.OldValues.{OldValue, HasOld, TakesBack, IsUnsettled, IsBeyond}
use Rattle.undo_log.specs.Dropped.{undo_logs, IsDropped}
use Rattle.undo_log.specs.StandsFor.{settled_of, row_in, guard_in, is_transient_in, StandsFor}
use Rattle.undo_log.proofs.Back.{takes_elsewhere, old_cons, stands}
use Rattle.heap_model.specs.Past.{has_store}
use Rattle.store_image.proofs.Growing.{newer_dropped}
use Rattle.store_helper_sections.specs.Going.{GoesOn}
use Rattle.store_helper_sections.specs.Image.{ShowsHeap}
use Rattle.store_helper_sections.proofs.Padding.{if_same, if_apart}

-- the cut that counts no section
abbrev nothing : ℕ → ℕ
nothing l = 0

nothing_whole : (log : List (ℕ × Action)) → IsWhole log nothing
nothing_whole log l = omega arith

did_some : (log : List (ℕ × Action)) (a : Section) (act : Action) → Did log a act → 0 < a.number
did_some [] a act h = absurd h
did_some (x ∷ older) a act (inl h) = omega (arith, ap (λ (b : Section). b.number) h.0)
did_some (x ∷ older) a act (inr h) = did_some older a act h

nothing_closed : (log : List (ℕ × Action)) → IsClosed log nothing
nothing_closed log a b counted (Earlier same lt) = absurd (omega (arith, counted, lt))
nothing_closed log a b counted (Took o n took freed apart) = absurd (omega (arith, counted, did_some log a (Takes o (n + 1)) took))

nothing_kept : (first : ℕ → ℕ) (f : ℕ) (log : List (ℕ × Record)) → kept_value first nothing f log ≡ first f
nothing_kept first f [] = refl
nothing_kept first f ((l, Acq o n) ∷ older) = nothing_kept first f older
nothing_kept first f ((l, Rel o n) ∷ older) = nothing_kept first f older
nothing_kept first f ((l, WaitRel o n) ∷ older) = nothing_kept first f older
nothing_kept first f ((l, Put g before after) ∷ older) =
    let out : is_counted nothing l (actions older) ≡ false = le-ltb (ended (lane l (actions older))) 0 (omega arith) in
    let rest : kept_value first nothing f older ≡ first f = nothing_kept first f older in
    ap (λ (t : Bool). if g.0 == f then (if t then after else kept_value first nothing f older) else kept_value first nothing f older) out
    ∙ elim (g.0 == f) as (λ b. (if b then kept_value first nothing f older else kept_value first nothing f older) ≡ first f) [ true ↦ rest | false ↦ rest ]

-- each store is of a section
old_some : (o f : ℕ) (xs : List UndoRecord) (k : OldValue) → HasOld o f xs k → 0 < k.section
old_some o f [] k h = absurd h
old_some o f (undo.Acq p n ∷ xs) k (inl h) = absurd h
old_some o f (undo.Rel p n ∷ xs) k (inl h) = absurd h
old_some o f (undo.WaitRel p n ∷ xs) k (inl h) = absurd h
old_some o f (undo.Put g before ∷ xs) k (inl h) = omega (arith, h.3)
old_some o f (r ∷ xs) k (inr h) = old_some o f xs k h

-- a lane with no records has no store
none_there : (o f : ℕ) (xs : List UndoRecord) (k : OldValue) → xs ≡ [] → HasOld o f xs k → ⊥
none_there o f xs k is h = let i : HasOld o f [] k = subst (λ (ys : List UndoRecord). HasOld o f ys k) is h in i

-- no list of such records has a store
unstored_lane : (o f l : ℕ) (log : List (ℕ × Record)) (k : OldValue) → has_store f log ≡ false → HasOld o f (undo_logs log l) k → ⊥
unstored_lane o f l [] k none h = h
unstored_lane o f l ((m, Acq p n) ∷ older) k none h = elim (old_cons o f l m (Acq p n) older k h) [ inl now ↦ now.1 | inr then_on ↦ unstored_lane o f l older k none then_on ]
unstored_lane o f l ((m, Rel p n) ∷ older) k none h = elim (old_cons o f l m (Rel p n) older k h) [ inl now ↦ now.1 | inr then_on ↦ unstored_lane o f l older k none then_on ]
unstored_lane o f l ((m, WaitRel p n) ∷ older) k none h = elim (old_cons o f l m (WaitRel p n) older k h) [ inl now ↦ now.1 | inr then_on ↦ unstored_lane o f l older k none then_on ]
unstored_lane o f l ((m, Put g v w) ∷ older) k none h = elim (eqb_tells g.0 f) [
  | inl e ↦ absurd (let no : true ≡ false = sym (if_same g.0 f true (has_store f older) e.1) ∙ none in cc)
  | inr e ↦ elim (old_cons o f l m (Put g v w) older k h) [
    | inl now ↦ e.1 now.1.0
    | inr then_on ↦ unstored_lane o f l older k (sym (if_apart g.0 f true (has_store f older) e.1) ∙ none) then_on
  ]
]

module _ (l : Layout) (s : Setting) (records : List (ℕ × Record)) (image : List ℕ) (going : GoesOn s records) (shown : ShowsHeap l s records image) where
  abbrev all : List (ℕ × Record)
  all = records ++ going.before

  -- the lane that brought the objects to their numbers has no store, and no other lane has more records than the live ones
  lane_all : (m : ℕ) → m ≢ going.other → undo_logs all m ≡ undo_logs records m
  lane_all m apart = ap (map undo_of) (lane_append m records going.before ∙ ap (λ (xs : List Record). lane m records ++ xs) (going.own m apart) ∙ append-nil (lane m records))

  other_all : undo_logs all going.other ≡ undo_logs going.before going.other
  other_all = ap (map undo_of) (lane_append going.other records going.before ∙ ap (λ (xs : List Record). xs ++ lane going.other going.before) going.apart)

  stored_live : (o f m : ℕ) (k : OldValue) → HasOld o f (undo_logs all m) k → HasOld o f (undo_logs records m) k
  stored_live o f m k h = elim (cases_eq m going.other) [
    | inr ne ↦ subst (λ (xs : List UndoRecord). HasOld o f xs k) (lane_all m ne) h
    | inl e ↦
        let there : HasOld o f (undo_logs going.before going.other) k = subst (λ (xs : List UndoRecord). HasOld o f xs k) other_all (subst (λ (q : ℕ). HasOld o f (undo_logs all q) k) e h) in
        absurd (unstored_lane o f going.other going.before k (going.unstored f) there)
  ]

  stored_all : (o f m : ℕ) (k : OldValue) → HasOld o f (undo_logs records m) k → HasOld o f (undo_logs all m) k
  stored_all o f m k h = elim (cases_eq m going.other) [
    | inr ne ↦ subst (λ (xs : List UndoRecord). HasOld o f xs k) (sym (lane_all m ne)) h
    | inl e ↦ absurd (none_there o f (undo_logs records m) k (ap (λ (q : ℕ). undo_logs records q) e ∙ ap (map undo_of) going.apart) h)
  ]

  -- of each lane that there is, all live records are out
  places : (m : ℕ) → m < l.lanes → settled_of shown.control.rows m ≡ 0
  places m low = omega (arith, shown.unsettled m low)

  out : (o f m : ℕ) (k : OldValue) → HasOld o f (undo_logs records m) k → IsUnsettled (settled_of shown.control.rows) m k
  out o f m k h = elim (cases_lt m l.lanes) [
    | inl low ↦ omega (arith, places m low)
    | inr past ↦ absurd (none_there o f (undo_logs records m) k (shown.parts.live.others m past) h)
  ]

  -- what a field has at home, or it has a store
  home : (f : ℕ) → f < l.fields → IsDropped (s.guard f) f all nothing ⊎ HasHome l (row_in shown.parts.guards f) f image (kept_value s.first nothing f all)
  home f low = subst (λ (v : ℕ). IsDropped (s.guard f) f all nothing ⊎ HasHome l (row_in shown.parts.guards f) f image v) (sym (nothing_kept s.first f all)) (elim (cases_Bool (s.is_logged f)) [
    | inl is ↦
        let mark : is_transient_in shown.parts.guards f ≡ false = shown.parts.rows_of.mark f low ∙ ap not is in
        elim (shown.parts.homes f low is) [
          | inl stored ↦ inl (newer_dropped s records going.before nothing f going.legal (nothing_whole (actions going.before)) stored)
          | inr cell ↦ inr (record { persistent = λ _. cell; transient = λ marked. absurd (let both : true ≡ false = sym marked ∙ mark in cc) })
        ]
    | inr off ↦
        let mark : is_transient_in shown.parts.guards f ≡ true = shown.parts.rows_of.mark f low ∙ ap not off in
        inr (record {
          persistent = λ plain. absurd (let both : true ≡ false = sym mark ∙ plain in cc);
          transient = λ _. sym (shown.parts.rows_of.first f low off);
        })
  ])

  takes : (f : ℕ) → f < l.fields → TakesBack (guard_in shown.parts.guards f) f (undo_logs records) (IsUnsettled (settled_of shown.control.rows)) (HasHome l (row_in shown.parts.guards f) f image) (s.first f)
  takes f low =
      let here : ℕ → Type 0 = HasHome l (row_in shown.parts.guards f) f image in
      let whole : TakesBack (s.guard f) f (undo_logs all) (IsBeyond nothing) here (s.first f) =
      subst (λ (v : ℕ). TakesBack (s.guard f) f (undo_logs all) (IsBeyond nothing) here v) (nothing_kept s.first f all) (stands s all going.legal nothing (nothing_closed (actions all)) f here (home f low)) in
      let live : TakesBack (s.guard f) f (undo_logs records) (IsUnsettled (settled_of shown.control.rows)) here (s.first f) =
      takes_elsewhere (s.guard f) f (undo_logs all) (undo_logs records) (IsBeyond nothing) (IsUnsettled (settled_of shown.control.rows)) here (s.first f)
      (λ m k h beyond. (stored_live (s.guard f) f m k h, out (s.guard f) f m k (stored_live (s.guard f) f m k h)))
      (λ m k h unsettled. (stored_all (s.guard f) f m k h, old_some (s.guard f) f (undo_logs records m) k h)) whole in
      subst (λ (o : ℕ). TakesBack o f (undo_logs records) (IsUnsettled (settled_of shown.control.rows)) here (s.first f)) (sym (shown.parts.rows_of.guard f low)) live

  pub stands_shown : (values : List ℕ) → length values ≡ l.fields → ((f : ℕ) → f < l.fields → slice_index values f ≡ s.first f) → StandsFor l image values
  stands_shown values size are = record {
    slot = shown.slot;
    control = shown.control;
    shows = shown.shows;
    guards = shown.parts.guards;
    guarded = shown.parts.guarded;
    lanes = undo_logs records;
    live = shown.parts.live;
    size = size;
    takes = λ f low. subst (λ (v : ℕ). TakesBack (guard_in shown.parts.guards f) f (undo_logs records) (IsUnsettled (settled_of shown.control.rows)) (HasHome l (row_in shown.parts.guards f) f image) v) (sym (are f low)) (takes f low);
  }
