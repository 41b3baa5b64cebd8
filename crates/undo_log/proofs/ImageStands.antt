-- An image that shows a cut stands for the heap that the cut keeps.
use Rattle.std.proofs.Common.{◌≡◌, ℕ, ◌-◌, ◌<◌, ◌≤◌, ◌⊎◌, true, false, not, List, [], length, sym, ◌∙◌, ap, subst, ⊎_elim, inl, inr, arith}
use Rattle.std.specs.Prelude.{slice_index}
use Rattle.std.proofs.lemmas.Bool.{cases_lt, cases_Bool}
use Rattle.heap_model.specs.declared.record.Record.{Record}
use Rattle.heap_model.specs.declared.record.UndoRecord.{UndoRecord}
use Rattle.heap_model.specs.Setting.{Setting}
use Rattle.heap_model.specs.Log.{IsLegal}
use Rattle.heap_model.specs.Sections.{actions}
use Rattle.heap_model.specs.Cuts.{IsWhole, IsClosed}
use Rattle.heap_model.specs.KeptHeap.{kept_value}
use Rattle.heap_model.specs.Base.{records_since}
use Rattle.law_cuts.proofs.Unlogged.{first_kept}
use Rattle.image_parts.specs.Cells.{HasHome}
use Rattle.image_parts.specs.declared.layout.Layout.{Layout}
use Rattle.undo_log.specs.OldValues.{OldValue, HasOld, TakesBack, IsUnsettled, IsBeyond}
use Rattle.undo_log.specs.Dropped.{undo_logs, records_in, IsDropped}
use Rattle.undo_log.specs.StandsFor.{settled_of, row_in, guard_in, is_transient_in, StandsFor, ShowsCut}
use Rattle.undo_log.proofs.Back.{takes_elsewhere, by_place, stands}
use Rattle.undo_log.proofs.Since.{takes_since}

-- a lane with no records has no store
none_stored : (o f : ℕ) (lane : List UndoRecord) (k : OldValue) → lane ≡ [] → HasOld o f lane k → ⊥
none_stored o f lane k is h = let i : HasOld o f [] k = subst (λ (xs : List UndoRecord). HasOld o f xs k) is h in elim i [ ]

-- it is the same what the places of lanes without records are
takes_settled : (o f n : ℕ) (lanes : ℕ → List UndoRecord) (places others : ℕ → ℕ) (IsHome : ℕ → Type 0) (v : ℕ) →
    ((l : ℕ) → l < n → others l ≡ places l) → ((l : ℕ) → n ≤ l → lanes l ≡ []) →
    TakesBack o f lanes (IsUnsettled places) IsHome v → TakesBack o f lanes (IsUnsettled others) IsHome v
takes_settled o f n lanes places others IsHome v same none takes = takes_elsewhere o f lanes lanes (IsUnsettled places) (IsUnsettled others) IsHome v
    (λ l k h out. elim (cases_lt l n) [
      | inl lt ↦ (h, omega (arith, out, same l lt))
      | inr le ↦ absurd (none_stored o f (lanes l) k (none l le) h)
    ])
    (λ l k h out. elim (cases_lt l n) [
      | inl lt ↦ (h, omega (arith, out, same l lt))
      | inr le ↦ absurd (none_stored o f (lanes l) k (none l le) h)
    ])
    takes

-- where the stores of a field aren't logged, its home is the first value, which every cut keeps
home_kept : (l : Layout) (s : Setting) (log : List (ℕ × Record)) (base cut : ℕ → ℕ) (image : List ℕ) → IsLegal s log → (shown : ShowsCut l s log base cut image) → (f : ℕ) → f < l.fields
    → IsDropped (s.guard f) f log cut ⊎ HasHome l (row_in shown.guards f) f image (kept_value s.first cut f log)
home_kept l s log base cut image legal shown f below = elim (cases_Bool (s.is_logged f)) [
  | inl is ↦
      let mark : is_transient_in shown.guards f ≡ false = shown.rows.mark f below ∙ ap not is in
      ⊎_elim (λ dropped. inl dropped) (λ cell. inr (record { persistent = λ _. cell; transient = λ marked. absurd (let both : true ≡ false = sym marked ∙ mark in cc) })) (shown.homes f below is)
  | inr off ↦
      let mark : is_transient_in shown.guards f ≡ true = shown.rows.mark f below ∙ ap not off in
      inr (record {
        persistent = λ plain. absurd (let both : true ≡ false = sym mark ∙ plain in cc);
        transient = λ _. first_kept s log f legal off cut ∙ sym (shown.rows.first f below off);
      })
]

pub image_stands : (l : Layout) (s : Setting) (log : List (ℕ × Record)) (base cut : ℕ → ℕ) (image heap : List ℕ) →
    IsLegal s log → IsWhole (actions log) base → IsClosed (actions log) cut → ((lane : ℕ) → base lane ≤ cut lane) → ShowsCut l s log base cut image →
    length heap ≡ l.fields → ((f : ℕ) → f < l.fields → slice_index heap f ≡ kept_value s.first cut f log) → StandsFor l image heap
image_stands l s log base cut image heap legal whole closed more shown size kept =
    let lanes : ℕ → List UndoRecord = undo_logs (records_since base log) in
    let beyond : ℕ → ℕ = λ lane. cut lane - base lane in
    record {
      slot = shown.slot;
      control = shown.control;
      shows = shown.shows;
      guards = shown.guards;
      guarded = shown.guarded;
      lanes = lanes;
      live = shown.live;
      size = size;
      takes = λ f below.
          let home : ℕ → Type 0 = HasHome l (row_in shown.guards f) f image in
          let kept_one : ℕ = kept_value s.first cut f log in
          let all : TakesBack (s.guard f) f (undo_logs log) (IsBeyond cut) home kept_one = stands s log legal cut closed f home (home_kept l s log base cut image legal shown f below) in
          let since : TakesBack (s.guard f) f lanes (IsBeyond beyond) home kept_one = takes_since (s.guard f) f base cut log whole more home kept_one all in
          let placed : TakesBack (s.guard f) f lanes (IsUnsettled (settled_of shown.control.rows)) home kept_one =
          takes_settled (s.guard f) f l.lanes lanes (λ lane. records_in (beyond lane) (lanes lane)) (settled_of shown.control.rows) home kept_one
          shown.settled shown.live.others (by_place (s.guard f) f lanes beyond home kept_one since) in
          subst (λ (v : ℕ). TakesBack (guard_in shown.guards f) f lanes (IsUnsettled (settled_of shown.control.rows)) home v) (sym (kept f below))
          (subst (λ (o : ℕ). TakesBack o f lanes (IsUnsettled (settled_of shown.control.rows)) home kept_one) (sym (shown.rows.guard f below)) placed);
    }
