-- An image that shows a store's past stands for the heap of its cut.
use Rattle.std.proofs.Common.{◌≡◌, ℕ, zero, suc, ◌<◌, ◌≤◌, List, [], ◌∷◌, ◌++◌, length, get_or, reverse, refl, sym, ◌∙◌, ap, subst, inl, inr, arith, length-append}
use Rattle.std.specs.Prelude.{slice_index}
use Rattle.std.proofs.lemmas.Bool.{cases_lt}
use Rattle.std.proofs.lemmas.List.{length-reverse, get_or_append_left, get_or_at}
use Rattle.heap_model.specs.declared.record.Record.{Record}
use Rattle.heap_model.specs.declared.record.UndoRecord.{UndoRecord}
use Rattle.heap_model.specs.Setting.{Setting}
use Rattle.heap_model.specs.Log.{lane}
use Rattle.heap_model.specs.KeptHeap.{kept_value}
use Rattle.heap_model.specs.Base.{records_since}
use Rattle.law_cuts.proofs.Lanes.{lane_append}
use Rattle.law_cuts.proofs.Next.{legal_before}
use Rattle.undo_log.proofs.Back.{length_undo}
use Rattle.block_disk.specs.Device.{Device}
use Rattle.block_disk.specs.Images.{Always}
use Rattle.image_parts.specs.Control.{control_of}
use Rattle.image_parts.specs.declared.layout.Layout.{Layout}
use Rattle.undo_log.specs.Area.{HasRecords}
use Rattle.undo_log.specs.Dropped.{undo_logs}
use Rattle.undo_log.specs.StandsFor.{HasLive, ShowsCut}
use Rattle.undo_log.proofs.ImageStands.{image_stands}
use Rattle.heap_model.specs.Past.{Past, IsPast}
use Rattle.store_image.specs.Consistent.{ShowsPast, IsConsistent}
use Rattle.store_image.specs.declared.committed.Committed.{Committed}
use Rattle.store_image.specs.KeptHeap.{values_below, kept_heap, StandsForCut}
use Rattle.store_image.proofs.Places.{live_size, cut_place}

-- the values below n, one by one

values_size : (v : ℕ → ℕ) (n : ℕ) → length (values_below v n) ≡ n
values_size v zero = refl
values_size v (suc n) = omega (arith, length-append (values_below v n) (v n ∷ []), values_size v n)

value_at : (v : ℕ → ℕ) (n f : ℕ) → f < n → get_or (values_below v n) f 0 ≡ v f
value_at v zero f below = absurd (omega arith)
value_at v (suc n) f below = elim (cases_lt f n) [
  | inl less ↦ get_or_append_left (values_below v n) (v n ∷ []) 0 f (omega (arith, values_size v n)) ∙ value_at v n f less
  | inr from ↦
      let last : n ≡ f = omega arith in
      get_or_at (values_below v n) (v n) [] 0 f (omega (arith, values_size v n)) ∙ ap v last
]

same_values : (v w : ℕ → ℕ) (n : ℕ) → ((f : ℕ) → v f ≡ w f) → values_below v n ≡ values_below w n
same_values v w zero same = refl
same_values v w (suc n) same = λ i. same_values v w n same i ++ same n i ∷ []

pub kept_size : (l : Layout) (s : Setting) (log : List (ℕ × Record)) (cut : ℕ → ℕ) → length (kept_heap l s log cut) ≡ l.fields
kept_size l s log cut = values_size (λ f. kept_value s.first cut f log) l.fields

pub kept_at : (l : Layout) (s : Setting) (log : List (ℕ × Record)) (cut : ℕ → ℕ) (f : ℕ) → f < l.fields → slice_index (kept_heap l s log cut) f ≡ kept_value s.first cut f log
kept_at l s log cut f below = value_at (λ g. kept_value s.first cut g log) l.fields f below

pub same_heap : (l : Layout) (s : Setting) (log other : List (ℕ × Record)) (cut : ℕ → ℕ) → ((f : ℕ) → kept_value s.first cut f log ≡ kept_value s.first cut f other) → kept_heap l s log cut ≡ kept_heap l s other cut
same_heap l s log other cut same = same_values (λ f. kept_value s.first cut f log) (λ f. kept_value s.first cut f other) l.fields same

pub empty : {A : Type 0} → (xs : List A) → length xs ≡ 0 → xs ≡ []
empty [] is = refl
empty (x ∷ xs) is = absurd (omega (arith, is))

-- what it shows, in the words of the undo log
module _ (l : Layout) (s : Setting) (p : Past) (within : (lane : ℕ) → p.base lane ≤ p.cut lane) (none : (lane : ℕ) → l.lanes ≤ lane → undo_logs p.logged lane ≡ []) (image : List ℕ) (shown : ShowsPast l s p image) where
  abbrev lanes : ℕ → List UndoRecord
  lanes = undo_logs (records_since p.base p.logged)

  live : HasLive l image shown.control.rows lanes
  live = record {
    live = λ lane below.
        let start = sym (shown.tells.start lane below) in
        record {
          size = omega (arith, shown.tells.start lane below, shown.tells.logged lane below, live_size p.base lane p.logged, length-reverse (lanes lane));
          each = subst (λ (k : ℕ). HasRecords l lane k image (reverse (lanes lane))) start (shown.parts.live lane below);
        };
    others = λ lane from. empty (lanes lane) (omega (arith, ap (λ (xs : List UndoRecord). length xs) (none lane from), live_size p.base lane p.logged));
  }

  shows_cut : ShowsCut l s p.logged p.base p.cut image
  shows_cut = record {
    slot = shown.slot;
    control = shown.control;
    shows = shown.shows;
    guards = shown.parts.guards;
    guarded = shown.parts.guarded;
    rows = shown.parts.rows;
    live = live;
    settled = λ lane below. omega (arith, shown.tells.start lane below, shown.tells.settled lane below, cut_place p.base lane p.cut p.logged (within lane));
    homes = shown.parts.homes;
  }

-- a lane that the image doesn't have has nothing logged
pub none_logged : (l : Layout) (s : Setting) (p : Past) (c : Committed) (d : Device) → IsConsistent l s p c d → (lane : ℕ) → l.lanes ≤ lane → undo_logs p.logged lane ≡ []
none_logged l s p c d consistent k from = empty (undo_logs p.logged k) (omega (
  arith,
  length_undo (lane k p.logged),
  length_undo (lane k (p.fresh ++ p.logged)),
  ap (λ (xs : List UndoRecord). length xs) (consistent.lanes k from),
  ap (λ (xs : List Record). length xs) (lane_append k p.fresh p.logged),
  length-append (lane k p.fresh) (lane k p.logged),
))

-- and what it stands for
pub stands : (l : Layout) (s : Setting) (p : Past) → IsPast s p → ((lane : ℕ) → l.lanes ≤ lane → undo_logs p.logged lane ≡ []) → (image : List ℕ) → ShowsPast l s p image → StandsForCut l s p.logged p.cut image
stands l s p is none image shown = record {
  heap = image_stands l s p.logged p.base p.cut image (kept_heap l s p.logged p.cut) (legal_before s p.fresh p.logged is.legal) is.base_whole is.closed is.within
      (shows_cut l s p is.within none image shown) (kept_size l s p.logged p.cut) (kept_at l s p.logged p.cut);
  sections = record { slot = shown.slot; control = shown.control; shows = shown.shows; kept = shown.tells.kept };
}

-- so does each image of a store
pub shows_always : (l : Layout) (s : Setting) (p : Past) (c : Committed) (d : Device) → IsConsistent l s p c d → Always d (ShowsPast l s p)
shows_always l s p c d consistent image left = record {
  slot = c.slot;
  control = control_of c.sequence c.rows;
  shows = consistent.steady.shows image left;
  current = refl;
  tells = consistent.tells;
  parts = consistent.parts image left;
}

pub stands_always : (l : Layout) (s : Setting) (p : Past) (c : Committed) (d : Device) → IsConsistent l s p c d → Always d (StandsForCut l s p.logged p.cut)
stands_always l s p c d consistent image left = stands l s p consistent.past (none_logged l s p c d consistent) image (shows_always l s p c d consistent image left)
