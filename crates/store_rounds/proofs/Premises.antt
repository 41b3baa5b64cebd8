-- What a store knows is what a round on its device needs.
use Rattle.std.proofs.Common.{ℕ, ◌≡◌, ◌+◌, ◌-◌, ◌<◌, ◌≤◌, ◌^◌, ◌⊎◌, true, List, [], ◌∷◌, length, map, reverse, sym, ap, ◌∙◌, subst, inl, inr, arith}
use Rattle.std.specs.Prelude.{All, Contains, slice_index}
use Rattle.std.proofs.lemmas.List.{get_or-reverse, length-reverse}
use Rattle.heap_model.specs.declared.cut.Cut.{Cut}
use Rattle.heap_model.specs.declared.record.Record.{Record}
use Rattle.heap_model.specs.declared.record.UndoRecord.{UndoRecord}
use Rattle.heap_model.specs.Base.{records_since}
use Rattle.heap_model.specs.Cuts.{IsClosed, IsWhole, counts_of}
use Rattle.heap_model.specs.Log.{IsOfLanes, lane, log_from}
use Rattle.heap_model.specs.Record.{undo_of}
use Rattle.heap_model.specs.Sections.{actions}
use Rattle.heap_model.specs.Setting.{Setting}
use Rattle.law_cuts.proofs.Stays.{cut_stays}
use Rattle.block_disk.specs.Device.{Device}
use Rattle.block_disk.proofs.Images.{always_now, image_now}
use Rattle.image_parts.specs.Cells.{HasCell}
use Rattle.image_parts.specs.Control.{AreRows}
use Rattle.image_parts.specs.Rows.{IsRow}
use Rattle.image_parts.specs.declared.layout.Layout.{Layout}
use Rattle.undo_log.specs.Area.{IsLoggable}
use Rattle.undo_log.specs.Dropped.{records_in, undo_logs}
use Rattle.undo_log.specs.StandsFor.{row_of}
use Rattle.undo_log.proofs.Back.{length_undo}
use Rattle.heap_model.specs.Past.{Past, applied, has_store}
use Rattle.store_image.specs.NewRecords.{FitsLane}
use Rattle.store_image.proofs.Growing.{kept_grown, since_grown}
use Rattle.store_image.proofs.Places.{records_within}
use Rattle.store_image.proofs.Rows.{row_is}
use Rattle.store_memory.specs.Fresh.{IsOfLanes as AreOfLanes, undo_log_of}
use Rattle.store_memory.specs.Limits.{AreWithin, FitWords}
use Rattle.store_memory.specs.Memory.{lane_in}
use Rattle.store_memory.proofs.Verdicts.{lane_long}
use Rattle.durable.proofs.Loggable.{all_loggable}
use Rattle.store_helper_sections.specs.Going.{from_heap}
use Rattle.store_helper_sections.specs.HelperSections.{ArePreceding, HelperSection, helper_log}
use Rattle.store_helper_sections.specs.Image.{HasHeap, kept_by, round_records}
use Rattle.store_round_image.specs.Turning.{IsValueIn, fields_of}
use Rattle.store_round_image.specs.declared.cells.HomeValue.{HomeValue}
use Rattle.store_round_making.specs.Rounds.{MayMake}
use Rattle.store_rounds.specs.Store.{HasPast, IsRunning, Known}
use Rattle.store_rounds.proofs.Fields.{store_left, store_parts, store_right}

all_reversed : {A : Type 0} (P : A → Type 0) (xs : List A) → All P xs → All P (reverse xs)
all_reversed P xs all k d lt = subst P (sym (get_or-reverse xs k d (omega (arith, length-reverse xs)))) (all (length xs - 1 - k) d (omega (arith, length-reverse xs)))

pub same_lanes : (n : ℕ) (log : List (ℕ × Record)) → AreOfLanes n log → IsOfLanes n log
same_lanes n [] of = tt
same_lanes n (x ∷ older) of = (of.0, same_lanes n older of.1)

module _ (x : Known) (s : Setting) (p : Past) (d : Device) (has : HasPast x s p d) where
  abbrev pub l : Layout
  l = x.layout

  abbrev pub t : ℕ
  t = x.threads

  abbrev pub all : List (ℕ × Record)
  all = applied p

  -- the acknowledged cut is one of all that was applied
  pub whole_still : IsWhole (actions all) p.cut
  whole_still = (cut_stays s p.fresh p.logged p.cut has.past.legal has.past.whole has.past.closed).0

  pub closed_still : IsClosed (actions all) p.cut
  closed_still = (cut_stays s p.fresh p.logged p.cut has.past.legal has.past.whole has.past.closed).1

  pub of_lanes : IsOfLanes t all
  of_lanes = subst (λ (n : ℕ). IsOfLanes n all) has.layout.lanes (same_lanes (length x.memory.lanes) all has.remembers.of_lanes)

  -- it keeps the same heap of it
  pub kept_still : (f : ℕ) → kept_by s all p.cut f ≡ kept_by s p.logged p.cut f
  kept_still f = sym (kept_grown s p.fresh p.logged p.cut f has.past.legal has.past.whole)

  module _ (run : IsRunning x s p d) where
    rows : AreRows l x.committed.rows
    rows = (run.on.heap.steady.shows d.now.bytes (image_now d)).spells.valid.rows

    -- with no record more, the helper's lane has room
    pub none_fits : t < l.lanes → FitsLane l (row_of x.committed.rows t) []
    none_fits there =
        let is : IsRow l.capacity (row_of x.committed.rows t) = row_is l x.committed.rows rows has.layout.limits.lanes.1 t there in
        record {
          loggable = λ k e lt. absurd (omega (arith, lt));
          room = omega (arith, is.fits);
          limit = omega (arith, is.limit);
        }

    -- and with so many
    pub some_fits : (helper : List UndoRecord) → All (IsLoggable l) helper → (row_of x.committed.rows t).logged - (row_of x.committed.rows t).start + length helper ≤ l.capacity →
        (row_of x.committed.rows t).logged + length helper ≤ 2 ^ 63 → FitsLane l (row_of x.committed.rows t) helper
    some_fits helper loggable room limit = record { loggable = loggable; room = room; limit = limit }

    -- a field that stays as it is has a live record, or its value waits, or is in its cell
    pub stays_home : (next : ℕ → ℕ) (later : List HelperSection) (f : ℕ) → f < l.fields → s.is_logged f ≡ true → kept_by s all next f ≡ kept_by s all p.cut f →
        (has_store f (records_since p.cut all) ≡ true → has_store f (records_since next all) ≡ true) →
        (has_store f (round_records t s all next later) ≡ true) ⊎ Contains (fields_of x.pending) f ⊎ HasCell l f d.now.bytes (kept_by s all next f)
    stays_home next later f low logged same left =
        let now : HasHeap l (from_heap s (kept_by s p.logged p.cut)) (round_records t s p.logged p.cut run.helped) x.committed.rows d.now.bytes =
        always_now d (HasHeap l (from_heap s (kept_by s p.logged p.cut)) (round_records t s p.logged p.cut run.helped) x.committed.rows) run.on.heap.parts in
        elim (now.homes f low logged) [
          | inl stored ↦ elim (store_parts f (records_since p.cut p.logged) (helper_log t (kept_by s p.logged p.cut) run.helped) stored) [
            | inl live ↦
                let grown : has_store f (records_since p.cut all) ≡ true = ap (has_store f) (since_grown p.cut p.fresh p.logged has.past.whole) ∙ store_right f p.fresh (records_since p.cut p.logged) live in
                inl (store_left f (records_since next all) (helper_log t (kept_by s all next) later) (left grown))
            | inr helped ↦ inr (inl (run.complete f helped))
          ]
          | inr cell ↦ inr (inr (subst (HasCell l f d.now.bytes) (sym (same ∙ kept_still f)) cell))
        ]

    -- the new records fit their lanes
    module _ (within : AreWithin x.memory) (words : FitWords (log_from x.memory.fresh)) where
      words_new : FitWords p.fresh
      words_new = subst FitWords has.remembers.fresh words

      low : (k : ℕ) → k < t → k < length x.memory.lanes
      low k below = omega (arith, below, has.layout.lanes)

      place_is : (k : ℕ) → k < t → (lane_in x.memory.lanes k).place ≡ length (lane k p.fresh) + length (lane k p.logged)
      place_is k below = (has.remembers.lanes k (low k below)).place ∙ lane_long k p.fresh p.logged

      new_is : (k : ℕ) → undo_log_of k x.memory.fresh ≡ reverse (undo_logs p.fresh k)
      new_is k = ap (λ (log : List (ℕ × Record)). reverse (map undo_of (lane k log))) has.remembers.fresh

      new_size : (k : ℕ) → length (undo_log_of k x.memory.fresh) ≡ length (lane k p.fresh)
      new_size k = ap (λ (xs : List UndoRecord). length xs) (new_is k) ∙ length-reverse (undo_logs p.fresh k) ∙ length_undo (lane k p.fresh)

      fits_own : (k : ℕ) → k < t → FitsLane l (row_of x.committed.rows k) (undo_log_of k x.memory.fresh)
      fits_own k below = record {
        loggable = subst (λ (xs : List UndoRecord). All (IsLoggable l) xs) (sym (new_is k)) (all_reversed (IsLoggable l) (undo_logs p.fresh k)
            (all_loggable l s has.layout.limits (record { objects = has.setting.objects; fields = has.setting.fields; last = has.setting.last }) p.fresh p.logged has.remembers.legal words_new k));
        room = omega (arith, new_size k, place_is k below, length_undo (lane k p.logged), run.on.tells.logged k below, run.on.tells.start k below, has.starts k below, records_within (p.cut k) (undo_logs p.logged k), (within k (low k below)).room, has.layout.capacity);
        limit = omega (arith, new_size k, place_is k below, length_undo (lane k p.logged), run.on.tells.logged k below, (within k (low k below)).low);
      }

      -- a round may acknowledge this cut of all that was applied
      pub may_make : (fresh : ℕ → List UndoRecord) → ((k : ℕ) → k < t → fresh k ≡ undo_log_of k x.memory.fresh) →
          (next : Cut) (places : List ℕ) (cells : List HomeValue) (helper : List UndoRecord) (later : List HelperSection) →
          IsWhole (actions all) (counts_of next) → IsClosed (actions all) (counts_of next) → ((k : ℕ) → p.cut k ≤ counts_of next k) →
          ((k : ℕ) → k < t → slice_index places k ≡ records_in (counts_of next k) (undo_logs all k)) →
          (later ≡ []) ⊎ (t < l.lanes) → ArePreceding s (records_since (counts_of next) all) later →
          helper ≡ reverse (undo_logs (helper_log t (kept_by s all (counts_of next)) later) t) → (t < l.lanes → FitsLane l (row_of x.committed.rows t) helper) →
          All (IsValueIn l (kept_by s all (counts_of next))) cells →
          ((f : ℕ) → Contains (fields_of cells) f → has_store f (round_records t s p.logged p.cut run.helped) ≡ true) →
          ((f : ℕ) → f < l.fields → s.is_logged f ≡ true →
          (has_store f (round_records t s all (counts_of next) later) ≡ true) ⊎ Contains (fields_of cells) f ⊎ HasCell l f d.now.bytes (kept_by s all (counts_of next) f)) →
          MayMake l t s p.logged p.cut run.helped p.fresh later x.committed d next places cells fresh helper
      may_make fresh fresh_is next places cells helper later whole closed more behind there preceding are helper_fits values covered homes = record {
        on = run.on;
        all_lanes = has.layout.most;
        helper_lane = there;
        legal = has.past.legal;
        lanes = of_lanes;
        whole = whole;
        closed = closed;
        more = more;
        preceding = preceding;
        behind = behind;
        records = λ k below. fresh_is k below ∙ new_is k;
        fits = λ k below. subst (FitsLane l (row_of x.committed.rows k)) (sym (fresh_is k below)) (fits_own k below);
        helper_are = are;
        helper_fits = helper_fits;
        values = values;
        covered = covered;
        homes = homes;
      }
