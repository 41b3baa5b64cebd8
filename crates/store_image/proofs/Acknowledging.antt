-- The home cells made durable, and then the control that acknowledges the stable cut.
use Rattle.std.proofs.Common.{◌≡◌, ◌⊎◌, inl, inr, ⊎_elim, ℕ, ◌+◌, ◌<◌, ◌≤◌, true, false, List, [], length, refl, sym, ◌∙◌, ap, subst, arith}
use Rattle.std.specs.Prelude.{slice_index}
use Rattle.heap_model.specs.declared.cut.Cut.{Cut}
use Rattle.heap_model.specs.Setting.{Setting}
use Rattle.heap_model.specs.Log.{value}
use Rattle.heap_model.specs.KeptHeap.{kept_value}
use Rattle.heap_model.specs.Cuts.{counts_of}
use Rattle.law_cuts.proofs.Next.{legal_before}
use Rattle.block_disk.specs.Device.{Device, synced}
use Rattle.block_disk.specs.Images.{Always, ImageBut, LeavesOnly}
use Rattle.block_disk.proofs.Images.{after_sync, and_then, always_now, image_now, now_too, weaker, leaves_synced, besides_none}
use Rattle.image_parts.specs.Cells.{HasCell}
use Rattle.image.specs.Commit.{IsSteady, OldOrNew}
use Rattle.image_parts.specs.Control.{AreRows, control_of}
use Rattle.image_parts.specs.Slots.{other}
use Rattle.image_parts.specs.declared.control.Control.{Control}
use Rattle.image_parts.specs.declared.lane_row.LaneRow.{LaneRow}
use Rattle.image_parts.specs.declared.layout.Layout.{Layout}
use Rattle.image.proofs.Commits.{steady_stays}
use Rattle.undo_log.specs.Dropped.{IsDropped}
use Rattle.undo_log.specs.StandsFor.{row_of}
use Rattle.undo_log.proofs.Back.{dropped_or_same}
use Rattle.heap_model.specs.Past.{Past, IsPast, after_settle}
use Rattle.store_image.specs.Consistent.{TellsCut, HasParts, ShowsPast, ShowsEither, IsConsistent}
use Rattle.store_image.specs.KeptHeap.{StandsForEither}
use Rattle.store_image.specs.Steps.{MaySettle}
use Rattle.store_image.specs.declared.committed.Committed.{Committed}
use Rattle.store_image.proofs.Committing.{commit_leaves, commit_parts, commit_cells, commit_size}
use Rattle.store_image.proofs.Rows.{row_is, rest_is, told_rows}
use Rattle.store_image.proofs.Stands.{stands, none_logged, shows_always}

module _ (l : Layout) (s : Setting) (p : Past) (c : Committed) (d : Device) (cut : Cut) (places : List ℕ) (may : MaySettle l s p c d cut places) where
  abbrev q : Past
  q = after_settle p (counts_of cut)

  abbrev old : Control
  old = control_of c.sequence c.rows

  past_after : IsPast s q
  past_after = record {
    legal = may.consistent.past.legal;
    within = λ k. may.stable.greatest p.base may.consistent.past.base_whole may.consistent.past.base_closed k;
    base_whole = may.consistent.past.base_whole;
    base_closed = may.consistent.past.base_closed;
    whole = may.stable.whole;
    closed = may.stable.closed;
  }

  abbrev P : List ℕ → Type 0
  P = StandsForEither l s p.logged p.cut (counts_of cut)

  to_heaps : (image : List ℕ) → ShowsPast l s p image ⊎ ShowsPast l s q image → P image
  to_heaps image shown = ⊎_elim
      (λ one. inl (stands l s p may.consistent.past (none_logged l s p c d may.consistent) image one))
      (λ two. inr (stands l s q past_after (none_logged l s p c d may.consistent) image two))
      shown

  pub settle_before : Always d P
  settle_before image left = to_heaps image (inl (shows_always l s p c d may.consistent image left))

  pub settle_shown : Always d (ShowsEither l s p q)
  settle_shown image left = inl (shows_always l s p c d may.consistent image left)

  -- what the rows of the new control are
  pub record AreSettled (rows : List LaneRow) : Type 0 where
    pub size : length rows ≡ length c.rows
    pub lanes : (k : ℕ) → k < l.lanes → row_of rows k ≡ record (row_of c.rows k) { settled = slice_index places k; kept = slice_index cut.counts k }
    pub rest : (k : ℕ) → l.lanes ≤ k → row_of rows k ≡ row_of c.rows k

  old_rows : AreRows l c.rows
  old_rows = (may.consistent.steady.shows d.now.bytes (image_now d)).spells.valid.rows

  module _ (rows : List LaneRow) (are : AreSettled rows) where
    abbrev new : Control
    new = control_of (c.sequence + 1) rows

    tells_new : TellsCut l q.logged q.base q.cut rows
    tells_new = record {
      start = λ k below. ap (λ (r : LaneRow). r.start) (are.lanes k below) ∙ may.consistent.tells.start k below;
      settled = λ k below. ap (λ (r : LaneRow). r.settled) (are.lanes k below) ∙ may.behind k below;
      logged = λ k below. ap (λ (r : LaneRow). r.logged) (are.lanes k below) ∙ may.consistent.tells.logged k below;
      kept = λ k below. ap (λ (r : LaneRow). r.kept) (are.lanes k below);
    }

    pub rows_fit : AreRows l rows
    rows_fit = told_rows l p.logged p.base (counts_of cut) rows (are.size ∙ old_rows.size) past_after.within may.stable.whole tells_new
        (λ k below. omega (arith, (row_is l c.rows old_rows may.consistent.limits.lanes.1 k below).limit, may.consistent.tells.logged k below))
        (λ k below. omega (
          arith,
          (row_is l c.rows old_rows may.consistent.limits.lanes.1 k below).fits,
          ap (λ (r : LaneRow). r.logged) (are.lanes k below),
          ap (λ (r : LaneRow). r.start) (are.lanes k below),
        ))
        (λ k from. are.rest k from ∙ rest_is l c.rows old_rows k from)

    module _ (d1 : Device) (is : d1 ≡ synced d) where
      one_but : Always d1 (ImageBut d [])
      one_but = now_too d d1 (ImageBut d []) (besides_none d []) (leaves_synced d d1 is)

      pub steady_one : IsSteady l d1 c.slot old
      steady_one = steady_stays l d d1 c.slot old [] tt may.consistent.steady one_but

      rest_one : d1.now.pending ≡ []
      rest_one = ap (λ (e : Device). e.now.pending) is

      parts_old : HasParts l s p.logged p.base p.cut d.now.bytes
      parts_old = always_now d (HasParts l s p.logged p.base p.cut) may.consistent.parts

      -- every cell reads as its logged value, so it is home for the new cut
      home_now : (f : ℕ) → f < l.fields → s.is_logged f ≡ true → IsDropped (s.guard f) f p.logged (counts_of cut) ⊎ HasCell l f d.now.bytes (kept_value s.first (counts_of cut) f p.logged)
      home_now f below is = ⊎_elim (λ dropped. inl dropped)
          (λ same. inr (subst (HasCell l f d.now.bytes) same (may.consistent.clean f below (may.clean f below) is)))
          (dropped_or_same s p.logged (counts_of cut) f (legal_before s p.fresh p.logged may.consistent.past.legal) may.stable.closed)

      parts_next : HasParts l s p.logged p.base (counts_of cut) d.now.bytes
      parts_next = record {
        room = parts_old.room;
        header = parts_old.header;
        guards = parts_old.guards;
        guarded = parts_old.guarded;
        rows = parts_old.rows;
        live = parts_old.live;
        homes = home_now;
      }

      same_bytes : d.now.bytes ≡ d1.now.bytes
      same_bytes = ap (λ (e : Device). e.now.bytes) (sym is)

      module _ (d2 : Device) (committing : LeavesOnly d1 d2 (OldOrNew l d1 c.slot old new)) where
        parts_one : HasParts l s p.logged p.base p.cut d1.now.bytes
        parts_one = subst (HasParts l s p.logged p.base p.cut) same_bytes parts_old

        parts_two : HasParts l s q.logged q.base q.cut d1.now.bytes
        parts_two = subst (HasParts l s p.logged p.base (counts_of cut)) same_bytes parts_next

        shown : LeavesOnly d1 d2 (λ image. ShowsPast l s p image ⊎ ShowsPast l s q image)
        shown = commit_leaves l s c.slot old new (refl, refl) d1 steady_one rest_one p may.consistent.tells parts_one q tells_new parts_two d2 committing

        -- whatever the commit answers
        pub settle_shows : LeavesOnly d d2 (ShowsEither l s p q)
        settle_shows = and_then d d1 d2 (ShowsEither l s p q) (after_sync d d1 (ShowsEither l s p q) settle_shown (leaves_synced d d1 is)).0 shown

        pub settle_leaves : LeavesOnly d d2 P
        settle_leaves = and_then d d1 d2 P (after_sync d d1 P settle_before (leaves_synced d d1 is)).0
            (weaker d1 d2 (λ image. ShowsPast l s p image ⊎ ShowsPast l s q image) P to_heaps shown)

        pub settle_done : IsSteady l d2 (other c.slot) new → IsConsistent l s q (record { slot = other c.slot; sequence = c.sequence + 1; rows = rows }) d2
        settle_done steady = record {
          limits = may.consistent.limits;
          room = omega (
            arith,
            may.consistent.room,
            ap (λ (xs : List ℕ). length xs) same_bytes,
            commit_size l s c.slot old new (refl, refl) d1 steady_one rest_one p may.consistent.tells parts_one q tells_new parts_two d2 committing,
          );
          past = past_after;
          lanes = may.consistent.lanes;
          tells = tells_new;
          steady = steady;
          parts = commit_parts l s c.slot old new (refl, refl) d1 steady_one rest_one p may.consistent.tells parts_one q tells_new parts_two d2 committing;
          dirty = λ f below was. absurd (let no : p.is_dirty f ≡ false = may.clean f below in cc);
          clean = λ f below was kept. commit_cells l s c.slot old new (refl, refl) d1 steady_one rest_one p may.consistent.tells parts_one q tells_new parts_two d2 committing f (value s.first f p.logged)
              (subst (λ (xs : List ℕ). HasCell l f xs (value s.first f p.logged)) same_bytes (may.consistent.clean f below was kept));
        }
