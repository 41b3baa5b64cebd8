-- New records first, then a sync, and then the control that counts them.
use Rattle.std.proofs.Common.{◌≡◌, ◌⊎◌, inl, inr, ⊎_elim, ℕ, ◌+◌, ◌*◌, ◌<◌, ◌≤◌, if◌then◌else◌, true, false, List, [], ◌∷◌, ◌++◌, length, reverse, sym, ◌∙◌, ap, subst, refl, arith, length-append}
use Rattle.std.proofs.lemmas.List.{length-reverse}
use Rattle.heap_model.specs.declared.record.Record.{Record}
use Rattle.heap_model.specs.declared.record.UndoRecord.{UndoRecord}
use Rattle.heap_model.specs.Setting.{Setting}
use Rattle.heap_model.specs.Log.{lane, value}
use Rattle.heap_model.specs.Base.{records_since}
use Rattle.law_cuts.proofs.Stays.{cut_stays}
use Rattle.block_disk.specs.Device.{Range, Device, SameOutside, synced}
use Rattle.block_disk.specs.Images.{Always, ImageBut, IsApart, LeavesOnly}
use Rattle.block_disk.proofs.Images.{after_sync, always_now, and_then, besides_none, besides_survives, image_now, leaves_synced, now_too, weaker}
use Rattle.image_parts.specs.Cells.{HasCell}
use Rattle.image.specs.Commit.{IsSteady, OldOrNew}
use Rattle.image_parts.specs.Control.{AreRows, control_of}
use Rattle.image_parts.specs.Layout.{cell_at}
use Rattle.image_parts.specs.Rows.{IsRow}
use Rattle.image_parts.specs.Slots.{other}
use Rattle.image_parts.specs.declared.control.Control.{Control}
use Rattle.image_parts.specs.declared.lane_row.LaneRow.{LaneRow}
use Rattle.image_parts.specs.declared.layout.Layout.{Layout}
use Rattle.image.proofs.Commits.{steady_stays}
use Rattle.image_parts.proofs.SlotLemmas.{shows_survives}
use Rattle.image_parts.proofs.Places.{cell_survives}
use Rattle.undo_log.specs.Area.{HasRecords}
use Rattle.undo_log.specs.Dropped.{undo_logs, records_in, IsDropped}
use Rattle.undo_log.specs.StandsFor.{row_of, StandsFor}
use Rattle.heap_model.specs.Past.{Past, IsPast, after_log, has_store}
use Rattle.store_image.specs.Consistent.{TellsCut, HasParts, ShowsPast, ShowsEither, IsConsistent}
use Rattle.store_image.specs.NewRecords.{HasFresh, fresh_count, fresh_ranges}
use Rattle.store_image.specs.KeptHeap.{StandsForCut, kept_heap}
use Rattle.store_image.specs.Sequences.{ShowsUpTo}
use Rattle.store_image.specs.Steps.{MayLog}
use Rattle.store_image.specs.declared.committed.Committed.{Committed}
use Rattle.store_image.proofs.Appending.{front_apart, live_apart}
use Rattle.store_image.proofs.Committing.{commit_leaves, commit_parts, commit_cells, commit_size}
use Rattle.undo_log.proofs.Back.{length_undo}
use Rattle.store_image.proofs.Counting.{same_sum, lanes_sum}
use Rattle.store_image.proofs.Growing.{dropped_more, kept_grown, newer_dropped, value_grown, undo_append, places_grown, live_grown, has_append}
use Rattle.store_image.proofs.Parts.{Spared, parts_survive}
use Rattle.store_image.proofs.Places.{live_size}
use Rattle.store_image.proofs.Rows.{row_is, rest_is, told_rows}
use Rattle.store_image.proofs.Sequences.{stays_up_to, steady_up_to}
use Rattle.store_image.proofs.Stands.{same_heap, shows_always, stands, none_logged}

module _ (l : Layout) (s : Setting) (p : Past) (c : Committed) (d : Device) (fresh : ℕ → List UndoRecord) (may : MayLog l s p c d fresh) where
  abbrev q : Past
  q = after_log p

  abbrev old : Control
  old = control_of c.sequence c.rows

  abbrev rs : List Range
  rs = fresh_ranges l c.rows fresh l.lanes

  -- each image stands for this heap, before and after
  abbrev P : List ℕ → Type 0
  P = StandsForCut l s p.logged p.cut

  old_rows : AreRows l c.rows
  old_rows = (may.consistent.steady.shows d.now.bytes (image_now d)).spells.valid.rows

  pub each_row : (k : ℕ) → k < l.lanes → IsRow l.capacity (row_of c.rows k)
  each_row k below = row_is l c.rows old_rows may.consistent.limits.lanes.1 k below

  front : (at n : ℕ) → at + n ≤ 2160 + 24 * l.fields → IsApart at n rs
  front at n before = front_apart l c.rows fresh may.consistent.limits each_row may.fits at n (omega arith)

  spared : Spared l s p.logged p.base p.cut rs
  spared = record {
    header = front 0 64 (omega arith);
    guards = front 2160 (16 * l.fields) (omega arith);
    live = λ k place below from to. live_apart l c.rows fresh may.consistent.limits each_row may.fits k place below
        (omega (arith, may.consistent.tells.start k below, from)) (omega (arith, may.consistent.tells.logged k below, to));
    cells = λ f below. inr (front (cell_at l f) 8 (omega arith));
  }

  in_append : (image : List ℕ) → ImageBut d rs image → HasParts l s p.logged p.base p.cut image
  in_append image from = besides_survives d rs (HasParts l s p.logged p.base p.cut) may.consistent.parts (parts_survive l s p.logged p.base p.cut rs spared) image from

  shows_append : (image : List ℕ) → ImageBut d rs image → ShowsPast l s p image
  shows_append image (before, left, same) = record {
    slot = c.slot;
    control = old;
    shows = shows_survives l c.slot old rs (front 64 2096 (omega arith)) before image (may.consistent.steady.shows before left) same;
    current = refl;
    tells = may.consistent.tells;
    parts = in_append image (before, left, same);
  }

  to_heap : (image : List ℕ) → ShowsPast l s p image → P image
  to_heap image shown = stands l s p may.consistent.past (none_logged l s p c d may.consistent) image shown

  pub log_before : Always d P
  log_before image left = to_heap image (shows_always l s p c d may.consistent image left)

  pub log_shown : Always d (ShowsEither l s p q)
  log_shown image left = inl (shows_always l s p c d may.consistent image left)

  past_after : IsPast s q
  past_after =
      let cut_too = cut_stays s p.fresh p.logged p.cut may.consistent.past.legal may.consistent.past.whole may.consistent.past.closed in
      let base_too = cut_stays s p.fresh p.logged p.base may.consistent.past.legal may.consistent.past.base_whole may.consistent.past.base_closed in
      record {
        legal = may.consistent.past.legal;
        within = may.consistent.past.within;
        base_whole = base_too.0;
        base_closed = base_too.1;
        whole = cut_too.0;
        closed = cut_too.1;
      }

  -- the longer log keeps the same heap
  to_heap_after : (image : List ℕ) → ShowsPast l s q image → P image
  to_heap_after image shown =
      let after : StandsForCut l s q.logged q.cut image = stands l s q past_after may.consistent.lanes image shown in
      let same : kept_heap l s q.logged p.cut ≡ kept_heap l s p.logged p.cut =
      sym (same_heap l s p.logged q.logged p.cut (λ f. kept_grown s p.fresh p.logged p.cut f may.consistent.past.legal may.consistent.past.whole)) in
      record { heap = subst (StandsFor l image) same after.heap; sections = after.sections }

  module _ (d1 : Device) (leaves : LeavesOnly d d1 (ImageBut d rs)) where
    but : Always d1 (ImageBut d rs)
    but = now_too d d1 (ImageBut d rs) (besides_none d rs) leaves

    -- whatever the appends answer
    pub append_leaves : LeavesOnly d d1 P
    append_leaves = weaker d d1 (ImageBut d rs) P (λ image from. to_heap image (shows_append image from)) leaves

    one_always : Always d1 P
    one_always image left = to_heap image (shows_append image (but image left))

    one_shown : Always d1 (ShowsEither l s p q)
    one_shown image left = inl (shows_append image (but image left))

    pub append_shows : LeavesOnly d d1 (ShowsEither l s p q)
    append_shows = weaker d d1 (ImageBut d rs) (ShowsEither l s p q) (λ image from. inl (shows_append image from)) leaves

    pub sync_shows : (d2 : Device) → LeavesOnly d1 d2 (ImageBut d1 []) → LeavesOnly d d2 (ShowsEither l s p q)
    sync_shows d2 syncing = and_then d d1 d2 (ShowsEither l s p q) append_shows (after_sync d1 d2 (ShowsEither l s p q) one_shown syncing).0

    -- whatever the sync answers
    pub sync_leaves : (d2 : Device) → LeavesOnly d1 d2 (ImageBut d1 []) → LeavesOnly d d2 P
    sync_leaves d2 syncing = and_then d d1 d2 P append_leaves (after_sync d1 d2 P one_always syncing).0

    up_to_both : LeavesOnly d d1 (ShowsUpTo l (c.sequence + 1)) × Always d1 (ShowsUpTo l (c.sequence + 1))
    up_to_both = stays_up_to l (c.sequence + 1) d d1 rs (front 64 2096 (omega arith)) (steady_up_to l d c.slot old (c.sequence + 1) may.consistent.steady (omega arith)) leaves

    pub append_up_to : LeavesOnly d d1 (ShowsUpTo l (c.sequence + 1))
    append_up_to = up_to_both.0

    pub sync_up_to : (d2 : Device) → LeavesOnly d1 d2 (ImageBut d1 []) → LeavesOnly d d2 (ShowsUpTo l (c.sequence + 1))
    sync_up_to d2 syncing = and_then d d1 d2 (ShowsUpTo l (c.sequence + 1)) append_up_to (after_sync d1 d2 (ShowsUpTo l (c.sequence + 1)) up_to_both.1 syncing).0

    -- what the rows of the new control are
    pub record AreLogged (rows : List LaneRow) : Type 0 where
      pub size : length rows ≡ length c.rows
      pub lanes : (k : ℕ) → k < l.lanes → row_of rows k ≡ record (row_of c.rows k) { logged = (row_of c.rows k).logged + length (fresh k) }
      pub rest : (k : ℕ) → l.lanes ≤ k → row_of rows k ≡ row_of c.rows k

    module _ (rows : List LaneRow) (are : AreLogged rows) where
      abbrev new : Control
      new = control_of (c.sequence + 1) rows

      longer : (k : ℕ) → k < l.lanes → length (undo_logs q.logged k) ≡ (row_of c.rows k).logged + length (fresh k)
      longer k below = omega (
        arith,
        ap (λ (xs : List UndoRecord). length xs) (undo_append p.fresh p.logged k),
        length-append (undo_logs p.fresh k) (undo_logs p.logged k),
        may.consistent.tells.logged k below,
        ap (λ (xs : List UndoRecord). length xs) (may.records k below),
        length-reverse (undo_logs p.fresh k),
      )

      tells_new : TellsCut l q.logged q.base q.cut rows
      tells_new = record {
        start = λ k below. ap (λ (r : LaneRow). r.start) (are.lanes k below) ∙ may.consistent.tells.start k below ∙ sym (places_grown (p.base k) p.fresh p.logged k (may.consistent.past.base_whole k));
        settled = λ k below. ap (λ (r : LaneRow). r.settled) (are.lanes k below) ∙ may.consistent.tells.settled k below ∙ sym (places_grown (p.cut k) p.fresh p.logged k (may.consistent.past.whole k));
        logged = λ k below. ap (λ (r : LaneRow). r.logged) (are.lanes k below) ∙ sym (longer k below);
        kept = λ k below. ap (λ (r : LaneRow). r.kept) (are.lanes k below) ∙ may.consistent.tells.kept k below;
      }

      pub rows_fit : AreRows l rows
      rows_fit = told_rows l q.logged p.base p.cut rows (are.size ∙ old_rows.size) past_after.within past_after.whole tells_new
          (λ k below. omega (arith, longer k below, (may.fits k below).limit))
          (λ k below. omega (
            arith,
            (may.fits k below).room,
            (each_row k below).settled,
            (each_row k below).logged,
            ap (λ (r : LaneRow). r.logged) (are.lanes k below),
            ap (λ (r : LaneRow). r.start) (are.lanes k below),
          ))
          (λ k from. are.rest k from ∙ rest_is l c.rows old_rows k from)

      module _ (has : HasFresh l c.rows fresh l.lanes d.now.bytes d1.now.bytes) (d2 : Device) (is : d2 ≡ synced d1) where
        two_but : Always d2 (ImageBut d1 [])
        two_but = now_too d1 d2 (ImageBut d1 []) (besides_none d1 []) (leaves_synced d1 d2 is)

        pub steady_two : IsSteady l d2 c.slot old
        steady_two = steady_stays l d1 d2 c.slot old [] tt (steady_stays l d d1 c.slot old rs (front 64 2096 (omega arith)) may.consistent.steady but) two_but

        rest_two : d2.now.pending ≡ []
        rest_two = ap (λ (e : Device). e.now.pending) is

        same_bytes : d1.now.bytes ≡ d2.now.bytes
        same_bytes = ap (λ (e : Device). e.now.bytes) (sym is)

        parts_one : HasParts l s p.logged p.base p.cut d1.now.bytes
        parts_one = always_now d1 (HasParts l s p.logged p.base p.cut) (λ image left. in_append image (but image left))

        -- the lanes' live records, with the new ones
        live_now : (k : ℕ) → k < l.lanes → HasRecords l k (records_in (p.base k) (undo_logs q.logged k)) d1.now.bytes (reverse (undo_logs (records_since p.base q.logged) k))
        live_now k below =
            let were : List UndoRecord = reverse (undo_logs (records_since p.base p.logged) k) in
            let start : records_in (p.base k) (undo_logs q.logged k) ≡ records_in (p.base k) (undo_logs p.logged k) = places_grown (p.base k) p.fresh p.logged k (may.consistent.past.base_whole k) in
            let records : were ++ fresh k ≡ reverse (undo_logs (records_since p.base q.logged) k) =
            ap (λ (ys : List UndoRecord). were ++ ys) (may.records k below) ∙ sym (live_grown p.base p.fresh p.logged k may.consistent.past.base_whole) in
            let behind : (row_of c.rows k).logged ≡ records_in (p.base k) (undo_logs p.logged k) + length were = omega (
              arith,
              may.consistent.tells.logged k below,
              live_size p.base k p.logged,
              length-reverse (undo_logs (records_since p.base p.logged) k),
            ) in
            let all : HasRecords l k (records_in (p.base k) (undo_logs p.logged k)) d1.now.bytes (were ++ fresh k) =
            has_append l k (records_in (p.base k) (undo_logs p.logged k)) d1.now.bytes were (fresh k) (parts_one.live k below)
            (subst (λ (at : ℕ). HasRecords l k at d1.now.bytes (fresh k)) behind (has.has k below)) in
            subst (λ (at : ℕ). HasRecords l k at d1.now.bytes (reverse (undo_logs (records_since p.base q.logged) k))) (sym start)
            (subst (HasRecords l k (records_in (p.base k) (undo_logs p.logged k)) d1.now.bytes) records all)

        parts_next : HasParts l s q.logged q.base q.cut d1.now.bytes
        parts_next = record {
          room = parts_one.room;
          header = parts_one.header;
          guards = parts_one.guards;
          guarded = parts_one.guarded;
          rows = parts_one.rows;
          live = live_now;
          homes = λ f below is. ⊎_elim (λ dropped. inl (dropped_more (s.guard f) f p.fresh p.logged p.cut dropped))
              (λ holds. inr (subst (HasCell l f d1.now.bytes) (kept_grown s p.fresh p.logged p.cut f may.consistent.past.legal may.consistent.past.whole) holds))
              (parts_one.homes f below is);
        }

        module _ (d3 : Device) (committing : LeavesOnly d2 d3 (OldOrNew l d2 c.slot old new)) where
          parts_two : HasParts l s p.logged p.base p.cut d2.now.bytes
          parts_two = subst (HasParts l s p.logged p.base p.cut) same_bytes parts_one

          parts_new : HasParts l s q.logged q.base q.cut d2.now.bytes
          parts_new = subst (HasParts l s q.logged q.base q.cut) same_bytes parts_next

          shown : LeavesOnly d2 d3 (λ image. ShowsPast l s p image ⊎ ShowsPast l s q image)
          shown = commit_leaves l s c.slot old new (refl, refl) d2 steady_two rest_two p may.consistent.tells parts_two q tells_new parts_new d3 committing

          -- whatever the commit answers
          pub log_shows : LeavesOnly d d3 (ShowsEither l s p q)
          log_shows = and_then d d2 d3 (ShowsEither l s p q) (sync_shows d2 (leaves_synced d1 d2 is)) shown

          pub log_leaves : LeavesOnly d d3 P
          log_leaves = and_then d d2 d3 P (sync_leaves d2 (leaves_synced d1 d2 is))
              (weaker d2 d3 (λ image. ShowsPast l s p image ⊎ ShowsPast l s q image) P (λ image either. ⊎_elim (λ one. to_heap image one) (λ two. to_heap_after image two) either) shown)

          cells : (f : ℕ) → f < l.fields → (v : ℕ) → HasCell l f d.now.bytes v → HasCell l f d3.now.bytes v
          cells f below v holds =
              commit_cells l s c.slot old new (refl, refl) d2 steady_two rest_two p may.consistent.tells parts_two q tells_new parts_new d3 committing f v
              (subst (λ (xs : List ℕ). HasCell l f xs v) same_bytes
              (cell_survives l f v rs (front (cell_at l f) 8 (omega arith)) d.now.bytes d1.now.bytes holds has.same))

          pub log_done : IsSteady l d3 (other c.slot) new → IsConsistent l s q (record { slot = other c.slot; sequence = c.sequence + 1; rows = rows }) d3
          log_done steady = record {
            limits = may.consistent.limits;
            room = omega (
              arith,
              may.consistent.room,
              has.same.size,
              ap (λ (xs : List ℕ). length xs) same_bytes,
              commit_size l s c.slot old new (refl, refl) d2 steady_two rest_two p may.consistent.tells parts_two q tells_new parts_new d3 committing,
            );
            past = past_after;
            lanes = may.consistent.lanes;
            tells = tells_new;
            steady = steady;
            parts = commit_parts l s c.slot old new (refl, refl) d2 steady_two rest_two p may.consistent.tells parts_two q tells_new parts_new d3 committing;
            dirty = λ f below. elim (p.is_dirty f) as (λ b. p.is_dirty f ≡ b → (if b then true else has_store f p.fresh) ≡ true → IsDropped (s.guard f) f q.logged p.cut) [
              | true ↦ λ was now. dropped_more (s.guard f) f p.fresh p.logged p.cut (may.consistent.dirty f below was)
              | false ↦ λ was now. newer_dropped s p.fresh p.logged p.cut f may.consistent.past.legal may.consistent.past.whole now
            ] refl;
            clean = λ f below. elim (p.is_dirty f) as (λ b. p.is_dirty f ≡ b → (if b then true else has_store f p.fresh) ≡ false → s.is_logged f ≡ true → HasCell l f d3.now.bytes (value s.first f q.logged)) [
              | true ↦ λ was now kept. absurd (let no : true ≡ false = now in cc)
              | false ↦ λ was now kept. cells f below (value s.first f q.logged)
                  (subst (HasCell l f d.now.bytes) (sym (value_grown s.first p.fresh p.logged f now)) (may.consistent.clean f below was kept))
            ] refl;
          }

  -- the lanes' new records are all that there are
  pub count_is : fresh_count fresh l.lanes ≡ length p.fresh
  count_is =
      same_sum (λ k. length (fresh k)) (λ k. length (lane k p.fresh)) l.lanes (λ k below. omega (
        arith,
        ap (λ (xs : List UndoRecord). length xs) (may.records k below),
        length-reverse (undo_logs p.fresh k),
        length_undo (lane k p.fresh),
      ))
      ∙ lanes_sum p.fresh l.lanes (λ k from. omega (
        arith,
        ap (λ (xs : List UndoRecord). length xs) (may.consistent.lanes k from),
        ap (λ (xs : List UndoRecord). length xs) (undo_append p.fresh p.logged k),
        length-append (undo_logs p.fresh k) (undo_logs p.logged k),
        length_undo (lane k p.fresh),
      ))

  -- with none nothing changes
  pub nothing_new : p.fresh ≡ [] → IsConsistent l s q c d
  nothing_new is =
      let same : p.logged ≡ q.logged = ap (λ (xs : List (ℕ × Record)). xs ++ p.logged) (sym is) in
      record {
        limits = may.consistent.limits;
        room = may.consistent.room;
        past = past_after;
        lanes = may.consistent.lanes;
        tells = subst (λ (log : List (ℕ × Record)). TellsCut l log p.base p.cut c.rows) same may.consistent.tells;
        steady = may.consistent.steady;
        parts = subst (λ (log : List (ℕ × Record)). Always d (HasParts l s log p.base p.cut)) same may.consistent.parts;
        dirty = λ f below. elim (p.is_dirty f) as (λ b. p.is_dirty f ≡ b → (if b then true else has_store f p.fresh) ≡ true → IsDropped (s.guard f) f q.logged p.cut) [
          | true ↦ λ was now. subst (λ (log : List (ℕ × Record)). IsDropped (s.guard f) f log p.cut) same (may.consistent.dirty f below was)
          | false ↦ λ was now. absurd (let no : false ≡ true = ap (has_store f) (sym is) ∙ now in cc)
        ] refl;
        clean = λ f below. elim (p.is_dirty f) as (λ b. p.is_dirty f ≡ b → (if b then true else has_store f p.fresh) ≡ false → s.is_logged f ≡ true → HasCell l f d.now.bytes (value s.first f q.logged)) [
          | true ↦ λ was now kept. absurd (let no : true ≡ false = now in cc)
          | false ↦ λ was now kept. subst (λ (log : List (ℕ × Record)). HasCell l f d.now.bytes (value s.first f log)) same (may.consistent.clean f below was kept)
        ] refl;
      }
