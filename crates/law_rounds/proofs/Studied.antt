-- An image whose live records go on from the heap that it shows has a study, of that heap.
use Rattle.std.proofs.Common.{ℕ, ◌≡◌, ◌<◌, ◌≤◌, ◌^◌, List, [], length, map, refl, sym, ap, subst, inl, inr, arith, Vec, Global}
use Rattle.std.proofs.lemmas.Bool.{cases_lt}
use Rattle.std.proofs.lemmas.List.{length-reverse}
use Rattle.heap_model.specs.declared.ids.FieldId.{FieldId}
use Rattle.heap_model.specs.declared.record.Record.{Record}
use Rattle.heap_model.specs.declared.record.UndoRecord.{UndoRecord}
use Rattle.heap_model.specs.Setting.{Setting}
use Rattle.image_parts.specs.Layout.{IsLayout}
use Rattle.image_parts.specs.Rows.{IsRow, empty_row}
use Rattle.image_parts.specs.declared.lane_row.LaneRow.{LaneRow}
use Rattle.image_parts.specs.declared.layout.Layout.{Layout}
use Rattle.undo_log.specs.StandsFor.{row_of, settled_of, HasLive}
use Rattle.store_image.specs.KeptHeap.{values_below}
use Rattle.store_image.proofs.Stands.{kept_at as value_at, kept_size as values_size}
use Rattle.recover_logs.specs.Replay.{Replays}
use Rattle.recover_heap.specs.Logs.{lanes_of, logged_guard_in}
use Rattle.recover.specs.Reading.{Holds, IsOfOldVersion}
use Rattle.recover.specs.Recovery.{StudiedLaw}
use Rattle.recover.specs.Settled.{AreLegal}
use Rattle.recover.specs.Study.{AreUndone, IsReportOf, IsStudyOf, held_by}
use Rattle.recover.specs.declared.report.Report.{Report}
use Rattle.recover.specs.declared.studied.Study.{Study}
use Rattle.recover.specs.declared.versions.Versions.TheVariants.{Current}
use Rattle.recover.proofs.LogLemmas.{row_is}
use Rattle.recover.proofs.RecoveryLemmas.{not_old}
use Rattle.law_survival.proofs.Reports.{Drops, drops_few, drops_there, fields_there}
use Rattle.law_survival.proofs.Studies.{kept_at}
use Rattle.law_survival.proofs.Vecs.{lanes_are, logs_long, logs_to, vec_of}
use Rattle.law_survival.proofs.WholeRuns.{cannot}
use Rattle.store_helper_sections.specs.Going.{GoesOn}
use Rattle.store_helper_sections.specs.Image.{ShowsHeap}
use Rattle.store_helper_sections.proofs.Standing.{stands_shown}
use Rattle.law_rounds.specs.Laws.{Gives}
use Rattle.law_rounds.proofs.Legal.{guards, has_control, legal_there, logs, replayed, rows}

module _ (l : Layout) (s : Setting) (records : List (ℕ × Record)) (image : List ℕ) (going : GoesOn s records) (shown : ShowsHeap l s records image) where
  abbrev recover_logs : ℕ → List UndoRecord
  recover_logs = logs l s records image going shown

  abbrev live_rows : List LaneRow
  live_rows = rows l s records image going shown

  limits : IsLayout l
  limits = shown.parts.header.limits

  -- a lane's live records fit its area
  lane_fits : (lane : ℕ) → length (recover_logs lane) ≤ 1048576
  lane_fits lane = elim (cases_lt lane l.lanes) [
    | inr from ↦ omega (arith, ap (λ (xs : List UndoRecord). length xs) (shown.parts.live.others lane from))
    | inl below ↦
        let row : IsRow l.capacity (row_of live_rows lane) = row_is l live_rows lane empty_row shown.shows.spells.valid.rows limits.lanes.1 below in
        omega (arith, row.fits, limits.capacity.1, (shown.parts.live.live lane below).size, length-reverse (recover_logs lane))
  ]

  lane_small : (lane : ℕ) → length (recover_logs lane) < 2 ^ 63
  lane_small lane = omega (arith, lane_fits lane)

  abbrev done : List (ℕ × UndoRecord)
  done = (replayed l s records image going shown).0

  replays : Replays (logged_guard_in (guards l s records image going shown)) recover_logs done
  replays = (replayed l s records image going shown).1

  drops : Drops live_rows recover_logs done l.lanes
  drops = drops_there live_rows recover_logs done l.lanes

  drops_small : length drops.dropped < 2 ^ 63
  drops_small = omega (arith, drops.long, drops_few live_rows recover_logs lane_fits l.lanes, limits.lanes.1)

  abbrev vecs : List (Vec UndoRecord Global)
  vecs = logs_to recover_logs lane_small l.lanes

  vecs_are : lanes_of vecs ≡ recover_logs
  vecs_are = lanes_are recover_logs lane_small l.lanes shown.parts.live.others

  vecs_long : length vecs ≡ l.lanes
  vecs_long = logs_long recover_logs lane_small l.lanes

  undone_fields : (fields : List FieldId) × AreUndone l (guards l s records image going shown) live_rows recover_logs fields
  undone_fields = fields_there (guards l s records image going shown) (settled_of live_rows) recover_logs done replays l.fields

  abbrev report : Report
  report = record {
    kept = record { counts = map (λ (r : LaneRow). r.kept) live_rows };
    dropped = vec_of drops.dropped drops_small;
    undone = length undone_fields.0;
  }

  values_long : length (values_below s.first l.fields) ≡ l.fields
  values_long = values_size l s [] s.first

  abbrev study : Study
  study = record {
    layout = l;
    slot = shown.slot;
    control = shown.control;
    guards = vec_of (guards l s records image going shown) (omega (arith, shown.parts.guarded.size, limits.fields.1));
    records = vec_of vecs (omega (arith, vecs_long, limits.lanes.1));
    heap = vec_of (values_below s.first l.fields) (omega (arith, values_long, limits.fields.1));
    report = report;
  }

  holds : Holds image (held_by study)
  holds = record {
    control = has_control l s records image going shown;
    logs = record {
      count = vecs_long;
      live = subst (λ (ls : ℕ → List UndoRecord). HasLive l image live_rows ls) (sym vecs_are) shown.parts.live;
    };
    legal = subst (λ (ls : ℕ → List UndoRecord). AreLegal (logged_guard_in (guards l s records image going shown)) live_rows ls) (sym vecs_are) (legal_there l s records image going shown);
  }

  reports : IsReportOf l (guards l s records image going shown) live_rows recover_logs report
  reports = record {
    kept_are = kept_at live_rows;
    done = done;
    replays = replays;
    dropped_are = drops.are;
    fields = undone_fields.0;
    undone_are = undone_fields.1;
    undone_is = refl;
  }

  studied : IsStudyOf image study
  studied = record {
    holds = holds;
    stands = stands_shown l s records image going shown (values_below s.first l.fields) values_long (value_at l s [] s.first);
    reports = subst (λ (ls : ℕ → List UndoRecord). IsReportOf l (guards l s records image going shown) live_rows ls report) (sym vecs_are) reports;
  }

  young : IsOfOldVersion image → ⊥
  young old = not_old Current image l (guards l s records image going shown) shown.slot shown.control (has_control l s records image going shown) (λ _ version. omega (arith, version, shown.current)) old

  pub gives : StudiedLaw → Gives l s.first (λ lane. (row_of shown.control.rows lane).kept) image
  gives refused_none = record {
    accepted = record {
      study = study;
      of = studied;
      taken = λ e refused. cannot Current image (λ r refuses. refused_none image study r studied refuses) young e refused;
    };
    heap_is = refl;
    kept_are = λ lane low. kept_at live_rows lane;
  }
