-- Each image that a store leaves, or a recovery on the way, has a study.
use Rattle.std.proofs.Common.{ℕ, zero, suc, ◌≡◌, ◌<◌, ◌≤◌, ◌^◌, List, [], ◌∷◌, length, map, refl, sym, ap, subst, inl, inr, arith, Vec, Global}
use Rattle.std.specs.Prelude.{slice_index}
use Rattle.std.proofs.lemmas.Bool.{cases_lt}
use Rattle.std.proofs.lemmas.List.{length-reverse}
use Rattle.heap_model.specs.declared.ids.FieldId.{FieldId}
use Rattle.heap_model.specs.declared.record.UndoRecord.{UndoRecord}
use Rattle.heap_model.specs.Setting.{Setting}
use Rattle.image_parts.specs.Layout.{IsLayout}
use Rattle.image_parts.specs.Rows.{IsRow, empty_row}
use Rattle.image_parts.specs.declared.lane_row.LaneRow.{LaneRow}
use Rattle.image_parts.specs.declared.layout.Layout.{Layout}
use Rattle.undo_log.specs.StandsFor.{row_of, settled_of, HasLive}
use Rattle.heap_model.specs.Past.{Past}
use Rattle.store_image.specs.KeptHeap.{kept_heap}
use Rattle.store_image.proofs.Stands.{kept_size}
use Rattle.recover_heap.specs.Logs.{lanes_of, logged_guard_in}
use Rattle.recover.specs.Reading.{Holds}
use Rattle.recover.specs.Settled.{AreLegal}
use Rattle.recover.specs.Study.{AreUndone, IsReportOf, IsStudyOf, held_by}
use Rattle.recover.specs.declared.report.Report.{Report}
use Rattle.recover.specs.declared.studied.Study.{Study}
use Rattle.recover.proofs.LogLemmas.{row_is}
use Rattle.law_survival.specs.Again.{IsKept, ByStore, ByOldStore, ByRecovery}
use Rattle.law_survival.specs.Old.{IsLeftOf}
use Rattle.law_survival.proofs.Accepts.{guards, has_control, legal_there, live, logs, of_today, replayed, rows, stands_there}
use Rattle.law_survival.proofs.Reports.{Drops, drops_few, drops_there, fields_there}
use Rattle.law_survival.proofs.Vecs.{lanes_are, logs_long, logs_to, vec_of}

-- the counts of the rows
pub kept_at : (rs : List LaneRow) (lane : ℕ) → slice_index (map (λ (r : LaneRow). r.kept) rs) lane ≡ (row_of rs lane).kept
kept_at [] lane = refl
kept_at (r ∷ rs) zero = refl
kept_at (r ∷ rs) (suc lane) = kept_at rs lane

module _ {v : ℕ} (l : Layout) (s : Setting) (p : Past) (image : List ℕ) (left : IsLeftOf v l s p image) where
  limits : IsLayout l
  limits = left.parts.header.limits

  -- a lane's live records fit its area
  lane_fits : (lane : ℕ) → length (logs l s p image left lane) ≤ 1048576
  lane_fits lane = elim (cases_lt lane l.lanes) [
    | inr from ↦ omega (arith, ap (λ (xs : List UndoRecord). length xs) ((live l s p image left).others lane from))
    | inl below ↦
        let row : IsRow l.capacity (row_of (rows l s p image left) lane) = row_is l (rows l s p image left) lane empty_row left.shows.spells.valid.rows limits.lanes.1 below in
        omega (arith, row.fits, limits.capacity.1, ((live l s p image left).live lane below).size, length-reverse (logs l s p image left lane))
  ]

  lane_small : (lane : ℕ) → length (logs l s p image left lane) < 2 ^ 63
  lane_small lane = omega (arith, lane_fits lane)

  drops : Drops (rows l s p image left) (logs l s p image left) (replayed l s p image left).0 l.lanes
  drops = drops_there (rows l s p image left) (logs l s p image left) (replayed l s p image left).0 l.lanes

  drops_small : length drops.dropped < 2 ^ 63
  drops_small = omega (arith, drops.long, drops_few (rows l s p image left) (logs l s p image left) lane_fits l.lanes, limits.lanes.1)

  abbrev records : List (Vec UndoRecord Global)
  records = logs_to (logs l s p image left) lane_small l.lanes

  records_are : lanes_of records ≡ logs l s p image left
  records_are = lanes_are (logs l s p image left) lane_small l.lanes (live l s p image left).others

  records_long : length records ≡ l.lanes
  records_long = logs_long (logs l s p image left) lane_small l.lanes

  undone_fields : (fields : List FieldId) × AreUndone l (guards l s p image left) (rows l s p image left) (logs l s p image left) fields
  undone_fields = fields_there (guards l s p image left) (settled_of (rows l s p image left)) (logs l s p image left) (replayed l s p image left).0 (replayed l s p image left).1 l.fields

  abbrev report : Report
  report = record {
    kept = record { counts = map (λ (r : LaneRow). r.kept) (rows l s p image left) };
    dropped = vec_of drops.dropped drops_small;
    undone = length undone_fields.0;
  }

  abbrev study : Study
  study = record {
    layout = l;
    slot = left.slot;
    control = left.control;
    guards = vec_of (guards l s p image left) (omega (arith, left.parts.guarded.size, limits.fields.1));
    records = vec_of records (omega (arith, records_long, limits.lanes.1));
    heap = vec_of (kept_heap l s p.logged p.cut) (omega (arith, kept_size l s p.logged p.cut, limits.fields.1));
    report = report;
  }

  holds : Holds image (held_by study)
  holds = record {
    control = has_control l s p image left;
    logs = record {
      count = records_long;
      live = subst (λ (ls : ℕ → List UndoRecord). HasLive l image (rows l s p image left) ls) (sym records_are) (live l s p image left);
    };
    legal = subst (λ (ls : ℕ → List UndoRecord). AreLegal (logged_guard_in (guards l s p image left)) (rows l s p image left) ls) (sym records_are) (legal_there l s p image left);
  }

  reports : IsReportOf l (guards l s p image left) (rows l s p image left) (logs l s p image left) report
  reports = record {
    kept_are = kept_at (rows l s p image left);
    done = (replayed l s p image left).0;
    replays = (replayed l s p image left).1;
    dropped_are = drops.are;
    fields = undone_fields.0;
    undone_are = undone_fields.1;
    undone_is = refl;
  }

  left_study : IsStudyOf image study
  left_study = record {
    holds = holds;
    stands = stands_there l s p image left;
    reports = subst (λ (ls : ℕ → List UndoRecord). IsReportOf l (guards l s p image left) (rows l s p image left) ls report) (sym records_are) reports;
  }

  pub study_left : (found : Study) × IsStudyOf image found
  study_left = (study, left_study)

pub study_there : (l : Layout) (s : Setting) (p : Past) (image : List ℕ) → IsKept l s p image → (study : Study) × IsStudyOf image study
study_there l s p image (ByStore left) = study_left l s p image (of_today l s p image left)
study_there l s p image (ByOldStore left) = study_left l s p image left
study_there l s p image (ByRecovery found is _ _) = (found, is)
