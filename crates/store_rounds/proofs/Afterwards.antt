-- What a store has once the device has done its part.
use Rattle.std.proofs.Common.{ℕ, ◌≡◌, ◌<◌, ◌≤◌, ◌⊎◌, true, false, List, [], ◌++◌, length, refl, sym, ap, ◌∙◌, subst, inl, inr, arith}
use Rattle.std.specs.Prelude.{All, Contains, slice_index, ◌↔◌}
use Rattle.heap_model.specs.declared.cut.Cut.{Cut}
use Rattle.heap_model.specs.declared.record.Record.{Record}
use Rattle.heap_model.specs.Cuts.{IsStable, counts_of}
use Rattle.heap_model.specs.Log.{lane, log_from}
use Rattle.heap_model.specs.Sections.{actions}
use Rattle.heap_model.specs.Setting.{Setting}
use Rattle.block_disk.specs.Device.{Device}
use Rattle.block_disk.specs.Images.{LeavesOnly}
use Rattle.block_disk.proofs.Images.{now_too, weaker}
use Rattle.image_parts.specs.declared.layout.Layout.{Layout}
use Rattle.undo_log.specs.Dropped.{records_in, undo_logs}
use Rattle.undo_log.specs.StandsFor.{row_of}
use Rattle.undo_log.proofs.Back.{length_undo}
use Rattle.heap_model.specs.Past.{IsTrimmed, Past, after_log, after_settle, after_trim, applied, has_store}
use Rattle.store_image.specs.declared.committed.Committed.{Committed}
use Rattle.store_image.proofs.Growing.{places_grown}
use Rattle.store_image.proofs.Places.{cut_place, records_within}
use Rattle.store_memory.specs.Memory.{KeepsLayout, Memory, lane_in}
use Rattle.store_memory.specs.Remembers.{Remembers}
use Rattle.store_memory.specs.Sections.{Logged, TellsSections}
use Rattle.store_memory.specs.Trimming.{MayForget, MayStart}
use Rattle.durable.proofs.Behind.{behind_undo}
use Rattle.durable.proofs.Pasts.{remembers_settle}
use Rattle.store_helper_sections.specs.HelperSections.{HelperSection, helper_log}
use Rattle.store_helper_sections.specs.Image.{ShowsCutOf, ShowsRound, kept_by}
use Rattle.store_round_image.specs.Turning.{IsValueIn, fields_of}
use Rattle.store_round_image.specs.declared.cells.HomeValue.{HomeValue}
use Rattle.store_round_making.specs.Rounds.{IsRoundOn, MayMake}
use Rattle.store_round_memory.specs.Rounds.{HasFound, KnowsRounds, MayKeep, Rounds, SurveysOnly}
use Rattle.store_rounds.specs.Steps.{after_round}
use Rattle.store_rounds.specs.Store.{HasPast, IsRunning, Known}
use Rattle.store_rounds.specs.Turns.{IsPlan, Tells}
use Rattle.store_rounds.proofs.Fields.{none_listed}
use Rattle.store_rounds.proofs.Shown.{shows_cut}
use Rattle.law_cuts.proofs.Stays.{cut_stays}
use Rattle.std.proofs.lemmas.List.Elements.{All-nil}

module _ (t : ℕ) (s : Setting) (p : Past) (m : Memory) (g : Logged) (r : Rounds) (next : Cut) (places : List ℕ) (tells : Tells t s p m g r) (plan : IsPlan g r next places) where
  pub stable : IsStable (actions (applied p)) (counts_of next)
  stable = plan.stable p.cut (applied p) tells.sections

  pub more : (k : ℕ) → p.cut k ≤ counts_of next k
  more k = stable.greatest p.cut tells.sections.whole tells.sections.closed k

  pub behind : (k : ℕ) → slice_index places k ≡ records_in (counts_of next k) (undo_logs (applied p) k)
  behind k = plan.behind p.cut (applied p) tells.sections k ∙ sym (behind_undo (counts_of next k) (lane k (applied p)))

  -- the stable cut may be the next one
  pub may_keep : MayKeep s r (after_log p) (counts_of next) places
  may_keep = record {
    knows = tells.rounds;
    legal = tells.past.legal;
    was_whole = tells.sections.whole;
    was_closed = tells.sections.closed;
    whole = stable.whole;
    closed = stable.closed;
    more = more;
    behind = λ k low. behind k;
  }

  pub found : HasFound s r (after_log p) (counts_of next)
  found = plan.found s (after_log p) (counts_of next) may_keep

  pub may_start : (m1 : Memory) → Remembers s m1 (after_log p) → KeepsLayout m m1 → MayStart s m1 (after_settle (after_log p) (counts_of next)) places
  may_start m1 was keeps = record {
    remembers = remembers_settle s m1 (after_log p) (counts_of next) was;
    rises = λ k low.
        let below : k < t = omega (arith, low, keeps.lanes, tells.lanes) in
        omega (arith, keeps.starts k, tells.starts k below, behind k, cut_place p.cut k (counts_of next) (applied p) (more k), places_grown (p.cut k) p.fresh p.logged k (tells.past.whole k));
    logged = λ k low. omega (arith, behind k, records_within (counts_of next k) (undo_logs (applied p) k), length_undo (lane k (applied p)));
  }

  pub may_forget : MayForget g p.cut (applied p) (counts_of next)
  may_forget = record { tells = tells.sections; within = more; whole = stable.whole; closed = stable.closed }

  -- what was told of the past is told of the one after the round
  pub tells_after : (m2 : Memory) (g2 : Logged) (r2 : Rounds) → length m2.lanes ≡ t → r2.lanes ≡ t → Remembers s m2 (after_round p (counts_of next)) → TellsSections g2 (counts_of next) (applied p) →
      KnowsRounds s r2 (after_trim (after_settle (after_log p) (counts_of next))) → ((k : ℕ) → k < t → (lane_in m2.lanes k).start ≡ slice_index places k) →
      Tells t s (after_round p (counts_of next)) m2 g2 r2
  tells_after m2 g2 r2 lanes rounds_lanes remembers sections knows starts = record {
    past = record {
      legal = tells.past.legal;
      within = λ l. omega arith;
      base_whole = stable.whole;
      base_closed = stable.closed;
      whole = stable.whole;
      closed = stable.closed;
    };
    lanes = lanes;
    rounds_lanes = rounds_lanes;
    remembers = remembers;
    sections = sections;
    rounds = record { fields = knows.fields; objects = knows.objects; kept = knows.kept; beyond = knows.beyond; starts = knows.starts; taken = knows.taken };
    starts = λ k low. starts k low ∙ behind k;
  }

-- what no survey changes is the same the other way round
pub surveys_back : (a b : Rounds) → SurveysOnly a b → SurveysOnly b a
surveys_back a b only = record { lanes = sym only.lanes; capacity = sym only.capacity; kept = sym only.kept; beyond = sym only.beyond; starts = sym only.starts; objects = sym only.objects; taken = sym only.taken }

pub knows_surveyed : (s : Setting) (a b : Rounds) (p : Past) → SurveysOnly a b → KnowsRounds s a p → KnowsRounds s b p
knows_surveyed s a b p only knows = record {
  fields = ap (λ (xs : List ℕ). length xs) only.kept ∙ knows.fields;
  objects = only.objects ∙ knows.objects;
  kept = λ f low. ap (λ (xs : List ℕ). slice_index xs f) only.kept ∙ knows.kept f low;
  beyond = ap log_from only.beyond ∙ knows.beyond;
  starts = λ l low. ap (λ (xs : List ℕ). slice_index xs l) only.starts ∙ knows.starts l (omega (arith, low, only.lanes));
  taken = λ o. ap (λ (xs : List ℕ). slice_index xs o) only.taken ∙ knows.taken o;
}

-- a plan is made by a survey
pub plan_made : (g : Logged) (a b : Rounds) (next : Cut) (places : List ℕ) → SurveysOnly a b →
    ((base : ℕ → ℕ) (log : List (ℕ × Record)) → TellsSections g base log → IsStable (actions log) (counts_of next)) →
    ((base : ℕ → ℕ) (log : List (ℕ × Record)) → TellsSections g base log → (l : ℕ) → slice_index places l ≡ Rattle.store_memory.specs.Sections.place_behind (counts_of next l) (lane l log)) →
    ((s : Setting) (p : Past) (cut : ℕ → ℕ) → MayKeep s a p cut places → HasFound s b p cut) → IsPlan g b next places
plan_made g a b next places only stable behind found = record {
  stable = stable;
  behind = behind;
  found = λ s p cut may. found s p cut (record {
    knows = knows_surveyed s b a p (surveys_back a b only) may.knows;
    legal = may.legal;
    was_whole = may.was_whole;
    was_closed = may.was_closed;
    whole = may.whole;
    closed = may.closed;
    more = may.more;
    behind = λ l low. may.behind l (omega (arith, low, only.lanes));
  });
}

-- what a turn leaves shows the cut acknowledged before of all that was applied, or a later one
pub shows_turn : (l : Layout) (t : ℕ) (s : Setting) (log : List (ℕ × Record)) (cut : ℕ → ℕ) (sections : List HelperSection) (newer : List (ℕ × Record)) (later : List HelperSection) (c : Committed) (d e : Device)
    (next : Cut) (places : List ℕ) (cells : List HomeValue) (fresh : ℕ → List Rattle.heap_model.specs.declared.record.UndoRecord.UndoRecord) (helper : List Rattle.heap_model.specs.declared.record.UndoRecord.UndoRecord) →
    MayMake l t s log cut sections newer later c d next places cells fresh helper →
    LeavesOnly d e (λ image. ShowsRound l t s log cut sections image ⊎ ShowsRound l t s (newer ++ log) (counts_of next) later image) → LeavesOnly d e (ShowsCutOf l t s (newer ++ log) cut)
shows_turn l t s log cut sections newer later c d e next places cells fresh helper may =
    weaker d e (λ image. ShowsRound l t s log cut sections image ⊎ ShowsRound l t s (newer ++ log) (counts_of next) later image) (ShowsCutOf l t s (newer ++ log) cut) (λ image shown. elim shown [
      | inl old ↦ record { later = newer; shown = log; parts = refl; kept = cut; more = λ k. omega arith; sections = sections; round = may.on.round; shows = old }
      | inr new ↦ record {
        later = [];
        shown = newer ++ log;
        parts = refl;
        kept = counts_of next;
        more = may.more;
        sections = later;
        round = record { legal = may.legal; whole = may.whole; closed = may.closed; lanes = may.lanes; within = may.on.round.within; helper = may.helper_lane; preceding = may.preceding };
        shows = new;
      }
    ])

module _ (x : Known) (s : Setting) (p : Past) (d : Device) (has : HasPast x s p d) where
  pub tells_now : Tells x.threads s p x.memory x.sections x.rounds
  tells_now = record {
    past = has.past;
    lanes = has.layout.lanes;
    rounds_lanes = has.layout.rounds_lanes;
    remembers = has.remembers;
    sections = has.sections;
    rounds = has.rounds;
    starts = has.starts;
  }

  -- the device agrees with what is told now
  pub turned_has : x.has_failed ≡ false → (c : Committed) (m : Memory) (g : Logged) (r : Rounds) (waits : List HomeValue) (q : Past) (e : Device) → Tells x.threads s q m g r →
      m.capacity ≡ x.memory.capacity → g.lanes ≡ x.sections.lanes → g.capacity ≡ x.sections.capacity → r.capacity ≡ x.rounds.capacity → IsTrimmed q → (helped : List HelperSection) →
      IsRoundOn x.layout x.threads s q.logged q.cut helped c e → All (IsValueIn x.layout (kept_by s q.logged q.cut)) waits →
      ((f : ℕ) → Contains (fields_of waits) f ↔ (has_store f (helper_log x.threads (kept_by s q.logged q.cut) helped) ≡ true)) →
      HasPast (record { layout = x.layout; threads = x.threads; committed = c; memory = m; sections = g; rounds = r; guards = x.guards; pending = waits; has_failed = x.has_failed }) s q e
  turned_has serves c m g r waits q e tells capacity sections_lanes sections_capacity rounds_capacity trimmed helped on values stored = record {
    layout = record {
      limits = has.layout.limits;
      some = has.layout.some;
      within = has.layout.within;
      most = has.layout.most;
      lanes = tells.lanes;
      capacity = capacity ∙ has.layout.capacity;
      logged_lanes = sections_lanes ∙ has.layout.logged_lanes;
      logged_capacity = sections_capacity ∙ has.layout.logged_capacity;
      rounds_lanes = tells.rounds_lanes;
      rounds_capacity = rounds_capacity ∙ has.layout.rounds_capacity;
    };
    setting = record { objects = has.setting.objects; fields = has.setting.fields; last = has.setting.last; many = has.setting.many; guards = has.setting.guards };
    past = tells.past;
    trimmed = trimmed;
    remembers = tells.remembers;
    sections = tells.sections;
    rounds = tells.rounds;
    starts = tells.starts;
    kept = λ k low. on.tells.kept k (omega (arith, low, has.layout.within));
    agrees = λ ok. record { helped = helped; on = on; values = values; covered = λ f. (stored f).0; complete = λ f. (stored f).1 };
    images = shows_cut x.layout x.threads s q.fresh q.logged q.cut helped c e on;
  }

  -- a call of the device has failed
  pub failed_has : (c : Committed) (waits : List HomeValue) (e : Device) → c ≡ x.committed → LeavesOnly d e (ShowsCutOf x.layout x.threads s (applied p) p.cut) →
      HasPast (record { layout = x.layout; threads = x.threads; committed = c; memory = x.memory; sections = x.sections; rounds = x.rounds; guards = x.guards; pending = waits; has_failed = true }) s p e
  failed_has c waits e same leaves = record {
    layout = record {
      limits = has.layout.limits;
      some = has.layout.some;
      within = has.layout.within;
      most = has.layout.most;
      lanes = has.layout.lanes;
      capacity = has.layout.capacity;
      logged_lanes = has.layout.logged_lanes;
      logged_capacity = has.layout.logged_capacity;
      rounds_lanes = has.layout.rounds_lanes;
      rounds_capacity = has.layout.rounds_capacity;
    };
    setting = record { objects = has.setting.objects; fields = has.setting.fields; last = has.setting.last; many = has.setting.many; guards = has.setting.guards };
    past = has.past;
    trimmed = has.trimmed;
    remembers = has.remembers;
    sections = has.sections;
    rounds = has.rounds;
    starts = has.starts;
    kept = λ k low. ap (λ (z : Committed). (row_of z.rows k).kept) same ∙ has.kept k low;
    agrees = λ ok. absurd (let no : true ≡ false = ok in cc);
    images = now_too d e (ShowsCutOf x.layout x.threads s (applied p) p.cut) has.images leaves;
  }

  -- a survey was made
  pub surveyed_has : (g : Logged) (r : Rounds) → g ≡ x.sections → SurveysOnly x.rounds r →
      HasPast (record { layout = x.layout; threads = x.threads; committed = x.committed; memory = x.memory; sections = g; rounds = r; guards = x.guards; pending = x.pending; has_failed = x.has_failed }) s p d
  surveyed_has g r same only = record {
    layout = record {
      limits = has.layout.limits;
      some = has.layout.some;
      within = has.layout.within;
      most = has.layout.most;
      lanes = has.layout.lanes;
      capacity = has.layout.capacity;
      logged_lanes = ap (λ (z : Logged). z.lanes) same ∙ has.layout.logged_lanes;
      logged_capacity = ap (λ (z : Logged). z.capacity) same ∙ has.layout.logged_capacity;
      rounds_lanes = only.lanes ∙ has.layout.rounds_lanes;
      rounds_capacity = only.capacity ∙ has.layout.rounds_capacity;
    };
    setting = record { objects = has.setting.objects; fields = has.setting.fields; last = has.setting.last; many = has.setting.many; guards = has.setting.guards };
    past = has.past;
    trimmed = has.trimmed;
    remembers = has.remembers;
    sections = subst (λ (z : Logged). TellsSections z p.cut (applied p)) (sym same) has.sections;
    rounds = knows_surveyed s x.rounds r (after_log p) only has.rounds;
    starts = has.starts;
    kept = has.kept;
    agrees = λ ok. let run : IsRunning x s p d = has.agrees ok in record { helped = run.helped; on = run.on; values = run.values; covered = run.covered; complete = run.complete };
    images = has.images;
  }

  -- what was applied is logged, and no cell waits
  pub logged_has : x.has_failed ≡ false → (c : Committed) (m : Memory) (waits : List HomeValue) (e : Device) (cut : ℕ → ℕ) → Remembers s m (after_log p) → KeepsLayout x.memory m → waits ≡ [] → cut ≡ p.cut →
      IsRoundOn x.layout x.threads s (applied p) cut [] c e →
      HasPast (record { layout = x.layout; threads = x.threads; committed = c; memory = m; sections = x.sections; rounds = x.rounds; guards = x.guards; pending = waits; has_failed = x.has_failed }) s (after_log p) e
  logged_has serves c m waits e cut remembers keeps none same on = turned_has serves c m x.sections x.rounds waits (after_log p) e (record {
    past = record {
      legal = has.past.legal;
      within = has.past.within;
      base_whole = (cut_stays s p.fresh p.logged p.base has.past.legal has.past.base_whole has.past.base_closed).0;
      base_closed = (cut_stays s p.fresh p.logged p.base has.past.legal has.past.base_whole has.past.base_closed).1;
      whole = (cut_stays s p.fresh p.logged p.cut has.past.legal has.past.whole has.past.closed).0;
      closed = (cut_stays s p.fresh p.logged p.cut has.past.legal has.past.whole has.past.closed).1;
    };
    lanes = keeps.lanes ∙ has.layout.lanes;
    rounds_lanes = has.layout.rounds_lanes;
    remembers = remembers;
    sections = has.sections;
    rounds = record { fields = has.rounds.fields; objects = has.rounds.objects; kept = has.rounds.kept; beyond = has.rounds.beyond; starts = has.rounds.starts; taken = has.rounds.taken };
    starts = λ k low. keeps.starts k ∙ has.starts k low ∙ sym (places_grown (p.cut k) p.fresh p.logged k (has.past.whole k));
  }) keeps.capacity refl refl refl has.trimmed [] (subst (λ (k : ℕ → ℕ). IsRoundOn x.layout x.threads s (applied p) k [] c e) same on)
      (subst (λ (xs : List HomeValue). All (IsValueIn x.layout (kept_by s (applied p) p.cut)) xs) (sym none) (All-nil (IsValueIn x.layout (kept_by s (applied p) p.cut))))
      (λ f. ((λ listed. absurd (none_listed f (subst (λ (xs : List HomeValue). Contains (fields_of xs) f) none listed))), (λ stored. absurd (let no : false ≡ true = stored in cc))))

  -- the stable cut is acknowledged, and no cell waits
  pub settled_has : x.has_failed ≡ false → (c : Committed) (m : Memory) (g : Logged) (r : Rounds) (e : Device) (cut : ℕ → ℕ) → x.pending ≡ [] → Tells x.threads s (after_round p cut) m g r →
      m.capacity ≡ x.memory.capacity → g.lanes ≡ x.sections.lanes → g.capacity ≡ x.sections.capacity → r.capacity ≡ x.rounds.capacity → IsRoundOn x.layout x.threads s (applied p) cut [] c e →
      HasPast (record { layout = x.layout; threads = x.threads; committed = c; memory = m; sections = g; rounds = r; guards = x.guards; pending = x.pending; has_failed = x.has_failed }) s (after_round p cut) e
  settled_has serves c m g r e cut none tells capacity sections_lanes sections_capacity rounds_capacity on =
      turned_has serves c m g r x.pending (after_round p cut) e tells capacity sections_lanes sections_capacity rounds_capacity (λ k. refl) [] on
      (subst (λ (xs : List HomeValue). All (IsValueIn x.layout (kept_by s (applied p) cut)) xs) (sym none) (All-nil (IsValueIn x.layout (kept_by s (applied p) cut))))
      (λ f. ((λ listed. absurd (none_listed f (subst (λ (xs : List HomeValue). Contains (fields_of xs) f) none listed))), (λ stored. absurd (let no : false ≡ true = stored in cc))))
