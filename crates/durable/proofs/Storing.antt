-- What a store has after each of its steps.
use Rattle.std.proofs.Common.{◌≡◌, ◌≢◌, ⊎_elim, ℕ, ◌+◌, ◌-◌, ◌<◌, ◌^◌, Bool, true, false, List, [], ◌∷◌, ◌++◌, length, map, reverse, Option, Some, None, Result, Ok, Err, OnOk, OnErr, IfErr, MatchResult, refl, sym, ◌∙◌, ap, subst, arith}
use Rattle.std.specs.Prelude.{All}
use Rattle.std.proofs.lemmas.List.{length-reverse, get_or-reverse}
use Rattle.std.proofs.lemmas.List.Elements.{All-nil, All-cons}
use Rattle.heap_model.specs.declared.record.Record.{Record}
use Rattle.heap_model.specs.declared.record.UndoRecord.{UndoRecord}
use Rattle.heap_model.specs.Record.{undo_of}
use Rattle.heap_model.specs.Setting.{Setting}
use Rattle.heap_model.specs.Log.{lane, value, log_from}
use Rattle.heap_model.specs.Sections.{Action, actions}
use Rattle.std.specs.Prelude.{slice_index, MatchOption}
use Rattle.std.specs.Option.{is_some}
use Rattle.heap_model.specs.declared.cut.Cut.{Cut}
use Rattle.heap_model.specs.declared.ids.FieldId.{FieldId}
use Rattle.heap_model.specs.Cuts.{IsStable, counts_of}
use Rattle.block_disk.specs.Device.{Device}
use Rattle.block_disk.specs.Images.{Always, LeavesOnly}
use Rattle.block_disk.proofs.Images.{always_weaker, now_too, weaker}
use Rattle.image_parts.specs.declared.layout.Layout.{Layout}
use Rattle.undo_log.specs.Area.{IsLoggable}
use Rattle.undo_log.specs.Dropped.{undo_logs}
use Rattle.undo_log.specs.StandsFor.{row_of}
use Rattle.undo_log.proofs.Back.{length_undo}
use Rattle.store_image.specs.Consistent.{ShowsPast, ShowsEither, IsConsistent}
use Rattle.store_memory.specs.Fresh.{IsOfLanes, undo_log_of}
use Rattle.store_memory.specs.Limits.{AreWithin, FitWords}
use Rattle.store_memory.specs.Memory.{Memory, KeepsLayout, lane_in}
use Rattle.store_image.specs.NewRecords.{FitsLane}
use Rattle.heap_model.specs.Past.{Past, after_apply, after_log, after_home, after_settle, after_trim}
use Rattle.store_memory.specs.Remembers.{Remembers}
use Rattle.store_memory.specs.Sections.{Logged, place_behind, TellsSections, MayBeLogged}
use Rattle.store_memory.specs.Apply.{Answers}
use Rattle.store_memory.specs.Begin.{IsLeastDirtyOf}
use Rattle.durable.specs.Calls.{HasDirty, IsClean, RefusesApply, RefusesSettle}
use Rattle.heap_model.specs.declared.store_error.StoreError.{StoreError}
use Rattle.heap_model.specs.declared.store_error.StoreError.TheVariants.{Failed, BadLane, BadId, Worn, NotNext, TooLong, LogFull, Unwritten, Fault, Unfinished}
use Rattle.store_image.specs.Steps.{MayGoHome, MayLog, MaySettle}
use Rattle.durable.specs.Store.{Known, Parts, FitsLayout, HasPast, ShowsStep}
use Rattle.durable.specs.declared.doubt.Doubt.{Doubt}
use Rattle.durable.specs.declared.doubt.Doubt.TheVariants.{Logging, Settling, Trimming}
use Rattle.durable.specs.Store.ShowsStep.{Shows, ShowsLogged, ShowsSettled, ShowsTrimmed}
use Rattle.store_image.specs.declared.committed.Committed.{Committed}
use Rattle.durable.proofs.Begun.{applies}
use Rattle.durable.proofs.Behind.{behind_undo}
use Rattle.store_image.proofs.Growing.{places_grown}
use Rattle.durable.proofs.Loggable.{all_loggable}
use Rattle.durable.proofs.Pasts.{past_apply, remembers_settle}
use Rattle.store_image.proofs.Places.{records_within}
use Rattle.store_image.proofs.Stands.{shows_always}
use Rattle.store_memory.proofs.Verdicts.{lane_long}

-- what is true of what a store's parts are equal to, is true of them
pub to_parts : {D : Type 0} (device : D → Device) (y z : Parts D) (Q : Known → Device → Type 0) → y ≡ z → Q z.known (device z.disk) → Q y.known (device y.disk)
to_parts device y z Q same holds = subst (λ w. Q w.known (device w.disk)) (sym same) holds

all_of_lanes : (n : ℕ) (log : List (ℕ × Record)) → IsOfLanes n log → All (λ x. x.0 < n) log
all_of_lanes n [] of = All-nil (λ x. x.0 < n)
all_of_lanes n (x ∷ older) of = All-cons (λ x. x.0 < n) x older of.0 (all_of_lanes n older of.1)

of_newer : (n : ℕ) (newer log : List (ℕ × Record)) → IsOfLanes n (newer ++ log) → IsOfLanes n newer
of_newer n [] log of = tt
of_newer n (x ∷ newer) log of = (of.0, of_newer n newer log of.1)

all_reversed : {A : Type 0} (P : A → Type 0) (xs : List A) → All P xs → All P (reverse xs)
all_reversed P xs all k d lt = subst P (sym (get_or-reverse xs k d (omega (arith, length-reverse xs)))) (all (length xs - 1 - k) d (omega (arith, length-reverse xs)))

-- the lanes are those of the image still
still_fits : (x : Known) (c : Committed) (m : Memory) (g : Logged) (failed : Bool) (w : Doubt) → FitsLayout x → KeepsLayout x.memory m → g.lanes ≡ x.logged.lanes → g.capacity ≡ x.logged.capacity →
    FitsLayout (record { layout = x.layout; committed = c; memory = m; logged = g; has_failed = failed; doubt = w })
still_fits x c m g failed w was keeps lanes capacity = record {
  limits = was.limits;
  lanes = keeps.lanes ∙ was.lanes;
  capacity = keeps.capacity ∙ was.capacity;
  logged_lanes = lanes ∙ was.logged_lanes;
  logged_capacity = capacity ∙ was.logged_capacity;
}

keeps_all : (m : Memory) → KeepsLayout m m
keeps_all m = record { last = refl; capacity = refl; lanes = refl; objects = refl; fields = refl; starts = λ l. refl }

refuses : (x : Known) (s : Setting) (p : Past) (k : ℕ) (r : Record) (e : StoreError) → x.has_failed ≡ false → Answers s x.memory p k r (Err e) → RefusesApply x s p k r e
refuses x s p k r Failed serves answers = absurd answers
refuses x s p k r BadLane serves answers = (serves, answers)
refuses x s p k r BadId serves answers = (serves, answers)
refuses x s p k r Worn serves answers = (serves, answers)
refuses x s p k r NotNext serves answers = (serves, answers)
refuses x s p k r TooLong serves answers = (serves, answers)
refuses x s p k r LogFull serves answers = (serves, answers)
refuses x s p k r Unwritten serves answers = (serves, answers)
refuses x s p k r Fault serves answers = (serves, answers)
refuses x s p k r Unfinished serves answers = (serves, answers)

pub apply_answers : (x : Known) (s : Setting) (p : Past) (k : ℕ) (r : Record) (answer : Result (Unit {0}) StoreError) → x.has_failed ≡ false → Answers s x.memory p k r answer →
    MatchResult answer (λ done. Answers s x.memory p k r (Ok done)) (RefusesApply x s p k r)
apply_answers x s p k r (Ok done) serves answers = answers
apply_answers x s p k r (Err e) serves answers = refuses x s p k r e serves answers

-- what holds of a refusal, if something else does
pub if_err_weaker : {T E : Type 0} (P Q : E → Type 0) (r : Result T E) → ((e : E) → P e → Q e) → IfErr r P → IfErr r Q
if_err_weaker P Q (Ok done) to holds = tt
if_err_weaker P Q (Err e) to holds = to e holds

-- a record is never refused for a fault
pub never_fault : (x : Known) (s : Setting) (p : Past) (k : ℕ) (r : Record) (answer : Result (Unit {0}) StoreError) → Answers s x.memory p k r answer → IfErr answer (λ e. e ≢ Fault)
never_fault x s p k r (Ok done) answers = tt
never_fault x s p k r (Err e) answers = λ is. subst (λ f. Answers s x.memory p k r (Err f)) is answers

-- the images of a step that leaves the past
pub shows_then : (l : Layout) (s : Setting) (p : Past) (w : Doubt) (d d2 : Device) → LeavesOnly d d2 (ShowsPast l s p) → LeavesOnly d d2 (ShowsStep l s p w)
shows_then l s p w d d2 = weaker d d2 (ShowsPast l s p) (ShowsStep l s p w) (λ image. Shows)

pub logs_then : (l : Layout) (s : Setting) (p : Past) (d d2 : Device) → LeavesOnly d d2 (ShowsEither l s p (after_log p)) → LeavesOnly d d2 (ShowsStep l s p Logging)
logs_then l s p d d2 = weaker d d2 (ShowsEither l s p (after_log p)) (ShowsStep l s p Logging) (λ image. ⊎_elim Shows (ShowsLogged refl))

pub settles_then : (l : Layout) (s : Setting) (p : Past) (cut : ℕ → ℕ) (d d2 : Device) → IsClean s p → IsStable (actions p.logged) cut → LeavesOnly d d2 (ShowsEither l s p (after_settle p cut)) →
    LeavesOnly d d2 (ShowsStep l s p Settling)
settles_then l s p cut d d2 clean stable = weaker d d2 (ShowsEither l s p (after_settle p cut)) (ShowsStep l s p Settling) (λ image. ⊎_elim Shows (ShowsSettled refl clean cut stable))

pub trims_then : (l : Layout) (s : Setting) (p : Past) (d d2 : Device) → LeavesOnly d d2 (ShowsEither l s p (after_trim p)) → LeavesOnly d d2 (ShowsStep l s p Trimming)
trims_then l s p d d2 = weaker d d2 (ShowsEither l s p (after_trim p)) (ShowsStep l s p Trimming) (λ image. ⊎_elim Shows (ShowsTrimmed refl))

-- stable cuts of one list are the same
pub one_stable : (log : List (ℕ × Action)) (c d : ℕ → ℕ) → IsStable log c → IsStable log d → (l : ℕ) → c l ≡ d l
one_stable log c d one other l = omega (arith, other.greatest c one.whole one.closed l, one.greatest d other.whole other.closed l)

-- what the search for a dirty field tells
pub some_dirty : (s : Setting) (p : Past) (found : Option FieldId) → is_some found ≡ true → MatchOption found (IsClean s p) (λ field. IsLeastDirtyOf s p field.0) → HasDirty s p
some_dirty s p None is clean = absurd (let no : false ≡ true = is in cc)
some_dirty s p (Some f) is least = (f.0, least.field_is, least.among)

pub none_dirty : (s : Setting) (p : Past) (found : Option FieldId) → is_some found ≡ false → MatchOption found (IsClean s p) (λ field. IsLeastDirtyOf s p field.0) → IsClean s p
none_dirty s p None is clean = clean
none_dirty s p (Some f) is least = absurd (let no : true ≡ false = is in cc)

-- why nothing was acknowledged
pub settle_refused : (x : Known) (s : Setting) (p : Past) (e : StoreError) → x.has_failed ≡ false → e ≡ Worn → IsClean s p → x.committed.sequence ≡ 2 ^ 64 - 1 → RefusesSettle x s p e
settle_refused x s p e serves is clean last = subst (RefusesSettle x s p) (sym is) (serves, clean, last)

module _ (x : Known) (s : Setting) (p : Past) (d : Device) (has : HasPast x s p d) where
  -- a device that agrees shows the past
  pub shows_past : (l : Layout) (q : Past) (c : Committed) (w : Doubt) (d2 : Device) → IsConsistent l s q c d2 → Always d2 (ShowsStep l s q w)
  shows_past l q c w d2 is = always_weaker d2 (ShowsPast l s q) (ShowsStep l s q w) (λ image. Shows) (shows_always l s q c d2 is)

  -- a record is applied
  pub applied_has : (k : ℕ) (r : Record) (m : Memory) → x.has_failed ≡ false → k < x.layout.lanes → Remembers s m (after_apply p k r) → KeepsLayout x.memory m →
      HasPast (record { layout = x.layout; committed = x.committed; memory = m; logged = x.logged; has_failed = x.has_failed; doubt = x.doubt }) s (after_apply p k r) d
  applied_has k r m serves low remembers keeps =
      let agrees : IsConsistent x.layout s (after_apply p k r) x.committed d = applies x.layout s p x.committed d k r (has.agrees serves) low remembers.legal in
      record {
        layout = still_fits x x.committed m x.logged x.has_failed x.doubt has.layout keeps refl refl;
        setting = has.setting;
        past = past_apply s p k r has.past remembers.legal;
        remembers = remembers;
        sections = has.sections;
        starts = λ j below. keeps.starts j ∙ has.starts j below;
        tells = has.tells;
        agrees = λ ok. agrees;
        images = shows_past x.layout (after_apply p k r) x.committed x.doubt d agrees;
      }

  pub apply_has : (k : ℕ) (r : Record) (m : Memory) (answer : Result (Unit {0}) StoreError) → x.has_failed ≡ false → Answers s x.memory p k r answer → OnOk answer (Remembers s m (after_apply p k r)) →
      OnErr answer (m ≡ x.memory) → KeepsLayout x.memory m → (q : Past) × HasPast (record { layout = x.layout; committed = x.committed; memory = m; logged = x.logged; has_failed = x.has_failed; doubt = x.doubt }) s q d
  apply_has k r m (Ok done) serves answers remembers same keeps = (after_apply p k r, applied_has k r m serves (omega (arith, answers.0, has.layout.lanes)) remembers keeps)
  apply_has k r m (Err e) serves answers remembers same keeps =
      (p, subst (λ (n : Memory). HasPast (record { layout = x.layout; committed = x.committed; memory = n; logged = x.logged; has_failed = x.has_failed; doubt = x.doubt }) s p d) (sym same) has)

  pub apply_ok : (k : ℕ) (r : Record) (m : Memory) (answer : Result (Unit {0}) StoreError) → x.has_failed ≡ false → Answers s x.memory p k r answer → OnOk answer (Remembers s m (after_apply p k r)) →
      KeepsLayout x.memory m → OnOk answer (HasPast (record { layout = x.layout; committed = x.committed; memory = m; logged = x.logged; has_failed = x.has_failed; doubt = x.doubt }) s (after_apply p k r) d)
  apply_ok k r m (Ok done) serves answers remembers keeps = applied_has k r m serves (omega (arith, answers.0, has.layout.lanes)) remembers keeps
  apply_ok k r m (Err e) serves answers remembers keeps = tt

  -- what a step that went wrong leaves
  pub shows_now : (w : Doubt) (d2 : Device) → x.has_failed ≡ false → LeavesOnly d d2 (ShowsPast x.layout s p) → Always d2 (ShowsStep x.layout s p w)
  shows_now w d2 serves leaves = always_weaker d2 (ShowsPast x.layout s p) (ShowsStep x.layout s p w) (λ image. Shows)
      (now_too d d2 (ShowsPast x.layout s p) (shows_always x.layout s p x.committed d (has.agrees serves)) leaves)

  pub may_go_home : (f v : ℕ) → x.has_failed ≡ false → IsLeastDirtyOf s p f → v ≡ value s.first f p.logged → MayGoHome x.layout s p x.committed d f v
  may_go_home f v serves least is = record {
    consistent = has.agrees serves;
    field = omega (arith, least.field_is, has.setting.fields);
    dirty = least.among;
    logged = is;
  }

  -- the new records are logged
  pub logged_has : (c : Committed) (m : Memory) (g : Logged) (d2 : Device) → IsConsistent x.layout s (after_log p) c d2 → Remembers s m (after_log p) → KeepsLayout x.memory m →
      TellsSections g p.base (p.fresh ++ p.logged) → g.lanes ≡ x.logged.lanes → g.capacity ≡ x.logged.capacity →
      HasPast (record { layout = x.layout; committed = c; memory = m; logged = g; has_failed = x.has_failed; doubt = x.doubt }) s (after_log p) d2
  logged_has c m g d2 agrees remembers keeps tells lanes capacity = record {
    layout = still_fits x c m g x.has_failed x.doubt has.layout keeps lanes capacity;
    setting = has.setting;
    past = agrees.past;
    remembers = remembers;
    sections = tells;
    starts = λ j below. keeps.starts j ∙ has.starts j below ∙ sym (places_grown (p.base j) p.fresh p.logged j (has.past.base_whole j));
    tells = agrees.tells;
    agrees = λ ok. agrees;
    images = shows_past x.layout (after_log p) c x.doubt d2 agrees;
  }

  -- a field is written home
  pub home_has : (f : ℕ) (m : Memory) (d2 : Device) → IsConsistent x.layout s (after_home p f) x.committed d2 → Remembers s m (after_home p f) → KeepsLayout x.memory m →
      HasPast (record { layout = x.layout; committed = x.committed; memory = m; logged = x.logged; has_failed = x.has_failed; doubt = x.doubt }) s (after_home p f) d2
  home_has f m d2 agrees remembers keeps = record {
    layout = still_fits x x.committed m x.logged x.has_failed x.doubt has.layout keeps refl refl;
    setting = has.setting;
    past = agrees.past;
    remembers = remembers;
    sections = has.sections;
    starts = λ j below. keeps.starts j ∙ has.starts j below;
    tells = agrees.tells;
    agrees = λ ok. agrees;
    images = shows_past x.layout (after_home p f) x.committed x.doubt d2 agrees;
  }

  -- with the same rows and sections
  moved : (c c2 : Committed) (g g2 : Logged) (failed : Bool) (w : Doubt) (q : Past) (d2 : Device) → c2 ≡ c → g2 ≡ g →
      HasPast (record { layout = x.layout; committed = c; memory = x.memory; logged = g; has_failed = failed; doubt = w }) s q d2 →
      HasPast (record { layout = x.layout; committed = c2; memory = x.memory; logged = g2; has_failed = failed; doubt = w }) s q d2
  moved c c2 g g2 failed w q d2 same_c same_g was =
      subst (λ (e : Committed). HasPast (record { layout = x.layout; committed = e; memory = x.memory; logged = g2; has_failed = failed; doubt = w }) s q d2) (sym same_c)
      (subst (λ (e : Logged). HasPast (record { layout = x.layout; committed = c; memory = x.memory; logged = e; has_failed = failed; doubt = w }) s q d2) (sym same_g) was)

  pub may_settle : (cut : Cut) (places : List ℕ) → x.has_failed ≡ false → IsClean s p → IsStable (actions p.logged) (counts_of cut) →
      ((k : ℕ) → slice_index places k ≡ place_behind (counts_of cut k) (lane k p.logged)) → MaySettle x.layout s p x.committed d cut places
  may_settle cut places serves clean stable behind = record {
    consistent = has.agrees serves;
    clean = λ f below. clean f (omega (arith, below, has.setting.fields));
    stable = stable;
    behind = λ k below. behind k ∙ sym (behind_undo (counts_of cut k) (lane k p.logged));
  }

  -- a cut is acknowledged
  pub settled_has : (cut : ℕ → ℕ) (c : Committed) (g : Logged) (d2 : Device) → g ≡ x.logged → IsConsistent x.layout s (after_settle p cut) c d2 →
      HasPast (record { layout = x.layout; committed = c; memory = x.memory; logged = g; has_failed = x.has_failed; doubt = x.doubt }) s (after_settle p cut) d2
  settled_has cut c g d2 same agrees = moved c c x.logged g x.has_failed x.doubt (after_settle p cut) d2 refl same (record {
    layout = still_fits x c x.memory x.logged x.has_failed x.doubt has.layout (keeps_all x.memory) refl refl;
    setting = has.setting;
    past = agrees.past;
    remembers = remembers_settle s x.memory p cut has.remembers;
    sections = has.sections;
    starts = has.starts;
    tells = agrees.tells;
    agrees = λ ok. agrees;
    images = shows_past x.layout (after_settle p cut) c x.doubt d2 agrees;
  })

  -- the device has failed
  pub failed_has : (c : Committed) (g : Logged) (w : Doubt) (d2 : Device) → c ≡ x.committed → g ≡ x.logged → Always d2 (ShowsStep x.layout s p w) →
      HasPast (record { layout = x.layout; committed = c; memory = x.memory; logged = g; has_failed = true; doubt = w }) s p d2
  failed_has c g w d2 same_c same_g shows = moved x.committed c x.logged g true w p d2 same_c same_g (record {
    layout = still_fits x x.committed x.memory x.logged true w has.layout (keeps_all x.memory) refl refl;
    setting = has.setting;
    past = has.past;
    remembers = has.remembers;
    sections = has.sections;
    starts = has.starts;
    tells = has.tells;
    agrees = λ not. absurd (let no : true ≡ false = not in cc);
    images = shows;
  })

  -- what a log step or a settling leaves, however it ends
  pub logs_now : (w : Doubt) (d2 : Device) → x.has_failed ≡ false → LeavesOnly d d2 (ShowsStep x.layout s p w) → Always d2 (ShowsStep x.layout s p w)
  logs_now w d2 serves leaves = now_too d d2 (ShowsStep x.layout s p w) (shows_past x.layout p x.committed w d (has.agrees serves)) leaves

  -- the new records may be logged
  module _ (within : AreWithin x.memory) (words : FitWords (log_from x.memory.fresh)) where
    words_new : FitWords p.fresh
    words_new = subst FitWords has.remembers.fresh words

    low : (k : ℕ) → k < x.layout.lanes → k < length x.memory.lanes
    low k below = omega (arith, has.layout.lanes)

    place_is : (k : ℕ) → k < x.layout.lanes → (lane_in x.memory.lanes k).place ≡ length (lane k p.fresh) + length (lane k p.logged)
    place_is k below = (has.remembers.lanes k (low k below)).place ∙ lane_long k p.fresh p.logged

    new_is : (k : ℕ) → undo_log_of k x.memory.fresh ≡ reverse (undo_logs p.fresh k)
    new_is k = ap (λ (log : List (ℕ × Record)). reverse (map undo_of (lane k log))) has.remembers.fresh

    new_size : (k : ℕ) → length (undo_log_of k x.memory.fresh) ≡ length (lane k p.fresh)
    new_size k = ap (λ (xs : List UndoRecord). length xs) (new_is k) ∙ length-reverse (undo_logs p.fresh k) ∙ length_undo (lane k p.fresh)

    fits : (k : ℕ) → k < x.layout.lanes → FitsLane x.layout (row_of x.committed.rows k) (undo_log_of k x.memory.fresh)
    fits k below = record {
      loggable = subst (λ (xs : List UndoRecord). All (IsLoggable x.layout) xs) (sym (new_is k)) (all_reversed (IsLoggable x.layout) (undo_logs p.fresh k)
          (all_loggable x.layout s has.layout.limits has.setting p.fresh p.logged has.remembers.legal words_new k));
      room = omega (arith, new_size k, place_is k below, length_undo (lane k p.logged), has.tells.logged k below, has.tells.start k below, has.starts k below, records_within (p.base k) (undo_logs p.logged k), (within k (low k below)).room, has.layout.capacity);
      limit = omega (arith, new_size k, place_is k below, length_undo (lane k p.logged), has.tells.logged k below, (within k (low k below)).low);
    }

    pub may_log : x.has_failed ≡ false → MayLog x.layout s p x.committed d (λ k. undo_log_of k x.memory.fresh)
    may_log serves = record {
      consistent = has.agrees serves;
      records = λ k below. new_is k;
      fits = fits;
    }

    in_image : (k : ℕ) → k < x.logged.lanes → k < x.layout.lanes
    in_image k below = omega (arith, has.layout.logged_lanes)

    place_at : (k : ℕ) → k < x.logged.lanes → (lane_in x.memory.lanes k).place ≡ length (lane k (p.fresh ++ p.logged))
    place_at k below = (has.remembers.lanes k (low k (in_image k below))).place

    pub may_be_logged : MayBeLogged s x.logged p.base p.logged p.fresh
    may_be_logged = record {
      tells = has.sections;
      legal = has.remembers.legal;
      objects = omega (arith, has.setting.objects, has.layout.limits.objects.1);
      of_lanes = subst (λ n. All (λ x. x.0 < n) p.fresh) (has.layout.lanes ∙ sym has.layout.logged_lanes)
          (all_of_lanes (length x.memory.lanes) p.fresh (of_newer (length x.memory.lanes) p.fresh p.logged has.remembers.of_lanes));
      room = λ k below. omega (arith, place_at k below, has.starts k (in_image k below), behind_undo (p.base k) (lane k p.logged), (within k (low k (in_image k below))).room, has.layout.capacity, has.layout.logged_capacity);
      places = λ k below. omega (arith, place_at k below, (within k (low k (in_image k below))).low);
    }
