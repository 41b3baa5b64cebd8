-- Turns one behind the other, and what a round makes of them.
use Rattle.std.proofs.Common.{ℕ, ◌≡◌, ◌≢◌, ◌+◌, ◌-◌, ◌≤◌, ◌^◌, ◌⊎◌, if◌then◌else◌, Bool, true, false, List, [], ◌++◌, Result, Ok, Err, IfErr, OnErr, OnOk, refl, sym, ap, ◌∙◌, subst, inl, inr, arith}
use Rattle.heap_model.specs.declared.cut.Cut.{Cut}
use Rattle.heap_model.specs.declared.record.Record.{Record}
use Rattle.heap_model.specs.Cuts.{IsStable, counts_of}
use Rattle.heap_model.specs.Log.{log_from}
use Rattle.heap_model.specs.Sections.{actions}
use Rattle.heap_model.specs.Setting.{Setting}
use Rattle.law_cuts.proofs.Existence.{stable_once}
use Rattle.block_disk.specs.Device.{Device, HasCause, HasFailed, Range}
use Rattle.block_disk.specs.Images.{ImageBut, LeavesOnly}
use Rattle.block_disk.proofs.Images.{and_then, begin, besides_none, besides_then, follows, now_too}
use Rattle.image_parts.specs.declared.layout.Layout.{Layout}
use Rattle.store_image.specs.Sequences.{ShowsUpTo}
use Rattle.store_image.specs.Steps.{step_ranges}
use Rattle.heap_model.specs.declared.store_error.StoreError.{StoreError}
use Rattle.heap_model.specs.declared.store_error.StoreError.TheVariants.{BadId, BadLane, Failed, Fault, LogFull, NotNext, TooLong, Unfinished, Unwritten, Worn}
use Rattle.heap_model.specs.Past.{IsTrimmed, Past, after_log, applied, has_store}
use Rattle.durable.proofs.Sequences.{shows_more}
use Rattle.store_helper_sections.specs.Image.{ShowsCutOf}
use Rattle.store_rounds.specs.Steps.{IsPastOf, MakesRound, RefusesWrite, Writes, after_round}
use Rattle.store_rounds.specs.Store.{Known, Parts}
use Rattle.store_rounds.specs.Turns.{Acknowledges, HasWork, IsBusy, IsIdle, IsPlan, IsQuiet, LogsAll}

-- pasts that are the same
or_none : (b : Bool) → (if b then true else false) ≡ b
or_none true = refl
or_none false = refl

-- what is logged is logged again
pub logged_again : (p : Past) → after_log (after_log p) ≡ after_log p
logged_again p = λ i. record (after_log p) { is_dirty = λ f. or_none (if p.is_dirty f then true else has_store f p.fresh) i }

-- and a round without new records that acknowledges what is acknowledged changes nothing
dirty_still : (p : Past) → p.fresh ≡ [] → (f : ℕ) → (if p.is_dirty f then true else has_store f p.fresh) ≡ p.is_dirty f
dirty_still p none f = ap (λ (xs : List (ℕ × Record)). if p.is_dirty f then true else has_store f xs) none ∙ or_none (p.is_dirty f)

pub round_again : (p : Past) (cut : ℕ → ℕ) → IsTrimmed p → p.fresh ≡ [] → ((l : ℕ) → cut l ≡ p.cut l) → after_round p cut ≡ p
round_again p cut trimmed none same = λ i. record {
  fresh = sym none i;
  logged = ap (λ (xs : List (ℕ × Record)). xs ++ p.logged) none i;
  base = λ l. (same l ∙ sym (trimmed l)) i;
  cut = λ l. same l i;
  is_dirty = λ f. dirty_still p none f i;
}

pub logged_still : (p : Past) → p.fresh ≡ [] → after_log p ≡ p
logged_still p none = λ i. record {
  fresh = sym none i;
  logged = ap (λ (xs : List (ℕ × Record)). xs ++ p.logged) none i;
  base = p.base;
  cut = p.cut;
  is_dirty = λ f. dirty_still p none f i;
}

-- what a success says, if it says something else
on_ok_to : {T E : Type 0} (r : Result T E) (P Q : Type 0) → (P → Q) → OnOk r P → OnOk r Q
on_ok_to (Ok done) P Q to holds = to holds
on_ok_to (Err e) P Q to holds = tt

on_err_to : {T E : Type 0} (r : Result T E) (P Q : Type 0) → (P → Q) → OnErr r P → OnErr r Q
on_err_to (Ok done) P Q to holds = tt
on_err_to (Err e) P Q to holds = to holds

if_err_to : {T E : Type 0} (P Q : E → Type 0) (r : Result T E) → ((e : E) → P e → Q e) → IfErr r P → IfErr r Q
if_err_to P Q (Ok done) to holds = tt
if_err_to P Q (Err e) to holds = to e holds

-- a later refusal is one of both
refuses_too : (x y z : Known) (e : StoreError) → x.has_failed ≡ false → y.has_failed ≡ false → RefusesWrite y z e → RefusesWrite x z e
refuses_too x y z Failed was serves is = absurd (let no : true ≡ false = sym is.0 ∙ serves in cc)
refuses_too x y z BadLane was serves is = is
refuses_too x y z BadId was serves is = is
refuses_too x y z Worn was serves is = (was, is.1, is.2)
refuses_too x y z NotNext was serves is = is
refuses_too x y z TooLong was serves is = is
refuses_too x y z LogFull was serves is = is
refuses_too x y z Unwritten was serves is = is
refuses_too x y z Fault was serves is = (was, is.1)
refuses_too x y z Unfinished was serves is = is

cause_too : (a b c : ℕ) (r : Result (Unit {0}) StoreError) → a ≤ b → HasCause b c Fault r → HasCause a c Fault r
cause_too a b c r le has = record {
  later = omega (arith, le, has.later);
  failed = λ is. let failed : HasFailed b c = has.failed is in record { later = omega (arith, le, failed.later); rose = elim failed.rose [ inl up ↦ inl (omega (arith, le, up)) | inr last ↦ inr last ] };
}

-- calls write in these ranges, and then others do
within_both : (rs : List Range) (d e f : Device) → LeavesOnly d e (ImageBut d rs) → LeavesOnly e f (ImageBut e rs) → LeavesOnly d f (ImageBut d rs)
within_both rs d e f one two = follows d e f (ImageBut d rs) rs one two (λ image from. besides_then d e rs image (now_too d e (ImageBut d rs) (besides_none d rs) one) from)

module _ {D : Type 0} (device : D → Device) where
  shows_as : (x y : Known) (s : Setting) (log : List (ℕ × Record)) (cut : ℕ → ℕ) (d e : Device) → y.layout ≡ x.layout → y.threads ≡ x.threads →
      LeavesOnly d e (ShowsCutOf y.layout y.threads s log cut) → LeavesOnly d e (ShowsCutOf x.layout x.threads s log cut)
  shows_as x y s log cut d e layout threads leaves = subst (λ (l : Layout). LeavesOnly d e (ShowsCutOf l x.threads s log cut)) layout (subst (λ (t : ℕ). LeavesOnly d e (ShowsCutOf y.layout t s log cut)) threads leaves)

  -- one turn logs what was applied, and the next acknowledges the cut
  pub then_settles : (next : Cut) (x y z : Parts D) (r : Result (Unit {0}) StoreError) → LogsAll device x y (Ok tt) → Acknowledges device 1 next y z r → Acknowledges device 2 next x z r
  then_settles next x y z r logs settles =
      let one : Writes device (x.known.committed.sequence + 1) x y (Ok tt) = logs.flushes.writes in
      let two : Writes device (y.known.committed.sequence + 1) y z r = settles.writes in
      let served : x.known.has_failed ≡ false = one.running.0 in
      let serves : y.known.has_failed ≡ false = one.running.1 in
      record {
        writes = record {
          running = on_ok_to r ((y.known.has_failed ≡ false) × (z.known.has_failed ≡ false)) ((x.known.has_failed ≡ false) × (z.known.has_failed ≡ false)) (λ both. (served, both.1)) two.running;
          refused = if_err_to (RefusesWrite y.known z.known) (RefusesWrite x.known z.known) r (λ e. refuses_too x.known y.known z.known e served serves) two.refused;
          still = λ off. absurd (let no : true ≡ false = sym off ∙ served in cc);
          shown = λ s p was. and_then (device x.disk) (device y.disk) (device z.disk) (ShowsCutOf x.known.layout x.known.threads s (applied p) p.cut) (one.shown s p was)
              (shows_as x.known y.known s (applied p) p.cut (device y.disk) (device z.disk) one.layout one.threads (two.shown s (after_log p) (logs.flushes.ok s p was)));
          cause = cause_too (device x.disk).failures (device y.disk).failures (device z.disk).failures r one.cause.later two.cause;
          sequence = omega (arith, one.sequence, two.sequence);
          any_sequence = and_then (device x.disk) (device y.disk) (device z.disk) (ShowsUpTo x.known.layout (x.known.committed.sequence + 2))
              (shows_more x.known.layout x.known.layout (x.known.committed.sequence + 1) (x.known.committed.sequence + 2) (device x.disk) (device y.disk) refl (omega arith) one.any_sequence)
              (shows_more y.known.layout x.known.layout (y.known.committed.sequence + 1) (x.known.committed.sequence + 2) (device y.disk) (device z.disk) one.layout (omega (arith, one.sequence)) two.any_sequence);
          within = within_both (step_ranges x.known.layout) (device x.disk) (device y.disk) (device z.disk) one.within
              (subst (λ (l : Layout). LeavesOnly (device y.disk) (device z.disk) (ImageBut (device y.disk) (step_ranges l))) one.layout two.within);
          layout = two.layout ∙ one.layout;
          threads = two.threads ∙ one.threads;
        };
        ok = λ s p was. subst (λ (q : Past). OnOk r (IsPastOf device z s q)) (ap (λ (q : Past). record q { base = counts_of next; cut = counts_of next }) (logged_again p)) (settles.ok s (after_log p) (logs.flushes.ok s p was));
        kept = λ s p was. on_err_to r (IsPastOf device z s (after_log p) ⊎ IsPastOf device z s (after_log (after_log p))) (IsPastOf device z s p ⊎ IsPastOf device z s (after_log p))
            (λ either. elim either [ inl still ↦ inr still | inr again ↦ inr (subst (IsPastOf device z s) (logged_again p) again) ]) (settles.kept s (after_log p) (logs.flushes.ok s p was));
      }

  -- the first of them is refused
  pub only_logs : (next : Cut) (x y : Parts D) (e : StoreError) → x.known.has_failed ≡ false → LogsAll device x y (Err e) → Acknowledges device 2 next x y (Err e)
  only_logs next x y e serves logs =
      let one : Writes device (x.known.committed.sequence + 1) x y (Err e) = logs.flushes.writes in
      record {
        writes = record {
          running = tt;
          refused = one.refused;
          still = λ off. absurd (let no : true ≡ false = sym off ∙ serves in cc);
          shown = one.shown;
          cause = one.cause;
          sequence = omega (arith, one.sequence);
          any_sequence = shows_more x.known.layout x.known.layout (x.known.committed.sequence + 1) (x.known.committed.sequence + 2) (device x.disk) (device y.disk) refl (omega arith) one.any_sequence;
          within = one.within;
          layout = one.layout;
          threads = one.threads;
        };
        ok = λ s p was. tt;
        kept = λ s p was. inl (logs.flushes.kept s p was);
      }

  -- a call that is refused, and changes nothing
  pub refused_writes : (last : ℕ) (x : Parts D) (e : StoreError) → e ≢ Fault → RefusesWrite x.known x.known e → (x.known.has_failed ≡ true → e ≡ Failed) → x.known.committed.sequence ≤ last → Writes device last x x (Err e)
  refused_writes last x e other refuses failed low = record {
    running = tt;
    refused = refuses;
    still = λ off. (ap Err (failed off), refl);
    shown = λ s p was. begin (device x.disk) (ShowsCutOf x.known.layout x.known.threads s (applied p) p.cut);
    cause = record { later = omega arith; failed = λ is. absurd (other (let same : e ≡ Fault = cc in same)) };
    sequence = low;
    any_sequence = begin (device x.disk) (ShowsUpTo x.known.layout last);
    within = begin (device x.disk) (ImageBut (device x.disk) (step_ranges x.known.layout));
    layout = refl;
    threads = refl;
  }

  -- and one that succeeds, and changes nothing
  pub quiet_writes : (last : ℕ) (x : Parts D) → x.known.has_failed ≡ false → x.known.committed.sequence ≤ last → Writes device last x x (Ok tt)
  quiet_writes last x serves low = record {
    running = (serves, serves);
    refused = tt;
    still = λ off. absurd (let no : true ≡ false = sym off ∙ serves in cc);
    shown = λ s p was. begin (device x.disk) (ShowsCutOf x.known.layout x.known.threads s (applied p) p.cut);
    cause = record { later = omega arith; failed = λ is. absurd cc };
    sequence = low;
    any_sequence = begin (device x.disk) (ShowsUpTo x.known.layout last);
    within = begin (device x.disk) (ImageBut (device x.disk) (step_ranges x.known.layout));
    layout = refl;
    threads = refl;
  }

  failed_other : Failed ≢ Fault
  failed_other is = cc

  worn_other : Worn ≢ Fault
  worn_other is = cc

  pub round_failed : (x : Parts D) → x.known.has_failed ≡ true → MakesRound device x x (Err Failed)
  round_failed x off = record {
    writes = refused_writes (x.known.committed.sequence + 2) x Failed failed_other (off, refl) (λ is. refl) (omega arith);
    ok = λ s p cut was stable. tt;
    kept = λ s p was. inl was;
    quiet = λ s p was serves. absurd (let no : true ≡ false = sym off ∙ serves in cc);
  }

  pub logs_failed : (x : Parts D) → x.known.has_failed ≡ true → LogsAll device x x (Err Failed)
  logs_failed x off = record {
    flushes = record {
      writes = refused_writes (x.known.committed.sequence + 1) x Failed failed_other (off, refl) (λ is. refl) (omega arith);
      ok = λ s p was. tt;
      home = tt;
      kept = λ s p was. was;
      quiet = λ s p was serves. absurd (let no : true ≡ false = sym off ∙ serves in cc);
    };
    sections = refl;
    rounds = refl;
    fresh = tt;
  }

  -- nothing is to be logged, and no cell waits
  pub logs_none : (x : Parts D) → x.known.has_failed ≡ false → IsIdle x.known → LogsAll device x x (Ok tt)
  logs_none x serves idle = record {
    flushes = record {
      writes = quiet_writes (x.known.committed.sequence + 1) x serves (omega arith);
      ok = λ s p was. subst (IsPastOf device x s) (sym (logged_still p (sym was.remembers.fresh ∙ idle.0))) was;
      home = idle.1;
      kept = λ s p was. tt;
      quiet = λ s p was on no_fresh no_cell. (refl, refl);
    };
    sections = refl;
    rounds = refl;
    fresh = idle.0;
  }

  pub logs_worn : (x : Parts D) → x.known.has_failed ≡ false → x.known.committed.sequence ≡ 2 ^ 64 - 1 → HasWork device x → LogsAll device x x (Err Worn)
  logs_worn x serves last work = record {
    flushes = record {
      writes = refused_writes (x.known.committed.sequence + 1) x Worn worn_other (serves, serves, last) (λ off. absurd (let no : true ≡ false = sym off ∙ serves in cc)) (omega arith);
      ok = λ s p was. tt;
      home = tt;
      kept = λ s p was. was;
      quiet = λ s p was on none home. absurd (work s p was none home);
    };
    sections = refl;
    rounds = refl;
    fresh = tt;
  }

  pub settle_worn : (next : Cut) (x : Parts D) → x.known.has_failed ≡ false → x.known.committed.sequence ≡ 2 ^ 64 - 1 → Acknowledges device 1 next x x (Err Worn)
  settle_worn next x serves last = record {
    writes = refused_writes (x.known.committed.sequence + 1) x Worn worn_other (serves, serves, last) (λ off. absurd (let no : true ≡ false = sym off ∙ serves in cc)) (omega arith);
    ok = λ s p was. tt;
    kept = λ s p was. inl was;
  }

  pub turn_worn : (next : Cut) (x : Parts D) → x.known.has_failed ≡ false → x.known.committed.sequence ≡ 2 ^ 64 - 1 → Acknowledges device 2 next x x (Err Worn)
  turn_worn next x serves last = record {
    writes = refused_writes (x.known.committed.sequence + 2) x Worn worn_other (serves, serves, last) (λ off. absurd (let no : true ≡ false = sym off ∙ serves in cc)) (omega arith);
    ok = λ s p was. tt;
    kept = λ s p was. inl was;
  }

  -- a round with nothing to do
  pub round_quiet : (next : Cut) (x : Parts D) → x.known.has_failed ≡ false → IsQuiet device x next → ((s : Setting) (p : Past) → IsPastOf device x s p → IsStable (actions (applied p)) (counts_of next)) → MakesRound device x x (Ok tt)
  round_quiet next x serves quiet stable_is = record {
    writes = quiet_writes (x.known.committed.sequence + 2) x serves (omega arith);
    ok = λ s p cut was stable.
        let same : (l : ℕ) → cut l ≡ p.cut l = λ l. stable_once (actions (applied p)) cut (counts_of next) stable (stable_is s p was) l ∙ (quiet s p was).1 l in
        subst (IsPastOf device x s) (sym (round_again p cut was.trimmed (quiet s p was).0 same)) was;
    kept = λ s p was. tt;
    quiet = λ s p was on none stable. (refl, refl);
  }

  -- a round that has something to do: a survey, which leaves the store's pasts, and turns
  pub round_made : (next : Cut) (x y z : Parts D) (r : Result (Unit {0}) StoreError) → x.known.has_failed ≡ false → y.known.has_failed ≡ false → device y.disk ≡ device x.disk → y.known.committed ≡ x.known.committed →
      y.known.layout ≡ x.known.layout → y.known.threads ≡ x.known.threads → ((s : Setting) (p : Past) → IsPastOf device x s p → IsPastOf device y s p) →
      IsBusy device x → ((s : Setting) (p : Past) → IsPastOf device x s p → IsStable (actions (applied p)) (counts_of next)) → Acknowledges device 2 next y z r → MakesRound device x z r
  round_made next x y z r served serves disk committed layout threads to busy stable_is turns =
      let two : Writes device (y.known.committed.sequence + 2) y z r = turns.writes in
      let sequence : y.known.committed.sequence ≡ x.known.committed.sequence = ap (λ c. c.sequence) committed in
      record {
        writes = record {
          running = on_ok_to r ((y.known.has_failed ≡ false) × (z.known.has_failed ≡ false)) ((x.known.has_failed ≡ false) × (z.known.has_failed ≡ false)) (λ both. (served, both.1)) two.running;
          refused = if_err_to (RefusesWrite y.known z.known) (RefusesWrite x.known z.known) r (λ e. refuses_too x.known y.known z.known e served serves) two.refused;
          still = λ off. absurd (let no : true ≡ false = sym off ∙ served in cc);
          shown = λ s p was. subst (λ (d : Device). LeavesOnly d (device z.disk) (ShowsCutOf x.known.layout x.known.threads s (applied p) p.cut)) disk
              (shows_as x.known y.known s (applied p) p.cut (device y.disk) (device z.disk) layout threads (two.shown s p (to s p was)));
          cause = subst (λ (d : Device). HasCause d.failures (device z.disk).failures Fault r) disk two.cause;
          sequence = omega (arith, sequence, two.sequence);
          any_sequence = subst (λ (d : Device). LeavesOnly d (device z.disk) (ShowsUpTo x.known.layout (x.known.committed.sequence + 2))) disk
              (shows_more y.known.layout x.known.layout (y.known.committed.sequence + 2) (x.known.committed.sequence + 2) (device y.disk) (device z.disk) layout (omega (arith, sequence)) two.any_sequence);
          within = subst (λ (d : Device). LeavesOnly d (device z.disk) (ImageBut d (step_ranges x.known.layout))) disk
              (subst (λ (l : Layout). LeavesOnly (device y.disk) (device z.disk) (ImageBut (device y.disk) (step_ranges l))) layout two.within);
          layout = two.layout ∙ layout;
          threads = two.threads ∙ threads;
        };
        ok = λ s p cut was stable.
            subst (λ (k : ℕ → ℕ). OnOk r (IsPastOf device z s (after_round p k))) (λ i l. stable_once (actions (applied p)) (counts_of next) cut (stable_is s p was) stable l i) (turns.ok s p (to s p was));
        kept = λ s p was. turns.kept s p (to s p was);
        quiet = λ s p was on none stable. absurd (busy s p was none stable);
      }

-- of what a store is equal to
pub logs_from : {D : Type 0} {device : D → Device} {z x y : Parts D} {r : Result (Unit {0}) StoreError} → z ≡ x → LogsAll device z y r → LogsAll device x y r
logs_from {D} {device} {z} {x} {y} {r} is told = subst (λ (w : Parts D). LogsAll device w y r) is told

pub logs_both : {D : Type 0} {device : D → Device} {z x y : Parts D} {r q : Result (Unit {0}) StoreError} → z ≡ x → y ≡ z → q ≡ r → LogsAll device z z r → LogsAll device x y q
logs_both {D} {device} {z} {x} {y} {r} {q} is same answer told =
    subst (λ (w : Parts D). LogsAll device w y q) is (subst (λ (w : Parts D). LogsAll device z w q) (sym same) (subst (λ (a : Result (Unit {0}) StoreError). LogsAll device z z a) (sym answer) told))

pub turns_from : {D : Type 0} {device : D → Device} {n : ℕ} {next : Cut} {z x y : Parts D} {r : Result (Unit {0}) StoreError} → z ≡ x → Acknowledges device n next z y r → Acknowledges device n next x y r
turns_from {D} {device} {n} {next} {z} {x} {y} {r} is told = subst (λ (w : Parts D). Acknowledges device n next w y r) is told

pub turns_both : {D : Type 0} {device : D → Device} {n : ℕ} {next : Cut} {z x y : Parts D} {r q : Result (Unit {0}) StoreError} → z ≡ x → y ≡ z → q ≡ r → Acknowledges device n next z z r → Acknowledges device n next x y q
turns_both {D} {device} {n} {next} {z} {x} {y} {r} {q} is same answer told =
    subst (λ (w : Parts D). Acknowledges device n next w y q) is (subst (λ (w : Parts D). Acknowledges device n next z w q) (sym same) (subst (λ (a : Result (Unit {0}) StoreError). Acknowledges device n next z z a) (sym answer) told))

-- what is true of a store is true of what it is equal to
pub serves_of : {D : Type 0} {z x : Parts D} → z ≡ x → x.known.has_failed ≡ false → z.known.has_failed ≡ false
serves_of is serves = ap (λ w. w.known.has_failed) is ∙ serves

pub plan_of : {D : Type 0} {z x : Parts D} (next : Cut) (places : List ℕ) → z ≡ x → IsPlan x.known.sections x.known.rounds next places → IsPlan z.known.sections z.known.rounds next places
plan_of {D} {z} {x} next places is plan = subst (λ (w : Parts D). IsPlan w.known.sections w.known.rounds next places) (sym is) plan

pub logged_of : {D : Type 0} {z x : Parts D} → z ≡ x → log_from x.known.memory.fresh ≡ [] → log_from z.known.memory.fresh ≡ []
logged_of is logged = ap (λ w. log_from w.known.memory.fresh) is ∙ logged

pub home_of : {D : Type 0} {z x : Parts D} → z ≡ x → x.known.pending ≡ [] → z.known.pending ≡ []
home_of is home = ap (λ w. w.known.pending) is ∙ home

pub rounds_from : {D : Type 0} {device : D → Device} {z x y : Parts D} {r : Result (Unit {0}) StoreError} → z ≡ x → MakesRound device z y r → MakesRound device x y r
rounds_from {D} {device} {z} {x} {y} {r} is told = subst (λ (w : Parts D). MakesRound device w y r) is told

pub rounds_both : {D : Type 0} {device : D → Device} {z x y : Parts D} {r : Result (Unit {0}) StoreError} → z ≡ x → y ≡ z → MakesRound device z z r → MakesRound device x y r
rounds_both {D} {device} {z} {x} {y} {r} is same told = subst (λ (w : Parts D). MakesRound device w y r) is (subst (λ (w : Parts D). MakesRound device z w r) (sym same) told)

pub quiet_of : {D : Type 0} (device : D → Device) (next : Cut) (y z : Parts D) → y ≡ z → IsQuiet device y next → IsQuiet device z next
quiet_of device next y z same quiet = subst (λ w. IsQuiet device w next) same quiet

pub busy_of : {D : Type 0} (device : D → Device) (y z : Parts D) → y ≡ z → IsBusy device y → IsBusy device z
busy_of device y z same busy = subst (λ w. IsBusy device w) same busy
