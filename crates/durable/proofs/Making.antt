-- What each call promises, said of it as a value.
use Rattle.std.proofs.Common.{◌≡◌, ◌≢◌, ◌+◌, ◌⊎◌, ℕ, false, Result, Ok, Err, IfErr, OnErr, refl, sym, ap, inr, subst, arith}
use Rattle.law_cuts.proofs.Existence.{stable_exists}
use Rattle.heap_model.specs.declared.ids.Lane.{Lane}
use Rattle.heap_model.specs.declared.record.Record.{Record}
use Rattle.heap_model.specs.Sections.{actions}
use Rattle.block_disk.specs.Device.{Device}
use Rattle.block_disk.specs.Images.{ImageBut, LeavesOnly}
use Rattle.block_disk.proofs.Images.{begin}
use Rattle.store_image.specs.Sequences.{ShowsUpTo}
use Rattle.store_image.specs.Steps.{step_ranges}
use Rattle.store_image.specs.declared.home.Home.{Home}
use Rattle.heap_model.specs.Past.{after_log}
use Rattle.heap_model.specs.declared.store_error.StoreError.{StoreError}
use Rattle.heap_model.specs.declared.store_error.StoreError.TheVariants.{Fault}
use Rattle.durable.specs.Calls.{after_home_step}
use Rattle.durable.specs.Plays.{MakesCall}
use Rattle.durable.specs.Steps.{Applies, Commits, GoesHome, IsPastOf, Logs, Settles, Trims}
use Rattle.durable.specs.Store.{Parts, ShowsStep}
use Rattle.durable.specs.declared.doubt.Doubt.{Doubt}
use Rattle.durable.specs.declared.doubt.Doubt.TheVariants.{Nothing}
use Rattle.durable.specs.declared.store_call.StoreCall.{StoreCall}
use Rattle.durable.specs.declared.store_call.StoreCall.TheVariants.{Apply, Log, Home as HomeStep, Settle, Trim}
use Rattle.durable.proofs.Playing.{apply_made, apply_refused, settle_made, settle_refused, trim_made, trim_refused, no_cause}
use Rattle.durable.proofs.Sequences.{shows_more}
use Rattle.durable.proofs.Storing.{shows_then}
use Rattle.durable.proofs.Writing.{err_of, on_err}

-- the call is that one
pub made_as : {D : Type 0} {device : D → Device} {x y : Parts D} {call other : StoreCall} {answer : Result (Unit {0}) StoreError} → call ≡ other → MakesCall device x y other answer → MakesCall device x y call answer
made_as {D} {device} {x} {y} {call} {other} {answer} is makes = subst (λ (c : StoreCall). MakesCall device x y c answer) (sym is) makes

refused_or : (answer : Result (Unit {0}) StoreError) (P : Type 0) → OnErr answer P → IfErr answer (λ e. (e ≡ Fault) ⊎ P)
refused_or (Ok done) P holds = tt
refused_or (Err e) P holds = inr holds

no_fault_was : {A : Type 0} (answer : Result (Unit {0}) StoreError) → IfErr answer (λ e. e ≢ Fault) → answer ≡ Err Fault → A
no_fault_was answer none is = absurd (subst (λ (r : Result (Unit {0}) StoreError). IfErr r (λ e. e ≢ Fault)) is none refl)

-- a record is told
pub apply_makes : {D : Type 0} (device : D → Device) (x y : Parts D) (l : Lane) (r : Record) (answer : Result (Unit {0}) StoreError) → Applies device x y l.0 r answer → MakesCall device x y (Apply l r) answer
apply_makes {D} device x y l r answer applies =
    let same : device y.disk ≡ device x.disk = ap device applies.disk in
    record {
      writes = record {
        running = applies.running;
        kept = λ s p has. on_err answer (y ≡ x) (IsPastOf device y s p) (λ is. subst (λ (z : Parts D). IsPastOf device z s p) (sym is) has) applies.err;
        refused = refused_or answer (y ≡ x) applies.err;
        failed = λ is. no_fault_was answer applies.no_fault is;
        in_doubt = λ is. no_fault_was answer applies.no_fault is;
        shown = λ s p has. subst (λ (d : Device). LeavesOnly (device x.disk) d (ShowsStep x.known.layout s p Nothing)) (sym same) (begin (device x.disk) (ShowsStep x.known.layout s p Nothing));
        cause = no_cause (device x.disk).failures (device y.disk).failures answer (omega (arith, ap (λ (d : Device). d.failures) same)) applies.no_fault;
        sequence = omega (arith, applies.sequence);
        any_sequence = subst (λ (d : Device). LeavesOnly (device x.disk) d (ShowsUpTo x.known.layout (x.known.committed.sequence + 1))) (sym same)
            (begin (device x.disk) (ShowsUpTo x.known.layout (x.known.committed.sequence + 1)));
        within = subst (λ (d : Device). LeavesOnly (device x.disk) d (ImageBut (device x.disk) (step_ranges x.known.layout))) (sym same)
            (begin (device x.disk) (ImageBut (device x.disk) (step_ranges x.known.layout)));
        layout = applies.layout;
      };
      ok = λ s p has. apply_made s p (Apply l r) answer l r y.known (device y.disk) refl (applies.ok s p has);
      refused = λ s p has. apply_refused s p (Apply l r) answer l r x.known _ refl (applies.answer s p has);
      quiet = λ s p has quiet. same;
    }

-- what is answered beside a success, no one looks at
forget_ok : {D A : Type 0} {device : D → Device} {call : Doubt} {x y : Parts D} {done : A} → Commits device call x y (Ok done) → Commits {A = Unit {0}} device call x y (Ok tt)
forget_ok writes = record {
  running = writes.running;
  kept = λ s p has. tt;
  refused = tt;
  failed = λ is. absurd cc;
  in_doubt = λ is. absurd cc;
  shown = writes.shown;
  cause = record { later = writes.cause.later; failed = λ is. absurd cc };
  sequence = writes.sequence;
  any_sequence = writes.any_sequence;
  within = writes.within;
  layout = writes.layout;
}

forget_err : {D A : Type 0} {device : D → Device} {call : Doubt} {x y : Parts D} {e : StoreError} → Commits {A = A} device call x y (Err e) → Commits {A = Unit {0}} device call x y (Err e)
forget_err writes = record {
  running = tt;
  kept = writes.kept;
  refused = writes.refused;
  failed = λ is. writes.failed (ap Err (err_of is));
  in_doubt = λ is. writes.in_doubt (ap Err (err_of is));
  shown = writes.shown;
  cause = record { later = writes.cause.later; failed = λ is. writes.cause.failed (ap Err (err_of is)) };
  sequence = writes.sequence;
  any_sequence = writes.any_sequence;
  within = writes.within;
  layout = writes.layout;
}

-- the applied records are logged
pub log_makes : {D : Type 0} {device : D → Device} {x y : Parts D} {count : ℕ} → Logs device x y (Ok count) → MakesCall device x y Log (Ok tt)
log_makes logs = record { writes = forget_ok logs.writes; ok = λ s p has. (after_log p, refl, logs.ok s p has); refused = λ s p has. tt; quiet = logs.none }

pub log_refuses : {D : Type 0} {device : D → Device} {x y : Parts D} {e : StoreError} → Logs device x y (Err e) → MakesCall device x y Log (Err e)
log_refuses logs = record { writes = forget_err logs.writes; ok = λ s p has. tt; refused = logs.answer; quiet = logs.none }

-- a field goes home, with no control committed
home_commits : {D : Type 0} (device : D → Device) (x y : Parts D) (answer : Result Home StoreError) → GoesHome device x y answer → Commits device Nothing x y answer
home_commits device x y answer goes = record {
  running = goes.writes.running;
  kept = goes.writes.kept;
  refused = goes.writes.refused;
  failed = goes.writes.failed;
  in_doubt = goes.writes.in_doubt;
  shown = λ s p has. shows_then x.known.layout s p Nothing (device x.disk) (device y.disk) (goes.writes.shown s p has);
  cause = goes.writes.cause;
  sequence = omega (arith, goes.sequence);
  any_sequence = shows_more x.known.layout x.known.layout x.known.committed.sequence (x.known.committed.sequence + 1) (device x.disk) (device y.disk) refl (omega arith) goes.writes.any_sequence;
  within = goes.writes.within;
  layout = goes.writes.layout;
}

pub home_makes : {D : Type 0} (device : D → Device) (x y : Parts D) (home : Home) → GoesHome device x y (Ok home) → MakesCall device x y HomeStep (Ok tt)
home_makes device x y home goes = record {
  writes = forget_ok (home_commits device x y (Ok home) goes);
  ok = λ s p has. (after_home_step p home, (home, (goes.answer s p has).1, refl), goes.ok s p has);
  refused = λ s p has. tt;
  quiet = λ s p has quiet. ap (λ z. device z.disk) (goes.none s p has quiet);
}

pub home_refuses : {D : Type 0} (device : D → Device) (x y : Parts D) (e : StoreError) → GoesHome device x y (Err e) → MakesCall device x y HomeStep (Err e)
home_refuses device x y e goes = record {
  writes = forget_err (home_commits device x y (Err e) goes);
  ok = λ s p has. tt;
  refused = goes.answer;
  quiet = λ s p has quiet. ap (λ z. device z.disk) (goes.none s p has quiet);
}

-- the stable cut is acknowledged
pub settle_makes : {D : Type 0} (device : D → Device) (x y : Parts D) (answer : Result (Unit {0}) StoreError) → Settles device x y answer → MakesCall device x y Settle answer
settle_makes device x y answer settles = record {
  writes = settles.writes;
  ok = λ s p has.
      let stable = stable_exists (actions p.logged) in
      settle_made s p Settle answer stable.0 y.known (device y.disk) (x.known.has_failed ≡ false) _ refl stable.1 (settles.ok s p stable.0 has stable.1) (settles.answer s p has);
  refused = λ s p has. settle_refused s p Settle answer x.known _ refl (settles.answer s p has);
  quiet = λ s p has quiet. absurd quiet;
}

-- what is acknowledged is forgotten
pub trim_makes : {D : Type 0} (device : D → Device) (x y : Parts D) (answer : Result (Unit {0}) StoreError) → Trims device x y answer → MakesCall device x y Trim answer
trim_makes device x y answer trims = record {
  writes = trims.writes;
  ok = λ s p has. trim_made s p Trim answer y.known (device y.disk) refl (trims.ok s p has);
  refused = λ s p has. trim_refused s p Trim answer x.known _ refl (trims.answer s p has);
  quiet = λ s p has quiet. ap (λ z. device z.disk) (trims.none s p has quiet);
}
