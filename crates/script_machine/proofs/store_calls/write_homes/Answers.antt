use Rattle.std.proofs.Common.{◌≡◌, inl, inr, ⊎_elim, ℕ, suc, ◌+◌, ◌∙◌, true, false, Result, Err, refl, sym, subst, ap, arith, rules}
use Rattle.std.proofs.Math.Numerals.{add-one}
use Rattle.block_disk.proofs.Images.{and_then, begin, weaker}
use Rattle.block_disk.specs.Images.{LeavesOnly}
use Rattle.block_disk.specs.Memory.{Memory, device_of}
use Rattle.image_parts.specs.declared.layout.Layout.{Layout}
use Rattle.heap_model.specs.Setting.{Setting}
use Rattle.store_image.specs.KeptHeap.{StandsForCut}
use Rattle.heap_model.specs.Past.{Past, after_home}
use Rattle.durable.specs.Calls.{AnswersHome, RefusesHome, after_home_step}
use Rattle.durable.proofs.Playing.{fault_since}
use Rattle.store_image.specs.Consistent.{ShowsPast}
use Rattle.durable.specs.Store.{Known, Parts}
use Rattle.heap_model.specs.declared.store_error.StoreError.{StoreError}
use Rattle.heap_model.specs.declared.store_error.StoreError.TheVariants.{Failed, BadLane, BadId, Worn, NotNext, TooLong, LogFull, Unwritten, Fault, Unfinished}
use Rattle.store_image.specs.declared.home.Home.{Home}
use Rattle.script_machine.specs.Homes.{WriteHomes}
use Rattle.script_machine.specs.States.{Tells}
use Rattle.script_machine.proofs.HomeLemmas.{clean-on, shows_before}
use Rattle.script_machine.proofs.store_calls.write_homes.Invariants.{HasWritten}
use Rattle.script_machine.proofs.store_calls.write_homes.Goals as goal

-- one more home write
one-more : (s : Setting) (p : Past) (k n : ℕ) (q : Past) → WriteHomes s p (k + suc n) q → WriteHomes s p (k + 1 + n) q
one-more s p k n q = let a : n + 1 ≡ suc n = add-one n in let same : k + suc n ≡ k + 1 + n = omega (arith, a) in subst (λ m. WriteHomes s p m q) same

-- a call leaves what shows the first past, and stands for its cut
module _ (old mid new : Parts Memory) (s : Setting) (p : Past) (k : ℕ) (so : HasWritten old mid s p k) (layout : mid.known.layout ≡ old.known.layout)
    (shown : LeavesOnly (device_of mid.disk) (device_of new.disk) (ShowsPast mid.known.layout s so.now))
    (stands : LeavesOnly (device_of mid.disk) (device_of new.disk) (StandsForCut mid.known.layout s so.now.logged so.now.cut)) where
  shown_on : LeavesOnly (device_of old.disk) (device_of new.disk) (ShowsPast old.known.layout s p)
  shown_on = and_then (device_of old.disk) (device_of mid.disk) (device_of new.disk) (ShowsPast old.known.layout s p) so.shown
      (weaker (device_of mid.disk) (device_of new.disk) (ShowsPast mid.known.layout s so.now) (ShowsPast old.known.layout s p)
      (λ image shows. so.shows old.known.layout image (subst (λ (l : Layout). ShowsPast l s so.now image) layout shows)) shown)

  stands_on : LeavesOnly (device_of old.disk) (device_of new.disk) (StandsForCut old.known.layout s p.logged p.cut)
  stands_on = and_then (device_of old.disk) (device_of mid.disk) (device_of new.disk) (StandsForCut old.known.layout s p.logged p.cut) so.stands
      (subst (λ (l : Layout). LeavesOnly (device_of mid.disk) (device_of new.disk) (StandsForCut l s p.logged p.cut)) layout
      (subst (λ (cut : ℕ → ℕ). LeavesOnly (device_of mid.disk) (device_of new.disk) (StandsForCut mid.known.layout s p.logged cut)) so.cut
      (subst (λ log. LeavesOnly (device_of mid.disk) (device_of new.disk) (StandsForCut mid.known.layout s log so.now.cut)) so.logged stands)))

-- a refusal of a later one is one of the first
refused_same : (x y : Known) (e : StoreError) → y.has_failed ≡ x.has_failed → RefusesHome y e → RefusesHome x e
refused_same x y Failed same refused = sym same ∙ refused
refused_same x y BadLane same refused = refused
refused_same x y BadId same refused = refused
refused_same x y Worn same refused = refused
refused_same x y NotNext same refused = refused
refused_same x y TooLong same refused = refused
refused_same x y LogFull same refused = refused
refused_same x y Unwritten same refused = refused
refused_same x y Fault same refused = sym same ∙ refused
refused_same x y Unfinished same refused = refused

pub loop-written-init : goal.loop-written-init
loop-written-init c = (
  λ s p t. record {
    now = p;
    tells = t;
    more = λ n q more. let same : n ≡ 0 + n = omega arith in subst (λ m. WriteHomes s p m q) same more;
    clean = λ f below. absurd (omega (arith, below));
    shown = begin (device_of c.args.store.now.disk) (ShowsPast c.args.store.now.known.layout s p);
    stands = begin (device_of c.args.store.now.disk) (StandsForCut c.args.store.now.known.layout s p.logged p.cut);
    shows = λ l image shows. shows;
    logged = refl;
    cut = refl;
  },
  refl,
  refl,
  omega arith,
  inl refl,
  refl,
)

pub returns-in-Err-clause-refused : goal.returns-in-Err-clause-refused
returns-in-Err-clause-refused c = λ s p t.
    let so = c.loop-written.invariant.0 s p t in
    refused_same c.args.store.now.known c.loop-written.store.known c.in-Err.why c.loop-written.invariant.2 (rw c.in-Err.is at c.home_step.ensures.answer s so.now so.tells)

pub loop-written-preserved : goal.loop-written-preserved
loop-written-preserved c = (
  λ s p t.
      let old = c.args.store.now in
      let mid = c.loop-written.store in
      let new = c.home_step.new.self in
      let so = c.loop-written.invariant.0 s p t in
      let f = c.in-Ok-Wrote.field-0-0.0 in
      let answer = rw c.in-Ok-Wrote.is at c.home_step.ensures.answer s so.now so.tells in
      let least = subst (λ (h : Home). AnswersHome s so.now h) c.in-Ok-Wrote.field-0-is answer.1 in
      let shown = c.home_step.ensures.writes.shown s so.now so.tells in
      let stands = c.home_step.ensures.any_moment s so.now so.tells in
      record {
        now = after_home so.now f;
        tells = subst (λ (h : Home). Tells new s (after_home_step so.now h)) c.in-Ok-Wrote.field-0-is (rw c.in-Ok-Wrote.is at c.home_step.ensures.ok s so.now so.tells);
        more = λ n q more. one-more s p c.loop-written.written n q (so.more (suc n) q (f, least, more));
        clean = clean-on s so.now f c.loop-written.written least so.clean;
        shown = shown_on old mid new s p c.loop-written.written so c.loop-written.invariant.1 shown stands;
        stands = stands_on old mid new s p c.loop-written.written so c.loop-written.invariant.1 shown stands;
        shows = λ l image shows. so.shows l image (shows_before l s so.now f image shows);
        logged = so.logged;
        cut = so.cut;
      },
  c.home_step.ensures.writes.layout ∙ c.loop-written.invariant.1,
  (let running = rw c.in-Ok-Wrote.is at c.home_step.ensures.writes.running in running.1 ∙ sym running.0 ∙ c.loop-written.invariant.2),
  (let was = c.loop-written.invariant.3 in let later = c.home_step.ensures.writes.cause.later in omega (arith, was, later)),
  inr (rw c.in-Ok-Wrote.is at c.home_step.ensures.writes.running).1,
  c.home_step.ensures.sequence ∙ c.loop-written.invariant.5,
)

pub returns-in-Ok-Done-clause-homes : goal.returns-in-Ok-Done-clause-homes
returns-in-Ok-Done-clause-homes c = λ s p t.
    let so = c.loop-written.invariant.0 s p t in
    let answer = rw c.in-Ok-Done.is at c.home_step.ensures.answer s so.now so.tells in
    let same : c.loop-written.written + 0 ≡ c.from.result = omega (arith, c.from.ensures) in
    record {
      then = so.now;
      written = subst (λ m. WriteHomes s p m so.now) same (so.more 0 so.now refl);
      clean = subst (λ (h : Home). AnswersHome s so.now h) c.in-Ok-Done.field-0-is answer.1;
      tells = subst (λ (h : Home). Tells c.home_step.new.self s (after_home_step so.now h)) c.in-Ok-Done.field-0-is (rw c.in-Ok-Done.is at c.home_step.ensures.ok s so.now so.tells);
    }

pub returns-in-Ok-Done-clause-running : goal.returns-in-Ok-Done-clause-running
returns-in-Ok-Done-clause-running c = λ _. (rw c.in-Ok-Done.is at c.home_step.ensures.writes.running).1

pub returns-in-Ok-Done-clause-shown : goal.returns-in-Ok-Done-clause-shown
returns-in-Ok-Done-clause-shown c = λ s p t.
    let so = c.loop-written.invariant.0 s p t in
    shown_on c.args.store.now c.loop-written.store c.home_step.new.self s p c.loop-written.written so c.loop-written.invariant.1
    (c.home_step.ensures.writes.shown s so.now so.tells) (c.home_step.ensures.any_moment s so.now so.tells)

pub returns-in-Ok-Done-clause-any_moment : goal.returns-in-Ok-Done-clause-any_moment
returns-in-Ok-Done-clause-any_moment c = λ s p t.
    let so = c.loop-written.invariant.0 s p t in
    stands_on c.args.store.now c.loop-written.store c.home_step.new.self s p c.loop-written.written so c.loop-written.invariant.1
    (c.home_step.ensures.writes.shown s so.now so.tells) (c.home_step.ensures.any_moment s so.now so.tells)

pub returns-clause-homes : goal.returns-clause-homes
returns-clause-homes c = λ s p t.
    let so = c.loop-written.invariant.0 s p t in
    let same : s.fields ≡ c.layout-fields.result.fields = so.tells.setting.fields ∙ ap (λ (l : Layout). l.fields) (c.loop-written.invariant.1 ∙ sym c.layout-fields.ensures) in
    let all : c.loop-written.written ≡ c.layout-fields.result.fields = search rules in
    let count : c.loop-written.written + 0 ≡ c.from-2.result = omega (arith, c.from-2.ensures, all) in
    record {
      then = so.now;
      written = subst (λ m. WriteHomes s p m so.now) count (so.more 0 so.now refl);
      clean = λ f below. so.clean f (omega (arith, same, all, below));
      tells = so.tells;
    }

pub returns-clause-running : goal.returns-clause-running
returns-clause-running c = λ runs. c.loop-written.invariant.2 ∙ runs

pub returns-clause-shown : goal.returns-clause-shown
returns-clause-shown c = λ s p t. (c.loop-written.invariant.0 s p t).shown

pub returns-clause-any_moment : goal.returns-clause-any_moment
returns-clause-any_moment c = λ s p t. (c.loop-written.invariant.0 s p t).stands

-- an error of this call is that of the step
same_error : (a b : StoreError) (x : Result ℕ StoreError) → x ≡ Err a → x ≡ Err b → a ≡ b
same_error a b x of_a of_b = let same : Err a ≡ Err b = sym of_a ∙ of_b in cc

-- a store that hasn't failed refuses by a fault alone
only_fault : (x : Known) (e : StoreError) → x.has_failed ≡ false → RefusesHome x e → e ≡ Fault
only_fault x Failed serves refused = absurd (let both : true ≡ false = sym refused ∙ serves in cc)
only_fault x BadLane serves refused = absurd refused
only_fault x BadId serves refused = absurd refused
only_fault x Worn serves refused = absurd refused
only_fault x NotNext serves refused = absurd refused
only_fault x TooLong serves refused = absurd refused
only_fault x LogFull serves refused = absurd refused
only_fault x Unwritten serves refused = absurd refused
only_fault x Fault serves refused = refl
only_fault x Unfinished serves refused = absurd refused

pub returns-in-Err-clause-err : goal.returns-in-Err-clause-err
returns-in-Err-clause-err c = λ s p t.
    let so = c.loop-written.invariant.0 s p t in
    let answer = rw c.in-Err.is at c.home_step.ensures.answer s so.now so.tells in
    ⊎_elim (λ fault. inl fault) (λ same. ⊎_elim (λ start. inr (same ∙ start)) (λ serves. inl (only_fault c.loop-written.store.known c.in-Err.why serves answer)) c.loop-written.invariant.4)
    (rw c.in-Err.is at c.home_step.ensures.writes.refused)

pub returns-in-Err-clause-cause : goal.returns-in-Err-clause-cause
returns-in-Err-clause-cause c =
    let was = c.loop-written.invariant.3 in
    let later = c.home_step.ensures.writes.cause.later in
    record {
      later = omega (arith, was, later);
      failed = λ is. fault_since (device_of c.args.store.now.disk).failures (device_of c.loop-written.store.disk).failures (device_of c.home_step.new.self.disk).failures c.home_step.result c.in-Err.why
          was c.home_step.ensures.writes.cause c.in-Err.is (same_error c.in-Err.why Fault (Err c.in-Err.why) refl is);
    }

pub returns-in-Err-clause-failed : goal.returns-in-Err-clause-failed
returns-in-Err-clause-failed c = λ is. c.home_step.ensures.writes.failed (c.in-Err.is ∙ ap (λ (e : StoreError). Err e) (same_error c.in-Err.why Fault (Err c.in-Err.why) refl is))

pub returns-in-Ok-Done-clause-cause : goal.returns-in-Ok-Done-clause-cause
returns-in-Ok-Done-clause-cause c =
    let was = c.loop-written.invariant.3 in
    let later = c.home_step.ensures.writes.cause.later in
    record { later = omega (arith, was, later); failed = λ is. absurd cc }

pub returns-clause-cause : goal.returns-clause-cause
returns-clause-cause c = record { later = c.loop-written.invariant.3; failed = λ is. absurd cc }
