-- What a call that writes promises where it has changed nothing, and what is said of a store's fields where it is to be said of the store.
use Rattle.std.proofs.Common.{◌≡◌, ◌≢◌, ◌+◌, ◌-◌, ◌≤◌, ◌^◌, ◌∙◌, inr, ℕ, true, false, List, [], Result, Ok, Err, OnErr, OnOk, refl, sym, subst, arith}
use Rattle.heap_model.specs.declared.record.Record.{Record}
use Rattle.heap_model.specs.Setting.{Setting}
use Rattle.block_disk.specs.Device.{Device}
use Rattle.block_disk.specs.Images.{ImageBut}
use Rattle.block_disk.proofs.Images.{begin}
use Rattle.image_parts.specs.declared.layout.Layout.{Layout}
use Rattle.store_image.specs.KeptHeap.{StandsForCut, StandsForEither}
use Rattle.store_image.specs.Sequences.{ShowsUpTo}
use Rattle.store_image.specs.Steps.{step_ranges}
use Rattle.store_image.specs.declared.home.Home.{Home}
use Rattle.heap_model.specs.Past.{Past, IsTrimmed}
use Rattle.heap_model.specs.declared.store_error.StoreError.{StoreError}
use Rattle.heap_model.specs.declared.store_error.StoreError.TheVariants.{Failed, Worn, Unwritten, Fault}
use Rattle.durable.specs.Calls.{RefusesHome, RefusesLog, RefusesTrim}
use Rattle.durable.specs.Steps.{Applies, Commits, GoesHome, Logs, Settles, Trims, Writes}
use Rattle.durable.specs.Store.{Known, Parts, HasPast}
use Rattle.durable.specs.declared.doubt.Doubt.{Doubt}

-- what is true of the fields that a store has
pub logs_from : {D : Type 0} {device : D → Device} {z x y : Parts D} {answer : Result ℕ StoreError} → z ≡ x → Logs device z y answer → Logs device x y answer
logs_from {D} {device} {z} {x} {y} {answer} is logs = subst (λ (w : Parts D). Logs device w y answer) is logs

pub home_from : {D : Type 0} {device : D → Device} {z x y : Parts D} {answer : Result Home StoreError} → z ≡ x → GoesHome device z y answer → GoesHome device x y answer
home_from {D} {device} {z} {x} {y} {answer} is goes = subst (λ (w : Parts D). GoesHome device w y answer) is goes

pub home_both : {D : Type 0} {device : D → Device} {z x : Parts D} {answer : Result Home StoreError} → z ≡ x → GoesHome device z z answer → GoesHome device x x answer
home_both {D} {device} {z} {x} {answer} is goes = subst (λ (w : Parts D). GoesHome device w w answer) is goes

pub settles_from : {D : Type 0} {device : D → Device} {z x y : Parts D} {answer : Result (Unit {0}) StoreError} → z ≡ x → Settles device z y answer → Settles device x y answer
settles_from {D} {device} {z} {x} {y} {answer} is settles = subst (λ (w : Parts D). Settles device w y answer) is settles

pub settles_both : {D : Type 0} {device : D → Device} {z x : Parts D} {answer : Result (Unit {0}) StoreError} → z ≡ x → Settles device z z answer → Settles device x x answer
settles_both {D} {device} {z} {x} {answer} is settles = subst (λ (w : Parts D). Settles device w w answer) is settles

pub trims_from : {D : Type 0} {device : D → Device} {z x y : Parts D} {answer : Result (Unit {0}) StoreError} → z ≡ x → Trims device z y answer → Trims device x y answer
trims_from {D} {device} {z} {x} {y} {answer} is trims = subst (λ (w : Parts D). Trims device w y answer) is trims

pub trims_both : {D : Type 0} {device : D → Device} {z x : Parts D} {answer : Result (Unit {0}) StoreError} → z ≡ x → Trims device z z answer → Trims device x x answer
trims_both {D} {device} {z} {x} {answer} is trims = subst (λ (w : Parts D). Trims device w w answer) is trims

pub applies_from : {D : Type 0} {device : D → Device} {z x y : Parts D} {lane : ℕ} {next : Record} {answer : Result (Unit {0}) StoreError} → z ≡ x → Applies device z y lane next answer → Applies device x y lane next answer
applies_from {D} {device} {z} {x} {y} {lane} {next} {answer} is applies = subst (λ (w : Parts D). Applies device w y lane next answer) is applies

-- what holds of any answer, and of a refusal
pub ok_any : {T E : Type 0} (r : Result T E) (P : Type 0) → P → OnOk r P
ok_any (Ok done) P holds = holds
ok_any (Err e) P holds = tt

pub on_err : {T E : Type 0} (r : Result T E) (P Q : Type 0) → (P → Q) → OnErr r P → OnErr r Q
on_err (Ok done) P Q to holds = tt
on_err (Err e) P Q to holds = to holds

-- one reason isn't another
pub err_of : {A : Type 0} {e f : StoreError} → ◌≡◌ {A = Result A StoreError} (Err e) (Err f) → e ≡ f
err_of is = cc

pub failed_other : Failed ≢ Fault
failed_other is = cc

pub unwritten_other : Unwritten ≢ Fault
unwritten_other is = cc

-- A call that refuses, and changes nothing.
pub still : {D A : Type 0} {device : D → Device} {call : Doubt} {Shows : Layout → Setting → Past → List ℕ → Type 0} {last : ℕ} {x : Parts D} {e : StoreError} →
    x.known.committed.sequence ≤ last → e ≢ Fault → Writes {A = A} device call Shows last x x (Err e)
still {D} {A} {device} {call} {Shows} {last} {x} {e} low other = record {
  running = tt;
  kept = λ s p has. has;
  refused = inr refl;
  failed = λ is. absurd (other (err_of is));
  in_doubt = λ is. absurd (other (err_of is));
  shown = λ s p has. begin (device x.disk) (Shows x.known.layout s p);
  cause = record { later = omega arith; failed = λ is. absurd (other (err_of is)) };
  sequence = low;
  any_sequence = begin (device x.disk) (ShowsUpTo x.known.layout last);
  within = begin (device x.disk) (ImageBut (device x.disk) (step_ranges x.known.layout));
  layout = refl;
}

-- and one that succeeds, and changes nothing
pub rests : {D A : Type 0} {device : D → Device} {call : Doubt} {Shows : Layout → Setting → Past → List ℕ → Type 0} {last : ℕ} {x : Parts D} {done : A} →
    x.known.has_failed ≡ false → x.known.committed.sequence ≤ last → Writes device call Shows last x x (Ok done)
rests {D} {A} {device} {call} {Shows} {last} {x} {done} serves low = record {
  running = (serves, serves);
  kept = λ s p has. tt;
  refused = tt;
  failed = λ is. absurd cc;
  in_doubt = λ is. absurd cc;
  shown = λ s p has. begin (device x.disk) (Shows x.known.layout s p);
  cause = record { later = omega arith; failed = λ is. absurd cc };
  sequence = low;
  any_sequence = begin (device x.disk) (ShowsUpTo x.known.layout last);
  within = begin (device x.disk) (ImageBut (device x.disk) (step_ranges x.known.layout));
  layout = refl;
}

pub commits_none : {D A : Type 0} {device : D → Device} {call : Doubt} {x : Parts D} {e : StoreError} → e ≢ Fault → Commits {A = A} device call x x (Err e)
commits_none {x = x} other = still (let low : x.known.committed.sequence ≤ x.known.committed.sequence + 1 = omega arith in low) other

pub commits_same : {D A : Type 0} {device : D → Device} {call : Doubt} {x y : Parts D} {e : StoreError} → y ≡ x → e ≢ Fault → Commits {A = A} device call x y (Err e)
commits_same {D} {A} {device} {call} {x} {y} {e} is other = subst (λ (z : Parts D). Commits {A = A} device call x z (Err e)) (sym is) (commits_none other)

module _ {D : Type 0} (device : D → Device) (x : Parts D) where
  -- a store that has failed refuses
  pub apply_failed : (lane : ℕ) (next : Record) → x.known.has_failed ≡ true → Applies device x x lane next (Err Failed)
  apply_failed lane next off = record { answer = λ s p has. off; ok = λ s p has. tt; running = tt; no_fault = failed_other; err = refl; disk = refl; sequence = refl; layout = refl }

  pub logs_failed : x.known.has_failed ≡ true → Logs device x x (Err Failed)
  logs_failed off = record {
    writes = commits_none failed_other;
    ok = λ s p has. tt;
    answer = λ s p has. off;
    none = λ s p has none. refl;
    worn = λ s p has serves some last. absurd (let no : true ≡ false = sym off ∙ serves in cc);
    any_moment = λ s p has. begin (device x.disk) (StandsForCut x.known.layout s p.logged p.cut);
  }

  pub home_failed : x.known.has_failed ≡ true → GoesHome device x x (Err Failed)
  home_failed off = record {
    writes = still (let low : x.known.committed.sequence ≤ x.known.committed.sequence = omega arith in low) failed_other;
    ok = λ s p has. tt;
    answer = λ s p has. off;
    done = λ is. refl;
    none = λ s p has clean. refl;
    any_moment = λ s p has. begin (device x.disk) (StandsForCut x.known.layout s p.logged p.cut);
    sequence = refl;
  }

  pub settles_failed : x.known.has_failed ≡ true → Settles device x x (Err Failed)
  settles_failed off = record {
    writes = commits_none failed_other;
    ok = λ s p cut has stable. tt;
    answer = λ s p has. off;
    worn = λ s p has serves clean last. absurd (let no : true ≡ false = sym off ∙ serves in cc);
    any_moment = λ s p cut has stable. begin (device x.disk) (StandsForEither x.known.layout s p.logged p.cut cut);
  }

  pub trims_failed : x.known.has_failed ≡ true → Trims device x x (Err Failed)
  trims_failed off = record {
    writes = commits_none failed_other;
    ok = λ s p has. tt;
    answer = λ s p has. off;
    none = λ s p has trimmed. refl;
    worn = λ s p has serves some last. absurd (let no : true ≡ false = sym off ∙ serves in cc);
    any_moment = λ s p has. begin (device x.disk) (StandsForCut x.known.layout s p.logged p.cut);
  }

-- why nothing was logged or trimmed
pub log_fault : {x : Known} {s : Setting} {p : Past} {d : Device} → HasPast x s p d → (e : StoreError) → x.has_failed ≡ false → e ≡ Fault → RefusesLog x p e
log_fault {x} {s} {p} was e serves is = subst (RefusesLog x p) (sym is) serves

pub log_worn : {x : Known} {s : Setting} {p : Past} {d : Device} → HasPast x s p d → (e : StoreError) → x.has_failed ≡ false → e ≡ Worn → x.committed.sequence ≡ 2 ^ 64 - 1 → p.fresh ≢ [] → RefusesLog x p e
log_worn {x} {s} {p} was e serves is last some = subst (RefusesLog x p) (sym is) (serves, last, some)

pub trim_fault : {x : Known} {s : Setting} {p : Past} {d : Device} → HasPast x s p d → (e : StoreError) → x.has_failed ≡ false → e ≡ Fault → (IsTrimmed p → ⊥) → RefusesTrim x p e
trim_fault {x} {s} {p} was e serves is some = subst (RefusesTrim x p) (sym is) (serves, some)

pub trim_worn : {x : Known} {s : Setting} {p : Past} {d : Device} → HasPast x s p d → (e : StoreError) → x.has_failed ≡ false → e ≡ Worn → x.committed.sequence ≡ 2 ^ 64 - 1 → (IsTrimmed p → ⊥) → RefusesTrim x p e
trim_worn {x} {s} {p} was e serves is last some = subst (RefusesTrim x p) (sym is) (serves, last, some)

pub home_fault : {x : Known} {s : Setting} {p : Past} {d : Device} → HasPast x s p d → (e : StoreError) → x.has_failed ≡ false → e ≡ Fault → RefusesHome x e
home_fault {x} was e serves is = subst (RefusesHome x) (sym is) serves
