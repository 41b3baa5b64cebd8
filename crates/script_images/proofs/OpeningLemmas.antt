-- From a study, a schema and a machine to the image that they are of.
use Rattle.std.proofs.Common.{ℕ, ◌≡◌, Option, List, None, Some, Result, Ok, Err, IfErr, IfOk, inl, inr, sym, subst, ◌∙◌, ap}
use Rattle.block_disk.specs.Device.{SameMoments}
use Rattle.block_disk.specs.Memory.{Memory, device_of, fresh}
use Rattle.guards.specs.Schema.{Declarations}
use Rattle.image_file.specs.declared.error.ImageFault.TheVariants as images
use Rattle.image_file.specs.declared.error.NamedFault.{NamedFault}
use Rattle.image_file.specs.declared.error.NamedFault.TheVariants as named
use Rattle.recover.specs.Reading.{RefusesImage}
use Rattle.recover.specs.Recovery.{RefusesOf}
use Rattle.recover.specs.Study.{IsStudyOf}
use Rattle.recover_heap.specs.declared.error.RecoverError.TheVariants as recover
use Rattle.recover.specs.declared.studied.Study.{Study}
use Rattle.recover.specs.declared.versions.Versions.TheVariants.{Current}
use Rattle.script_lines.specs.Orders as order
use Rattle.script_machine.specs.Machine.{MachineState, Down, RecoversDevice, Steps}
use Rattle.script_machine.specs.States.{Wreck}
use Rattle.script_machine.specs.declared.answer.Answer.{Answer}
use Rattle.script_machine.specs.declared.answer.Answer.TheVariants.{Refused}
use Rattle.script_machine.specs.declared.answer.Refusal.{Refusal}
use Rattle.script_machine.specs.Images.{DiskLaw}
use Rattle.script_machine.specs.OfSchema.{IsDiskOf}
use Rattle.script_play.specs.Texts.{text_of}
use Rattle.image_schema.specs.OfImage.{named_as}
use Rattle.script_images.specs.Playing.{IsDown, IsNotNamed, IsNotRecovered, IsRecovered, RefusesOver}
use Rattle.script_images.specs.Reasons.{reason_for, refusal_of}
use Rattle.script_images.specs.Schemas.{IsNamed, IsSchemaOf}
use Rattle.script_images.proofs.FirstLemmas.{fits_schema}
use Rattle.script_images.proofs.ReasonLemmas.{no_refusal, reason_back, refusal_is}

-- a schema isn't the image's by the study of it
named_refused : (given : Option Declarations) (image : List ℕ) (s : Study) → IsStudyOf image s → (fault : NamedFault) → IsNotNamed given s fault → RefusesOver given image fault
named_refused given image s of (named.Image (images.Image why)) is = subst (RefusesImage image) (sym is) tt
named_refused given image s of (named.Image images.InUse) is = is
named_refused given image s of (named.Schema fault) is = is
named_refused given image s of named.OtherSchema is = record { study = s; studied = of; other = is }

pub all_named_refused : {T : Type 0} (given : Option Declarations) (image : List ℕ) (s : Study) → IsStudyOf image s → (r : Result T NamedFault) → IfErr r (IsNotNamed given s) → IfErr r (RefusesOver given image)
all_named_refused given image s of (Ok x) is = tt
all_named_refused given image s of (Err fault) is = named_refused given image s of fault is

-- or is
pub all_named : {E : Type 0} (given : Option Declarations) (image : List ℕ) (s : Study) → IsStudyOf image s → (r : Result Declarations E) → IfOk r (λ schema. schema ≡ named_as given s)
    → IfOk r (λ schema. IsSchemaOf (named_as given s) s) → IfOk r (IsNamed given image)
all_named given image s of (Ok schema) is fits = record { study = s; studied = of; schema_is = is; fits = fits }
all_named given image s of (Err e) is fits = tt

-- a disk that was made of the image and only read since is one that a machine may have
pub disk_over : DiskLaw → (given : Option Declarations) (image : List ℕ) (old new : Memory) (schema : Declarations) → old ≡ fresh image
    → IsNamed given (device_of old).now.bytes schema → SameMoments (device_of old) (device_of new) → IsDiskOf schema new
disk_over law given image old new schema made is_named same =
    let at : IsNamed given image schema = subst (λ (m : Memory). IsNamed given (device_of m).now.bytes schema) made is_named in
    let from : SameMoments (device_of (fresh image)) (device_of new) = subst (λ (m : Memory). SameMoments (device_of m) (device_of new)) made same in
    let of : IsSchemaOf schema at.study = subst (λ (d : Declarations). IsSchemaOf d at.study) (sym at.schema_is) at.fits in
    law schema image at.study new at.studied (fits_schema schema image at.study at.studied of) from

module _ (w : Wreck) (answer : Answer) (new : MachineState) where
  device_refused : (why : Refusal) → answer ≡ Refused why → RecoversDevice (Down w) answer new Current w → RefusesOf Current (device_of w.disk).now.bytes (reason_for why)
  device_refused why is (inl recovers) = absurd (let no = sym is ∙ recovers.answers in cc)
  device_refused why is (inr refuses) =
      let same : why ≡ refuses.refusal = (let both = sym is ∙ refuses.answers in cc) in
      let reason = refuses.refuses in
      subst (RefusesOf Current (device_of w.disk).now.bytes) (sym (ap reason_for same ∙ reason_back reason.reason refuses.refusal reason.told_is)) reason.refused

  device_recovered : (text : List ℕ) → ((why : Refusal) → answer ≡ Refused why → ⊥) → text ≡ text_of answer → RecoversDevice (Down w) answer new Current w → IsRecovered (Down w) text new
  device_recovered text other told (inl recovers) = record {
    report = recovers.report;
    steps = subst (λ (a : Answer). Steps (Down w) order.Recover a new) recovers.answers (inl recovers);
    told = told ∙ ap text_of recovers.answers;
  }
  device_recovered text other told (inr refuses) = absurd (other refuses.refusal refuses.answers)

-- a machine that is down is refused so
pub down_refused : (old : MachineState) (answer : Answer) (why : Refusal) (new : MachineState) (fault : NamedFault) → IsDown old → refusal_of answer ≡ Some why
    → fault ≡ named.Image (images.Image (reason_for why)) → Steps old order.Recover answer new → IsNotRecovered old fault
down_refused old answer why new fault down refused told steps =
    let w : Wreck = down.0 in
    let there : Steps (Down w) order.Recover answer new = subst (λ (m : MachineState). Steps m order.Recover answer new) down.1 steps in
    let so : IsNotRecovered (Down w) (named.Image (images.Image (reason_for why))) = inr (device_refused w answer new why (refusal_is answer why refused) there) in
    subst (λ (m : MachineState). IsNotRecovered m fault) (sym down.1) (subst (λ (f : NamedFault). IsNotRecovered (Down w) f) (sym told) so)

-- or recovered, where the answer is no refusal
pub down_recovered : (old : MachineState) (answer : Answer) (text : List ℕ) (new : MachineState) → IsDown old → refusal_of answer ≡ None → text ≡ text_of answer
    → Steps old order.Recover answer new → IsRecovered old text new
down_recovered old answer text new down none told steps =
    let w : Wreck = down.0 in
    let there : Steps (Down w) order.Recover answer new = subst (λ (m : MachineState). Steps m order.Recover answer new) down.1 steps in
    subst (λ (m : MachineState). IsRecovered m text new) (sym down.1) (device_recovered w answer new text (λ why is. no_refusal answer why none is) told there)

-- want of memory may come at any time
pub memory_wanted : {T : Type 0} (old : MachineState) (r : Result T NamedFault) → IfErr r (λ fault. fault ≡ named.Image (images.Image recover.NoMemory)) → IfErr r (IsNotRecovered old)
memory_wanted old (Ok x) is = tt
memory_wanted old (Err fault) is = subst (IsNotRecovered old) (sym is) (inl (λ i. recover.NoMemory))
