-- From the study to the image that it is of.
use Rattle.std.proofs.Common.{ℕ, ◌≡◌, Option, List, Result, Ok, Err, IfErr, sym, subst, ◌∙◌}
use Rattle.guards.specs.Schema.{Declarations}
use Rattle.recover.specs.Study.{IsStudyOf}
use Rattle.recover_heap.specs.declared.error.RecoverError.TheVariants.{Fault, NoMemory}
use Rattle.recover.specs.Reading.{RefusesImage}
use Rattle.recover.specs.declared.studied.Study.{Study as Studied}
use Rattle.image_schema.specs.Dumping.{Dumps, DumpsStudy, RefusesDump, RefusesStudy}
use Rattle.image_schema.specs.declared.error.DumpError.{DumpError}
use Rattle.image_schema.specs.declared.error.DumpError.TheVariants.{Study, OtherSchema, Write}

module _ (given : Option Declarations) (image : List ℕ) (old new : Option (List ℕ)) (s : Studied) (of : IsStudyOf image s) where
  pub dumps : DumpsStudy given s old new → Dumps given image old new
  dumps d = record { study = s; studied = of; fits = d.fits; written = d.written }

  refuses : (e : DumpError) → RefusesStudy given s old new e → RefusesDump given image old new e
  refuses (Study why) h = (subst (RefusesImage image) (sym h.0) tt, h.1)
  refuses OtherSchema h = (record { study = s; studied = of; other = h.0 }, h.1)
  refuses Write h = record { study = s; studied = of; fits = h.fits; written = h.written }

  pub refuses_all : (r : Result (Unit {0}) DumpError) → IfErr r (RefusesStudy given s old new) → IfErr r (RefusesDump given image old new)
  refuses_all (Ok done) h = tt
  refuses_all (Err e) h = refuses e h

kinds_apart : NoMemory ≡ Fault → ⊥
kinds_apart e = absurd cc

pub not_fault : (given : Option Declarations) (old new : Option (List ℕ)) (s : Studied) (r : Result (Unit {0}) DumpError) → IfErr r (RefusesStudy given s old new) → r ≡ Err (Study Fault) → ⊥
not_fault given old new s (Ok done) h e = absurd cc
not_fault given old new s (Err (Study why)) h e = let same : why ≡ Fault = cc in kinds_apart (sym h.0 ∙ same)
not_fault given old new s (Err OtherSchema) h e = absurd cc
not_fault given old new s (Err Write) h e = absurd cc
