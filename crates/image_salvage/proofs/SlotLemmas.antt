-- From the study by a slot to the image in which that slot stands alone.
use Rattle.std.proofs.Common.{ℕ, Option, List, Result, Ok, Err, IfErr, sym, subst}
use Rattle.guards.specs.Schema.{Declarations}
use Rattle.image_parts.specs.declared.slot.Slot.{Slot}
use Rattle.recover.specs.Reading.{RefusesImage}
use Rattle.recover.specs.Study.{IsStudyOf}
use Rattle.recover.specs.declared.studied.Study.{Study as Studied}
use Rattle.image_schema.specs.declared.error.DumpError.{DumpError}
use Rattle.image_schema.specs.declared.error.DumpError.TheVariants.{Study, OtherSchema, Write}
use Rattle.image_salvage.specs.Slots.{DumpsSlot, DumpsStudied, RefusesSlot, RefusesStudied, alone}

module _ (slot : Slot) (given : Option Declarations) (image : List ℕ) (old new : Option (List ℕ)) (s : Studied) (of : IsStudyOf (alone slot image) s) where
  pub dumps : DumpsStudied slot given s old new → DumpsSlot slot given image old new
  dumps d = record { study = s; studied = of; fits = d.fits; written = d.written }

  refuses : (e : DumpError) → RefusesStudied slot given s old new e → RefusesSlot slot given image old new e
  refuses (Study why) h = (subst (RefusesImage (alone slot image)) (sym h.0) tt, h.1)
  refuses OtherSchema h = (record { study = s; studied = of; other = h.0 }, h.1)
  refuses Write h = record { study = s; studied = of; fits = h.fits; written = h.written }

  pub refuses_all : (r : Result (Unit {0}) DumpError) → IfErr r (RefusesStudied slot given s old new) → IfErr r (RefusesSlot slot given image old new)
  refuses_all (Ok done) h = tt
  refuses_all (Err e) h = refuses e h
