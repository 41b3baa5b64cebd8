-- From the cells that were read to the image that has them.
use Rattle.std.proofs.Common.{ℕ, ◌≡◌, Option, List, Result, Ok, Err, IfErr, sym, subst, ◌∙◌}
use Rattle.guards.specs.Schema.{Declarations}
use Rattle.recover_heap.specs.Heap.{RefusesHeap}
use Rattle.recover_heap.specs.declared.error.RecoverError.{RecoverError}
use Rattle.recover_heap.specs.declared.error.RecoverError.TheVariants.{Fault, NotFormatted, BadHeader, TooSmall, NoControl, BadControl, OldVersion, Worn, BadRecord, IllegalLog, NoMemory}
use Rattle.image_schema.specs.declared.error.DumpError.{DumpError}
use Rattle.image_schema.specs.declared.error.DumpError.TheVariants.{Study, OtherSchema, Write}
use Rattle.image_salvage.specs.Cells.{DumpsCells, DumpsRead, HasCells, RefusesCells, RefusesRead, RefusesToRead}
use Rattle.image_salvage.specs.declared.home_cells.Cells.{Cells}

-- what refuses the values refuses the image
pub refused_values : (image : List ℕ) (e : RecoverError) → RefusesHeap e → RefusesToRead image e
refused_values image Fault h = tt
refused_values image NotFormatted h = absurd h
refused_values image BadHeader h = absurd h
refused_values image TooSmall h = absurd h
refused_values image NoControl h = h
refused_values image BadControl h = h
refused_values image OldVersion h = h
refused_values image Worn h = h
refused_values image (BadRecord lane place) h = h
refused_values image (IllegalLog lane place) h = h
refused_values image NoMemory h = tt

module _ (given : Option Declarations) (image : List ℕ) (old new : Option (List ℕ)) (c : Cells) (had : HasCells image c) where
  pub dumps : DumpsRead given c old new → DumpsCells given image old new
  dumps d = record { cells = c; had = had; fits = d.fits; written = d.written }

  refuses : (e : DumpError) → RefusesRead given c old new e → RefusesCells given image old new e
  refuses (Study why) h = (subst (RefusesToRead image) (sym h.0) tt, h.1)
  refuses OtherSchema h = (record { cells = c; had = had; other = h.0 }, h.1)
  refuses Write h = record { cells = c; had = had; fits = h.fits; written = h.written }

  pub refuses_all : (r : Result (Unit {0}) DumpError) → IfErr r (RefusesRead given c old new) → IfErr r (RefusesCells given image old new)
  refuses_all (Ok done) h = tt
  refuses_all (Err e) h = refuses e h

kinds_apart : NoMemory ≡ Fault → ⊥
kinds_apart e = absurd cc

pub not_fault : (given : Option Declarations) (old new : Option (List ℕ)) (c : Cells) (r : Result (Unit {0}) DumpError) → IfErr r (RefusesRead given c old new) → r ≡ Err (Study Fault) → ⊥
not_fault given old new c (Ok done) h e = absurd cc
not_fault given old new c (Err (Study why)) h e = let same : why ≡ Fault = cc in kinds_apart (sym h.0 ∙ same)
not_fault given old new c (Err OtherSchema) h e = absurd cc
not_fault given old new c (Err Write) h e = absurd cc
