-- What is told of an image that isn't recovered, by the versions that are taken.
use Rattle.std.proofs.Common.{ℕ, List, Option, None, Some, subst, sym}
use Rattle.image_parts.specs.Header.{IsFormatted}
use Rattle.recover.specs.Recovery.{RefusesOf}
use Rattle.recover_heap.specs.declared.error.RecoverError.{RecoverError}
use Rattle.recover_heap.specs.declared.error.RecoverError.TheVariants.{Fault, NotFormatted, BadHeader, TooSmall, NoControl, BadControl, OldVersion, Worn, BadRecord, IllegalLog, NoMemory}
use Rattle.recover.specs.declared.versions.Versions.{Versions}
use Rattle.image_file.specs.Images.{IsThere, MayNotBeHad}
use Rattle.image_file.specs.Recovering.{MayBlameBytes}
use Rattle.image_file.specs.Showing.{told_of_attaching}
use Rattle.image_file.specs.Telling.{MayBeRefusedBy}
use Rattle.image_file.specs.declared.error.FileFault.{FileFault}
use Rattle.image_file.specs.declared.error.FileFault.TheVariants as files
use Rattle.image_file.specs.declared.error.ImageFault.TheVariants as images

-- its file isn't had
pub not_had : (versions : Versions) (fault : FileFault) → MayBeRefusedBy versions (told_of_attaching fault)
not_had versions files.Fault = tt
not_had versions files.NoMemory = tt
not_had versions files.InUse = tt
not_had versions files.NotImage = tt

-- it is refused
pub not_taken : (versions : Versions) (image : List ℕ) (why : RecoverError) → RefusesOf versions image why → MayBeRefusedBy versions (images.Image why)
not_taken versions image OldVersion refused = (image, refused)
not_taken versions image Fault refused = tt
not_taken versions image NotFormatted refused = tt
not_taken versions image BadHeader refused = tt
not_taken versions image TooSmall refused = tt
not_taken versions image NoControl refused = tt
not_taken versions image BadControl refused = tt
not_taken versions image Worn refused = tt
not_taken versions image (BadRecord lane place) refused = tt
not_taken versions image (IllegalLog lane place) refused = tt
not_taken versions image NoMemory refused = tt

-- its file is told as no image only where it is none
pub blames_file : (fault : FileFault) (had : Option (List ℕ)) → MayNotBeHad fault had → MayBlameBytes (told_of_attaching fault) had
blames_file files.Fault had may = tt
blames_file files.NoMemory had may = tt
blames_file files.InUse had may = tt
blames_file files.NotImage had may = may

-- it is refused so only where it is none
pub blames_image : (versions : Versions) (image : List ℕ) (had : Option (List ℕ)) (why : RecoverError) → IsThere image had → RefusesOf versions image why → MayBlameBytes (images.Image why) had
blames_image versions image None NotFormatted was refused = tt
blames_image versions image (Some there) NotFormatted was refused = subst (λ (bytes : List ℕ). IsFormatted bytes → ⊥) (sym was) refused
blames_image versions image had OldVersion was refused = tt
blames_image versions image had Fault was refused = tt
blames_image versions image had BadHeader was refused = tt
blames_image versions image had TooSmall was refused = tt
blames_image versions image had NoControl was refused = tt
blames_image versions image had BadControl was refused = tt
blames_image versions image had Worn was refused = tt
blames_image versions image had (BadRecord lane place) was refused = tt
blames_image versions image had (IllegalLog lane place) was refused = tt
blames_image versions image had NoMemory was refused = tt
