-- What is known of the image at a path on which threads run.
use Rattle.std.proofs.Common.{ℕ, ◌≡◌, ◌↔◌, List, [], Option, None, Some, Bool}
use Rattle.std.specs.Prelude.{IfSome, IsTrue}
use Rattle.block_disk.specs.Device.{Device}
use Rattle.guards.specs.Schema.{Declarations}
use Rattle.thread_work.specs.Bodies.{Answer}
use Rattle.image_file.specs.Images.{IsThere}
use Rattle.monitor.specs.Seats.{Home}
use Rattle.session.specs.declared.session.Session.{Session}
use Rattle.thread_files.specs.Files.{HasNoDisk, HasNoImage, RefusesAt}
use Rattle.thread_files.specs.declared.error.FileRunError.{FileRunError}
use Rattle.thread_files.specs.declared.plan.FilePlan.{FilePlan}
use Rattle.thread_files.specs.declared.error.FileRunError.TheVariants.{File, Format, Run}

-- none was there
pub none_there : (had : Option (List ℕ)) (vacant : Bool) → IfSome had (λ image. IsTrue vacant ↔ (image ≡ [])) → IsTrue vacant → IsThere [] had
none_there None vacant told is = tt
none_there (Some image) vacant told is = told.0 is

-- none is made, so that there is none
pub no_disk : (schema : Declarations) (plan : FilePlan) (had has : Option (List ℕ)) (fault : FileRunError) → HasNoImage schema plan had has fault → HasNoDisk schema plan had has fault
no_disk schema plan had has (File e) none = elim none [ ]
no_disk schema plan had has (Format e) none = none
no_disk schema plan had has (Run e) none = elim none [ ]

-- there is none, so that they don't run
pub no_run : (does : Home → Session → Session → Answer → Type 0) {D : Type 0} (device : D → Device) (schema : Declarations) (plan : FilePlan) (had has : Option (List ℕ)) (fault : FileRunError) → HasNoDisk schema plan had has fault → RefusesAt does device schema plan had has fault
no_run does device schema plan had has (File e) none = none
no_run does device schema plan had has (Format e) none = none
no_run does device schema plan had has (Run e) none = elim none [ ]
