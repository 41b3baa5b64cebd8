-- What is known of the image at a path on which workers work.
use Rattle.std.proofs.Common.{ℕ, ◌≡◌, ◌↔◌, List, [], Option, None, Some, Bool}
use Rattle.std.specs.Prelude.{IfSome, IsTrue}
use Rattle.block_disk.specs.Device.{Device}
use Rattle.image_file.specs.Images.{IsThere}
use Rattle.heapctl_commands.specs.Faults.{HasNoDisk, HasNoImage, RefusesAt}
use Rattle.heapctl_commands.specs.declared.fault.WorkFault.{WorkFault}
use Rattle.heapctl_commands.specs.declared.fault.WorkFault.TheVariants.{Script, Strict, Values, Set, Format, Image, Named, Drive, File, Write}

-- none was there
pub none_there : (had : Option (List ℕ)) (vacant : Bool) → IfSome had (λ image. IsTrue vacant ↔ (image ≡ [])) → IsTrue vacant → IsThere [] had
none_there None vacant told is = tt
none_there (Some image) vacant told is = told.0 is

-- none is made, so that there is none
pub no_disk : (workers : ℕ) (had has : Option (List ℕ)) (fault : WorkFault) → HasNoImage workers had has fault → HasNoDisk workers had has fault
no_disk workers had has (File e) none = elim none [ ]
no_disk workers had has (Format e) none = none
no_disk workers had has (Drive e) none = elim none [ ]
no_disk workers had has Write none = elim none [ ]
no_disk workers had has (Script e) none = elim none [ ]
no_disk workers had has (Strict e) none = elim none [ ]
no_disk workers had has (Values e) none = elim none [ ]
no_disk workers had has (Set e) none = elim none [ ]
no_disk workers had has (Image e) none = elim none [ ]
no_disk workers had has (Named e) none = elim none [ ]

-- there is none, so that they don't work
pub no_run : {D : Type 0} (device : D → Device) (workers : ℕ) (had has : Option (List ℕ)) (fault : WorkFault) → HasNoDisk workers had has fault → RefusesAt device workers had has fault
no_run device workers had has (File e) none = none
no_run device workers had has (Format e) none = none
no_run device workers had has (Drive e) none = elim none [ ]
no_run device workers had has Write none = elim none [ ]
no_run device workers had has (Script e) none = elim none [ ]
no_run device workers had has (Strict e) none = elim none [ ]
no_run device workers had has (Values e) none = elim none [ ]
no_run device workers had has (Set e) none = elim none [ ]
no_run device workers had has (Image e) none = elim none [ ]
no_run device workers had has (Named e) none = elim none [ ]
