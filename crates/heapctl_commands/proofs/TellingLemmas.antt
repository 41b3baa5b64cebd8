-- What is told at the end of a run.
use Rattle.std.proofs.Common.{ℕ, ◌≡◌, List, Option, None, Some, Result, Ok, Err}
use Rattle.std.specs.Prelude.{IfErr, OnErr, OnOk}
use Rattle.std.specs.Borrow.{Bor}
use Rattle.std.specs.Io.KnownBytes.{Appends}
use Rattle.block_disk.specs.Device.{Device}
use Rattle.std.proofs.KnownBytes.{Appends-nil}
use Rattle.thread_drive.specs.declared.driven.Driven.{Driven}
use Rattle.inspect.specs.Written.{AppendsPart}
use Rattle.heapctl_commands.specs.DrivenText.{driven_text}
use Rattle.heapctl_commands.specs.Faults.{RefusedAt}
use Rattle.heapctl_commands.specs.Driving.{DrivesWith}
use Rattle.heapctl_commands.specs.Telling.{Drives}
use Rattle.heapctl_commands.specs.declared.fault.WorkFault.{WorkFault}
use Rattle.heapctl_commands.specs.declared.fault.WorkFault.TheVariants.{Script, Strict, Values, Set, Format, Image, Named, Drive, File, Write}

-- they have worked, and it is told as far as the writer takes it
pub told : (worked : Driven → Type 0) (refused : WorkFault → Type 0) (driven : Driven) (r : Result (Unit {0}) WorkFault) (old new : Option (List ℕ)) → worked driven
    → OnOk r (Appends old new (driven_text driven)) → IfErr r (λ fault. fault ≡ Write) → OnErr r (AppendsPart old new (driven_text driven)) → Drives worked refused r old new
told worked refused driven (Ok done) old new so all write part = record { driven = driven; so = so; written = all }
told worked refused driven (Err Write) old new so all write part = record { driven = driven; so = so; written = part }
told worked refused driven (Err (Drive e)) old new so all write part = absurd cc
told worked refused driven (Err (File e)) old new so all write part = absurd cc
told worked refused driven (Err (Script e)) old new so all write part = absurd cc
told worked refused driven (Err (Strict e)) old new so all write part = absurd cc
told worked refused driven (Err (Values e)) old new so all write part = absurd cc
told worked refused driven (Err (Set e)) old new so all write part = absurd cc
told worked refused driven (Err (Format e)) old new so all write part = absurd cc
told worked refused driven (Err (Image e)) old new so all write part = absurd cc
told worked refused driven (Err (Named e)) old new so all write part = absurd cc

-- they haven't, and nothing is told
pub silent : {D : Type 0} (device : D → Device) (image : Option (Bor (List ℕ))) (workers : ℕ) (had has : List ℕ → Option (List ℕ)) (fault : WorkFault) (written : Option (List ℕ))
    → RefusedAt device image workers had has fault → DrivesWith device image workers had has (Err fault) written written
silent device None workers had has (Drive e) written refused = (refused, Appends-nil written)
silent device None workers had has (File e) written refused = elim refused [ ]
silent device None workers had has Write written refused = elim refused [ ]
silent device None workers had has (Script e) written refused = elim refused [ ]
silent device None workers had has (Strict e) written refused = elim refused [ ]
silent device None workers had has (Values e) written refused = elim refused [ ]
silent device None workers had has (Set e) written refused = elim refused [ ]
silent device None workers had has (Format e) written refused = elim refused [ ]
silent device None workers had has (Image e) written refused = elim refused [ ]
silent device None workers had has (Named e) written refused = elim refused [ ]
silent device (Some path) workers had has (Drive e) written refused = (refused, Appends-nil written)
silent device (Some path) workers had has (File e) written refused = (refused, Appends-nil written)
silent device (Some path) workers had has (Format e) written refused = (refused, Appends-nil written)
silent device (Some path) workers had has Write written refused = elim refused [ ]
silent device (Some path) workers had has (Script e) written refused = elim refused [ ]
silent device (Some path) workers had has (Strict e) written refused = elim refused [ ]
silent device (Some path) workers had has (Values e) written refused = elim refused [ ]
silent device (Some path) workers had has (Set e) written refused = elim refused [ ]
silent device (Some path) workers had has (Image e) written refused = elim refused [ ]
silent device (Some path) workers had has (Named e) written refused = elim refused [ ]
