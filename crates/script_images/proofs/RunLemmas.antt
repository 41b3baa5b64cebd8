-- From the play to the run, and from what is there to what is written.
use Rattle.std.proofs.Common.{ℕ, Bool, ◌≡◌, ◌⊎◌, ◌+◌, ◌<◌, ◌≤◌, Option, List, [], Result, Ok, Err, IfErr, arith, inl, inr, length, get_or, refl, sym, subst, ap, ◌∙◌}
use Rattle.std.proofs.lemmas.List.{ext_get_or}
use Rattle.block_disk.proofs.Bytes.{length_spliced, spliced_at}
use Rattle.block_disk.specs.Bytes.{spliced}
use Rattle.block_disk.specs.Device.{Device, synced, written}
use Rattle.image_file.proofs.PlaceLemmas.{reads_left}
use Rattle.image_file.specs.Images.{IsLeft, IsThere}
use Rattle.std.proofs.KnownBytes.{Appends-nil}
use Rattle.block_disk.specs.Memory.{device_of}
use Rattle.guards.specs.Schema.{Declarations}
use Rattle.image_file.specs.Showing.{told_of_attaching}
use Rattle.image_file.specs.declared.error.FileFault.{FileFault}
use Rattle.image_file.specs.declared.error.ImageFault.TheVariants as images
use Rattle.image_file.specs.declared.error.NamedFault.{NamedFault}
use Rattle.image_file.specs.declared.error.NamedFault.TheVariants as named
use Rattle.recover.specs.Recovery.{RefusesOf}
use Rattle.recover.specs.Reading.{RefusesImage}
use Rattle.recover.specs.declared.versions.Versions.TheVariants.{Current}
use Rattle.script_lines.specs.declared.reader.Ending.{Ending}
use Rattle.script_machine.specs.Machine.{MachineState, Down}
use Rattle.script_machine.specs.States.{Wreck}
use Rattle.script_images.specs.Playing.{IsDown, IsNotRecovered, IsOver, IsRecovered, PlaysDown, PlaysOver, RefusesAs, RefusesDown, RefusesNamed, RefusesOver, RefusesToPlay}
use Rattle.script_images.specs.Running.{PlaysHeld, RefusesHeld, RunsHeld}
use Rattle.script_images.specs.declared.error.RunFault.{RunFault}
use Rattle.script_images.specs.declared.error.RunFault.TheVariants.{Named, Refused, Script, Write}

-- a machine over an image is down
pub over_down : (given : Option Declarations) (image : List ℕ) (over : MachineState) → IsOver given image over → IsDown over
over_down given image over is = (record { schema = is.schema; disk = is.disk }, is.down)

-- what a refusal to make the machine says of the image
over_refused : (given : Option Declarations) (image : List ℕ) (fault : NamedFault) → RefusesOver given image fault → RefusesNamed given image fault
over_refused given image (named.Image (images.Image why)) refused = inl refused
over_refused given image (named.Image images.InUse) refused = refused
over_refused given image (named.Schema fault) refused = refused
over_refused given image named.OtherSchema refused = refused

pub not_over : (given : Option Declarations) (lines : List (List ℕ)) (ending : Ending) (is_strict : Bool) (image : List ℕ) (fault : NamedFault) → RefusesOver given image fault
    → RefusesToPlay given lines ending is_strict image (Named fault)
not_over given lines ending is_strict image fault refused = over_refused given image fault refused

-- its device reads the image
reads : (given : Option Declarations) (image : List ℕ) (over : MachineState) (is : IsOver given image over) → (device_of is.disk).now.bytes ≡ image
reads given image over is = ap (λ m. m.bytes) is.same.now

down_refused : (given : Option Declarations) (image : List ℕ) (w : Wreck) → (device_of w.disk).now.bytes ≡ image → (fault : NamedFault) → IsNotRecovered (Down w) fault → RefusesNamed given image fault
down_refused given image w is (named.Image (images.Image why)) (inl memory) = inl (subst (RefusesImage image) (sym memory) tt)
down_refused given image w is (named.Image (images.Image why)) (inr refused) = inr (subst (λ (bytes : List ℕ). RefusesOf Current bytes why) is refused)
down_refused given image w is (named.Image images.InUse) refused = absurd refused
down_refused given image w is (named.Schema fault) refused = absurd refused
down_refused given image w is named.OtherSchema refused = absurd refused

module _ (given : Option Declarations) (lines : List (List ℕ)) (ending : Ending) (is_strict : Bool) (image : List ℕ) (over : MachineState) (is : IsOver given image over) where
  -- the lines were played over the image
  pub plays : (left text : List ℕ) → PlaysDown over lines ending is_strict left text → PlaysOver given lines ending is_strict image left text
  plays left text played = record { over = over; is_over = is; played = played }

  refuses : (fault : RunFault) → RefusesDown over lines ending is_strict fault → RefusesToPlay given lines ending is_strict image fault
  refuses (Named fault) refused =
      down_refused given image (record { schema = is.schema; disk = is.disk }) (reads given image over is) fault (subst (λ (m : MachineState). IsNotRecovered m fault) is.down refused)
  refuses (Script error) refused = refused
  refuses (Refused line why) refused = record { over = over; is_over = is; refused = refused }
  refuses Write refused = refused

  pub all_refused : {T : Type 0} (r : Result T RunFault) → IfErr r (RefusesDown over lines ending is_strict) → IfErr r (RefusesToPlay given lines ending is_strict image)
  all_refused (Ok x) refused = tt
  all_refused (Err fault) refused = refuses fault refused

-- the image isn't replaced
pub not_put : (given : Option Declarations) (lines : List (List ℕ)) (ending : Ending) (is_strict : Bool) (had mid has old : Option (List ℕ)) (left text wrote : List ℕ) (why : FileFault) (fault : RunFault)
    → fault ≡ Named (named.Image (told_of_attaching why)) → PlaysHeld given lines ending is_strict had left text → mid ≡ had → wrote ≡ left → (has ≡ mid) ⊎ IsThere wrote has
    → RunsHeld given lines ending is_strict (Err fault) had has old old
not_put given lines ending is_strict had mid has old left text wrote why fault is played same all stays =
    let still : (has ≡ had) ⊎ IsThere left has = elim stays [ inl kept ↦ inl (kept ∙ same) | inr there ↦ inr (subst (λ (l : List ℕ). IsThere l has) all there) ] in
    let so : RunsHeld given lines ending is_strict (Err (Named (named.Image (told_of_attaching why)))) had has old old =
    (inr (record { left = left; text = text; played = played; unput = (why, refl); stays = still }), Appends-nil old) in
    subst (λ (f : RunFault). RunsHeld given lines ending is_strict (Err f) had has old old) (sym is) so

-- the image isn't had, and is as it was
pub not_had : (given : Option Declarations) (lines : List (List ℕ)) (ending : Ending) (is_strict : Bool) (had has old : Option (List ℕ)) (why : FileFault) (fault : RunFault)
    → fault ≡ Named (named.Image (told_of_attaching why)) → has ≡ had → RunsHeld given lines ending is_strict (Err fault) had has old old
not_had given lines ending is_strict had has old why fault is same =
    let so : RunsHeld given lines ending is_strict (Err (Named (named.Image (told_of_attaching why)))) had has old old =
    (inl (inl (why, refl), same), Appends-nil old) in
    subst (λ (f : RunFault). RunsHeld given lines ending is_strict (Err f) had has old old) (sym is) so

-- as many bytes in the place of all
pub all_over : (bytes image : List ℕ) → length image ≡ length bytes → spliced bytes 0 image ≡ image
all_over bytes image same =
    let fits : 0 + length image ≤ length bytes = omega (arith, same) in
    let long = length_spliced bytes image 0 fits in
    ext_get_or 0 (spliced bytes 0 image) image (long ∙ sym same)
    (λ i within.
    let less : i < length image = omega (arith, within, long, same) in
    let there : i ≡ 0 + i = omega arith in
    ap (λ (k : ℕ). get_or (spliced bytes 0 image) k 0) there ∙ spliced_at bytes image 0 fits i less)

-- what was written over all of a disk, and synced, is what is there
pub is_put : (old new : Device) (image : List ℕ) (has : Option (List ℕ)) → new ≡ synced (written 0 image old) → length image ≡ length old.now.bytes
    → IsLeft new.now has → IsThere image has
is_put old new image has made same left =
    let pending : new.now.pending ≡ [] = λ i. (made i).now.pending in
    let reads : new.now.bytes ≡ image = (λ i. (made i).now.bytes) ∙ all_over old.now.bytes image same in
    subst (λ (bytes : List ℕ). IsThere bytes has) reads (reads_left new has pending left)

pub not_put_there : (old new : Device) (image : List ℕ) {T : Type 0} (had has : T) (there : Option (List ℕ)) → new ≡ synced (written 0 image old) → length image ≡ length old.now.bytes
    → (has ≡ had) ⊎ IsLeft new.now there → (has ≡ had) ⊎ IsThere image there
not_put_there old new image had has there made same (inl stays) = inl stays
not_put_there old new image had has there made same (inr left) = inr (is_put old new image there made same left)

-- lines that aren't played on a machine that was recovered
pub after_recovery : (over begun : MachineState) (report : List ℕ) → IsRecovered over report begun → (lines : List (List ℕ)) (ending : Ending) (is_strict : Bool) (fault : RunFault)
    → RefusesAs is_strict begun lines ending fault → RefusesDown over lines ending is_strict fault
after_recovery over begun report recovered lines ending is_strict (Named fault) refused = absurd refused
after_recovery over begun report recovered lines ending is_strict (Script error) refused = refused
after_recovery over begun report recovered lines ending is_strict (Refused line why) refused =
    record { begun = begun; report = report; recovered = recovered; refused = refused }
after_recovery over begun report recovered lines ending is_strict Write refused = absurd refused

-- the lines aren't played over the image, which is as it was
pub not_held : (given : Option Declarations) (lines : List (List ℕ)) (ending : Ending) (is_strict : Bool) (had has old : Option (List ℕ)) (fault : RunFault)
    → RefusesHeld given lines ending is_strict had fault → has ≡ had → RunsHeld given lines ending is_strict (Err fault) had has old old
not_held given lines ending is_strict had has old (Named fault) refused same = (inl (refused, same), Appends-nil old)
not_held given lines ending is_strict had has old (Script error) refused same = (refused, same, Appends-nil old)
not_held given lines ending is_strict had has old (Refused line why) refused same = (refused, same, Appends-nil old)
not_held given lines ending is_strict had has old Write (inl unread) same = let no = unread.1 in absurd cc
not_held given lines ending is_strict had has old Write (inr played) same = absurd played.refused
