-- What a host is told of the first of the calls that are left, and what it makes of it.
use Rattle.std.proofs.Common.{◌≡◌, ◌≤◌, arith, IfSome, ℕ, List, [], ◌∷◌, Option, Some, None, MatchOption, Bool, true, false, if◌then◌else◌, Bor, ap, sym, refl, ◌∙◌}
use Rattle.std.specs.Option.{option_copied}
use Rattle.disk_deferred.specs.Deferred.{stop_of}
use Rattle.disk_deferred.specs.Handing.{IsSmall}
use Rattle.disk_deferred.specs.Host.{Host}
use Rattle.disk_deferred.specs.declared.call.DeviceCall.{DeviceCall}
use Rattle.disk_deferred.specs.declared.call.DeviceCall.TheVariants.{Write, Sync}
use Rattle.disk_deferred.specs.declared.call.TheConstants.{MOST_BYTES}
use Rattle.zelamiku.specs.HeapDoors.{MakesFirst, first_of, told_of}
use Rattle.zelamiku.specs.declared.status.TheConstants.{NONE_LEFT, OK}

small_call : (call : DeviceCall) → IsSmall call → (told_of (Some call)).size ≤ MOST_BYTES
small_call (Write at content) few = few
small_call Sync few = omega arith

pub first_told : (next : Option (Bor DeviceCall)) (left : List DeviceCall) → MatchOption next (left ≡ []) (λ call. (later : List DeviceCall) × (left ≡ call.now ∷ later)) → option_copied next ≡ first_of left
first_told None left told = sym (ap first_of told)
first_told (Some call) left told = sym (ap first_of told.1)

-- what is told of a small call
pub small_told : (next : Option (Bor DeviceCall)) → IfSome next (λ call. IsSmall call.now) → (told_of (option_copied next)).size ≤ MOST_BYTES
small_told None few = omega arith
small_told (Some call) few = small_call call.now few

pub first_made : (left : List DeviceCall) (x y : Host) (is_done : Bool) (status : ℕ) → (left ≡ [] → (is_done ≡ false) × (y ≡ x))
    → ((call : DeviceCall) (later : List DeviceCall) → left ≡ call ∷ later → (is_done ≡ true) × (y.left ≡ later) × (y.made ≡ stop_of call ∷ x.made))
    → status ≡ (if is_done then OK else NONE_LEFT) → MakesFirst left x y status
first_made [] x y is_done status none one is = (is ∙ ap (λ b. if b then OK else NONE_LEFT) (none refl).0, (none refl).1)
first_made (call ∷ later) x y is_done status none one is = let done = one call later refl in (is ∙ ap (λ b. if b then OK else NONE_LEFT) done.0, done.1, done.2)
