-- A helper whose device has met its other end (this project's own).
use Rattle.std.specs.Prelude.{◌≡◌}
use Rattle.block_disk.specs.Device.{Device}
use Rattle.trim_helper.specs.Parts.{Parts}

-- nothing of it has changed but what its disk knows of its other end
pub record SameHelper {D : Type 0} (device : D → Device) (x y : Parts D) : Type 0 where
  pub known : y.store.known ≡ x.store.known
  pub device_is : device y.store.disk ≡ device x.store.disk
  pub rings : y.rings ≡ x.rings
  pub waiting : y.waiting ≡ x.waiting
  pub settled : y.is_settled ≡ x.is_settled
  pub seat : y.seat ≡ x.seat
