-- A thread that was durable has read a count that has all that it has ended.
use Rattle.std.proofs.Common.{ℕ, ◌≤◌, List, refl, arith}
use Rattle.block_disk.specs.Device.{Device}
use Rattle.image_parts.specs.declared.layout.Layout.{Layout}
use Rattle.monitor.specs.Seats.{Home}
use Rattle.law_running.specs.Told.{HasReadOf, KeepsRead, Moment}
use Rattle.session.specs.Sessions.{view_of}
use Rattle.session.specs.declared.session.Session.{Session}
use Rattle.heap_model.specs.Past.{Past}
use Rattle.trim_helper.specs.Parts.{Parts}
use Rattle.thread_work.specs.Durable.{WasDurable}

pub has_read : {D : Type 0} (device : D → Device) (h : Home) (p : Past) (x : Parts D) (s t : Session) → WasDurable device h p x s t → HasReadOf device h p x t (view_of t).stable
has_read device h p x s t was = record {
  helping = was.helping;
  serves = was.serves;
  reads = record {
    moment = was.moment;
    helper = was.helper;
    is = was.is;
    no_more = was.no_more;
    was = s;
    reads = record { quiet = was.durable.quiet; looked = was.durable.looked; read = refl };
    seated = was.seated;
  };
}

pub keeps_fewer : (h : Home) (l : Layout) (p : Past) (now : Moment) (image : List ℕ) (lane few many : ℕ) → few ≤ many → KeepsRead h l p now image lane many → KeepsRead h l p now image lane few
keeps_fewer h l p now image lane few many fewer keeps = record { told = keeps.told; least = let least = keeps.least in omega (arith, fewer, least) }
