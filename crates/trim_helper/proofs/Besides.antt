-- What a helper serves it serves once its device has met its other end.
use Rattle.std.proofs.Common.{◌≡◌, ◌≤◌, ◌++◌, List, Option, sym, ap, ◌∙◌, subst, arith}
use Rattle.thread_rings.specs.Rings.{Receiving}
use Rattle.heap_model.specs.declared.record.Record.{Record}
use Rattle.heap_model.specs.Setting.{Setting}
use Rattle.block_disk.specs.Device.{Device}
use Rattle.store_rounds.specs.Store.{Known, HasPast}
use Rattle.monitor.specs.Seats.{Helping}
use Rattle.heap_model.specs.Past.{Past, applied}
use Rattle.trim_helper.specs.Counts.{WasCount}
use Rattle.trim_helper.specs.Helping.{count_published, place_published}
use Rattle.trim_helper.specs.Meets.{SameHelper}
use Rattle.trim_helper.specs.Parts.{IsServing, Parts}
use Rattle.trim_helper.specs.Rings.{received_of, held_back, stream, waiting_in}
use Rattle.trim_helper.specs.Taken.{trimmed_of}

pub serves_still : {D : Type 0} (device : D → Device) (x y : Parts D) (s : Setting) (p : Past) → SameHelper device x y → IsServing device x s p → IsServing device y s p
serves_still device x y s p same serving =
    let threads : y.store.known.threads ≡ x.store.known.threads = ap (λ (k : Known). k.threads) same.known in
    record {
      taken = record {
        has = subst (λ (d : Device). HasPast y.store.known s p d) (sym same.device_is) (subst (λ (k : Known). HasPast k s p (device x.store.disk)) (sym same.known) serving.taken.has);
        taken = λ l. ap (λ (r : List Receiving). received_of r l) same.rings ∙ serving.taken.taken l
            ∙ ap (λ (w : List (Option Record)). stream l (applied p) ++ held_back (waiting_in w l)) (sym same.waiting);
      };
      counts = λ l lt. subst (λ (k : Helping). count_published k l ≤ p.cut l) (sym same.seat) (serving.counts l (omega arith));
      places = λ l lt. subst (λ (k : Helping). place_published k l ≤ trimmed_of p l) (sym same.seat) (serving.places l (omega arith));
      running = λ is. ap (λ (k : Known). k.has_failed) same.known ∙ serving.running (sym same.settled ∙ is);
      settled = λ is. serving.settled (sym same.settled ∙ is);
      trimmed = λ is. serving.trimmed (sym same.settled ∙ is);
      published = λ is l lt. subst (λ (k : Helping). (count_published k l ≡ p.cut l) × (place_published k l ≡ trimmed_of p l)) (sym same.seat) (serving.published (sym same.settled ∙ is) l (omega arith));
      stand = λ l n lt was. serving.stand l n (omega arith) (subst (λ (k : Helping). WasCount k l n) same.seat was);
    }
