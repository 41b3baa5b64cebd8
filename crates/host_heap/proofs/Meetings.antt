-- A heap whose disk has met its host's calls.
use Rattle.std.proofs.Common.{◌≡◌, ◌⊎◌, ⊎_elim, ℕ, suc, List, [], ◌∷◌, ◌++◌, append_assoc, refl, sym, ap, ◌∙◌, subst, arith}
use Rattle.block_disk.specs.Device.{Device, Image}
use Rattle.block_disk.specs.Memory.{Stop, moment_after}
use Rattle.disk_deferred.specs.Deferred.{Deferred, onto}
use Rattle.disk_deferred.specs.Host.{Fetches, HasLooked, HaveMet, Host}
use Rattle.disk_deferred.specs.Syncs.{LeftAt, durable_moments, moments_of, syncs_in}
use Rattle.disk_deferred.specs.declared.call.Handed.{Handed}
use Rattle.store_helper_sections.specs.Image.{ShowsCutOf}
use Rattle.rtrb.specs.Ring.{known_items}
use Rattle.thread_steps.specs.Views.{plan}
use Rattle.heap_model.specs.Past.{Past, applied}
use Rattle.trim_helper.specs.Meets.{SameHelper}
use Rattle.trim_helper.specs.Parts.{IsServing, Parts}
use Rattle.host_heap.specs.Hosting.{Hosting, SameHeap, hosted_device}
use Rattle.host_heap.specs.Meeting.{AreAllMade, FetchesAll, SameButMet, host_moment}

-- one look behind another
looked_twice : (x y z : Host) → HasLooked x y → HasLooked y z → HasLooked x z
looked_twice x y z a b = record {
  made = b.made ∙ a.made;
  left = b.left ∙ a.left;
  ring = (
    ((b.ring.0.0.0 ∙ a.ring.0.0.0, b.ring.0.0.1 ∙ a.ring.0.0.1, b.ring.0.0.2 ∙ a.ring.0.0.2, b.ring.0.0.3 ∙ a.ring.0.0.3), b.ring.0.1 ∙ a.ring.0.1),
    b.ring.1 ∙ a.ring.1,
    (a.ring.2.0 ++ b.ring.2.0, sym (append_assoc (known_items x.ring) a.ring.2.0 b.ring.2.0) ∙ ap (λ (k : List Handed). k ++ b.ring.2.0) a.ring.2.1 ∙ b.ring.2.1),
  );
}

pub asked_all : (x y z w : Host) → Fetches x y → HasLooked y z → HasLooked z w → FetchesAll x w
asked_all x y z w fetches one two = record { fetched = y; fetches = fetches; looked = looked_twice y z w one two }

front_none : {T : Type 0} (xs more : List T) → xs ++ more ≡ [] → xs ≡ []
front_none [] more is = refl
front_none (x ∷ xs) more is = absurd (let no : x ∷ (xs ++ more) ≡ [] = is in cc)

-- what is known of both stays known after a look
met_looked : (d : Deferred) (c k : Host) → HaveMet d c → HasLooked c k → HaveMet d k
met_looked d c k met looked = record {
  later = met.later;
  order = met.order ∙ (λ i. onto (onto (sym looked.made i) (sym looked.left i)) met.later);
  earlier = λ next more image split is. met.earlier next more image (sym looked.left ∙ split) (subst (λ (m : List Stop). Image (moment_after d.memory.first (onto m next)) image) looked.made is);
  synced = λ next more image split is. subst (λ (m : List Stop). LeftAt (suc (syncs_in (onto m next))) (moments_of (hosted_device d)) image) (sym looked.made)
      (met.synced next more image (sym looked.left ∙ split) (subst (λ (m : List Stop). Image (moment_after d.memory.first (onto m next)) image) looked.made is));
  all = λ none known. met.all (sym looked.left ∙ none) (front_none (known_items c.ring) looked.ring.2.0 (looked.ring.2.1 ∙ known)) ∙ ap (λ (m : List Stop). suc (syncs_in m)) (sym looked.made);
}

pub asked_met : (x y : Hosting) → HaveMet x.helper.store.disk x.calls → SameHeap x y → HasLooked x.calls y.calls → HaveMet y.helper.store.disk y.calls
asked_met x y met same looked =
    subst (λ (h : Parts Deferred). HaveMet h.store.disk y.calls) (sym same.helper) (met_looked x.helper.store.disk x.calls y.calls met looked)

pub asked_heap : (x y z w : Hosting) → SameHeap x y → SameButMet y z → SameHeap z w → SameButMet x w
asked_heap x y z w one met two = record {
  home = two.home ∙ met.home ∙ one.home;
  helper = subst (λ (h : Parts Deferred). SameHelper hosted_device h w.helper) one.helper (subst (λ (h : Parts Deferred). SameHelper hosted_device y.helper h) (sym two.helper) met.helper);
  unused = two.unused ∙ met.unused ∙ one.unused;
  out = two.out ∙ met.out ∙ one.out;
  stop = two.stop ∙ met.stop ∙ one.stop;
}

-- Where the host has made all calls, whatever a crash leaves of its device shows what the helper serves.
pub kept_at : (was now : Hosting) (p : Past) (image : List ℕ) → SameButMet was now → HaveMet now.helper.store.disk now.calls → AreAllMade now.calls → IsServing hosted_device was.helper (plan was.home) p
    → Image (host_moment now) image → ShowsCutOf was.helper.store.known.layout was.helper.store.known.threads (plan was.home) (applied p) p.cut image
kept_at was now p image same met made serving is =
    let d = hosted_device now.helper.store.disk in
    let count : durable_moments (moments_of d) ≡ suc (syncs_in now.calls.made) = met.all made.none_left made.none_known in
    let left : LeftAt (suc (syncs_in now.calls.made)) (moments_of d) image = met.synced [] [] image made.none_left is in
    let here : Image d.now image = ⊎_elim (λ at. at.1) (λ before. absurd (let many = before.0 in omega (arith, count, many))) left in
    serving.taken.has.images image (subst (λ (e : Device). Image e.now image) same.helper.device_is here)
