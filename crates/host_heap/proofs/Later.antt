-- A session stays one that may come back, over each of its calls.
use Rattle.std.proofs.Common.{ℕ, ◌≡◌, List, [], ◌∷◌, ◌++◌, All, Option, Some, None, IfSome, ap, refl, sym, ◌∙◌, subst}
use Rattle.monitor.specs.Seats.{Home}
use Rattle.monitor.specs.Words.{setting_of}
use Rattle.monitor.specs.declared.view.Plan.{Plan}
use Rattle.session.specs.declared.session.Session.{Session}
use Rattle.session.specs.declared.waiting.Waiting.{Waiting}
use Rattle.session.specs.Sessions.{IsSessionOf, IsWaitingOf, SameRing, SameRingResumed, SameRingStill, SameRingWaiting}
use Rattle.std.proofs.lemmas.List.Elements.{All-weaker}
use Rattle.thread_heap.specs.Joined.{IsJoined}
use Rattle.thread_heap.specs.Laws.{CallLaw, RingsLaw}
use Rattle.trim_helper.specs.Endings.{Rings}
use Rattle.trim_helper.specs.Moves.{SameRings}
use Rattle.heap_model.specs.declared.ids.Lane.{Lane}
use Rattle.host_heap.specs.Lanes.{BeginsJoined, IsBack, IsJoinedHere, IsLaneEnd, lane_at, lane_in}
use Rattle.host_heap.specs.Returning.{IsLater, MayReturn, MayReturnWaiting}
use Rattle.host_heap.specs.Sessions.{ResumesInPlace, SamePlace, Seated, SeatedWaiting, StillInPlace, WaitsInPlace}
use Rattle.host_heap.specs.Stopping.{Stopping}
use Rattle.host_heap.specs.declared.lane_end.LaneEnd.{LaneEnd}
use Rattle.host_heap.specs.declared.returning.Returning.{Returning}
use Rattle.rtrb.specs.declared.producer.Producer.{Producer}
use Rattle.std.specs.Global.{Global}

-- a session by its parts, and one that waits
abbrev pub seated_of : Home → Session → Producer Session Global Returning → Stopping → Seated
seated_of h x b stop = record { home = h; session = x; back = b; stop = stop }

abbrev pub waiting_of : Home → Waiting → Producer Session Global Returning → Stopping → SeatedWaiting
waiting_of h w b stop = record { home = h; waiting = w; back = b; stop = stop }

pub after_call : (h : Home) (before : List Session) (x y : Session) → IsSessionOf h x → IsSessionOf h y → SameRing x y → MayReturn before x → MayReturn before y
after_call h before x y of now same may = λ s more is.
    let was = may s more is in
    let ends = same.0.0 in
    let earlier = was.1.0.0 in (
      (now.0 ∙ sym of.0 ∙ was.0.0, now.2 ∙ sym of.2 ∙ was.0.1, now.3),
      (((ends.0 ∙ earlier.0, ends.1 ∙ earlier.1, ends.2 ∙ earlier.2, ends.3 ∙ earlier.3), same.0.1 ∙ was.1.0.1), same.1 ∙ was.1.1, same.2 ∙ was.1.2),
    )

pub after_join : (h : Home) (before : List Session) (x : Session) (w : Waiting) → IsSessionOf h x → IsWaitingOf h w → SameRingWaiting x w → MayReturn before x → MayReturnWaiting before w
after_join h before x w of now same may = λ s more is.
    let was = may s more is in
    let ends = same.0.0 in
    let earlier = was.1.0.0 in (
      (now.0 ∙ sym of.0 ∙ was.0.0, now.2 ∙ sym of.2 ∙ was.0.1, now.3),
      (((ends.0 ∙ earlier.0, ends.1 ∙ earlier.1, ends.2 ∙ earlier.2, ends.3 ∙ earlier.3), same.0.1 ∙ was.1.0.1), same.1 ∙ was.1.1, same.2 ∙ was.1.2),
    )

pub after_still : (h : Home) (before : List Session) (x w : Waiting) → IsWaitingOf h x → IsWaitingOf h w → SameRingStill x w → MayReturnWaiting before x → MayReturnWaiting before w
after_still h before x w of now same may = λ s more is.
    let was = may s more is in
    let ends = same.0.0 in
    let earlier = was.1.0.0 in (
      (now.0 ∙ sym of.0 ∙ was.0.0, now.2 ∙ sym of.2 ∙ was.0.1, now.3),
      (((ends.0 ∙ earlier.0, ends.1 ∙ earlier.1, ends.2 ∙ earlier.2, ends.3 ∙ earlier.3), same.0.1 ∙ was.1.0.1), same.1 ∙ was.1.1, same.2 ∙ was.1.2),
    )

pub after_resume : (h : Home) (before : List Session) (x : Waiting) (y : Session) → IsWaitingOf h x → IsSessionOf h y → SameRingResumed x y → MayReturnWaiting before x → MayReturn before y
after_resume h before x y of now same may = λ s more is.
    let was = may s more is in
    let ends = same.0.0 in
    let earlier = was.1.0.0 in (
      (now.0 ∙ sym of.0 ∙ was.0.0, now.2 ∙ sym of.2 ∙ was.0.1, now.3),
      (((ends.0 ∙ earlier.0, ends.1 ∙ earlier.1, ends.2 ∙ earlier.2, ends.3 ∙ earlier.3), same.0.1 ∙ was.1.0.1), same.1 ∙ was.1.1, same.2 ∙ was.1.2),
    )

-- what comes back is joined to the helper as it was when it was handed out
pub joined_later : CallLaw → (h : Home) (c : ℕ) (rings : Rings) (s x : Session) → IsJoined h c rings s → IsLater s x → IsJoined h c rings x
joined_later law h c rings s x joined later =
    let of = joined.of in
    let beside = later.0 in
    law h c rings s x joined (beside.0 ∙ of.0, ap (λ (k : Plan). setting_of k) (beside.1 ∙ of.2), beside.1 ∙ of.2, beside.2) later.1

pub joined_back : CallLaw → (h : Home) (c : ℕ) (rings : Rings) (before : List Session) (x : Session) → BeginsJoined h c rings before → MayReturn before x → IsBack h c rings (lane_in before) x
joined_back law h c rings before x begins may =
    let later = may begins.0 begins.1 begins.2 in record {
      joined = joined_later law h c rings begins.0 x begins.3 later;
      lane_is = ap (λ (l : Lane). l.0) later.1.2 ∙ sym (ap (λ (items : List Session). lane_in items) begins.2);
    }

pub lane_more : (h : Home) (c : ℕ) (rings : Rings) (before now : List Session) (x : Session) → now ≡ before ++ x ∷ [] → BeginsJoined h c rings before → lane_in now ≡ lane_in before
lane_more h c rings before now x is begins =
    ap (λ (items : List Session). lane_in items) (is ∙ ap (λ (items : List Session). items ++ x ∷ []) begins.2) ∙ sym (ap (λ (items : List Session). lane_in items) begins.2)

pub begins_more : (h : Home) (c : ℕ) (rings : Rings) (before now : List Session) (x : Session) → now ≡ before ++ x ∷ [] → BeginsJoined h c rings before → BeginsJoined h c rings now
begins_more h c rings before now x is begins = (begins.0, begins.1 ++ x ∷ [], is ∙ ap (λ (items : List Session). items ++ x ∷ []) begins.2, begins.3)

some_on : RingsLaw → (h : Home) (c : ℕ) (rings later : Rings) (lane : ℕ) (o : Option Session) → SameRings rings later → IfSome o (IsBack h c rings lane) → IfSome o (IsBack h c later lane)
some_on law h c rings later lane (Some s) same is = record { joined = law h c rings later s is.joined same; lane_is = is.lane_is }
some_on law h c rings later lane None same is = tt

-- and so over a round of the helper
pub end_on : RingsLaw → (h : Home) (c : ℕ) (rings later : Rings) (l : LaneEnd) → SameRings rings later → IsLaneEnd h c rings l → IsLaneEnd h c later l
end_on law h c rings later l same is = record {
  first = (is.first.0, is.first.1, is.first.2, law h c rings later is.first.0 is.first.3 same);
  came = some_on law h c rings later (lane_at l) l.came same is.came;
}

pub ends_on : RingsLaw → (h : Home) (c d : ℕ) (rings later : Rings) (ls : List LaneEnd) → d ≡ c → SameRings rings later → All (IsLaneEnd h c rings) ls → All (IsLaneEnd h d later) ls
ends_on law h c d rings later ls same_capacity same all =
    subst (λ (n : ℕ). All (IsLaneEnd h n later) ls) (sym same_capacity) (All-weaker (IsLaneEnd h c rings) (IsLaneEnd h c later) (λ l is. end_on law h c rings later l same is) ls all)

pub joined_on : RingsLaw → (h : Home) (c d : ℕ) (rings later : Rings) (ss : List Seated) → d ≡ c → SameRings rings later → All (IsJoinedHere h c rings) ss → All (IsJoinedHere h d later) ss
joined_on law h c d rings later ss same_capacity same all =
    subst (λ (n : ℕ). All (IsJoinedHere h n later) ss) (sym same_capacity) (All-weaker (IsJoinedHere h c rings) (IsJoinedHere h c later) (λ s is. law h c rings later s.session is same) ss all)

-- over a call the session keeps its place
pub same_place : (s : Seated) (h : Home) (x y : Session) (b : Producer Session Global Returning) (stop : Stopping) → seated_of h x b stop ≡ s → IsSessionOf h y → SameRing x y → SamePlace s (seated_of h y b stop)
same_place s h x y b stop is now same = subst (λ (t : Seated). SamePlace t (seated_of h y b stop)) is (record { home = refl; stop_is = refl; back_is = refl; of = λ was. now; ring = same })

pub waits_in_place : (s : Seated) (h : Home) (x : Session) (w : Waiting) (b : Producer Session Global Returning) (stop : Stopping) → seated_of h x b stop ≡ s → IsWaitingOf h w → SameRingWaiting x w → WaitsInPlace s (waiting_of h w b stop)
waits_in_place s h x w b stop is now same = subst (λ (t : Seated). WaitsInPlace t (waiting_of h w b stop)) is (record { home = refl; stop_is = refl; back_is = refl; of = λ was. now; ring = same })

pub resumes_in_place : (v : SeatedWaiting) (h : Home) (w : Waiting) (y : Session) (b : Producer Session Global Returning) (stop : Stopping) → waiting_of h w b stop ≡ v → IsSessionOf h y → SameRingResumed w y → ResumesInPlace v (seated_of h y b stop)
resumes_in_place v h w y b stop is now same = subst (λ (t : SeatedWaiting). ResumesInPlace t (seated_of h y b stop)) is (record { home = refl; stop_is = refl; back_is = refl; of = λ was. now; ring = same })

pub still_in_place : (v : SeatedWaiting) (h : Home) (w x : Waiting) (b : Producer Session Global Returning) (stop : Stopping) → waiting_of h w b stop ≡ v → IsWaitingOf h x → SameRingStill w x → StillInPlace v (waiting_of h x b stop)
still_in_place v h w x b stop is now same = subst (λ (t : SeatedWaiting). StillInPlace t (waiting_of h x b stop)) is (record { home = refl; stop_is = refl; back_is = refl; of = λ was. now; ring = same })
