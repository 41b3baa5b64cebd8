-- The heap's device goes on.
use Rattle.std.proofs.Common.{◌≡◌, ◌⊎◌, inl, inr, ℕ, suc, ◌+◌, ◌<◌, ◌≤◌, List, [], ◌∷◌, ◌++◌, length, drop, refl, sym, ◌∙◌, ap, subst, arith, length-append}
use Rattle.std.proofs.lemmas.List.{drop-append-le, drop_all}
use Rattle.std.proofs.lemmas.List.Elements.{All-nil}
use Rattle.block_disk.proofs.Ranges.{outside_refl}
use Rattle.block_disk.specs.Device.{Device, Image, LeftIn, LeftSince, Moment, SameOutside, new_device, synced, written}
use Rattle.block_disk.proofs.Images.{only_now}
use Rattle.block_disk.specs.Memory.{Stop, Synced, Wrote}
use Rattle.block_disk.specs.Traced.{Traced, and_synced, and_written, begun}
use Rattle.atomic_sectors.specs.Left.{AlwaysWhole, LeavesWhole}
use Rattle.atomic_sectors.proofs.Calculus.{always_only, leaves_then, leaves_weaker}
use Rattle.journal_batches.specs.declared.areas.Areas.{Areas}
use Rattle.journal_batches.specs.Shown.{shown}
use Rattle.journal_batches.specs.Spelled.{pages_for}
use Rattle.disk_deferred.specs.Joined.{at_sync}
use Rattle.disk_journal.specs.Disks.{FitsBatch, Layered, SameBelow}
use Rattle.disk_journal.specs.Labels.{HasLabel}
use Rattle.host_journal.specs.Hosted.{StandsFor}
use Rattle.host_journal.specs.Gathered.{FitsAll, IsBehind, IsCounted, IsGathering, IsHosted, IsPending, IsTurned, KeepsOn, LeavesSince, laid, rest_of, words_in, words_of}
use Rattle.host_journal.specs.Taken.{Adds, SameParts, TakesNone}
use Rattle.host_journal.specs.declared.gathering.Gathering.{Gathering}
use Rattle.host_journal.specs.declared.piece.Piece.{Piece}
use Rattle.host_journal.proofs.Pieces.{behind_added, behind_synced, words_append}
use Rattle.host_journal.proofs.Turning.{below_none, reads_now, take_none}

-- what holds of more images
pub stands_more : (P Q : List ℕ → Type 0) (a : Areas) → ((image : List ℕ) → P image → Q image) → (left : List ℕ) → StandsFor a P left → StandsFor a Q left
stands_more P Q a to left s = record { label = s.label; image = to (shown a left) s.image }

-- the parts stay as they are, whatever the device
pub hosted_kept : (old new : Gathering) (trace : Traced) (marks : List Stop) → KeepsOn old new → IsHosted old trace marks → IsHosted new trace marks
hosted_kept old new trace marks keeps is = record { gathers = keeps trace.device (length (at_sync marks)) is.gathers; count = is.count }

-- One more moment of the heap's device, of which the journal knows nothing.
later : (heap new : Device) (base : ℕ) (g : Gathering) → new.past ≡ heap.now ∷ heap.past → IsBehind new.now g.disk.device.now.bytes (rest_of g) → IsGathering heap base g
    → IsGathering new base g
later heap new base g past behind is =
    let recent = is.recent in
    let more : (image : List ℕ) → LeftSince base heap image → LeftSince base new image = λ image left. since heap new base image past left in
    record {
      behind = behind;
      counted = is.counted;
      few = is.few;
      turned = is.turned;
      recent = omega (arith, recent, ap length past);
      possible = elim is.possible [ inl fits ↦ inl fits | inr shows ↦ inr (λ image left. more image (shows image left)) ];
      crash = λ left now. stands_more (LeftSince base heap) (LeftSince base new) g.disk.areas more left (is.crash left now);
    }
  where
    since : (heap new : Device) (base : ℕ) (image : List ℕ) → new.past ≡ heap.now ∷ heap.past → LeftSince base heap image → LeftSince base new image
    since heap new base image past left = inr (subst (λ (ms : List Moment). LeftIn base ms image) (sym past) left)

-- An order.
pub hosted_ordered : (g : Gathering) (trace next : Traced) (marks : List Stop) (at : ℕ) (bytes : List ℕ) → g.group.items ≡ [] → next ≡ and_synced trace
    → IsHosted g trace marks → IsHosted g next (Wrote at bytes ∷ marks)
hosted_ordered g trace next marks at bytes none is hosted =
    let rest : rest_of g ≡ [] = drop_all g.moved g.group.items (omega (arith, ap length none)) in
    let behind : IsBehind (synced trace.device).now g.disk.device.now.bytes (rest_of g) =
    subst (λ (ps : List Piece). IsBehind (synced trace.device).now g.disk.device.now.bytes ps) (sym rest)
    (behind_synced trace.device g.disk.device.now.bytes (subst (λ (ps : List Piece). IsBehind trace.device.now g.disk.device.now.bytes ps) rest hosted.gathers.behind)) in
    let count = hosted.count in
    let ordered : IsHosted g (and_synced trace) (Wrote at bytes ∷ marks) = record {
      gathers = later trace.device (synced trace.device) (length (at_sync marks)) g refl behind hosted.gathers;
      count = omega (arith, count);
    } in
    subst (λ (t : Traced). IsHosted g t (Wrote at bytes ∷ marks)) (sym is) ordered

-- A sync, once the journal has made a turn of all.
pub hosted_synced : (g : Gathering) (trace next : Traced) (marks : List Stop) → g.group.items ≡ [] → g.taken ≡ 0 → next ≡ and_synced trace → IsHosted g trace marks
    → IsHosted g next (Synced ∷ marks)
hosted_synced g trace next marks none turned is hosted =
    let heap = trace.device in
    let a = g.disk.areas in
    let base = length (at_sync marks) in
    let count = hosted.count in
    let rest : rest_of g ≡ [] = drop_all g.moved g.group.items (omega (arith, ap length none)) in
    let all : IsBehind heap.now g.disk.device.now.bytes [] = subst (λ (ps : List Piece). IsBehind heap.now g.disk.device.now.bytes ps) rest hosted.gathers.behind in
    let after : IsBehind (synced heap).now g.disk.device.now.bytes [] = behind_synced heap g.disk.device.now.bytes all in
    let behind : IsBehind (synced heap).now g.disk.device.now.bytes (rest_of g) = subst (λ (ps : List Piece). IsBehind (synced heap).now g.disk.device.now.bytes ps) (sym rest) after in
    let d : IsTurned g.disk = hosted.gathers.turned turned in
    let was : StandsFor a (LeftSince base heap) g.disk.disk.now.bytes = reads_now g.disk.disk (StandsFor a (LeftSince base heap)) hosted.gathers.crash in
    let n = suc (length marks) in
    let new = synced heap in
    let recent : n ≤ length new.past = omega (arith, count) in
    let here : LeftSince n new g.disk.device.now.bytes = inl (recent, after.image) in
    let stands : StandsFor a (LeftSince n new) g.disk.disk.now.bytes =
    record { label = was.label; image = subst (λ (xs : List ℕ). LeftSince n new xs) (sym d.settled.image) here } in
    let synced_now : IsHosted g (and_synced trace) (Synced ∷ marks) = record {
      gathers = record {
        behind = behind;
        counted = hosted.gathers.counted;
        few = hosted.gathers.few;
        turned = hosted.gathers.turned;
        recent = recent;
        possible = inr (λ image left. subst (λ (xs : List ℕ). LeftSince n new xs) (sym (only_now g.disk.device image d.durable left)) here);
        crash = always_only g.disk.disk (StandsFor a (LeftSince n new)) d.settled.durable stands;
      };
      count = omega (arith, count);
    } in
    subst (λ (t : Traced). IsHosted g t (Synced ∷ marks)) (sym is) synced_now

-- A write that is kept.
pub hosted_written : (at : ℕ) (bytes : List ℕ) (old new : Gathering) (trace next : Traced) (marks : List Stop) → at + length bytes ≤ length old.disk.device.now.bytes
    → Adds at bytes old new → next ≡ and_written at bytes trace → IsHosted old trace marks → IsHosted new next (Wrote at bytes ∷ marks)
hosted_written at bytes old new trace next marks fits adds is hosted =
    let heap = trace.device in
    let base = length (at_sync marks) in
    let p = adds.piece in
    let gathers = hosted.gathers in
    let count = hosted.count in
    let within : p.at + length p.bytes.items ≤ length heap.now.bytes = omega (arith, fits, adds.place, ap length adds.bytes_are, gathers.behind.image.size) in
    let le = gathers.counted.moved in
    let rest : rest_of new ≡ rest_of old ++ p ∷ [] =
    (λ i. drop (adds.moved i) (adds.group i)) ∙ drop-append-le old.moved old.group.items (p ∷ []) le in
    let same : written p.at p.bytes.items heap ≡ written at bytes heap = λ i. written (adds.place i) (adds.bytes_are i) heap in
    let after : IsBehind (written at bytes heap).now old.disk.device.now.bytes (rest_of new) =
    subst (λ (d : Device). IsBehind d.now old.disk.device.now.bytes (rest_of new)) same
    (subst (λ (ps : List Piece). IsBehind (written p.at p.bytes.items heap).now old.disk.device.now.bytes ps) (sym rest)
    (behind_added heap old.disk.device.now.bytes (rest_of old) p within gathers.behind)) in
    let words_were = gathers.counted.words in
    let words_rest : words_of (rest_of new) ≡ words_of (rest_of old) + words_of (p ∷ []) = ap words_of rest ∙ words_append (rest_of old) (p ∷ []) in
    let long : length p.bytes.items ≡ length bytes = ap length adds.bytes_are in
    let words_piece : words_of (p ∷ []) ≡ words_in (length bytes) = omega (arith, long) in
    let words = adds.words in
    let taken = adds.taken in
    let moved = adds.moved in
    let len : length new.group.items ≡ length old.group.items + 1 = ap length adds.group ∙ length-append old.group.items (p ∷ []) in
    let few = gathers.few in
    let waiting : new.disk.waiting ≡ old.disk.waiting = λ i. (adds.disk i).waiting in
    let kept : IsGathering heap base old = gathers in
    let more : (image : List ℕ) → LeftSince base heap image → LeftSince base (written at bytes heap) image = λ image left. inr left in
    let recent = gathers.recent in
    let now : IsHosted new (and_written at bytes trace) (Wrote at bytes ∷ marks) = record {
      gathers = record {
        behind = subst (λ (d : Layered). IsBehind (written at bytes heap).now d.device.now.bytes (rest_of new)) (sym adds.disk) after;
        counted = record { moved = omega (arith, moved, le, len); words = omega (arith, words, words_were, words_rest, words_piece, taken) };
        few = omega (arith, few, waiting, taken);
        turned = λ none. subst (λ (d : Layered). IsTurned d) (sym adds.disk) (gathers.turned (sym taken ∙ none));
        recent = omega (arith, recent);
        possible =
            subst (λ (d : Layered). FitsBatch d ⊎ ((image : List ℕ) → Image d.device.now image → LeftSince base (written at bytes heap) image)) (sym adds.disk)
            (elim gathers.possible [ inl fit ↦ inl fit | inr shows ↦ inr (λ image left. more image (shows image left)) ]);
        crash =
            subst (λ (d : Layered). AlwaysWhole d.disk (StandsFor d.areas (LeftSince base (written at bytes heap)))) (sym adds.disk)
            (λ left is_left. stands_more (LeftSince base heap) (LeftSince base (written at bytes heap)) old.disk.areas more left (gathers.crash left is_left));
      };
      count = omega (arith, count);
    } in
    subst (λ (t : Traced). IsHosted new t (Wrote at bytes ∷ marks)) (sym is) now

-- A write that is refused.
pub hosted_same : (old new : Gathering) (trace : Traced) (marks : List Stop) → SameParts old new → new.disk ≡ old.disk → IsHosted old trace marks → IsHosted new trace marks
hosted_same old new trace marks s disk is =
    hosted_kept old new trace marks
    (λ heap base held.
    take_none heap base old new
    (subst (λ (d : Layered). TakesNone old.disk d) (sym disk)
    (record { device = record { name = refl; now = refl; past = refl }; below = below_none old.disk; waiting = refl }))
    s held)
    is

-- A journal that was found or made.
pub hosted_new : (g : Gathering) (trace : Traced) (marks : Traced) (bytes : List ℕ) → g.disk.device ≡ new_device g.disk.device.now.bytes → IsTurned g.disk
    → HasLabel g.disk.areas g.disk.disk.now.bytes → g.group.items ≡ [] → g.moved ≡ 0 → g.taken ≡ 0 → g.words ≡ 0 → bytes ≡ g.disk.device.now.bytes
    → trace ≡ begun bytes → marks ≡ begun [] → IsHosted g trace marks.stops
hosted_new g trace marks bytes device turned label none moved taken words same is empty =
    let heap = new_device bytes in
    let a = g.disk.areas in
    let rest : rest_of g ≡ [] = drop_all g.moved g.group.items (omega (arith, ap length none)) in
    let image : Image heap.now g.disk.device.now.bytes = subst (λ (xs : List ℕ). SameOutside [] bytes xs) same (outside_refl [] bytes) in
    let behind : IsBehind heap.now g.disk.device.now.bytes [] = record { reads = same; pending = All-nil (IsPending heap.now); image = image } in
    let here : LeftSince 0 heap g.disk.device.now.bytes = inl (omega arith, image) in
    let waiting = turned.settled.waiting in
    let words_rest : words_of (rest_of g) ≡ 0 = ap words_of rest in
    let hosted : IsHosted g (begun bytes) [] = record {
      gathers = record {
        behind = subst (λ (ps : List Piece). IsBehind heap.now g.disk.device.now.bytes ps) (sym rest) behind;
        counted = record { moved = omega (arith, moved); words = omega (arith, words, taken, words_rest) };
        few = omega (arith, waiting);
        turned = λ z. turned;
        recent = omega arith;
        possible = inr (λ left is_left. subst (λ (xs : List ℕ). LeftSince 0 heap xs) (sym (only_now g.disk.device left turned.durable is_left)) here);
        crash =
            always_only g.disk.disk (StandsFor a (LeftSince 0 heap)) turned.settled.durable
            (record { label = label; image = subst (λ (xs : List ℕ). LeftSince 0 heap xs) (sym turned.settled.image) here });
      };
      count = refl;
    } in
    subst (λ (stops : List Stop). IsHosted g trace stops) (λ i. (sym empty i).stops) (subst (λ (t : Traced). IsHosted g t []) (sym is) hosted)

-- Calls, and then others.
pub leaves_both : (old mid new : Gathering) → KeepsOn old mid → mid.disk.areas ≡ old.disk.areas → LeavesSince old mid → LeavesSince mid new → LeavesSince old new
leaves_both old mid new keeps areas a b heap base is =
    leaves_then (a heap base is)
    (subst (λ (e : Areas). LeavesWhole mid.disk.disk new.disk.disk (StandsFor e (LeftSince base heap))) areas (b heap base (keeps heap base is)))

-- and the heap's device has one moment more
pub leaves_on : (old new : Gathering) (trace next : Traced) (marks : List Stop) → LeavesSince old new → next ≡ and_synced trace → IsHosted old trace marks
    → LeavesWhole old.disk.disk new.disk.disk (StandsFor old.disk.areas (LeftSince (length (at_sync marks)) next.device))
leaves_on old new trace next marks leaves is hosted =
    let base = length (at_sync marks) in
    let P = StandsFor old.disk.areas (LeftSince base trace.device) in
    subst (λ (t : Traced). LeavesWhole old.disk.disk new.disk.disk (StandsFor old.disk.areas (LeftSince base t.device))) (sym is)
    (leaves_weaker (λ left s. stands_more (LeftSince base trace.device) (LeftSince base (synced trace.device)) old.disk.areas (λ image now. inr now) left s)
    (leaves trace.device base hosted.gathers))

-- The journal has all that was written.
pub image_now : (g : Gathering) (trace : Traced) (marks : List Stop) → g.group.items ≡ [] → IsHosted g trace marks → g.disk.device.now.bytes ≡ trace.device.now.bytes
image_now g trace marks none is =
    let rest : rest_of g ≡ [] = drop_all g.moved g.group.items (omega (arith, ap length none)) in
    sym (is.gathers.behind.reads ∙ ap (λ (ps : List Piece). laid ps g.disk.device.now.bytes) rest)

-- And after a turn a crash leaves just that.
pub durable_now : (g : Gathering) (trace : Traced) (marks : List Stop) → g.group.items ≡ [] → g.taken ≡ 0 → IsHosted g trace marks
    → AlwaysWhole g.disk.disk (StandsFor g.disk.areas (λ image. image ≡ trace.device.now.bytes))
durable_now g trace marks none turned is =
    let a = g.disk.areas in
    let P = StandsFor a (LeftSince (length (at_sync marks)) trace.device) in
    let was : StandsFor a (LeftSince (length (at_sync marks)) trace.device) g.disk.disk.now.bytes = reads_now g.disk.disk P is.gathers.crash in
    let d : IsTurned g.disk = is.gathers.turned turned in
    always_only g.disk.disk (StandsFor a (λ image. image ≡ trace.device.now.bytes)) d.settled.durable
    (record { label = was.label; image = d.settled.image ∙ image_now g trace marks none is })

-- All that the journal has taken fits into one batch.
pub all_fit : (g : Gathering) (trace : Traced) (marks : List Stop) (old : Gathering) → IsHosted g trace marks → g.words ≡ old.words → g.disk.areas ≡ old.disk.areas
    → FitsAll old → FitsBatch g.disk
all_fit g trace marks old is words areas fits =
    let count = is.gathers.counted.words in
    let few = is.gathers.few in
    let half : g.disk.areas.half ≡ old.disk.areas.half = λ i. (areas i).half in
    omega (arith, count, words, fits, few, half)

pub one_batch : (g : Gathering) (trace : Traced) (marks : List Stop) (old : Gathering) → g.group.items ≡ [] → IsHosted g trace marks → g.words ≡ old.words
    → g.disk.areas ≡ old.disk.areas → FitsAll old → 0 < old.words → (0 < g.taken) × FitsBatch g.disk × (pages_for g.taken ≤ g.disk.areas.half)
one_batch g trace marks old none is words areas fits some =
    let rest : rest_of g ≡ [] = drop_all g.moved g.group.items (omega (arith, ap length none)) in
    let count = is.gathers.counted.words in
    let words_rest : words_of (rest_of g) ≡ 0 = ap words_of rest in
    let half : g.disk.areas.half ≡ old.disk.areas.half = λ i. (areas i).half in
    (omega (arith, count, words_rest, words, some), all_fit g trace marks old is words areas fits, omega (arith, count, words, fits, half))

-- Nothing was written.
pub idle_now : (g : Gathering) → IsCounted g → g.words ≡ 0 → g.taken ≡ 0
idle_now g is none = let count = is.words in omega (arith, count, none)

pub idle_both : (old mid new : Gathering) → IsCounted old → IsCounted mid → mid.words ≤ old.words → (old.taken ≡ 0 → SameBelow old.disk mid.disk)
    → (mid.taken ≡ 0 → new ≡ mid) → old.words ≡ 0 → new.disk.disk ≡ old.disk.disk
idle_both old mid new is then fewer first second none =
    let same = second (idle_now mid then (omega (arith, fewer, none))) in (λ i. (same i).disk.disk) ∙ (first (idle_now old is none)).disk

pub idle_turns : (old mid new : Gathering) → IsCounted old → IsCounted mid → mid.words ≤ old.words → (old.taken ≡ 0 → mid.turns ≡ old.turns)
    → (mid.taken ≡ 0 → new ≡ mid) → old.words ≡ 0 → new.turns ≡ old.turns
idle_turns old mid new is then fewer first second none =
    let same = second (idle_now mid then (omega (arith, fewer, none))) in (λ i. (same i).turns) ∙ first (idle_now old is none)

-- All that was written has become durable.
pub none_kept : (mid new : Gathering) → IsCounted mid → mid.group.items ≡ [] → new.words + mid.taken ≡ mid.words → new.words ≡ 0
none_kept mid new is none words =
    let rest : rest_of mid ≡ [] = drop_all mid.moved mid.group.items (omega (arith, ap length none)) in
    let count = is.words in
    let words_rest : words_of (rest_of mid) ≡ 0 = ap words_of rest in
    omega (arith, words, count, words_rest)
