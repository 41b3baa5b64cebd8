-- A journal takes what was written, and makes turns.
use Rattle.std.proofs.Common.{◌≡◌, ◌≢◌, ◌⊎◌, inl, inr, ⊎_elim, ℕ, zero, suc, ◌+◌, ◌*◌, ◌≤◌, true, false, List, [], ◌∷◌, length, take, drop, refl, sym, ◌∙◌, ap, subst, arith}
use Rattle.std.proofs.lemmas.Bool.{cases_Bool}
use Rattle.std.proofs.lemmas.List.{drop_all}
use Rattle.std.proofs.lemmas.List.Elements.{All-head}
use Rattle.block_disk.specs.Bytes.{spliced}
use Rattle.block_disk.specs.Device.{Device, Image, LeftSince, Moment, SameMoments, synced}
use Rattle.block_disk.proofs.Images.{only_now}
use Rattle.atomic_sectors.specs.Left.{AlwaysWhole, LeavesWhole, MixedNow}
use Rattle.atomic_sectors.proofs.Calculus.{leaves_begin, leaves_weaker, since_always}
use Rattle.journal_batches.specs.declared.areas.Areas.{Areas}
use Rattle.journal_batches.specs.Areas.{half_bytes}
use Rattle.journal_batches.specs.Shown.{shown}
use Rattle.journal_batches.specs.Spelled.{pages_for}
use Rattle.disk_journal.specs.Disks.{FitsBatch, IsSettled, Layered, SameBelow, ShowsDisk, ShowsOldOrNew}
use Rattle.disk_journal.specs.Labels.{HasLabel}
use Rattle.disk_journal.specs.Stands.{Stands}
use Rattle.host_journal.specs.Hosted.{StandsFor}
use Rattle.host_journal.specs.Gathered.{FitsAll, IsBehind, IsCounted, IsGathering, IsPending, IsTurned, TakesOn, rest_of, words_in, words_of}
use Rattle.host_journal.specs.Taken.{Gathers, SameParts, TakesNext, TakesNone, Turns}
use Rattle.host_journal.specs.declared.gathering.Gathering.{Gathering}
use Rattle.host_journal.specs.declared.piece.Piece.{Piece}
use Rattle.host_journal.proofs.Pieces.{behind_taken, image_taken}

-- what each image has, what reads has
pub reads_now : (d : Device) (P : List ℕ → Type 0) → AlwaysWhole d P → P d.now.bytes
reads_now d P always =
    let mix : MixedNow d d.now.bytes = record {
      size = (0, d.now.bytes, omega arith, refl, refl);
      each = λ i. (0, d.now.bytes, omega arith, refl, refl);
    } in
    always d.now.bytes mix

take_first : (n m : ℕ) (xs : List ℕ) → n ≤ m → take n xs ≡ take n (take m xs)
take_first zero m xs le = refl
take_first (suc n) zero xs le = absurd (omega (arith, le))
take_first (suc n) (suc m) [] le = refl
take_first (suc n) (suc m) (x ∷ xs) le = ap (λ (ys : List ℕ). x ∷ ys) (take_first n m xs (omega (arith, le)))

-- the label stays with the first page
pub label_kept : (a : Areas) (before left : List ℕ) → take 4096 left ≡ take 4096 before → HasLabel a before → HasLabel a left
label_kept a before left same label =
    take_first 24 4096 left (omega arith) ∙ ap (take 24) same ∙ sym (take_first 24 4096 before (omega arith)) ∙ label

pub stands_for : (a : Areas) (before : List ℕ) (P Q : List ℕ → Type 0) (left : List ℕ) → HasLabel a before → ((image : List ℕ) → P image → Q image)
    → Stands a before P left → StandsFor a Q left
stands_for a before P Q left label to s = record { label = label_kept a before left s.label label; image = to (shown a left) s.image }

-- A crash in a turn, whatever comes of it.
pub turn_leaves : (heap : Device) (base : ℕ) (g : Gathering) (new : Layered) → IsGathering heap base g → LeavesWhole g.disk.disk new.disk (ShowsDisk g.disk)
    → (FitsBatch g.disk → g.disk.is_over ≡ false → LeavesWhole g.disk.disk new.disk (ShowsOldOrNew g.disk)) → (g.disk.is_over ≡ true → SameBelow g.disk new)
    → LeavesWhole g.disk.disk new.disk (StandsFor g.disk.areas (LeftSince base heap))
turn_leaves heap base g new is any old_or_new over =
    let a = g.disk.areas in
    let before = g.disk.disk.now.bytes in
    let P = StandsFor a (LeftSince base heap) in
    let was : StandsFor a (LeftSince base heap) before = reads_now g.disk.disk P is.crash in
    let held : LeftSince base heap g.disk.device.now.bytes = inl (is.recent, is.behind.image) in
    elim is.possible [
      | inl fits ↦ elim (cases_Bool g.disk.is_over) [
        | inl stopped ↦ subst (λ (d : Device). LeavesWhole g.disk.disk d P) (sym (over stopped).disk) leaves_begin
        | inr works ↦
            leaves_weaker
            (λ left s.
            stands_for a before (λ image. (image ≡ shown a before) ⊎ (image ≡ g.disk.device.now.bytes)) (LeftSince base heap) left was.label
            (λ image e. ⊎_elim (λ old. subst (LeftSince base heap) (sym old) was.image) (λ now. subst (LeftSince base heap) (sym now) held) e) s)
            (old_or_new fits works)
      ]
      | inr shows ↦ leaves_weaker (λ left s. stands_for a before (λ image. Image g.disk.device.now image) (LeftSince base heap) left was.label shows s) any
    ]

-- Where what the journal has taken fits into one batch.
pub turn_whole : (old new : Layered) → (FitsBatch old → old.is_over ≡ false → LeavesWhole old.disk new.disk (ShowsOldOrNew old)) → (old.is_over ≡ true → SameBelow old new)
    → FitsBatch old → LeavesWhole old.disk new.disk (ShowsOldOrNew old)
turn_whole old new old_or_new over fits = elim (cases_Bool old.is_over) [
  | inl stopped ↦ subst (λ (d : Device). LeavesWhole old.disk d (ShowsOldOrNew old)) (sym (over stopped).disk) leaves_begin
  | inr works ↦ old_or_new fits works
]

-- A turn that fails.
pub turn_failed : (heap : Device) (base : ℕ) (old new : Gathering) → IsGathering heap base old
    → LeavesWhole old.disk.disk new.disk.disk (StandsFor old.disk.areas (LeftSince base heap)) → SameMoments old.disk.device new.disk.device
    → new.disk.waiting ≡ old.disk.waiting → new.disk.areas ≡ old.disk.areas → old.taken ≢ 0
    → new.group ≡ old.group → new.moved ≡ old.moved → new.taken ≡ old.taken → new.words ≡ old.words → IsGathering heap base new
turn_failed heap base old new is leaves same waiting areas some group moved taken words =
    let rest : rest_of new ≡ rest_of old = λ i. drop (moved i) (group i).items in
    let count = is.counted.words in
    let within = is.counted.moved in
    let few = is.few in
    record {
      behind = subst (λ (ps : List Piece). IsBehind heap.now new.disk.device.now.bytes ps) (sym rest)
          (subst (λ (m : Moment). IsBehind heap.now m.bytes (rest_of old)) (sym same.now) is.behind);
      counted = record {
        moved = subst (λ (n : ℕ). n ≤ length new.group.items) (sym moved) (subst (λ (v : _). old.moved ≤ length v.items) (sym group) within);
        words = words ∙ count ∙ (λ i. sym taken i + words_of (sym rest i));
      };
      few = omega (arith, few, waiting, taken);
      turned = λ none. absurd (some (sym taken ∙ none));
      recent = is.recent;
      possible = elim is.possible [
        | inl fits ↦ inl (subst (λ (n : ℕ). pages_for n * 4096 ≤ half_bytes new.disk.areas) (sym waiting)
            (subst (λ (a : Areas). pages_for old.disk.waiting * 4096 ≤ half_bytes a) (sym areas) fits))
        | inr shows ↦ inr (λ image left. shows image (subst (λ (m : Moment). Image m image) same.now left))
      ];
      crash = subst (λ (a : Areas). AlwaysWhole new.disk.disk (StandsFor a (LeftSince base heap))) (sym areas) (since_always leaves is.crash);
    }

-- A turn that succeeds.
pub turn_done : (heap : Device) (base : ℕ) (old new : Gathering) → IsGathering heap base old
    → LeavesWhole old.disk.disk new.disk.disk (StandsFor old.disk.areas (LeftSince base heap)) → new.disk.device ≡ synced old.disk.device
    → IsSettled new.disk → new.disk.areas ≡ old.disk.areas → new.group ≡ old.group → new.moved ≡ old.moved → new.taken ≡ 0
    → new.words + old.taken ≡ old.words → IsGathering heap base new
turn_done heap base old new is leaves device settled areas group moved taken words =
    let rest : rest_of new ≡ rest_of old = λ i. drop (moved i) (group i).items in
    let count = is.counted.words in
    let within = is.counted.moved in
    let same_words : words_of (rest_of new) ≡ words_of (rest_of old) = ap words_of rest in
    let none = settled.waiting in
    let durable : new.disk.device.now.pending ≡ [] = λ i. (device i).now.pending in
    let bytes : new.disk.device.now.bytes ≡ old.disk.device.now.bytes = λ i. (device i).now.bytes in
    let image : Image heap.now new.disk.device.now.bytes = subst (λ (xs : List ℕ). Image heap.now xs) (sym bytes) is.behind.image in
    record {
      behind = subst (λ (ps : List Piece). IsBehind heap.now new.disk.device.now.bytes ps) (sym rest)
          (subst (λ (xs : List ℕ). IsBehind heap.now xs (rest_of old)) (sym bytes) is.behind);
      counted = record {
        moved = subst (λ (n : ℕ). n ≤ length new.group.items) (sym moved) (subst (λ (v : _). old.moved ≤ length v.items) (sym group) within);
        words = omega (arith, words, count, same_words, taken);
      };
      few = omega (arith, none);
      turned = λ z. record { settled = settled; durable = durable };
      recent = is.recent;
      possible = inr (λ left is_left. inl (is.recent, subst (λ (xs : List ℕ). Image heap.now xs) (sym (only_now new.disk.device left durable is_left)) image));
      crash = subst (λ (a : Areas). AlwaysWhole new.disk.disk (StandsFor a (LeftSince base heap))) (sym areas) (since_always leaves is.crash);
    }

-- The counts stay right.
pub counted_step : (old new : Gathering) → TakesNext old new → IsCounted old → IsCounted new
counted_step old new t is =
    let words_before : words_of (rest_of old) ≡ words_in (length t.piece.bytes.items) + words_of t.more = ap words_of t.before in
    let words_after : words_of (rest_of new) ≡ words_of t.more = ap words_of t.after in
    let count = is.words in
    let taken = t.taken in
    let words = t.words in
    record { moved = t.moved; words = omega (arith, words, taken, count, words_before, words_after) }

pub below_then : (old mid new : Layered) → SameBelow old mid → SameBelow mid new → SameBelow old new
below_then old mid new a b = record { disk = b.disk ∙ a.disk; areas = b.areas ∙ a.areas; is_over = b.is_over ∙ a.is_over }

pub below_none : (d : Layered) → SameBelow d d
below_none d = record { disk = refl; areas = refl; is_over = refl }

-- The journal takes a write, with which all fits into one batch, or which the heap's device has pending as all else that the journal has taken since the last turn.
pub take_step : (heap : Device) (base : ℕ) (old new : Gathering) → TakesNext old new → IsGathering heap base old → TakesOn heap old
    → IsGathering heap base new × TakesOn heap new
take_step heap base old new t is on =
    let p = t.piece in
    let n = length p.bytes.items in
    let was = is.behind in
    let behind : IsBehind heap.now old.disk.device.now.bytes (p ∷ t.more) = subst (λ (ps : List Piece). IsBehind heap.now old.disk.device.now.bytes ps) t.before was in
    let head : IsPending heap.now p = All-head (IsPending heap.now) p t.more behind.pending in
    let fits : p.at + n ≤ length old.disk.device.now.bytes = omega (arith, head.0, was.image.size) in
    let bytes : new.disk.device.now.bytes ≡ spliced old.disk.device.now.bytes p.at p.bytes.items = λ i. (t.write.device i).now.bytes in
    let later : IsBehind heap.now new.disk.device.now.bytes (rest_of new) =
    subst (λ (ps : List Piece). IsBehind heap.now new.disk.device.now.bytes ps) (sym t.after)
    (subst (λ (xs : List ℕ). IsBehind heap.now xs t.more) (sym bytes) (behind_taken heap.now old.disk.device.now.bytes p t.more behind)) in
    let counted = counted_step old new t is.counted in
    let counts = counted.words in
    let few = is.few in
    let waiting = t.write.waiting in
    let taken = t.taken in
    let words = t.words in
    let few_now : new.disk.waiting ≤ new.taken = omega (arith, waiting, few, taken) in
    let goes_on : TakesOn heap new = elim on [
      | inl all ↦ inl (subst (λ (k : ℕ). pages_for k ≤ new.disk.areas.half) (sym words) (subst (λ (a : Areas). pages_for old.words ≤ a.half) (sym t.write.below.areas) all))
      | inr only ↦ inr (λ image left. image_taken heap.now old.disk.device p head fits only image
          (subst (λ (d : Device). Image d.now image) t.write.device left))
    ] in (
      record {
        behind = later;
        counted = counted;
        few = few_now;
        turned = λ none. absurd (omega (arith, taken, none));
        recent = is.recent;
        possible = elim goes_on [
          | inl all ↦ inl (omega (arith, all, few_now, counts))
          | inr only ↦ inr (λ image left. inl (is.recent, only image left))
        ];
        crash = subst (λ (d : Device). AlwaysWhole d (StandsFor new.disk.areas (LeftSince base heap))) (sym t.write.below.disk)
            (subst (λ (a : Areas). AlwaysWhole old.disk.disk (StandsFor a (LeftSince base heap))) (sym t.write.below.areas) is.crash);
      },
      goes_on,
    )

-- It takes none.
pub take_none : (heap : Device) (base : ℕ) (old new : Gathering) → TakesNone old.disk new.disk → SameParts old new → IsGathering heap base old
    → IsGathering heap base new
take_none heap base old new t s is =
    let rest : rest_of new ≡ rest_of old = λ i. drop (s.moved i) (s.group i) in
    let same_words : words_of (rest_of new) ≡ words_of (rest_of old) = ap words_of rest in
    let count = is.counted.words in
    let within = is.counted.moved in
    let few = is.few in
    let waiting = t.waiting in
    let taken = s.taken in
    let words = s.words in
    let moved = s.moved in
    let long : length new.group.items ≡ length old.group.items = ap length s.group in
    record {
      behind = subst (λ (ps : List Piece). IsBehind heap.now new.disk.device.now.bytes ps) (sym rest)
          (subst (λ (m : Moment). IsBehind heap.now m.bytes (rest_of old)) (sym t.device.now) is.behind);
      counted = record { moved = omega (arith, within, moved, long); words = omega (arith, words, count, same_words, taken) };
      few = omega (arith, few, waiting, taken);
      turned = λ none. turned_same old.disk new.disk t (is.turned (sym taken ∙ none));
      recent = is.recent;
      possible = elim is.possible [
        | inl fits ↦ inl (subst (λ (n : ℕ). pages_for n * 4096 ≤ half_bytes new.disk.areas) (sym waiting)
            (subst (λ (a : Areas). pages_for old.disk.waiting * 4096 ≤ half_bytes a) (sym t.below.areas) fits))
        | inr shows ↦ inr (λ image left. shows image (subst (λ (m : Moment). Image m image) t.device.now left))
      ];
      crash = subst (λ (d : Device). AlwaysWhole d (StandsFor new.disk.areas (LeftSince base heap))) (sym t.below.disk)
          (subst (λ (a : Areas). AlwaysWhole old.disk.disk (StandsFor a (LeftSince base heap))) (sym t.below.areas) is.crash);
    }
  where
    turned_same : (old new : Layered) → TakesNone old new → IsTurned old → IsTurned new
    turned_same old new t is = record {
      settled = record {
        durable = (λ i. (t.below.disk i).now.pending) ∙ is.settled.durable;
        image = (λ i. shown (t.below.areas i) (t.below.disk i).now.bytes) ∙ is.settled.image ∙ (λ i. (sym t.device.now i).bytes);
        waiting = t.waiting ∙ is.settled.waiting;
      };
      durable = (λ i. (t.device.now i).pending) ∙ is.durable;
    }

-- After a turn the journal holds only what one crash of the heap's device may leave.
pub turned_on : (heap : Device) (base : ℕ) (g : Gathering) → IsGathering heap base g → g.taken ≡ 0 → TakesOn heap g
turned_on heap base g is none =
    inr (λ image left. subst (λ (xs : List ℕ). Image heap.now xs) (sym (only_now g.disk.device image (is.turned none).durable left)) is.behind.image)

-- All is taken, and nothing kept.
pub all_taken : (heap : Device) (base : ℕ) (old new : Gathering) → IsGathering heap base old → new.disk ≡ old.disk → old.moved ≡ length old.group.items
    → new.group.items ≡ [] → new.moved ≡ 0 → new.taken ≡ old.taken → new.words ≡ old.words → IsGathering heap base new
all_taken heap base old new is disk all none moved taken words =
    let before : rest_of old ≡ [] = drop_all old.moved old.group.items (omega (arith, all)) in
    let after : rest_of new ≡ [] = drop_all new.moved new.group.items (omega (arith, ap length none)) in
    let same_words : words_of (rest_of new) ≡ words_of (rest_of old) = ap words_of (after ∙ sym before) in
    let count = is.counted.words in
    let few = is.few in
    let waiting : new.disk.waiting ≡ old.disk.waiting = λ i. (disk i).waiting in
    record {
      behind = subst (λ (ps : List Piece). IsBehind heap.now new.disk.device.now.bytes ps) (before ∙ sym after)
          (subst (λ (d : Layered). IsBehind heap.now d.device.now.bytes (rest_of old)) (sym disk) is.behind);
      counted = record { moved = omega (arith, moved); words = omega (arith, words, count, same_words, taken) };
      few = omega (arith, few, waiting, taken);
      turned = λ z. subst (λ (d : Layered). IsTurned d) (sym disk) (is.turned (sym taken ∙ z));
      recent = is.recent;
      possible = subst (λ (d : Layered). FitsBatch d ⊎ ((image : List ℕ) → Image d.device.now image → LeftSince base heap image)) (sym disk) is.possible;
      crash = subst (λ (d : Layered). AlwaysWhole d.disk (StandsFor d.areas (LeftSince base heap))) (sym disk) is.crash;
    }

-- Nothing is done.
pub turns_none : (g : Gathering) → Turns g g
turns_none g = record {
  keeps = λ heap base is. is;
  left = λ heap base is. leaves_begin;
  whole = λ fits. leaves_begin;
  areas = refl;
  group = refl;
  moved = refl;
  words = omega arith;
  idle = λ none. refl;
}

pub gathers_none : (g : Gathering) → Gathers g g
gathers_none g = record {
  keeps = λ heap base is. is;
  left = λ heap base is. leaves_begin;
  areas = refl;
  words = omega arith;
  below = λ fits. below_none g.disk;
  same_words = λ fits. refl;
  same_turns = λ fits. refl;
  idle = λ none. below_none g.disk;
  idle_turns = λ none. refl;
}

-- A turn, where not all that was written fits into one batch.
pub gathers_turn : (old new : Gathering) → ¬ FitsAll old → Turns old new → Gathers old new
gathers_turn old new many t = record {
  keeps = t.keeps;
  left = t.left;
  areas = t.areas;
  words = t.words;
  below = λ fits. absurd (many fits);
  same_words = λ fits. absurd (many fits);
  same_turns = λ fits. absurd (many fits);
  idle = λ none. subst (λ (g : Gathering). SameBelow old.disk g.disk) (sym (t.idle none)) (below_none old.disk);
  idle_turns = λ none. (λ i. (t.idle none i).turns);
}

-- And then the journal takes what was written, or a part of it.
pub gathers_then : (old mid new : Gathering) → Gathers old mid → ((heap : Device) (base : ℕ) → IsGathering heap base old → IsGathering heap base new)
    → SameBelow mid.disk new.disk → new.words ≡ mid.words → new.turns ≡ mid.turns → Gathers old new
gathers_then old mid new g keeps below words turns =
    let fewer = g.words in
    record {
      keeps = keeps;
      left = λ heap base is.
          subst (λ (d : Device). LeavesWhole old.disk.disk d (StandsFor old.disk.areas (LeftSince base heap))) (sym below.disk) (g.left heap base is);
      areas = below.areas ∙ g.areas;
      words = omega (arith, fewer, words);
      below = λ fits. below_then old.disk mid.disk new.disk (g.below fits) below;
      same_words = λ fits. words ∙ g.same_words fits;
      same_turns = λ fits. turns ∙ g.same_turns fits;
      idle = λ none. below_then old.disk mid.disk new.disk (g.idle none) below;
      idle_turns = λ none. turns ∙ g.idle_turns none;
    }
