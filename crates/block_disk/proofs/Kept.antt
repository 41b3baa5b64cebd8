-- The calls that a disk in memory keeps, and the stops that they are.
use Rattle.std.proofs.Common.{◌≡◌, inl, inr, Bool, true, false, nat_le, if◌then◌else◌, ℕ, suc, ◌+◌, ◌-◌, ◌<◌, ◌≤◌, List, [], ◌∷◌, ◌++◌, length, get_or, take, drop, refl, sym, ◌∙◌, ap, subst, arith, fold, length-append, length-drop}
use Rattle.std.proofs.lemmas.List.{take_more, take_all, take-take, take-append-le, take-append-drop, drop-drop}
use Rattle.std.proofs.lemmas.Bool.{le-leb, lt-leb}
use Rattle.std.proofs.lemmas.List.Sums.{fold-append}
use Rattle.std.proofs.lemmas.List.Elements.{All-take}
use Rattle.block_disk.specs.Calls.{stop_of, stops_of, AllFit, IsKept, HasSpare}
use Rattle.block_disk.specs.Crash.{first_stops, cut_short, done_at, filled}
use Rattle.block_disk.specs.Memory.{Stop, Wrote, WriteFailed, Synced, SyncFailed, Fits, HasJustFailed, bytes_after, pending_after, durable_after}
use Rattle.block_disk.specs.declared.call.Call.{Call}
use Rattle.block_disk.proofs.Bytes.{length_spliced}

-- the stops of these calls, after others
abbrev pub stops_onto : List Stop → List Call → List Stop
stops_onto older calls = fold (λ older call. stop_of call ∷ older) older calls

-- one call more
pub stops_of-push : (cs : List Call) (c : Call) → stops_of (cs ++ c ∷ []) ≡ stop_of c ∷ stops_of cs
stops_of-push cs c = fold-append (λ older call. stop_of call ∷ older) [] cs (c ∷ [])

pub stops_of-more : (cs : List Call) (i : ℕ) (c : Call) → i < length cs → c ≡ get_or cs i c → stops_of (take (i + 1) cs) ≡ stop_of c ∷ stops_of (take i cs)
stops_of-more cs i c within is =
    ap stops_of (take_more cs i c within ∙ ap (λ (x : Call). take i cs ++ x ∷ []) (sym is)) ∙ stops_of-push (take i cs) c

length_onto : (older : List Stop) (cs : List Call) → length (stops_onto older cs) ≡ length cs + length older
length_onto older [] = omega arith
length_onto older (c ∷ cs) = omega (arith, length_onto (stop_of c ∷ older) cs)

-- as many stops as calls
pub length_stops : (cs : List Call) → length (stops_of cs) ≡ length cs
length_stops cs = omega (arith, length_onto [] cs)

drop_onto : (older : List Stop) (cs : List Call) → drop (length cs) (stops_onto older cs) ≡ older
drop_onto older [] = refl
drop_onto older (c ∷ cs) =
    let more : length (c ∷ cs) ≡ length cs + 1 = omega arith in
    let all = stops_onto older (c ∷ cs) in
    ap (λ (n : ℕ). drop n all) more ∙ sym (drop-drop 1 (length cs) all) ∙ ap (drop 1) (drop_onto (stop_of c ∷ older) cs)

-- the first stops are those of the first calls
pub first_of_calls : (k : ℕ) (cs : List Call) → k ≤ length cs → first_stops k (stops_of cs) ≡ stops_of (take k cs)
first_of_calls k cs fits =
    let split : stops_of cs ≡ stops_onto (stops_of (take k cs)) (drop k cs) =
    ap stops_of (sym (take-append-drop k cs)) ∙ fold-append (λ older call. stop_of call ∷ older) [] (take k cs) (drop k cs) in
    let n : length (stops_of cs) - k ≡ length (drop k cs) = omega (arith, length_stops cs, length-drop k cs) in
    ap (λ (m : ℕ). drop m (stops_of cs)) n ∙ ap (drop (length (drop k cs))) split ∙ drop_onto (stops_of (take k cs)) (drop k cs)

-- what a crash finds done that comes in the call after the first k: those, and the call unless it is a sync
pub done_begun : (k : ℕ) (cs : List Call) (c : Call) → k < length cs → c ≡ get_or cs k c → done_at (k + 1) (stops_of cs) ≡ cut_short (stop_of c ∷ stops_of (take k cs))
done_begun k cs c within is =
    let low : nat_le (k + 1) (length (stops_of cs)) ≡ true = le-leb (k + 1) (length (stops_of cs)) (omega (arith, length_stops cs)) in
    ap (λ (b : Bool). if b then cut_short (first_stops (k + 1) (stops_of cs)) else stops_of cs) low
    ∙ ap cut_short (first_of_calls (k + 1) cs (omega arith) ∙ stops_of-more cs k c within is)

-- a crash after all of them finds them all
pub done_ended : (cs : List Call) → done_at (length cs + 1) (stops_of cs) ≡ stops_of cs
done_ended cs =
    let high : nat_le (length cs + 1) (length (stops_of cs)) ≡ false = lt-leb (length cs + 1) (length (stops_of cs)) (omega (arith, length_stops cs)) in
    ap (λ (b : Bool). if b then cut_short (first_stops (length cs + 1) (stops_of cs)) else stops_of cs) high

-- a stop acts on what reads
pub bytes_next : (first : List ℕ) (s : Stop) (older : List Stop) → bytes_after first (s ∷ older) ≡ bytes_after (bytes_after first older) (s ∷ [])
bytes_next first (Wrote at bytes) older = refl
bytes_next first (WriteFailed at len) older = refl
bytes_next first Synced older = refl
bytes_next first SyncFailed older = refl

-- a stop that is no sync leaves what was durable
pub durable_next : (first : List ℕ) (s : Stop) (older : List Stop) → (s ≡ Synced → ⊥) → durable_after first (s ∷ older) ≡ durable_after first older
durable_next first (Wrote at bytes) older apart = refl
durable_next first (WriteFailed at len) older apart = refl
durable_next first Synced older apart = absurd (apart refl)
durable_next first SyncFailed older apart = refl

-- a sync makes what reads durable
pub durable_synced : (first : List ℕ) (s : Stop) (older : List Stop) → s ≡ Synced → durable_after first (s ∷ older) ≡ bytes_after first (s ∷ older)
durable_synced first s older is = subst (λ (x : Stop). durable_after first (x ∷ older) ≡ bytes_after first (x ∷ older)) (sym is) refl

-- a stop that is no sync is filled first
pub filled_next : (byte : ℕ) (image : List ℕ) (s : Stop) (older : List Stop) → (s ≡ Synced → ⊥)
    → filled byte (pending_after (s ∷ older)) image ≡ filled byte (pending_after older) (filled byte (pending_after (s ∷ [])) image)
filled_next byte image (Wrote at bytes) older apart = refl
filled_next byte image (WriteFailed at len) older apart = refl
filled_next byte image Synced older apart = absurd (apart refl)
filled_next byte image SyncFailed older apart = refl

-- after a sync nothing is filled
pub filled_synced : (byte : ℕ) (image : List ℕ) (s : Stop) (older : List Stop) → s ≡ Synced → filled byte (pending_after (s ∷ older)) image ≡ image
filled_synced byte image s older is = subst (λ (x : Stop). filled byte (pending_after (x ∷ older)) image ≡ image) (sym is) refl

-- a crash in a sync finds what was before it, and in any other stop that stop too
pub cut_synced : (s : Stop) (older : List Stop) → s ≡ Synced → cut_short (s ∷ older) ≡ older
cut_synced s older is = subst (λ (x : Stop). cut_short (x ∷ older) ≡ older) (sym is) refl

pub cut_other : (s : Stop) (older : List Stop) → (s ≡ Synced → ⊥) → cut_short (s ∷ older) ≡ s ∷ older
cut_other (Wrote at bytes) older apart = refl
cut_other (WriteFailed at len) older apart = refl
cut_other Synced older apart = absurd (apart refl)
cut_other SyncFailed older apart = refl

-- a stop that lies within keeps the length
length_next : (size : ℕ) (image : List ℕ) (s : Stop) → Fits size s → length image ≡ size → length (bytes_after image (s ∷ [])) ≡ size
length_next size image (Wrote at bytes) fits is = length_spliced image bytes at (omega (arith, fits, is)) ∙ is
length_next size image (WriteFailed at len) fits is = is
length_next size image Synced fits is = is
length_next size image SyncFailed fits is = is

-- all of these stops lie within
abbrev pub EachFits : ℕ → List Stop → Type 0
EachFits size [] = Unit {0}
EachFits size (s ∷ older) = Fits size s × EachFits size older

fits_onto : (size : ℕ) (older : List Stop) (cs : List Call) → EachFits size older → AllFit size cs → EachFits size (stops_onto older cs)
fits_onto size older [] each all = each
fits_onto size older (c ∷ cs) each all =
    fits_onto size (stop_of c ∷ older) cs (all 0 c (omega arith), each) (λ k d within. all (suc k) d (omega arith))

pub each_fits : (size : ℕ) (cs : List Call) → AllFit size cs → EachFits size (stops_of cs)
each_fits size cs all = fits_onto size [] cs tt all

pub length_after : (first : List ℕ) (stops : List Stop) → EachFits (length first) stops → length (bytes_after first stops) ≡ length first
length_after first [] each = refl
length_after first (s ∷ older) each =
    ap length (bytes_next first s older) ∙ length_next (length first) (bytes_after first older) s each.0 (length_after first older each.1)

-- what reads is as long as the first bytes
pub kept_length : (first bytes : List ℕ) (cs : List Call) → IsKept first bytes cs → length bytes ≡ length first
kept_length first bytes cs kept = ap length kept.reads ∙ length_after first (stops_of cs) (each_fits (length first) cs kept.fits)

-- the first of the calls lie within where all do
pub front_fits : (size : ℕ) (cs later : List Call) → AllFit size (cs ++ later) → AllFit size cs
front_fits size cs later all = subst (AllFit size) (take-append-le (length cs) cs later (omega arith) ∙ take_all (length cs) cs (omega arith)) (All-take (λ call. Fits size (stop_of call)) (length cs) (cs ++ later) all)

-- a kept call that stores nothing, or one that couldn't be kept
pub kept_same : (first bytes : List ℕ) (cs later : List Call) (s : Stop) (is_kept : Bool) → IsKept first bytes cs
    → bytes_after first (s ∷ stops_of cs) ≡ bytes_after first (stops_of cs) → stops_of later ≡ (if is_kept then s ∷ stops_of cs else stops_of cs)
    → AllFit (length first) later → IsKept first bytes later
kept_same first bytes cs later s is_kept kept nothing is fits = record {
  reads = kept.reads ∙ sym (ap (bytes_after first) is ∙ either is_kept);
  fits = fits;
}
  where
    either : (b : Bool) → bytes_after first (if b then s ∷ stops_of cs else stops_of cs) ≡ bytes_after first (stops_of cs)
    either true = nothing
    either false = refl

-- the first calls of a list
pub record Front (all front : List Call) : Type 0 where
  pub same : front ≡ take (length front) all
  pub within : length front ≤ length all

-- the first ones of the first calls
pub front_is : (all rest older later : List Call) → rest ≡ take (length rest) all → length rest ≤ length all → rest ≡ older ++ later → Front all older
front_is all rest older later is within split =
    let n : length rest ≡ length older + length later = ap length split ∙ length-append older later in
    let low : length older ≤ length rest = omega (arith, n) in
    record {
      same = sym (take_all (length older) older (omega arith)) ∙ sym (take-append-le (length older) older later (omega arith))
          ∙ ap (take (length older)) (sym split ∙ is) ∙ take-take (length older) (length rest) all low;
      within = omega (arith, low, within);
    }

-- room stays spare over a call that is kept with more of it, or isn't kept
pub spare_kept : (stops now : List Stop) (len room later more : ℕ) (s : Stop) (is_kept : Bool) → HasSpare stops len room
    → now ≡ (if is_kept then s ∷ stops else stops) → (is_kept ≡ true → later < more) → ((is_kept ≡ true → ⊥) → later ≡ len) → room ≤ more → HasSpare now later more
spare_kept stops now len room later more s true spare is kept other wider = inr (kept refl)
spare_kept stops now len room later more s false spare is kept other wider = elim spare [
  | inl has ↦ inl (subst HasJustFailed (sym is) has)
  | inr less ↦ let same : later ≡ len = other (λ e. cc) in inr (omega (arith, same))
]

-- over a call that has failed, which takes it
pub spare_taken : (stops now : List Stop) (len room later more : ℕ) (s : Stop) (is_kept : Bool) → HasJustFailed (s ∷ stops) → HasSpare stops len room
    → now ≡ (if is_kept then s ∷ stops else stops) → (len < room → is_kept ≡ true) → HasSpare now later more
spare_taken stops now len room later more s true fails spare is kept = inl (subst HasJustFailed (sym is) fails)
spare_taken stops now len room later more s false fails spare is kept = elim spare [
  | inl has ↦ inl (subst HasJustFailed (sym is) has)
  | inr less ↦ absurd (let yes = kept less in cc)
]
