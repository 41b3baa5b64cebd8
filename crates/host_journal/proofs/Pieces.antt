-- Writes that the journal is yet to take.
use Rattle.std.proofs.Common.{◌≡◌, ℕ, zero, suc, ◌+◌, ◌≤◌, List, [], ◌∷◌, ◌++◌, length, refl, sym, ◌∙◌, ap, subst, arith}
use Rattle.std.specs.Prelude.{Contains}
use Rattle.std.proofs.lemmas.List.Elements.{All-nil, All-cons, All-head, All-tail, All-append, All-weaker}
use Rattle.block_disk.specs.Bytes.{spliced}
use Rattle.block_disk.specs.Device.{Device, Image, IsClear, IsOutside, Moment, Range, SameOutside, range_of, synced, written}
use Rattle.block_disk.proofs.Bytes.{length_spliced}
use Rattle.block_disk.proofs.Ranges.{outside_first, outside_more, outside_refl, outside_rest, outside_sym, outside_trans, spliced_same, torn_back}
use Rattle.host_journal.specs.Gathered.{IsBehind, IsPending, laid, words_of}
use Rattle.host_journal.specs.declared.piece.Piece.{Piece}

-- clear of ranges is outside of each
clear_in : (i : ℕ) (rs : List Range) (r : Range) → Contains rs r → IsClear i rs → IsOutside i r
clear_in i [] r (k, within, is) clear = absurd (omega (arith, within))
clear_in i (s ∷ rs) r (zero, within, is) clear = subst (IsOutside i) is clear.0
clear_in i (s ∷ rs) r (suc k, within, is) clear = clear_in i rs r (k, omega (arith, within), is) clear.1

-- a change in one of the ranges
outside_in : (rs : List Range) (r : Range) (xs ys : List ℕ) → Contains rs r → SameOutside (r ∷ []) xs ys → SameOutside rs xs ys
outside_in rs r xs ys among same = outside_more (r ∷ []) rs xs ys (λ i clear. (clear_in i rs r among clear, tt)) same

contains_more : (rs : List Range) (r s : Range) → Contains rs r → Contains (s ∷ rs) r
contains_more rs r s (k, within, is) = (suc k, omega (arith, within), is)

-- pieces that are laid behind others
laid_append : (ps qs : List Piece) (bytes : List ℕ) → laid (ps ++ qs) bytes ≡ laid qs (laid ps bytes)
laid_append [] qs bytes = refl
laid_append (p ∷ ps) qs bytes = laid_append ps qs (spliced bytes p.at p.bytes.items)

pub words_append : (ps qs : List Piece) → words_of (ps ++ qs) ≡ words_of ps + words_of qs
words_append [] qs = omega arith
words_append (p ∷ ps) qs = omega (arith, words_append ps qs)

-- the journal takes the first one
pub behind_taken : (heap : Moment) (bytes : List ℕ) (p : Piece) (more : List Piece) → IsBehind heap bytes (p ∷ more)
    → IsBehind heap (spliced bytes p.at p.bytes.items) more
behind_taken heap bytes p more b =
    let head = All-head (IsPending heap) p more b.pending in
    let fits : p.at + length p.bytes.items ≤ length bytes = omega (arith, head.0, b.image.size) in
    let now = spliced bytes p.at p.bytes.items in
    record {
      reads = b.reads;
      pending = All-tail (IsPending heap) p more b.pending;
      image =
          outside_trans heap.pending heap.bytes bytes now b.image
          (outside_in heap.pending (range_of p.at p.bytes.items) bytes now head.1 (spliced_same bytes p.bytes.items p.at fits));
    }

-- what a crash may leave of the journal then, one of the heap's device may
pub image_taken : (heap : Moment) (d : Device) (p : Piece) → IsPending heap p → p.at + length p.bytes.items ≤ length d.now.bytes
    → ((image : List ℕ) → Image d.now image → Image heap image) → (image : List ℕ) → Image (written p.at p.bytes.items d).now image → Image heap image
image_taken heap d p is fits within image left =
    let r = range_of p.at p.bytes.items in
    let was = d.now.bytes in
    let back = torn_back r d.now.pending was (spliced was p.at p.bytes.items) image fits (spliced_same was p.bytes.items p.at fits) left in
    outside_trans heap.pending heap.bytes back.0 image (within back.0 back.1) (outside_in heap.pending r back.0 image is.1 back.2)

-- one more is kept
pub behind_added : (heap : Device) (bytes : List ℕ) (rest : List Piece) (p : Piece) → p.at + length p.bytes.items ≤ length heap.now.bytes
    → IsBehind heap.now bytes rest → IsBehind (written p.at p.bytes.items heap).now bytes (rest ++ p ∷ [])
behind_added heap bytes rest p fits b =
    let r = range_of p.at p.bytes.items in
    let rs = heap.now.pending in
    let was = heap.now.bytes in
    let now = spliced was p.at p.bytes.items in
    let new = (written p.at p.bytes.items heap).now in
    let size : length now ≡ length was = length_spliced was p.bytes.items p.at fits in
    let back = outside_sym (r ∷ rs) was now (outside_first r rs was now (spliced_same was p.bytes.items p.at fits)) in
    let here : Contains (r ∷ rs) r = (0, omega arith, refl) in
    let last : IsPending new p = (omega (arith, size, fits), here) in
    record {
      reads = ap (λ (xs : List ℕ). spliced xs p.at p.bytes.items) b.reads ∙ sym (laid_append rest (p ∷ []) bytes);
      pending =
          All-append (IsPending new) rest (p ∷ [])
          (All-weaker (IsPending heap.now) (IsPending new) (λ q is. (omega (arith, size, is.0), contains_more rs (range_of q.at q.bytes.items) r is.1)) rest b.pending)
          (All-cons (IsPending new) p [] last (All-nil (IsPending new)));
      image = outside_trans (r ∷ rs) now was bytes back (outside_rest r rs was bytes b.image);
    }

-- a sync, once the journal has all
pub behind_synced : (heap : Device) (bytes : List ℕ) → IsBehind heap.now bytes [] → IsBehind (synced heap).now bytes []
behind_synced heap bytes b = record {
  reads = b.reads;
  pending = All-nil (IsPending (synced heap).now);
  image = subst (λ (xs : List ℕ). SameOutside [] heap.now.bytes xs) b.reads (outside_refl [] heap.now.bytes);
}
