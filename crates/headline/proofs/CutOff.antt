-- Openings that were cut off leave what recoveries that were cut off leave.
use Rattle.std.proofs.Common.{ℕ, ◌≡◌, List, [], ◌∷◌, Some, length, get_or, refl, sym, ap, ◌∙◌, subst, inr}
use Rattle.std.proofs.lemmas.List.{ext_get_or}
use Rattle.block_disk.specs.Device.{Image, IsClear, Range}
use Rattle.disk_file.specs.Backing.{HasAt, Held, LosesOnly, ReadsForGood, bytes_at}
use Rattle.law_survival.specs.Again.{AreCutOff, Attempt}
use Rattle.headline.specs.Living.{ReadLaw}
use Rattle.headline.specs.Openings.{AreOpenings, BeforeRecovery, Between, HasBegun, HasSynced, HasWritten, InRecovery, InSync, InWriting, NoCall, NoOpening, OneMore, StopsAt}

-- the device has these bytes, and a crash takes none of them
record Keeps (image : List ℕ) (h : Held) : Type 0 where
  size : length h.kept.bytes ≡ length image
  same : (i : ℕ) → get_or h.kept.bytes i 0 ≡ get_or image i 0
  clear : (i : ℕ) → IsClear i h.kept.pending

-- and the file reads them
record Has (image : List ℕ) (h : Held) : Type 0 where
  reads : h.reads ≡ image
  keeps : Keeps image h

-- what is written again with its own value stays
stays : (image : List ℕ) (ranges : List Range) (was h : Held) → Has image was → LosesOnly ranges was h → Keeps image h
stays image ranges was h has loses = record {
  size = loses.size ∙ has.keeps.size;
  same = λ i. loses.bytes i (inr (had i)) (has.keeps.clear i) ∙ has.keeps.same i;
  clear = λ i. loses.pending i (inr (had i)) (has.keeps.clear i);
}
  where
    had : (i : ℕ) → HasAt i was
    had i = has.keeps.same i ∙ ap (λ (xs : List ℕ). get_or xs i 0) (sym has.reads)

found : (image : List ℕ) (was : Held) → ReadsForGood image (Some was) → Has image was
found image was good = record {
  reads = good.0;
  keeps = record {
    size = ap (λ m. length m.bytes) good.1;
    same = λ i. ap (λ m. get_or m.bytes i 0) good.1;
    clear = λ i. subst (λ m. IsClear i m.pending) (sym good.1) tt;
  };
}

begun : (image : List ℕ) (was h : Held) → Has image was → HasBegun was h → Has image h
begun image was _ has NoCall = has
begun image was _ has (HasSynced h so_far) =
    let mid = begun image was h has so_far in
    record { reads = mid.reads; keeps = record { size = mid.keeps.size; same = mid.keeps.same; clear = λ i. tt } }
begun image was after has (HasWritten at h _ so_far wrote) =
    let mid = begun image was h has so_far in
    record { reads = wrote.reads ∙ mid.reads; keeps = stays image _ h after mid wrote.loses }

stopped : (image : List ℕ) (was h : Held) → Has image was → StopsAt was h → Keeps image h
stopped image was h has (Between so_far) = (begun image was h has so_far).keeps
stopped image was h has (InSync before so_far un) =
    let mid = (begun image was before has so_far).keeps in
    record {
      size = un.1.kept.size ∙ mid.size;
      same = λ i. un.1.kept.same i (mid.clear i) ∙ mid.same i;
      clear = λ i. un.1.pending i (mid.clear i) (mid.clear i);
    }
stopped image was h has (InWriting places before so_far lost) = stays image (bytes_at places) before h (begun image was before has so_far) lost

-- so a crash leaves the image
left_same : (image next : List ℕ) (was h : Held) → ReadsForGood image (Some was) → StopsAt was h → Image h.kept next → next ≡ image
left_same image next was h good stops left =
    let keeps = stopped image was h (found image was good) stops in
    ext_get_or 0 next image (left.size ∙ keeps.size) (λ i within. left.same i (keeps.clear i) ∙ keeps.same i)

pub cut_off : (image last : List ℕ) → AreOpenings image last → (attempts : List Attempt) × AreCutOff attempts image last
cut_off image _ (NoOpening _) = ([], refl)
cut_off image last (OneMore _ next _ (BeforeRecovery was h good stops left) later) =
    let same = left_same image next was h good stops left in
    let rest = cut_off next last later in
    (rest.0, subst (λ (xs : List ℕ). AreCutOff rest.0 xs last) same rest.1)
cut_off image last (OneMore _ next _ (InRecovery old new is cut left) later) =
    let rest = cut_off next last later in
    (record { old = old; new = new } ∷ rest.0, (is, cut, (next, left, rest.1)))

-- a file that is read is opened
pub read_first : ReadLaw
read_first image next places was h good lost left = BeforeRecovery was h good (InWriting places was NoCall lost) left
