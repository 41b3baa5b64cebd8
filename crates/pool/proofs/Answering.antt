-- What the calls have read and stored makes their answers.
use Rattle.std.proofs.Common.{ℕ, ◌≡◌, ◌≢◌, ◌+◌, ◌-◌, ◌<◌, ◌≤◌, List, [], ◌∷◌, Some, ap, ◌∙◌, subst, arith}
use Rattle.pool.specs.declared.pool.TheConstants.{TAKEN}
use Rattle.pool.specs.Knowledge.{Access, Loaded, Stored, Knowledge, Reads, Stores, FailsToLoad, FailsToStore}
use Rattle.pool.specs.FreeList.{Place, cell_of}
use Rattle.pool.specs.Calls.{Takes, LinkIsDamaged, FailsAtLink, FailsToTake, Gives, HeadWasDamaged, FailsAtHead, FailsToGive}
use Rattle.pool.proofs.Lists.{value_there, value_else, takes_first, puts_first}

-- what was read is known
read_there : {F : Type 0} (k l : Knowledge F) (f v : ℕ) → Reads k f v l → l.value f ≡ Some v
read_there k l f v r = ap (λ (m : Knowledge _). m.value f) r.learned ∙ value_there k.value f v

-- and stays so, where another cell is read
read_else : {F : Type 0} (k l : Knowledge F) (f v g w : ℕ) → Reads k f v l → f ≢ g → k.value g ≡ Some w → l.value g ≡ Some w
read_else k l f v g w r ne was = ap (λ (m : Knowledge _). m.value g) r.learned ∙ value_else k.value f v g ne ∙ was

pub takes : {F : Type 0} (p : Place) (k found read l : Knowledge F) (done : List Access) (s next : ℕ) → s < p.slots → next ≤ p.slots →
    Reads k p.head (s + 1) found → Reads found (cell_of p s) next read → Stores read p.head next (cell_of p s) TAKEN l →
    done ≡ Stored (cell_of p s) TAKEN ∷ Stored p.head next ∷ Loaded (cell_of p s) next ∷ Loaded p.head (s + 1) ∷ [] → Takes p k l done s
takes p k found read l done s next low small head link stored no_more = record {
  next = next;
  found = found;
  read = read;
  slot = low;
  head = head;
  link = link;
  names_slot = small;
  stored = stored;
  first = takes_first p read.value l.value s next (read_else found read (cell_of p s) next p.head (s + 1) link (λ e. absurd (omega arith)) (read_there k found p.head (s + 1) head)) (read_there found read (cell_of p s) next link) stored.learned;
  no_more = no_more;
}

pub gives : {F : Type 0} (p : Place) (k found read l : Knowledge F) (done : List Access) (s link : ℕ) → p.slots ≤ 16383 → s < p.slots → link ≤ p.slots →
    Reads k (cell_of p s) TAKEN found → Reads found p.head link read → Stores read p.head (s + 1) (cell_of p s) link l →
    done ≡ Stored (cell_of p s) link ∷ Stored p.head (s + 1) ∷ Loaded p.head link ∷ Loaded (cell_of p s) TAKEN ∷ [] → Gives p k l done s
gives p k found read l done s link few low small mark head stored no_more = record {
  link = link;
  found = found;
  read = read;
  taken = mark;
  head = head;
  names_slot = small;
  stored = stored;
  first = puts_first p read.value l.value s link few low (read_else found read p.head link (cell_of p s) TAKEN head (λ e. absurd (omega arith)) (read_there k found (cell_of p s) TAKEN mark)) (read_there found read p.head link head) stored.learned;
  no_more = no_more;
}

-- the same, by the fields and the link as they stand in the code

-- the head names this slot
reads_head : {F : Type 0} (p : Place) (k found : Knowledge F) (h link : ℕ) → h ≡ p.head → 0 < link → Reads k h link found → Reads k p.head ((link - 1) + 1) found
reads_head p k found h link is_head some head =
    let is_link : link ≡ (link - 1) + 1 = omega arith in subst (λ (f : ℕ). Reads k f ((link - 1) + 1) found) is_head (subst (λ (x : ℕ). Reads k h x found) is_link head)

reads_mark : {F : Type 0} (p : Place) (k found : Knowledge F) (cell s mark : ℕ) → cell ≡ cell_of p s → mark ≡ TAKEN → Reads k cell mark found → Reads k (cell_of p s) TAKEN found
reads_mark p k found cell s mark is_cell is_taken taken = subst (λ (x : ℕ). Reads k (cell_of p s) x found) is_taken (subst (λ (f : ℕ). Reads k f mark found) is_cell taken)

pub takes_by : {F : Type 0} (p : Place) (k found read l : Knowledge F) (h cell link next : ℕ) → h ≡ p.head → cell ≡ cell_of p (link - 1) → 0 < link → link ≤ p.slots → next ≤ p.slots →
    Reads k h link found → Reads found cell next read → Stores read h next cell TAKEN l → Takes p k l (Stored cell TAKEN ∷ Stored h next ∷ Loaded cell next ∷ Loaded h link ∷ []) (link - 1)
takes_by p k found read l h cell link next is_head is_cell some low small head at stored =
    let is_link : link ≡ (link - 1) + 1 = omega arith in
    takes p k found read l (Stored cell TAKEN ∷ Stored h next ∷ Loaded cell next ∷ Loaded h link ∷ []) (link - 1) next (omega arith) small
    (reads_head p k found h link is_head some head)
    (subst (λ (f : ℕ). Reads found f next read) is_cell at)
    (subst (λ (f : ℕ). Stores read f next (cell_of p (link - 1)) TAKEN l) is_head (subst (λ (f : ℕ). Stores read h next f TAKEN l) is_cell stored))
    (λ i. Stored (is_cell i) TAKEN ∷ Stored (is_head i) next ∷ Loaded (is_cell i) next ∷ Loaded (is_head i) (is_link i) ∷ [])

pub damaged_by : {F : Type 0} (p : Place) (k found l : Knowledge F) (h cell link next : ℕ) → h ≡ p.head → cell ≡ cell_of p (link - 1) → 0 < link → link ≤ p.slots → p.slots < next →
    Reads k h link found → Reads found cell next l → LinkIsDamaged p k l (Loaded cell next ∷ Loaded h link ∷ [])
damaged_by p k found l h cell link next is_head is_cell some low high head at =
    let is_link : link ≡ (link - 1) + 1 = omega arith in (
      link - 1,
      next,
      found,
      omega arith,
      reads_head p k found h link is_head some head,
      high,
      subst (λ (f : ℕ). Reads found f next l) is_cell at,
      λ i. Loaded (is_cell i) next ∷ Loaded (is_head i) (is_link i) ∷ [],
    )

pub fails_at_link : {F : Type 0} (p : Place) (k found l : Knowledge F) (h cell link : ℕ) (why : F) → h ≡ p.head → cell ≡ cell_of p (link - 1) → 0 < link → link ≤ p.slots →
    Reads k h link found → FailsToLoad found cell why l → FailsAtLink p k l (Loaded h link ∷ []) why
fails_at_link p k found l h cell link why is_head is_cell some low head fails =
    let is_link : link ≡ (link - 1) + 1 = omega arith in (
      link - 1,
      found,
      omega arith,
      reads_head p k found h link is_head some head,
      subst (λ (f : ℕ). FailsToLoad found f why l) is_cell fails,
      λ i. Loaded (is_head i) (is_link i) ∷ [],
    )

pub fails_to_take : {F : Type 0} (p : Place) (k found read l : Knowledge F) (h cell link next : ℕ) (why : F) → h ≡ p.head → cell ≡ cell_of p (link - 1) → 0 < link → link ≤ p.slots → next ≤ p.slots →
    Reads k h link found → Reads found cell next read → FailsToStore read h cell why l → FailsToTake p k l (Loaded cell next ∷ Loaded h link ∷ []) why
fails_to_take p k found read l h cell link next why is_head is_cell some low small head at fails =
    let is_link : link ≡ (link - 1) + 1 = omega arith in (
      link - 1,
      next,
      found,
      read,
      omega arith,
      reads_head p k found h link is_head some head,
      small,
      subst (λ (f : ℕ). Reads found f next read) is_cell at,
      subst (λ (f : ℕ). FailsToStore read f (cell_of p (link - 1)) why l) is_head (subst (λ (f : ℕ). FailsToStore read h f why l) is_cell fails),
      λ i. Loaded (is_cell i) next ∷ Loaded (is_head i) (is_link i) ∷ [],
    )

pub gives_by : {F : Type 0} (p : Place) (k found read l : Knowledge F) (h cell s t mark link : ℕ) → h ≡ p.head → cell ≡ cell_of p s → t ≡ s → mark ≡ TAKEN → p.slots ≤ 16383 → s < p.slots → link ≤ p.slots →
    Reads k cell mark found → Reads found h link read → Stores read h (t + 1) cell link l → Gives p k l (Stored cell link ∷ Stored h (t + 1) ∷ Loaded h link ∷ Loaded cell mark ∷ []) s
gives_by p k found read l h cell s t mark link is_head is_cell is_slot is_taken few low small taken head stored =
    gives p k found read l (Stored cell link ∷ Stored h (t + 1) ∷ Loaded h link ∷ Loaded cell mark ∷ []) s link few low small
    (reads_mark p k found cell s mark is_cell is_taken taken)
    (subst (λ (f : ℕ). Reads found f link read) is_head head)
    (subst (λ (x : ℕ). Stores read p.head (x + 1) (cell_of p s) link l) is_slot
    (subst (λ (f : ℕ). Stores read f (t + 1) (cell_of p s) link l) is_head (subst (λ (f : ℕ). Stores read h (t + 1) f link l) is_cell stored)))
    (λ i. Stored (is_cell i) link ∷ Stored (is_head i) (is_slot i + 1) ∷ Loaded (is_head i) link ∷ Loaded (is_cell i) (is_taken i) ∷ [])

pub was_damaged_by : {F : Type 0} (p : Place) (k found l : Knowledge F) (h cell s mark link : ℕ) → h ≡ p.head → cell ≡ cell_of p s → mark ≡ TAKEN → p.slots < link →
    Reads k cell mark found → Reads found h link l → HeadWasDamaged p k l (Loaded h link ∷ Loaded cell mark ∷ []) s
was_damaged_by p k found l h cell s mark link is_head is_cell is_taken high taken head = (
  link,
  found,
  reads_mark p k found cell s mark is_cell is_taken taken,
  high,
  subst (λ (f : ℕ). Reads found f link l) is_head head,
  λ i. Loaded (is_head i) link ∷ Loaded (is_cell i) (is_taken i) ∷ [],
)

pub fails_at_head : {F : Type 0} (p : Place) (k found l : Knowledge F) (h cell s mark : ℕ) (why : F) → h ≡ p.head → cell ≡ cell_of p s → mark ≡ TAKEN →
    Reads k cell mark found → FailsToLoad found h why l → FailsAtHead p k l (Loaded cell mark ∷ []) s why
fails_at_head p k found l h cell s mark why is_head is_cell is_taken taken fails = (
  found,
  reads_mark p k found cell s mark is_cell is_taken taken,
  subst (λ (f : ℕ). FailsToLoad found f why l) is_head fails,
  λ i. Loaded (is_cell i) (is_taken i) ∷ [],
)

pub fails_to_give : {F : Type 0} (p : Place) (k found read l : Knowledge F) (h cell s mark link : ℕ) (why : F) → h ≡ p.head → cell ≡ cell_of p s → mark ≡ TAKEN → link ≤ p.slots →
    Reads k cell mark found → Reads found h link read → FailsToStore read h cell why l → FailsToGive p k l (Loaded h link ∷ Loaded cell mark ∷ []) s why
fails_to_give p k found read l h cell s mark link why is_head is_cell is_taken small taken head fails = (
  link,
  found,
  read,
  reads_mark p k found cell s mark is_cell is_taken taken,
  small,
  subst (λ (f : ℕ). Reads found f link read) is_head head,
  subst (λ (f : ℕ). FailsToStore read f (cell_of p s) why l) is_head (subst (λ (f : ℕ). FailsToStore read h f why l) is_cell fails),
  λ i. Loaded (is_head i) link ∷ Loaded (is_cell i) (is_taken i) ∷ [],
)
