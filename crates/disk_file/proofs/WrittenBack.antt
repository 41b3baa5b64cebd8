-- What an opening makes of a file.
use Rattle.std.proofs.Common.{◌≡◌, inl, inr, ◌⊎◌, ℕ, zero, suc, ◌<◌, ◌≤◌, List, [], ◌∷◌, ◌++◌, length, get_or, Option, Some, None, IfSome, IsSomeAnd, option_map, refl, subst, sym, ap, ◌∙◌, arith}
use Rattle.std.proofs.lemmas.Bool.{cases_lt}
use Rattle.block_disk.specs.Device.{Range, IsClear, SameOutside}
use Rattle.block_disk.proofs.Ranges.{outside_refl, outside_trans, outside_more}
use Rattle.disk_file.specs.Backing.{HasAt, HasFound, HasWrittenBack, HasWrittenBackAll, Held, KeepsBut, LosesOnly, MayLose, Reads, ReadsSettled, Unsettled, byte_at, bytes_at, settled}

-- the bytes at these places were written again but for those that are left
pub record Stage (below : ℕ) (places rest : List ℕ) (was h : Held) : Type 0 where
  pub reads : h.reads ≡ was.reads
  pub others : SameOutside (bytes_at places) was.kept.bytes h.kept.bytes
  pub kept : below ≡ length was.reads → (stale : List Range) → SameOutside (bytes_at places ++ stale) was.reads was.kept.bytes
      → SameOutside (bytes_at rest ++ stale) was.reads h.kept.bytes
  pub loses : LosesOnly (bytes_at places) was h

abbrev pub HasStage : (below : ℕ) (places rest : List ℕ) (old new : Option Held) → Type 0
HasStage below places rest old new = IfSome new (λ h. IsSomeAnd old (λ was. Stage below places rest was h))

-- nothing is lost where nothing is done
loses_none : (rs : List Range) (h : Held) → LosesOnly rs h h
loses_none rs h = record { size = refl; bytes = λ i which clear. refl; pending = λ i which clear. clear }

-- of two calls, the second in no other ranges
loses_then : (rs ss : List Range) (was mid h : Held) → mid.reads ≡ was.reads → ((i : ℕ) → IsClear i rs → IsClear i ss)
    → LosesOnly rs was mid → LosesOnly ss mid h → LosesOnly rs was h
loses_then rs ss was mid h same to first second = record {
  size = second.size ∙ first.size;
  bytes = λ i which clear. second.bytes i (still i which clear) (first.pending i which clear) ∙ first.bytes i which clear;
  pending = λ i which clear. second.pending i (still i which clear) (first.pending i which clear);
}
  where
    still : (i : ℕ) → IsClear i rs ⊎ HasAt i was → IsClear i was.kept.pending → IsClear i ss ⊎ HasAt i mid
    still i (inl out) clear = inl (to i out)
    still i (inr had) clear = inr (first.bytes i (inr had) clear ∙ had ∙ ap (λ (xs : List ℕ). get_or xs i 0) (sym same))

-- a sync loses nothing, and one that fails neither
loses_settled : (rs : List Range) (was : Held) → LosesOnly rs was (settled was)
loses_settled rs was = record { size = refl; bytes = λ i which clear. refl; pending = λ i which clear. tt }

pub may_settled : (rs : List Range) (file : Option Held) → MayLose rs file (option_map settled file)
may_settled rs None = tt
may_settled rs (Some was) = loses_settled rs was

pub may_unsettled : (rs : List Range) (old new : Option Held) → Unsettled old new → MayLose rs old new
may_unsettled rs old None un = tt
may_unsettled rs None (Some h) un = absurd un
may_unsettled rs (Some was) (Some h) un = record {
  size = un.1.kept.size;
  bytes = λ i which clear. un.1.kept.same i clear;
  pending = λ i which clear. un.1.pending i clear clear;
}

pub may_none : (rs : List Range) (file : Option Held) → MayLose rs file file
may_none rs None = tt
may_none rs (Some h) = loses_none rs h

-- what is lost in no ranges is lost in any
pub may_more : (rs : List Range) (old new : Option Held) → MayLose [] old new → MayLose rs old new
may_more rs old None lost = tt
may_more rs None (Some h) lost = absurd lost
may_more rs (Some was) (Some h) lost = record {
  size = lost.size;
  bytes = λ i which clear. lost.bytes i (inl tt) clear;
  pending = λ i which clear. lost.pending i (inl tt) clear;
}

-- after a sync that has succeeded
pub may_after : (rs : List Range) (file new : Option Held) → MayLose rs (option_map settled file) new → MayLose rs file new
may_after rs file None lost = tt
may_after rs None (Some h) lost = absurd lost
may_after rs (Some was) (Some h) lost = loses_then rs rs was (settled was) h refl (λ i clear. clear) (loses_settled rs was) lost

pub stage_begin : (below : ℕ) (places : List ℕ) (file : Option Held) → HasStage below places places file file
stage_begin below places None = tt
stage_begin below places (Some h) = record {
  reads = refl;
  others = outside_refl (bytes_at places) h.kept.bytes;
  kept = λ long stale had. had;
  loses = loses_none (bytes_at places) h;
}

-- a byte past the end is in neither
past_end : (xs : List ℕ) (i : ℕ) → length xs ≤ i → get_or xs i 0 ≡ 0
past_end [] i past = refl
past_end (x ∷ xs) zero past = absurd (omega arith)
past_end (x ∷ xs) (suc k) past = past_end xs k (omega arith)

-- so a place past the end is left out
pub stage_skip : (below : ℕ) (places rest later : List ℕ) (first : ℕ) (old new : Option Held) → rest ≡ first ∷ later → below ≤ first
    → HasStage below places rest old new → HasStage below places later old new
stage_skip below places rest later first old None split past stage = tt
stage_skip below places rest later first None (Some h) split past stage = absurd stage
stage_skip below places rest later first (Some was) (Some h) split past stage = record {
  reads = stage.reads;
  others = stage.others;
  kept = λ long stale had.
      let same = subst (λ (ps : List ℕ). SameOutside (bytes_at ps ++ stale) was.reads h.kept.bytes) split (stage.kept long stale had) in record {
        size = same.size;
        same = λ i clear. elim (cases_lt i first) [
          | inl low ↦ same.same i (inl low, clear)
          | inr from ↦ past_end h.kept.bytes i (omega (arith, same.size, long, past, from)) ∙ sym (past_end was.reads i (omega (arith, long, past, from)))
        ];
      };
  loses = stage.loses;
}

-- the byte at the next place is written again
pub stage_next : (below : ℕ) (places rest later : List ℕ) (first : ℕ) (old mid new : Option Held) → rest ≡ first ∷ later → first < below
    → ((i : ℕ) → IsClear i (bytes_at places) → IsClear i (bytes_at rest)) → HasStage below places rest old mid → HasWrittenBack first mid new → HasStage below places later old new
stage_next below places rest later first old mid None split low covers stage wrote = tt
stage_next below places rest later first old None (Some h) split low covers stage wrote = absurd wrote
stage_next below places rest later first None (Some m) (Some h) split low covers stage wrote = absurd stage
stage_next below places rest later first (Some was) (Some m) (Some h) split low covers stage wrote =
    let out = λ (i : ℕ) (clear : IsClear i (bytes_at places)).
    (subst (λ (ps : List ℕ). IsClear i (bytes_at ps)) split (covers i clear)).0 in record {
      reads = wrote.reads ∙ stage.reads;
      others = outside_trans (bytes_at places) was.kept.bytes m.kept.bytes h.kept.bytes stage.others
          (outside_more (byte_at first ∷ []) (bytes_at places) m.kept.bytes h.kept.bytes (λ i clear. (out i clear, tt)) wrote.others);
      kept = λ long stale had.
          let same = subst (λ (ps : List ℕ). SameOutside (bytes_at ps ++ stale) was.reads m.kept.bytes) split (stage.kept long stale had) in record {
            size = wrote.others.size ∙ same.size;
            same = λ i clear. elim (cases_lt i first) [
              | inl below_it ↦ wrote.others.same i (inl below_it, tt) ∙ same.same i (inl below_it, clear)
              | inr from ↦ elim (cases_lt first i) [
                | inl above ↦ wrote.others.same i (inr (omega arith), tt) ∙ same.same i (inr (omega arith), clear)
                | inr upto ↦
                    let is : first ≡ i = omega arith in
                    subst (λ (k : ℕ). get_or h.kept.bytes k 0 ≡ get_or was.reads k 0) is
                    (wrote.there (omega (arith, same.size, long, low)) ∙ ap (λ (xs : List ℕ). get_or xs first 0) (wrote.reads ∙ stage.reads))
              ]
            ];
          };
      loses = loses_then (bytes_at places) (byte_at first ∷ []) was m h stage.reads (λ i clear. (out i clear, tt)) stage.loses wrote.loses;
    }

-- that write fails
pub stage_torn : (below : ℕ) (places rest later : List ℕ) (first : ℕ) (old mid new : Option Held) → rest ≡ first ∷ later
    → ((i : ℕ) → IsClear i (bytes_at places) → IsClear i (bytes_at rest)) → HasStage below places rest old mid → MayLose (byte_at first ∷ []) mid new → MayLose (bytes_at places) old new
stage_torn below places rest later first old mid None split covers stage torn = tt
stage_torn below places rest later first old None (Some h) split covers stage torn = absurd torn
stage_torn below places rest later first None (Some m) (Some h) split covers stage torn = absurd stage
stage_torn below places rest later first (Some was) (Some m) (Some h) split covers stage torn =
    loses_then (bytes_at places) (byte_at first ∷ []) was m h stage.reads
    (λ i clear. ((subst (λ (ps : List ℕ). IsClear i (bytes_at ps)) split (covers i clear)).0, tt)) stage.loses torn

pub stage_loses : (below : ℕ) (places rest : List ℕ) (old new : Option Held) → HasStage below places rest old new → MayLose (bytes_at places) old new
stage_loses below places rest old None stage = tt
stage_loses below places rest None (Some h) stage = absurd stage
stage_loses below places rest (Some was) (Some h) stage = stage.loses

-- none are left
pub stage_end : (below : ℕ) (places rest : List ℕ) (old new : Option Held) → length rest ≡ 0 → HasStage below places rest old new → HasWrittenBackAll below places old new
stage_end below places [] old None empty stage = tt
stage_end below places [] None (Some h) empty stage = absurd stage
stage_end below places [] (Some was) (Some h) empty stage = record { reads = stage.reads; others = stage.others; kept = stage.kept }
stage_end below places (r ∷ rest) old new empty stage = absurd (omega (arith, empty))

-- a sync, the writes, and a sync: the file is found
pub found_all : (places : List ℕ) (bytes : List ℕ) (file mid : Option Held) → Reads bytes file → HasWrittenBackAll (length bytes) places (option_map settled file) mid
    → HasFound (bytes_at places) file (option_map settled mid)
found_all places bytes file None reads wrote = tt
found_all places bytes None (Some m) reads wrote = absurd wrote
found_all places bytes (Some was) (Some m) reads wrote = record {
  reads = wrote.reads;
  settled = refl;
  others = wrote.others;
  kept = λ stale had. subst (λ (xs : List ℕ). SameOutside stale xs m.kept.bytes) (sym wrote.reads) (wrote.kept (ap (λ (xs : List ℕ). length xs) (sym reads)) stale had);
}

pub found_reads : (places : List ℕ) (bytes : List ℕ) (file mid : Option Held) → Reads bytes file → HasWrittenBackAll (length bytes) places (option_map settled file) mid
    → ReadsSettled bytes (option_map settled mid)
found_reads places bytes file None reads wrote = tt
found_reads places bytes None (Some m) reads wrote = absurd wrote
found_reads places bytes (Some was) (Some m) reads wrote = (wrote.reads ∙ reads, refl)

-- the last sync fails
pub may_end : (below : ℕ) (places : List ℕ) (file mid new : Option Held) → HasWrittenBackAll below places (option_map settled file) mid
    → MayLose (bytes_at places) (option_map settled file) mid → Unsettled mid new → MayLose (bytes_at places) file new
may_end below places file mid None wrote lost un = tt
may_end below places file None (Some h) wrote lost un = absurd un
may_end below places None (Some m) (Some h) wrote lost un = absurd wrote
may_end below places (Some was) (Some m) (Some h) wrote lost un =
    let rs = bytes_at places in
    loses_then rs rs was m h wrote.reads (λ i clear. clear)
    (loses_then rs rs was (settled was) m refl (λ i clear. clear) (loses_settled rs was) lost)
    (may_unsettled rs (Some m) (Some h) un)

-- of what was found, the disk's file lacks no more than elsewhere
pub found_lacks : (places : List Range) (bytes : List ℕ) (old new : Option Held) → HasFound places old new → ReadsSettled bytes new
    → IfSome old (λ h. (stale : List Range) → SameOutside (places ++ stale) h.reads h.kept.bytes → KeepsBut stale bytes new)
found_lacks places bytes None new found reads = tt
found_lacks places bytes (Some was) None found reads = λ stale had. tt
found_lacks places bytes (Some was) (Some h) found reads = λ stale had. subst (λ (xs : List ℕ). SameOutside stale xs h.kept.bytes) reads.0 (found.kept stale had)
