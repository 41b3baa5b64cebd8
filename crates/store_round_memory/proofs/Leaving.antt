-- A list whose records are moved to the front, without those that are kept.
use Rattle.std.proofs.Common.{ℕ, ◌≡◌, ◌+◌, ◌<◌, ◌≤◌, if◌then◌else◌, Bool, true, false, List, [], ◌∷◌, get_or, length, take, drop, slice_set, sym, ap, ◌∙◌, subst, arith}
use Rattle.std.proofs.lemmas.List.{drop-set-lt, length-set, take_more_set}
use Rattle.heap_model.specs.declared.record.LaneRecord.{LaneRecord}
use Rattle.heap_model.specs.declared.record.Record.{Record}
use Rattle.heap_model.specs.Log.{log_from}
use Rattle.store_round_memory.specs.Counting.{is_kept, records_left}
use Rattle.store_round_memory.proofs.Lists.{log_append, log_next, pair, same_at, same_past}

-- what is so after so many records
pub record Left (counts : List ℕ) (xs rs : List LaneRecord) (place left : ℕ) : Type 0 where
  pub size : length rs ≡ length xs
  pub rest : drop place rs ≡ drop place xs
  pub front : log_from (take left rs) ≡ records_left counts (log_from (take place xs))
  pub within : left ≤ place

module _ (counts : List ℕ) (xs rs : List LaneRecord) (place left : ℕ) (d : LaneRecord) (was : Left counts xs rs place left) (lt : place < length xs) where
  abbrev e : LaneRecord
  e = get_or rs place d

  same : e ≡ get_or xs place d
  same = same_at place rs xs d was.rest

  next : log_from (take (place + 1) xs) ≡ pair e ∷ log_from (take place xs)
  next = log_next xs place d lt ∙ ap (λ (x : LaneRecord). pair x ∷ log_from (take place xs)) (sym same)

  -- the test tells whether the record is kept
  left_next : (b : Bool) → b ≡ is_kept counts e.lane.0 (log_from (take place xs)) →
      records_left counts (log_from (take (place + 1) xs)) ≡ (if b then records_left counts (log_from (take place xs)) else pair e ∷ records_left counts (log_from (take place xs)))
  left_next b is = ap (records_left counts) next
      ∙ ap (λ c. if c then records_left counts (log_from (take place xs)) else pair e ∷ records_left counts (log_from (take place xs))) (sym is)

  step : (b : Bool) → b ≡ is_kept counts e.lane.0 (log_from (take place xs)) → Left counts xs (if b then rs else slice_set rs left e) (place + 1) (if b then left else left + 1)
  step true is = record {
    size = was.size;
    rest = same_past place rs xs was.rest;
    front = was.front ∙ sym (left_next true is);
    within = omega (arith, was.within);
  }
  step false is = record {
    size = length-set rs left e ∙ was.size;
    rest = drop-set-lt (place + 1) rs left e (omega (arith, was.within)) ∙ same_past place rs xs was.rest;
    front = ap log_from (take_more_set rs left e (omega (arith, was.within, was.size, lt))) ∙ log_append (take left rs) (e ∷ []) ∙ ap (λ (zs : List (ℕ × Record)). pair e ∷ zs) was.front ∙ sym (left_next false is);
    within = omega (arith, was.within);
  }

  pub left_more : (b : Bool) (more : List LaneRecord) (far : ℕ) → b ≡ is_kept counts e.lane.0 (log_from (take place xs)) → more ≡ (if b then rs else slice_set rs left e) → far ≡ (if b then left else left + 1) →
      Left counts xs more (place + 1) far
  left_more b more far is records at = subst (λ (zs : List LaneRecord). Left counts xs zs (place + 1) far) (sym records) (subst (λ (n : ℕ). Left counts xs (if b then rs else slice_set rs left e) (place + 1) n) (sym at) (step b is))
