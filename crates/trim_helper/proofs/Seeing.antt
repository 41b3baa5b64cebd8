-- What the helper has seen, as rings are drained and heard.
use Rattle.std.proofs.Common.{ℕ, zero, suc, ◌≡◌, ◌+◌, ◌<◌, List, [], ◌∷◌, ◌++◌, length, Option, Some, slice_index_or, slice_set, refl, sym, ap, ◌∙◌, subst, arith}
use Rattle.std.proofs.lemmas.List.{append_assoc}
use Rattle.law_cuts.proofs.Lanes.{lane_append}
use Rattle.thread_rings.specs.Following.{Whose, to_release, whose}
use Rattle.thread_rings.specs.Rings.{ReceiverLooked, Receiving, TellsLast, received, whose_received}
use Rattle.heap_model.specs.declared.record.Record.{Record}
use Rattle.heap_model.specs.declared.event.Event.{Event}
use Rattle.heap_model.specs.Log.{lane}
use Rattle.heap_model.specs.Own.{sent_of}
use Rattle.law_histories.specs.Laws.{SentLaw}
use Rattle.monitor.specs.declared.view.Plan.{Plan}
use Rattle.monitor.specs.Seats.{Helping, Home, Sitting, IsSeatOf}
use Rattle.monitor.specs.Views.{GoesOn, lane_of}
use Rattle.monitor.specs.Words.{setting_of}
use Rattle.trim_helper.specs.Rings.{received_of}
use Rattle.trim_helper.specs.Seen.{AreHeard, BeginsLog, KeepsOne, KeepsTold, SameSight, SeesFrom, SeesOne, own_lane}

-- draining

pub keeps_one : (c d : Receiving) → ReceiverLooked c d → KeepsOne c d
keeps_one c d looked = (looked.3, λ none. (sym looked.4 ∙ none, ap (λ (l : List Record). to_release l) looked.1))

pub keeps_refl : (cs : List Receiving) → KeepsTold cs cs
keeps_refl [] = tt
keeps_refl (c ∷ cs) = ((refl, λ none. (none, refl)), keeps_refl cs)

keeps_both : (c d e : Receiving) → KeepsOne c d → KeepsOne d e → KeepsOne c e
keeps_both c d e one two = (two.0 ∙ one.0, λ none. let b = two.1 none in let a = one.1 b.0 in (a.0, b.1 ∙ a.1))

pub keeps_then : (xs ys zs : List Receiving) → KeepsTold xs ys → KeepsTold ys zs → KeepsTold xs zs
keeps_then [] [] [] one two = tt
keeps_then (x ∷ xs) (y ∷ ys) (z ∷ zs) one two = (keeps_both x y z one.0 two.0, keeps_then xs ys zs one.1 two.1)
keeps_then [] [] (z ∷ zs) one two = absurd two
keeps_then [] (y ∷ ys) zs one two = absurd one
keeps_then (x ∷ xs) [] zs one two = absurd one
keeps_then (x ∷ xs) (y ∷ ys) [] one two = absurd two

pub keeps_set : (cs : List Receiving) (l : ℕ) (c d : Receiving) → l < length cs → KeepsOne (slice_index_or cs l d) c → KeepsTold cs (slice_set cs l c)
keeps_set [] l c d lt one = absurd (omega arith)
keeps_set (e ∷ cs) zero c d lt one = (one, keeps_refl cs)
keeps_set (e ∷ cs) (suc l) c d lt one = ((refl, λ none. (none, refl)), keeps_set cs l c d (omega arith) one)

-- what was seen is seen still

sees_one : (h : Helping) (l : ℕ) (c d : Receiving) → KeepsOne c d → SeesOne h l c → SeesOne h l d
sees_one h l c d kept sees = record {
  whose = kept.0 ∙ sees.whose;
  seen = λ none. let k = kept.1 none in subst (λ (log : List Record). BeginsLog h.view.plan l h.view.history log) (sym k.1) (sees.seen k.0);
}

pub sees_kept : (h : Helping) (l : ℕ) (cs ds : List Receiving) → KeepsTold cs ds → SeesFrom h l cs → SeesFrom h l ds
sees_kept h l [] [] kept sees = tt
sees_kept h l (c ∷ cs) (d ∷ ds) kept sees = (sees_one h l c d kept.0 sees.0, sees_kept h (suc l) cs ds kept.1 sees.1)
sees_kept h l [] (d ∷ ds) kept sees = absurd kept
sees_kept h l (c ∷ cs) [] kept sees = absurd kept

pub sees_at : (h : Helping) (first l : ℕ) (cs : List Receiving) (d : Receiving) → l < length cs → SeesFrom h first cs → SeesOne h (first + l) (slice_index_or cs l d)
sees_at h first l [] d lt sees = absurd (omega arith)
sees_at h first zero (c ∷ cs) d lt sees = subst (λ k. SeesOne h k c) (omega arith) sees.0
sees_at h first (suc l) (c ∷ cs) d lt sees = subst (λ k. SeesOne h k (slice_index_or cs l d)) (omega arith) (sees_at h (suc first) l cs d (omega arith) sees.1)

pub sees_set : (h : Helping) (first l : ℕ) (cs : List Receiving) (c : Receiving) → SeesOne h (first + l) c → SeesFrom h first cs → SeesFrom h first (slice_set cs l c)
sees_set h first l [] c one sees = tt
sees_set h first zero (e ∷ cs) c one sees = (subst (λ k. SeesOne h k c) (omega arith) one, sees.1)
sees_set h first (suc l) (e ∷ cs) c one sees = (sees.0, sees_set h (suc first) l cs c (subst (λ k. SeesOne h k c) (omega arith) one) sees.1)

-- a history that goes on logs what it did, and more
pub begins_later : SentLaw → (k : Plan) (l : ℕ) (h later : List (ℕ × Event)) (log : List Record) → GoesOn later h → BeginsLog k l h log → BeginsLog k l later log
begins_later law k l h later log goes is = (
  is.0 ++ sent_of (setting_of k) (lane l goes.0),
  ap (λ (z : List (ℕ × Event)). sent_of (setting_of k) (lane l z)) goes.1 ∙ ap (λ (z : List Event). sent_of (setting_of k) z) (lane_append l goes.0 h) ∙ law (setting_of k) (lane l goes.0) (lane l h)
      ∙ ap (λ (z : List Record). z ++ sent_of (setting_of k) (lane l goes.0)) is.1 ∙ append_assoc log is.0 (sent_of (setting_of k) (lane l goes.0)),
)

-- The helper's seat has seen more.
module _ (law : SentLaw) (h k : Helping) (table : k.table ≡ h.table) (plan : k.view.plan ≡ h.view.plan) (goes : GoesOn k.view.history h.view.history) where
  same_lane : (l : ℕ) → own_lane h l ≡ own_lane k l
  same_lane l = λ i. record { table = sym table i; plan = sym plan i; lane = record { 0 = l } }

  later_one : (l : ℕ) (c : Receiving) → SeesOne h l c → SeesOne k l c
  later_one l c sees = record {
    whose = sees.whose ∙ ap (λ (w : Whose). Some w) (same_lane l);
    seen = λ none. subst (λ (p : Plan). BeginsLog p l k.view.history (to_release (received c))) (sym plan) (begins_later law h.view.plan l h.view.history k.view.history (to_release (received c)) goes (sees.seen none));
  }

  pub sees_later : (l : ℕ) (cs : List Receiving) → SeesFrom h l cs → SeesFrom k l cs
  sees_later l [] sees = tt
  sees_later l (c ∷ cs) sees = (later_one l c sees.0, sees_later (suc l) cs sees.1)

-- nor does it matter what it has published
module _ (h k : Helping) (same : SameSight h k) where
  pub sees_same : (l : ℕ) (cs : List Receiving) → SeesFrom h l cs → SeesFrom k l cs
  sees_same l [] sees = tt
  sees_same l (c ∷ cs) sees = (
    record {
      whose = sees.0.whose ∙ ap (λ (w : Whose). Some w) (λ i. record { table = sym same.table i; plan = sym same.plan i; lane = record { 0 = l } });
      seen = λ none. subst (λ (p : Plan). BeginsLog p l k.view.history (to_release (received c))) (sym same.plan) (subst (λ (z : List (ℕ × Event)). BeginsLog h.view.plan l z (to_release (received c))) (sym same.history) (sees.0.seen none));
    },
    sees_same (suc l) cs sees.1,
  )

pub sight_refl : (h : Helping) → SameSight h h
sight_refl h = record { table = refl; plan = refl; history = refl }

pub sight_then : (h k m : Helping) → SameSight h k → SameSight k m → SameSight h m
sight_then h k m one two = record { table = two.table ∙ one.table; plan = two.plan ∙ one.plan; history = two.history ∙ one.history }

-- hearing

-- the lane of one whose lane is that of another
pub whose_is : (of : Option Whose) (a b : Whose) → of ≡ Some a → of ≡ Some b → a ≡ b
whose_is of a b one two = let same : ◌≡◌ {A = Option Whose} (Some a) (Some b) = sym one ∙ two in cc

-- a witness that a ring keeps is of the heap
pub witness_of : (home : Home) (h : Helping) (l : ℕ) (c : Receiving) (w : Sitting) → h.table ≡ home.table → h.view.plan ≡ home.plan → SeesOne h l c → TellsLast (whose_received c) (received c) w → IsSeatOf home w
witness_of home h l c w table plan sees tells =
    let same = whose_is (whose_received c) (whose w) (own_lane h l) tells.0 sees.whose in
    (ap (λ (z : Whose). z.table) same ∙ table, ap (λ (z : Whose). z.plan) same ∙ plan)

-- what it tells was heard
pub heard_one : SentLaw → (h k : Helping) (l : ℕ) (c d : Receiving) (w : Sitting) → k.table ≡ h.table → k.view.plan ≡ h.view.plan → SeesOne h l c → TellsLast (whose_received c) (received c) w →
    whose_received d ≡ whose_received c → received d ≡ received c → GoesOn (lane (lane_of w.view).0 k.view.history) w.view.events → SeesOne k l d
heard_one law h k l c d w table plan sees tells whose_same taken goes =
    let same = whose_is (whose_received c) (whose w) (own_lane h l) tells.0 sees.whose in
    let at : (lane_of w.view).0 ≡ l = ap (λ (z : Whose). z.lane.0) same in
    let of : w.view.plan ≡ k.view.plan = ap (λ (z : Whose). z.plan) same ∙ sym plan in
    let events : List Event = w.view.events in
    let s = setting_of k.view.plan in
    record {
      whose = whose_same ∙ sees.whose ∙ ap (λ (z : Whose). Some z) (λ i. record { table = sym table i; plan = sym plan i; lane = record { 0 = l } });
      seen = λ none. (
        sent_of s goes.0,
        ap (λ (n : ℕ). sent_of s (lane n k.view.history)) (sym at) ∙ ap (λ (z : List Event). sent_of s z) goes.1 ∙ law s goes.0 events
            ∙ ap (λ (z : List Record). z ++ sent_of s goes.0) (ap (λ (p : Plan). sent_of (setting_of p) events) (sym of) ∙ tells.1 ∙ ap (λ (z : List Record). to_release z) (sym taken)),
      );
    }

pub heard_none : (h : Helping) (l : ℕ) (c d : Receiving) → whose_received d ≡ whose_received c → received d ≡ received c → c.told ≡ [] → SeesOne h l c → SeesOne h l d
heard_none h l c d whose_same taken none sees = sees_one h l c d (whose_same, λ _. (none, ap (λ (z : List Record). to_release z) taken)) sees

pub heard_more : (n : ℕ) (cs : List Receiving) (c d : Receiving) → n < length cs → c.told ≡ [] → AreHeard n cs → AreHeard (suc n) (slice_set cs n c)
heard_more n [] c d lt none heard = absurd (omega arith)
heard_more zero (e ∷ cs) c d lt none heard = (none, tt)
heard_more (suc n) (e ∷ cs) c d lt none heard = (heard.0, heard_more n cs c d (omega arith) none heard.1)

-- of each lane, once all are heard
pub all_seen : (h : Helping) (first : ℕ) (cs : List Receiving) → SeesFrom h first cs → AreHeard (length cs) cs → (l : ℕ) → l < length cs → BeginsLog h.view.plan (first + l) h.view.history (to_release (received_of cs l))
all_seen h first [] sees heard l lt = absurd (omega arith)
all_seen h first (c ∷ cs) sees heard zero lt = subst (λ (n : ℕ). BeginsLog h.view.plan n h.view.history (to_release (received c))) (omega arith) (sees.0.seen heard.0)
all_seen h first (c ∷ cs) sees heard (suc l) lt = subst (λ (n : ℕ). BeginsLog h.view.plan n h.view.history (to_release (received_of cs l))) (omega arith) (all_seen h (suc first) cs sees.1 heard.1 l (omega arith))
