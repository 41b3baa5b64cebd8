-- Which counts the helper has published, and that each is one of a cut.
use Rattle.std.proofs.Common.{ℕ, ◌≡◌, ◌<◌, ◌⊎◌, if◌then◌else◌, List, [], ◌∷◌, ◌++◌, refl, sym, ap, ◌∙◌, subst, inl, inr, arith, append_assoc}
use Rattle.heap_model.specs.declared.ids.Lane.{Lane}
use Rattle.heap_model.specs.declared.record.Record.{Record}
use Rattle.heap_model.specs.Log.{IsLegal, lane}
use Rattle.heap_model.specs.Setting.{Setting}
use Rattle.heap_model.specs.Sections.{actions}
use Rattle.heap_model.specs.Cuts.{IsStable}
use Rattle.law_cuts.proofs.Stays.{cut_stays}
use Rattle.block_disk.specs.Device.{Device}
use Rattle.store_rounds.specs.Store as stores
use Rattle.law_histories.proofs.Own.{by_test}
use Rattle.monitor.specs.declared.view.Note.{Note}
use Rattle.monitor.specs.declared.view.Post.TheVariants.{Stable, Trimmed}
use Rattle.monitor.specs.declared.view.View.{View}
use Rattle.monitor.specs.Posts.{ArePublished, Publication, WasPublished, knowing_post}
use Rattle.monitor.specs.Seats.{Helping}
use Rattle.monitor.specs.Views.{noted}
use Rattle.heap_model.specs.Past.{Past, applied}
use Rattle.trim_helper.specs.Counts.{AddsCounts, IsCutCount, StandForCuts, WasCount}
use Rattle.trim_helper.specs.Hearing.{IsNoted}
use Rattle.trim_helper.specs.Helping.{HavePublished, taken_in}
use Rattle.trim_helper.specs.Serving.{Among, Part}
use Rattle.trim_helper.specs.Taken.{applied_more}
use Rattle.trim_helper.proofs.Reordered.{count_none, count_there, grown}
use Rattle.trim_helper.proofs.SeatLemmas.{among}

-- by the same notes the same was published
pub count_kept : (h k : Helping) (l n : ℕ) → k.view.notes ≡ h.view.notes → WasCount k l n → WasCount h l n
count_kept h k l n same was = subst (λ (ns : List Note). WasPublished l n ns) same was

-- one more count of a lane, and a place behind it
pub count_added : (h k : Helping) (o : Lane) (a t : ℕ) → k.view ≡ knowing_post (knowing_post h.view (Stable o) a) (Trimmed o) t → (l n : ℕ) → l < 32 → WasCount k l n → WasCount h l n ⊎ ((o.0 ≡ l) × (n ≡ a))
count_added h k o a t is l n lt was =
    let told : WasPublished l n (knowing_post (knowing_post h.view (Stable o) a) (Trimmed o) t).notes = subst (λ (v : View). WasPublished l n v.notes) is was in
    elim told [
      | inl place ↦ absurd (let far = place.0 in omega (arith, far, lt))
      | inr rest ↦ elim rest [
        | inl here ↦ inr (here.0, sym here.1)
        | inr before ↦ inl before
      ]
    ]

-- none was published: none stands there
published_none : (p : ℕ) (ps : List Note) → WasPublished p 0 ps
published_none p [] = refl
published_none p (q ∷ ps) = inr (published_none p ps)

-- of what was read the last of each post was published
read_last : (p : ℕ) (ns ps : List Note) → ArePublished ns ps → WasPublished p (noted p ns) ps
read_last p [] ps are = published_none p ps
read_last p (q ∷ ns) ps are = by_test q.post p (λ b. WasPublished p (if b then q.number else noted p ns) ps) (λ e. subst (λ (z : ℕ). WasPublished z q.number ps) e are.0) (λ other. read_last p ns ps are.1)

pub have_published : (h : Helping) → Publication h.view → HavePublished h
have_published h told x is =
    let i = among h.view.gathered x is in
    subst (λ (y : Part). WasCount h y.lane y.count) i.3 (read_last i.1.lane.0 i.1.notes h.view.notes (told.read i.0 i.1 i.2))

-- nothing was published, nor applied
pub stand_none : (h : Helping) (lanes : ℕ) (p : Past) → h.view.notes ≡ [] → StandForCuts h lanes p
stand_none h lanes p none l n lt was = count_none (applied p) l n (subst (λ (ns : List Note). WasPublished l n ns) none was)

-- more was applied
count_grown : (s : Setting) (newer log : List (ℕ × Record)) (l n : ℕ) → IsLegal s (newer ++ log) → IsCutCount log l n → IsCutCount (newer ++ log) l n
count_grown s newer log l n legal is = let stays = cut_stays s newer log is.cut legal is.whole is.closed in record { cut = is.cut; counted = is.counted; whole = stays.0; closed = stays.1 }

pub stand_more : (h : Helping) (lanes : ℕ) (s : Setting) (p : Past) (newer : List (ℕ × Record)) → IsLegal s (applied (applied_more newer p)) → StandForCuts h lanes p → StandForCuts h lanes (applied_more newer p)
stand_more h lanes s p newer legal stand l n lt was =
    let same = append_assoc newer p.fresh p.logged in
    subst (λ (log : List (ℕ × Record)). IsCutCount log l n) (sym same) (count_grown s newer (applied p) l n (subst (IsLegal s) same legal) (stand l n lt was))

-- the same was applied
pub stand_same : (h : Helping) (lanes : ℕ) (p q : Past) → applied q ≡ applied p → StandForCuts h lanes p → StandForCuts h lanes q
stand_same h lanes p q same stand l n lt was = subst (λ (log : List (ℕ × Record)). IsCutCount log l n) (sym same) (stand l n lt was)

-- a stable cut was published beside
pub stand_added : (h k : Helping) (lanes : ℕ) (p : Past) → IsStable (actions (applied p)) p.cut → ((l n : ℕ) → l < lanes → WasCount k l n → WasCount h l n ⊎ (n ≡ p.cut l)) → StandForCuts h lanes p → StandForCuts k lanes p
stand_added h k lanes p stable added stand l n lt was = elim (added l n lt was) [
  | inl before ↦ stand l n lt before
  | inr now ↦ record { cut = p.cut; counted = sym now; whole = stable.whole; closed = stable.closed }
]

-- a seat that had seen more when it published, and had published no more
pub added_noted : {D : Type 0} (device : D → Device) (x : stores.Parts D) (h m k : Helping) → IsNoted h m → AddsCounts device x m k → AddsCounts device x h k
added_noted device x h m k same adds s p has l n lt was = elim (adds s p has l n lt was) [
  | inl before ↦ inl (count_kept h m l n same.notes before)
  | inr now ↦ inr now
]

-- what sessions read, they may have read of a seat with the same notes
pub have_kept : (h k : Helping) → k.view.notes ≡ h.view.notes → HavePublished k → (x : Part) → Among (taken_in k) x → WasCount h x.lane x.count
have_kept h k same have x is = count_kept h k x.lane x.count same (have x is)

-- of a list that goes on in the lanes of another, in whatever order
pub count_later : (s : Setting) (p : Past) (newer longer : List (ℕ × Record)) (l n : ℕ) → IsLegal s (applied p) → IsLegal s longer → ((k : ℕ) → lane k (applied (applied_more newer p)) ≡ lane k longer) → IsCutCount (applied p) l n → IsCutCount longer l n
count_later s p newer longer l n legal all_legal same is =
    count_there s (applied p) longer l n legal all_legal (grown newer (applied p) longer (λ k. ap (λ (log : List (ℕ × Record)). lane k log) (sym (append_assoc newer p.fresh p.logged)) ∙ same k)) is
