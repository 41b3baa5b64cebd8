-- What the helper has published, and the lanes that it took in.
use Rattle.std.proofs.Common.{ℕ, suc, ◌≡◌, ◌≢◌, ◌+◌, ◌<◌, ◌≤◌, ◌==◌, if◌then◌else◌, List, [], ◌∷◌, map, refl, sym, ap, ◌∙◌, subst, ⊎_elim, arith}
use mathlib.Core.Option.{some}
use lib.ListN.{get_elem?}
use Rattle.heap_model.specs.declared.ids.Lane.{Lane}
use Rattle.heap_model.specs.Log.{lane}
use Rattle.law_histories.proofs.Own.{by_test}
use Rattle.monitor.specs.declared.view.Plan.{Plan}
use Rattle.monitor.specs.declared.view.Post.TheVariants.{Stable, Trimmed}
use Rattle.monitor.specs.declared.view.View.{View}
use Rattle.monitor.specs.declared.view.Part as raw
use Rattle.monitor.specs.Posts.{knowing_post}
use Rattle.monitor.specs.Words.{setting_of}
use Rattle.monitor.specs.Views.{noted, keeping}
use Rattle.monitor.specs.Seats.{Ended, Final, Helping}
use Rattle.trim_helper.specs.Serving.{Part, Among, IsOneHistory}
use Rattle.trim_helper.specs.Helping.{count_published, place_published, part_of, taken_in}

-- a number at another post
noted_else : (v : View) (q n p : ℕ) → q ≢ p → noted p (keeping v q n).notes ≡ noted p v.notes
noted_else v q n p ne = by_test q p (λ b. (if b then n else noted p v.notes) ≡ noted p v.notes) (λ e. absurd (ne e)) (λ _. refl)

noted_here : (v : View) (q n : ℕ) → noted q (keeping v q n).notes ≡ n
noted_here v q n = by_test q q (λ b. (if b then n else noted q v.notes) ≡ n) (λ _. refl) (λ ne. absurd (ne refl))

pub count_new : (h k : Helping) (o : Lane) (a t : ℕ) → o.0 < 32 → k.view ≡ knowing_post (knowing_post h.view (Stable o) a) (Trimmed o) t → (l : ℕ) → l < 32 → count_published k l ≡ (if o.0 == l then a else count_published h l)
count_new h k o a t low is l lt = ap (λ (v : View). noted l v.notes) is ∙ noted_else (keeping h.view o.0 a) (32 + o.0) t l (λ e. absurd (omega arith)) ∙ by_test o.0 l (λ b. noted l (keeping h.view o.0 a).notes ≡ (if b then a else count_published h l))
    (λ e. subst (λ (z : ℕ). noted z (keeping h.view o.0 a).notes ≡ a) e (noted_here h.view o.0 a)) (λ ne. noted_else h.view o.0 a l ne)

pub place_new : (h k : Helping) (o : Lane) (a t : ℕ) → o.0 < 32 → k.view ≡ knowing_post (knowing_post h.view (Stable o) a) (Trimmed o) t → (l : ℕ) → l < 32 → place_published k l ≡ (if o.0 == l then t else place_published h l)
place_new h k o a t low is l lt = ap (λ (v : View). noted (32 + l) v.notes) is ∙ by_test o.0 l (λ b. noted (32 + l) (keeping (keeping h.view o.0 a) (32 + o.0) t).notes ≡ (if b then t else place_published h l))
    (λ e. subst (λ (z : ℕ). noted (32 + z) (keeping (keeping h.view o.0 a) (32 + o.0) t).notes ≡ t) e (noted_here (keeping h.view o.0 a) (32 + o.0) t))
    (λ ne. noted_else (keeping h.view o.0 a) (32 + o.0) t (32 + l) (λ e. ne (omega arith)) ∙ noted_else h.view o.0 a (32 + l) (λ e. absurd (omega arith)))

-- a part that was taken in, by its place in the list
pub among : (gs : List raw.Part) (x : Part) → Among (map part_of gs) x → (j : ℕ) × (p : raw.Part) × (get_elem? gs j ≡ some p) × (part_of p ≡ x)
among [] x h = absurd h
among (g ∷ gs) x h = ⊎_elim (λ (e : part_of g ≡ x). (0, g, refl, e)) (λ (r : Among (map part_of gs) x). let i = among gs x r in (suc i.0, i.1, i.2, i.3)) h

pub one_history : (k : Plan) (h : Helping) (w : Final) (e : Ended k h.view h.next w) → h.next ≡ k.lanes → IsOneHistory (setting_of k) k.lanes (taken_in h) e.history
one_history k h w e same = record {
  legal = e.legal;
  part = λ x is. let i = among h.view.gathered x is in ap (λ (y : Part). lane y.lane e.history) (sym i.3) ∙ e.parts i.0 i.1 i.2 ∙ ap (λ (y : Part). y.events) i.3;
  no_other = λ l le. e.undealt l (omega arith);
}

pub read_low : (k : Plan) (h : Helping) (w : Final) → Ended k h.view h.next w → (x : Part) → Among (taken_in h) x → (x.count ≤ count_published h x.lane) × (x.place ≤ place_published h x.lane)
read_low k h w e x is =
    let i = among h.view.gathered x is in
    subst (λ (y : Part). (y.count ≤ count_published h y.lane) × (y.place ≤ place_published h y.lane)) i.3 (e.read i.0 i.1 i.1.lane.0 i.2, e.read i.0 i.1 (32 + i.1.lane.0) i.2)
