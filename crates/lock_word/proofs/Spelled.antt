-- A word spells one lock, and tells what may be seen.
use Rattle.std.proofs.Common.{◌≡◌, ◌≢◌, ℕ, ◌^◌, ◌<◌, None, refl, sym, ap, ◌∙◌, arith}
use Rattle.heap_model.specs.State.{State}
use Rattle.heap_model.specs.Events.{MaySee}
use Rattle.lock_word.specs.declared.lock_word.Shape.{Shape}
use Rattle.lock_word.specs.declared.lock_word.Shape.TheVariants.{Free, Thin, Fat}
use Rattle.lock_word.specs.LockWord.{bits_of, HasWord}
use Rattle.lock_word.specs.declared.fat_word.FatShape.{FatShape}
use Rattle.lock_word.specs.declared.fat_word.FatShape.TheVariants as fat
use Rattle.lock_word.specs.FatWord as fat_word
use Rattle.lock_word.specs.Spelling.{Spells, FatSpells, FatShows, Shows, fat_sight, sight_of}

pub spelled_once : (w : ℕ) (x y : Shape) → Spells w x → Spells w y → x ≡ y
spelled_once w (Free n) (Free p) h g = let e = sym h.0 ∙ g.0 in let same : n ≡ p = omega arith in ap Free same
spelled_once w (Free n) (Thin u b q) h g = let e = sym h.0 ∙ g.0 in let g0 = g.1.0 in let g1 = g.1.1 in let g2 = g.1.2 in absurd (omega arith)
spelled_once w (Free n) (Fat i q) h g = let e = sym h.0 ∙ g.0 in let g0 = g.1.0 in absurd (omega arith)
spelled_once w (Thin t a n) (Free p) h g = let e = sym h.0 ∙ g.0 in let h0 = h.1.0 in let h1 = h.1.1 in let h2 = h.1.2 in absurd (omega arith)
spelled_once w (Thin t a n) (Thin u b q) h g = let e = sym h.0 ∙ g.0 in let h1 = h.1.1 in let h2 = h.1.2 in let g1 = g.1.1 in let g2 = g.1.2 in
    let same : t ≡ u = omega arith in let same_a : a ≡ b = omega arith in let same_n : n ≡ q = omega arith in λ i. Thin (same i) (same_a i) (same_n i)
spelled_once w (Thin t a n) (Fat i q) h g = let e = sym h.0 ∙ g.0 in let h1 = h.1.1 in let h2 = h.1.2 in let g0 = g.1.0 in absurd (omega arith)
spelled_once w (Fat i n) (Free p) h g = let e = sym h.0 ∙ g.0 in let h0 = h.1.0 in absurd (omega arith)
spelled_once w (Fat i n) (Thin u b q) h g = let e = sym h.0 ∙ g.0 in let h0 = h.1.0 in let g1 = g.1.1 in let g2 = g.1.2 in absurd (omega arith)
spelled_once w (Fat i n) (Fat j q) h g = let e = sym h.0 ∙ g.0 in let h0 = h.1.0 in let g0 = g.1.0 in let same : i ≡ j = omega arith in let same_n : n ≡ q = omega arith in λ z. Fat (same z) (same_n z)

pub fat_once : (w : ℕ) (x y : FatShape) → FatSpells w x → FatSpells w y → x ≡ y
fat_once w (fat.Free n) (fat.Free p) h g = let e = sym h.0 ∙ g.0 in let same : n ≡ p = omega arith in ap fat.Free same
fat_once w (fat.Free n) (fat.Held u b q) h g = let e = sym h.0 ∙ g.0 in let g0 = g.1.0 in let g1 = g.1.1 in let g2 = g.1.2 in absurd (omega arith)
fat_once w (fat.Held t a n) (fat.Free p) h g = let e = sym h.0 ∙ g.0 in let h0 = h.1.0 in let h1 = h.1.1 in let h2 = h.1.2 in absurd (omega arith)
fat_once w (fat.Held t a n) (fat.Held u b q) h g = let e = sym h.0 ∙ g.0 in let h1 = h.1.1 in let h2 = h.1.2 in let g1 = g.1.1 in let g2 = g.1.2 in
    let same : t ≡ u = omega arith in let same_a : a ≡ b = omega arith in let same_n : n ≡ q = omega arith in λ i. fat.Held (same i) (same_a i) (same_n i)

pub word_room : (lock : Shape) → HasWord lock → bits_of lock < 2 ^ 64
word_room (Free n) h = omega arith
word_room (Thin t a n) h = let t_room = h.1 in let a_room = h.2 in let n_room = h.3 in omega arith
word_room (Fat i n) h = let i_room = h.0 in let n_room = h.1 in omega arith

pub fat_room : (lock : FatShape) → fat_word.HasWord lock → fat_word.bits_of lock < 2 ^ 64
fat_room (fat.Free n) h = omega arith
fat_room (fat.Held t a n) h = let t_room = h.1 in let a_room = h.2 in let n_room = h.3 in omega arith

pub sees : (slots : ℕ → ℕ) (s : State) (t o : ℕ) (lock : Shape) → Shows slots s o lock → ((i n : ℕ) → lock ≢ Fat i n) → MaySee s t o (sight_of lock None)
sees slots s t o (Free n) h thin = h
sees slots s t o (Thin u a n) h thin = h
sees slots s t o (Fat i n) h thin = absurd (thin i n refl)

pub fat_sees : (s : State) (t o : ℕ) (lock : FatShape) → FatShows s o lock → MaySee s t o (fat_sight lock)
fat_sees s t o (fat.Free n) h = h
fat_sees s t o (fat.Held u a n) h = h
