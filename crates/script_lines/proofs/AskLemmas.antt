-- Words ask for one thing at most, and the functions of "Reading" find it.
use Rattle.std.proofs.Common.{◌≡◌, ℕ, ◌+◌, ◌-◌, ◌*◌, ◌/◌, ◌%◌, ◌^◌, ◌<◌, ◌≤◌, Bool, true, false, List, [], ◌∷◌, ◌==◌, ◌&&◌, length, ltb, leb, Option, None, Some, if◌then◌else◌, refl, sym, ap, ◌∙◌, subst, inl, inr, arith, rules}
use Rattle.std.specs.Prelude.{codes}
use Rattle.std.proofs.lemmas.Bool.{and_parts, eqb-true, ltb-true, leb-true, lt-ltb, le-leb}
use Rattle.std.proofs.lemmas.Bool.Decides.{nat_tests}
use Rattle.std.proofs.lemmas.Slice.Eq.{bytes_eq-Decides}
use Rattle.std.proofs.lemmas.Str.Parse.{IsNumeralModel, numerals_by_value}
use Rattle.std.specs.Char.{is_ascii_digit, digit_char}
use Rattle.std.specs.List.{list_all}
use Rattle.std.specs.Option.{option_map, option_and_then, IfSome}
use Rattle.std.specs.Str.{bytes_eq}
use Rattle.std.specs.Str.Parse.{digits_value}
use Rattle.block_disk.specs.declared.crash.Fill.{Fill}
use Rattle.block_disk.specs.declared.crash.Fill.TheVariants.{Lost, Kept, Byte}
use Rattle.heap_model.specs.declared.ids.Lane.{Lane}
use Rattle.script_lines.proofs.WordLemmas.{words_in-found, words_in-every}
use Rattle.script_lines.specs.Cutting.{words_in}
use Rattle.script_lines.specs.Orders as order
use Rattle.script_lines.specs.Orders.{Action, Order}
use Rattle.script_lines.specs.Grammar.{is_name, IsName, IsNumber, IsThread, IsFill, AreActing, AreAsking, Asks, field_word}
use Rattle.script_lines.specs.Reading.{name_in, number_in, lane_in, thread_in, hex_in, byte_in, fill_in, action_in, one_word, two_words, three_words, four_words, five_words, field_in, order_in}

-- what was found has P
if_found : {A : Type 0} (P : A → Type 0) (b : Bool) (x y : Option A) → (b ≡ true → IfSome x P) → (b ≡ false → IfSome y P) → IfSome (if b then x else y) P
if_found P true x y f g = f refl
if_found P false x y f g = g refl

map_found : {A B : Type 0} (Q : A → Type 0) (P : B → Type 0) (f : A → B) (o : Option A) → IfSome o Q → ((a : A) → Q a → P (f a)) → IfSome (option_map f o) P
map_found Q P f None h g = tt
map_found Q P f (Some a) h g = g a h

then_found : {A B : Type 0} (Q : A → Type 0) (P : B → Type 0) (f : A → Option B) (o : Option A) → IfSome o Q → ((a : A) → Q a → IfSome (f a) P) → IfSome (option_and_then f o) P
then_found Q P f None h g = tt
then_found Q P f (Some a) h g = g a h

found_more : {A : Type 0} (Q P : A → Type 0) (o : Option A) → IfSome o Q → ((a : A) → Q a → P a) → IfSome o P
found_more Q P None h g = tt
found_more Q P (Some a) h g = g a h

word : (a b : List ℕ) → bytes_eq a b ≡ true → a ≡ b
word a b e = (bytes_eq-Decides a b).0 e

pair_is : (a b keyword name : List ℕ) → a ≡ keyword → b ≡ name → a ∷ b ∷ [] ≡ keyword ∷ name ∷ []
pair_is a b keyword name e f = cc

five_are : (a b c d e keyword name owner guard : List ℕ) → a ≡ keyword → b ≡ name → c ≡ owner → d ≡ guard
    → a ∷ b ∷ c ∷ d ∷ e ∷ [] ≡ keyword ∷ name ∷ owner ∷ guard ∷ e ∷ []
five_are a b c d e keyword name owner guard p q r s = cc

-- names
name_in-found : (w : List ℕ) → IfSome (name_in w) (λ name. IsName name × (w ≡ name))
name_in-found w = if_found (λ name. IsName name × (w ≡ name)) (is_name w) (Some w) None (λ e. (e, refl)) (λ e. tt)

name_in-every : (w : List ℕ) → IsName w → name_in w ≡ Some w
name_in-every w h = ap (λ b. if b then Some w else None) h

-- numbers
digits : IsNumeralModel (λ ds. list_all is_ascii_digit ds ≡ true) (digits_value 10)
digits = numerals_by_value _ (search rules)

number_in-found : (w : List ℕ) → IfSome (number_in w) (λ n. IsNumber w n)
number_in-found w = if_found (λ n. IsNumber w n) _ (Some (digits_value 10 w)) None
    (λ e. let parts = and_parts _ _ e in
    let front = and_parts _ _ parts.0 in
    ((ltb-true _ _ front.1, digits.to w front.0), refl, ltb-true _ _ parts.1))
    (λ e. tt)

both : {x y : Bool} → x ≡ true → y ≡ true → (x && y) ≡ true
both e f = cc

number_in-every : (w : List ℕ) (n : ℕ) → IsNumber w n → number_in w ≡ Some n
number_in-every w n h =
    let all : list_all is_ascii_digit w ≡ true = digits.from w h.0.1 in
    let fits : digits_value 10 w < 2 ^ 64 = subst (λ v. v < 2 ^ 64) h.1 h.2 in
    ap (λ b. if b then Some (digits_value 10 w) else None) (both (both all (lt-ltb 0 (length w) h.0.0)) (lt-ltb (digits_value 10 w) (2 ^ 64) fits)) ∙ ap Some (sym h.1)

-- threads
lane_in-found : (n : ℕ) → IfSome (lane_in n) (λ lane. (n ≡ lane.0 + 1) × (lane.0 < 32))
lane_in-found n = if_found (λ (lane : Lane). (n ≡ lane.0 + 1) × (lane.0 < 32)) _ _ None
    (λ e. let parts = and_parts _ _ e in
    let low : 0 < n = ltb-true _ _ parts.0 in
    let high : n ≤ 32 = leb-true _ _ parts.1 in
    (omega arith, omega arith))
    (λ e. tt)

lane_in-named : (ds : List ℕ) (letter : ℕ) → letter ≡ 116 → (n : ℕ) → IsNumber ds n → IfSome (lane_in n) (λ lane. IsThread (letter ∷ ds) lane)
lane_in-named ds letter e n number =
    found_more (λ (lane : Lane). (n ≡ lane.0 + 1) × (lane.0 < 32)) (λ lane. IsThread (letter ∷ ds) lane) (lane_in n) (lane_in-found n)
    (λ lane h. (ds, ap (λ b. b ∷ ds) e, subst (λ m. IsNumber ds m) h.0 number, h.1))

thread_in-found : (w : List ℕ) → IfSome (thread_in w) (λ lane. IsThread w lane)
thread_in-found [] = tt
thread_in-found (letter ∷ ds) = if_found (λ lane. IsThread (letter ∷ ds) lane) (letter == 116) _ None
    (λ e. then_found (λ n. IsNumber ds n) (λ lane. IsThread (letter ∷ ds) lane) lane_in (number_in ds) (number_in-found ds)
    (λ n number. lane_in-named ds letter (eqb-true _ _ e) n number))
    (λ e. tt)

lane_in-every : (lane : Lane) → lane.0 < 32 → lane_in (lane.0 + 1) ≡ Some lane
lane_in-every lane h =
    let low : ltb 0 (lane.0 + 1) ≡ true = lt-ltb 0 (lane.0 + 1) (omega arith) in
    let high : leb (lane.0 + 1) 32 ≡ true = le-leb (lane.0 + 1) 32 (omega arith) in
    let same : lane.0 + 1 - 1 ≡ lane.0 = omega arith in
    ap (λ b. if b then Some (record { 0 = lane.0 + 1 - 1 }) else None) (both low high) ∙ ap (λ n. Some (record { 0 = n })) same

thread_in-every : (w : List ℕ) (lane : Lane) → IsThread w lane → thread_in w ≡ Some lane
thread_in-every w lane h =
    ap thread_in h.1 ∙ ap (option_and_then lane_in) (number_in-every h.0 (lane.0 + 1) h.2) ∙ lane_in-every lane h.3

-- what a crash leaves
digit_low : (b : ℕ) → 48 ≤ b → b ≤ 57 → b ≡ digit_char (b - 48)
digit_low b low high = grind (arith, nat_tests)

digit_high : (b : ℕ) → 97 ≤ b → b ≤ 102 → b ≡ digit_char (b - 97 + 10)
digit_high b low high = grind (arith, nat_tests)

two_digits : (a b high low : ℕ) → high < 16 → a ≡ digit_char high → low < 16 → b ≡ digit_char low → IsFill (a ∷ b ∷ []) (Byte (16 * high + low))
two_digits a b high low h e l f =
    let first : (16 * high + low) / 16 ≡ high = omega arith in
    let second : (16 * high + low) % 16 ≡ low = omega arith in
    (omega arith, ap (λ d. d ∷ b ∷ []) e ∙ ap (λ d. digit_char high ∷ d ∷ []) f ∙ sym (ap (λ n. digit_char n ∷ digit_char ((16 * high + low) % 16) ∷ []) first ∙ ap (λ n. digit_char high ∷ digit_char n ∷ []) second))

hex_in-found : (b : ℕ) → IfSome (hex_in b) (λ d. (d < 16) × (b ≡ digit_char d))
hex_in-found b = if_found (λ d. (d < 16) × (b ≡ digit_char d)) _ _ _
    (λ e. let parts = and_parts _ _ e in
    let low : 48 ≤ b = leb-true _ _ parts.0 in
    let high : b ≤ 57 = leb-true _ _ parts.1 in
    (omega arith, digit_low b low high))
    (λ f. if_found (λ d. (d < 16) × (b ≡ digit_char d)) _ _ _
    (λ e. let parts = and_parts _ _ e in
    let low : 97 ≤ b = leb-true _ _ parts.0 in
    let high : b ≤ 102 = leb-true _ _ parts.1 in
    (omega arith, digit_high b low high))
    (λ e. tt))

hex_in-every : (d : ℕ) → d < 16 → hex_in (digit_char d) ≡ Some d
hex_in-every d h = grind (arith, nat_tests)

byte_in-found : (w : List ℕ) → IfSome (byte_in w) (λ fill. IsFill w fill)
byte_in-found [] = tt
byte_in-found (a ∷ []) = tt
byte_in-found (a ∷ b ∷ []) = then_found (λ d. (d < 16) × (a ≡ digit_char d)) (λ fill. IsFill (a ∷ b ∷ []) fill) _ (hex_in a) (hex_in-found a)
    (λ high h. map_found (λ d. (d < 16) × (b ≡ digit_char d)) (λ fill. IsFill (a ∷ b ∷ []) fill) _ (hex_in b) (hex_in-found b)
    (λ low l. two_digits a b high low h.0 h.1 l.0 l.1))
byte_in-found (a ∷ b ∷ c ∷ ds) = tt

fill_in-found : (w : List ℕ) → IfSome (fill_in w) (λ fill. IsFill w fill)
fill_in-found w = if_found (λ fill. IsFill w fill) _ _ _ (λ e. word w (codes "lost") e)
    (λ f. if_found (λ fill. IsFill w fill) _ _ _ (λ e. word w (codes "kept") e) (λ g. byte_in-found w))

never : (p q : Bool) → (p && (q && false)) ≡ false
never true true = refl
never true false = refl
never false q = refl

fill_if : Bool → Bool → List ℕ → Option Fill
fill_if lost kept w = if lost then Some Lost else (if kept then Some Kept else byte_in w)

fill_in-two : (a b : ℕ) → fill_in (a ∷ b ∷ []) ≡ byte_in (a ∷ b ∷ [])
unfolding fill_if
fill_in-two a b =
    ap (λ t. fill_if t (bytes_eq (a ∷ b ∷ []) (codes "kept")) (a ∷ b ∷ [])) (never (a == 108) (b == 111))
    ∙ ap (λ t. fill_if false t (a ∷ b ∷ [])) (never (a == 107) (b == 101))

byte_after : Option ℕ → Option ℕ → Option Fill
byte_after high low = option_and_then (λ a. option_map (λ b. Byte (16 * a + b)) low) high

byte_in-every : (a b high low : ℕ) → hex_in a ≡ Some high → hex_in b ≡ Some low → byte_in (a ∷ b ∷ []) ≡ Some (Byte (16 * high + low))
unfolding byte_after
byte_in-every a b high low e f = ap (λ o. byte_after o (hex_in b)) e ∙ ap (λ o. byte_after (Some high) o) f

fill_in-every : (w : List ℕ) (fill : Fill) → IsFill w fill → fill_in w ≡ Some fill
fill_in-every w Lost h = ap fill_in h
fill_in-every w Kept h = ap fill_in h
fill_in-every w (Byte byte) h =
    let high : hex_in (digit_char (byte / 16)) ≡ Some (byte / 16) = hex_in-every (byte / 16) (omega (arith, h.0)) in
    let low : hex_in (digit_char (byte % 16)) ≡ Some (byte % 16) = hex_in-every (byte % 16) (omega arith) in
    let whole : 16 * (byte / 16) + byte % 16 ≡ byte = omega arith in
    ap fill_in h.1 ∙ fill_in-two (digit_char (byte / 16)) (digit_char (byte % 16)) ∙ byte_in-every (digit_char (byte / 16)) (digit_char (byte % 16)) _ _ high low ∙ ap (λ n. Some (Byte n)) whole

-- what a thread does
action_in-found : (w name : List ℕ) → IsName name → IfSome (action_in w name) (λ action. AreActing (w ∷ name ∷ []) action)
action_in-found w name h =
    let P = λ (action : Action). AreActing (w ∷ name ∷ []) action in
    let here = λ (keyword : List ℕ) (e : bytes_eq w keyword ≡ true). ap (λ a. a ∷ name ∷ []) (word w keyword e) in
    if_found P _ (Some (order.Enter name)) _ (λ e. (h, here (codes "enter") e))
    (λ _. if_found P _ (Some (order.Exit name)) _ (λ e. (h, here (codes "exit") e))
    (λ _. if_found P _ (Some (order.Load name)) _ (λ e. (h, here (codes "load") e))
    (λ _. if_found P _ (Some (order.Wait name)) _ (λ e. (h, here (codes "wait") e))
    (λ _. if_found P _ (Some (order.Notify name)) _ (λ e. (h, here (codes "notify") e))
    (λ _. if_found P _ (Some (order.NotifyAll name)) _ (λ e. (h, here (codes "notifyall") e))
    (λ _. tt))))))

-- lines of one word to five
one_word-found : (a : List ℕ) → IfSome (one_word a) (λ order. AreAsking (a ∷ []) order)
one_word-found a =
    let P = λ (order : Order). AreAsking (a ∷ []) order in
    let here = λ (keyword : List ℕ) (e : bytes_eq a keyword ≡ true). ap (λ w. w ∷ []) (word a keyword e) in
    if_found P _ _ _ (here (codes "log"))
    (λ _. if_found P _ _ _ (here (codes "home"))
    (λ _. if_found P _ _ _ (here (codes "settle"))
    (λ _. if_found P _ _ _ (here (codes "trim"))
    (λ _. if_found P _ _ _ (here (codes "heap"))
    (λ _. if_found P _ _ _ (here (codes "show"))
    (λ _. if_found P _ _ _ (here (codes "recover"))
    (λ _. if_found P _ _ _ (here (codes "upgrade"))
    (λ _. tt))))))))

two_words-found : (a b : List ℕ) → IfSome (two_words a b) (λ order. AreAsking (a ∷ b ∷ []) order)
two_words-found a b =
    let P = λ (order : Order). AreAsking (a ∷ b ∷ []) order in
    if_found P _ _ _
    (λ e. map_found (λ name. IsName name × (b ≡ name)) P order.Object (name_in b) (name_in-found b)
    (λ name h. (h.0, pair_is a b _ name (word a (codes "object") e) h.1)))
    (λ _. if_found P _ _ _
    (λ e. map_found (λ fill. IsFill b fill) P (λ fill. order.Crash fill 0) (fill_in b) (fill_in-found b)
    (λ fill h. (b, h, inl (refl, ap (λ w. w ∷ b ∷ []) (word a (codes "crash") e)))))
    (λ _. if_found P _ _ _
    (λ e. map_found (λ lane. IsThread a lane) P (λ lane. order.Act lane order.Resume) (thread_in a) (thread_in-found a)
    (λ lane h. (a, b ∷ [], h, ap (λ w. w ∷ []) (word b (codes "resume") e), refl)))
    (λ _. tt)))

three_words-found : (a b c : List ℕ) → IfSome (three_words a b c) (λ order. AreAsking (a ∷ b ∷ c ∷ []) order)
three_words-found a b c =
    let P = λ (order : Order). AreAsking (a ∷ b ∷ c ∷ []) order in
    if_found P _ _ _
    (λ e. then_found (λ n. IsNumber b n) P _ (number_in b) (number_in-found b)
    (λ lanes h. map_found (λ n. IsNumber c n) P _ (number_in c) (number_in-found c)
    (λ capacity g. (b, c, h, g, ap (λ w. w ∷ b ∷ c ∷ []) (word a (codes "format") e)))))
    (λ _. then_found (λ lane. IsThread a lane) P _ (thread_in a) (thread_in-found a)
    (λ lane h. then_found (λ name. IsName name × (c ≡ name)) P _ (name_in c) (name_in-found c)
    (λ name g. map_found (λ action. AreActing (b ∷ name ∷ []) action) P _ (action_in b name) (action_in-found b name g.0)
    (λ action k. (a, b ∷ name ∷ [], h, k, ap (λ w. a ∷ b ∷ w ∷ []) g.1)))))

four_words-found : (a b c d : List ℕ) → IfSome (four_words a b c d) (λ order. AreAsking (a ∷ b ∷ c ∷ d ∷ []) order)
four_words-found a b c d =
    let P = λ (order : Order). AreAsking (a ∷ b ∷ c ∷ d ∷ []) order in
    if_found P _ _ _
    (λ e. if_found P _ _ _
    (λ f. then_found (λ fill. IsFill b fill) P _ (fill_in b) (fill_in-found b)
    (λ fill h. map_found (λ n. IsNumber d n) P (λ back. order.Crash fill back) (number_in d) (number_in-found d)
    (λ back g. (b, h, inr (d, g, ap (λ w. w ∷ b ∷ c ∷ d ∷ []) (word a (codes "crash") e) ∙ ap (λ w. codes "crash" ∷ b ∷ w ∷ d ∷ []) (word c (codes "back") f))))))
    (λ _. tt))
    (λ _. if_found P _ _ _
    (λ e. then_found (λ lane. IsThread a lane) P _ (thread_in a) (thread_in-found a)
    (λ lane h. then_found (λ name. IsName name × (c ≡ name)) P _ (name_in c) (name_in-found c)
    (λ name g. map_found (λ n. IsNumber d n) P (λ value. order.Act lane (order.Store name value)) (number_in d) (number_in-found d)
    (λ value k. (a, b ∷ name ∷ d ∷ [], h, (g.0, d, k, ap (λ w. w ∷ name ∷ d ∷ []) (word b (codes "store") e)), ap (λ w. a ∷ b ∷ w ∷ d ∷ []) g.1)))))
    (λ _. tt))

field_in-found : (a b c d e : List ℕ) (is_transient : Bool) → a ≡ field_word is_transient
    → IfSome (field_in b c d e is_transient) (λ order. AreAsking (a ∷ b ∷ c ∷ d ∷ e ∷ []) order)
field_in-found a b c d e is_transient f =
    let P = λ (order : Order). AreAsking (a ∷ b ∷ c ∷ d ∷ e ∷ []) order in
    then_found (λ name. IsName name × (b ≡ name)) P _ (name_in b) (name_in-found b)
    (λ name h. then_found (λ name. IsName name × (c ≡ name)) P _ (name_in c) (name_in-found c)
    (λ owner g. then_found (λ name. IsName name × (d ≡ name)) P _ (name_in d) (name_in-found d)
    (λ guard k. map_found (λ n. IsNumber e n) P (λ first. order.Field name owner guard first is_transient) (number_in e) (number_in-found e)
    (λ first m. (h.0, g.0, k.0, e, m, five_are a b c d e _ name owner guard f h.1 g.1 k.1)))))

five_words-found : (a b c d e : List ℕ) → IfSome (five_words a b c d e) (λ order. AreAsking (a ∷ b ∷ c ∷ d ∷ e ∷ []) order)
five_words-found a b c d e =
    let P = λ (order : Order). AreAsking (a ∷ b ∷ c ∷ d ∷ e ∷ []) order in
    if_found P _ _ _ (λ f. field_in-found a b c d e false (word a (codes "field") f))
    (λ _. if_found P _ _ _ (λ f. field_in-found a b c d e true (word a (codes "transient") f))
    (λ _. tt))

pub order_in-found : (words : List (List ℕ)) → IfSome (order_in words) (λ order. AreAsking words order)
order_in-found [] = tt
order_in-found (a ∷ []) = one_word-found a
order_in-found (a ∷ b ∷ []) = two_words-found a b
order_in-found (a ∷ b ∷ c ∷ []) = three_words-found a b c
order_in-found (a ∷ b ∷ c ∷ d ∷ []) = four_words-found a b c d
order_in-found (a ∷ b ∷ c ∷ d ∷ e ∷ []) = five_words-found a b c d e
order_in-found (a ∷ b ∷ c ∷ d ∷ e ∷ f ∷ more) = tt

-- and nothing is missed
named-every : {B : Type 0} (f : List ℕ → Option B) (w : List ℕ) → IsName w → option_and_then f (name_in w) ≡ f w
named-every f w h = ap (option_and_then f) (name_in-every w h)

acting-every : (action : Action) (ds : List ℕ) (lane : Lane) (others : List (List ℕ)) → thread_in (116 ∷ ds) ≡ Some lane → AreActing others action
    → order_in ((116 ∷ ds) ∷ others) ≡ Some (order.Act lane action)
acting-every (order.Enter name) ds lane others t a = ap (λ o. order_in ((116 ∷ ds) ∷ o)) a.1 ∙ rw (t, name_in-every name a.0)
acting-every (order.Exit name) ds lane others t a = ap (λ o. order_in ((116 ∷ ds) ∷ o)) a.1 ∙ rw (t, name_in-every name a.0)
acting-every (order.Load name) ds lane others t a = ap (λ o. order_in ((116 ∷ ds) ∷ o)) a.1 ∙ rw (t, name_in-every name a.0)
acting-every (order.Store name value) ds lane others t a =
    ap (λ o. order_in ((116 ∷ ds) ∷ o)) a.3 ∙ rw (t, name_in-every name a.0, number_in-every a.1 value a.2)
acting-every (order.Wait name) ds lane others t a = ap (λ o. order_in ((116 ∷ ds) ∷ o)) a.1 ∙ rw (t, name_in-every name a.0)
acting-every order.Resume ds lane others t a = ap (λ o. order_in ((116 ∷ ds) ∷ o)) a ∙ rw t
acting-every (order.Notify name) ds lane others t a = ap (λ o. order_in ((116 ∷ ds) ∷ o)) a.1 ∙ rw (t, name_in-every name a.0)
acting-every (order.NotifyAll name) ds lane others t a = ap (λ o. order_in ((116 ∷ ds) ∷ o)) a.1 ∙ rw (t, name_in-every name a.0)

few : (words : List (List ℕ)) {all : List (List ℕ)} → words ≡ all → length all ≤ 5 → length words ≤ 5
few words e h = subst (λ l. length l ≤ 5) (sym e) h

shorter : (words : List (List ℕ)) {all : List (List ℕ)} → words ≡ all → length all ≤ 4 → length words ≤ 4
shorter words e h = subst (λ l. length l ≤ 4) (sym e) h

acting-few : (action : Action) (others : List (List ℕ)) → AreActing others action → length others ≤ 4
acting-few (order.Enter name) others a = shorter others a.1 (omega arith)
acting-few (order.Exit name) others a = shorter others a.1 (omega arith)
acting-few (order.Load name) others a = shorter others a.1 (omega arith)
acting-few (order.Store name value) others a = shorter others a.3 (omega arith)
acting-few (order.Wait name) others a = shorter others a.1 (omega arith)
acting-few order.Resume others a = shorter others a (omega arith)
acting-few (order.Notify name) others a = shorter others a.1 (omega arith)
acting-few (order.NotifyAll name) others a = shorter others a.1 (omega arith)

act-every : (action : Action) (thread : List ℕ) (lane : Lane) (others : List (List ℕ)) → IsThread thread lane → AreActing others action → order_in (thread ∷ others) ≡ Some (order.Act lane action)
act-every action thread lane others t a =
    ap (λ w. order_in (w ∷ others)) t.1 ∙ acting-every action t.0 lane others (thread_in-every (116 ∷ t.0) lane (t.0, refl, t.2, t.3)) a

field-every : (name owner guard number : List ℕ) (is_transient : Bool)
    → order_in (field_word is_transient ∷ name ∷ owner ∷ guard ∷ number ∷ []) ≡ field_in name owner guard number is_transient
field-every name owner guard number false = refl
field-every name owner guard number true = refl

pub order_in-every : (words : List (List ℕ)) (order : Order) → AreAsking words order → order_in words ≡ Some order
order_in-every words (order.Object name) h = ap order_in h.1 ∙ ap (option_map order.Object) (name_in-every name h.0)
order_in-every words (order.Field name owner guard first is_transient) h =
    ap order_in h.5 ∙ field-every name owner guard h.3 is_transient ∙ rw (name_in-every name h.0, name_in-every owner h.1, name_in-every guard h.2, number_in-every h.3 first h.4)
order_in-every words (order.Format lanes capacity) h =
    ap order_in h.4 ∙ rw (number_in-every h.0 lanes h.2, number_in-every h.1 capacity h.3)
order_in-every words (order.Act lane action) h = ap order_in h.4 ∙ act-every action h.0 lane h.1 h.2 h.3
order_in-every words order.Log h = ap order_in h
order_in-every words order.Home h = ap order_in h
order_in-every words order.Settle h = ap order_in h
order_in-every words order.Trim h = ap order_in h
order_in-every words order.Heap h = ap order_in h
order_in-every words (order.Crash fill back) h = elim h.2 [
  | inl now ↦ ap order_in now.1 ∙ rw (fill_in-every h.0 fill h.1, now.0)
  | inr ago ↦ ap order_in ago.2 ∙ rw (fill_in-every h.0 fill h.1, number_in-every ago.0 back ago.1)
]
order_in-every words order.Show h = ap order_in h
order_in-every words order.Recover h = ap order_in h
order_in-every words order.Upgrade h = ap order_in h

-- no form has more than five words
pub asking-few : (words : List (List ℕ)) (order : Order) → AreAsking words order → length words ≤ 5
asking-few words (order.Object name) h = few words h.1 (omega arith)
asking-few words (order.Field name owner guard first is_transient) h = few words h.5 (omega arith)
asking-few words (order.Format lanes capacity) h = few words h.4 (omega arith)
asking-few words (order.Act lane action) h = let short = acting-few action h.1 h.3 in few words h.4 (omega arith)
asking-few words order.Log h = few words h (omega arith)
asking-few words order.Home h = few words h (omega arith)
asking-few words order.Settle h = few words h (omega arith)
asking-few words order.Trim h = few words h (omega arith)
asking-few words order.Heap h = few words h (omega arith)
asking-few words (order.Crash fill back) h = elim h.2 [
  | inl now ↦ few words now.1 (omega arith)
  | inr ago ↦ few words ago.2 (omega arith)
]
asking-few words order.Show h = few words h (omega arith)
asking-few words order.Recover h = few words h (omega arith)
asking-few words order.Upgrade h = few words h (omega arith)

missing : {A : Type 0} (P : Type 0) (a : A) → None ≡ Some a → P
missing P a e = absurd cc

same_words : (a b : List (List ℕ)) → Some a ≡ Some b → a ≡ b
same_words a b e = cc

at_some : (words : List (List ℕ)) (order : Order) → order_in words ≡ Some order → AreAsking words order
at_some words order e = subst (λ o. IfSome o (λ a. AreAsking words a)) e (order_in-found words)

-- the command that was read, and the line
pub says_iff : (line : List ℕ) (words : List (List ℕ)) (found : Option Order) → words_in 5 line ≡ Some words → found ≡ order_in words
    → (order : Order) → (found ≡ Some order → Asks order line) × (Asks order line → found ≡ Some order)
says_iff line words found e f order = (
  (λ g. (words, words_in-found 5 line words e, at_some words order (sym f ∙ g))),
  (λ h. f ∙ ap order_in (same_words _ _ (sym e ∙ words_in-every 5 h.0 line (asking-few h.0 order h.2) h.1)) ∙ order_in-every h.0 order h.2),
)

pub says_none : (line : List ℕ) (found : Option Order) → words_in 5 line ≡ None → found ≡ None
    → (order : Order) → (found ≡ Some order → Asks order line) × (Asks order line → found ≡ Some order)
says_none line found e f order = (
  (λ g. missing _ order (sym f ∙ g)),
  (λ h. missing _ h.0 (sym e ∙ words_in-every 5 h.0 line (asking-few h.0 order h.2) h.1)),
)
