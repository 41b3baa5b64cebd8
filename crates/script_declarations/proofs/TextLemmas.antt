-- The lines of a schema's own file declare it, and no other.
use Rattle.std.proofs.Common.{◌≡◌, ◌≢◌, ℕ, zero, suc, ◌+◌, ◌^◌, ◌<◌, ◌≤◌, Bool, true, false, List, [], ◌∷◌, ◌++◌, ◌==◌, ◌&&◌, ltb, leb, Some, length, get_or, refl, sym, ap, subst, ◌∙◌, inl, inr, append_assoc, append-nil, length-append, arith, rules}
use Rattle.std.specs.Prelude.{codes, slice_get, slice_index, Contains}
use Rattle.std.proofs.lemmas.Bool.{and_parts, leb-true, ltb-true}
use Rattle.std.proofs.lemmas.Bool.Decides.{nat_tests}
use Rattle.std.proofs.lemmas.Fmt.{decimal_nonempty, decimal_is_IsNumeral, length-decimal-le}
use Rattle.std.proofs.lemmas.List.Elements.{Contains-append_left, Contains-get_or, Contains-push}
use Rattle.std.proofs.lemmas.Option.{get_or_from_slice_get, slice_get-get_or, slice_get_within}
use Rattle.std.proofs.lemmas.Str.Parse.{digit_from_value}
use Rattle.std.specs.Fmt.{decimal}
use Rattle.std.specs.List.{AllByRecursion, flat_map, list_all, onto_first}
use Rattle.std.specs.Str.{IsAscii}
use Rattle.std.specs.Str.Parse.{AllDigits}
use Rattle.guards.specs.Schema.{Declarations, Field, IsSchema, object_count, names_of, owners_of, guards_of, firsts_of, nothing, with_object, with_field}
use Rattle.heap_model.specs.declared.limits.TheConstants.{MOST_OBJECTS, MOST_FIELDS}
use Rattle.script_lines.specs.Cutting.{words_in}
use Rattle.script_lines.specs.Grammar.{is_name_byte, field_word, Asks, IsName, IsNumber}
use Rattle.script_lines.specs.Lines.{lines_of, IsText, IsSkipped}
use Rattle.script_lines.specs.Orders as order
use Rattle.script_lines.specs.Orders.{Order}
use Rattle.script_lines.specs.Reading.{order_in}
use Rattle.script_lines.specs.Words.{AreWords, IsWord, IsGap}
use Rattle.script_lines.proofs.AskLemmas.{order_in-every, asking-few}
use Rattle.script_lines.proofs.WordLemmas.{words_in-every}
use Rattle.script_declarations.specs.Declares.{Declares, DeclaresObject, DeclaresField}
use Rattle.script_declarations.specs.declared.declared.Declared.TheVariants.{Added}
use Rattle.script_declarations.specs.SchemaFiles.{DeclaresLine, DeclaresLines}
use Rattle.script_declarations.specs.SchemaText.{object_line, field_line, name_of, ended, object_lines, field_lines, schema_lines, schema_text, AreNames, HasNames, SchemaTextLaw}

-- bytes that are seen, or a space: none of them ends a line
abbrev pub ArePlain : List ℕ → Type 0
ArePlain bytes = AllByRecursion (λ b. (32 ≤ b) × (b < 128)) bytes

plain-append : (xs ys : List ℕ) → ArePlain xs → ArePlain ys → ArePlain (xs ++ ys)
plain-append [] ys p q = q
plain-append (x ∷ xs) ys p q = (p.0, plain-append xs ys p.1 q)

plain-ascii : (xs : List ℕ) → ArePlain xs → IsAscii xs
plain-ascii [] p i = omega arith
plain-ascii (x ∷ xs) p zero = p.0.1
plain-ascii (x ∷ xs) p (suc i) = plain-ascii xs p.1 i

-- a line and what follows its end
one_line : (line rest : List ℕ) → ArePlain line → lines_of (line ++ (10 ∷ rest)) ≡ line ∷ lines_of rest
one_line [] rest p = refl
one_line (b ∷ bs) rest p =
    let low : 32 ≤ b = p.0.0 in
    let feed : (b == 10) ≡ false = grind (arith, nat_tests) in
    let return : (b == 13) ≡ false = grind (arith, nat_tests) in
    rw (feed, return) (ap (onto_first b) (one_line bs rest p.1))

-- the lines of a text of whole lines
lines_ended : (lines : List (List ℕ)) → AllByRecursion ArePlain lines → lines_of (flat_map ended lines) ≡ lines
lines_ended [] p = refl
lines_ended (line ∷ lines) p =
    ap lines_of (append_assoc line (codes "\n") (flat_map ended lines)) ∙ one_line line (flat_map ended lines) p.0
    ∙ ap (λ ls. line ∷ ls) (lines_ended lines p.1)

-- names

name_byte : (b : ℕ) → is_name_byte b ≡ true → (32 < b) × (b < 128)
name_byte b h = grind (arith, nat_tests)

name_bytes : (w : List ℕ) → list_all is_name_byte w ≡ true → ArePlain w × AllByRecursion (λ b. b ≢ 32) w
name_bytes [] h = (tt, tt)
name_bytes (b ∷ bs) h =
    let parts = and_parts _ _ h in
    let here = name_byte b parts.0 in
    let rest = name_bytes bs parts.1 in
    (((omega (arith, here.0), here.1), rest.0), ((λ e. omega (arith, here.0, e)), rest.1))

pub record Spells (w : List ℕ) : Type 0 where
  pub plain : ArePlain w
  pub word : IsWord w
  pub short : length w ≤ 32

not_nil : (w : List ℕ) → 0 < length w → w ≢ []
not_nil w h e = let none : length w ≡ 0 = ap length e in omega arith

pub spelled : (w : List ℕ) → IsName w → Spells w
spelled w h =
    let parts = and_parts (ltb 0 (length w) && leb (length w) 32) (list_all is_name_byte w) h in
    let front = and_parts (ltb 0 (length w)) (leb (length w) 32) parts.0 in
    let some : 0 < length w = ltb-true 0 (length w) front.0 in
    let few : length w ≤ 32 = leb-true (length w) 32 front.1 in
    let bytes = name_bytes w parts.1 in
    record { plain = bytes.0; word = (not_nil w some, bytes.1); short = few }

-- numbers

digit_bytes : (w : List ℕ) → AllDigits 10 w → ArePlain w × AllByRecursion (λ b. b ≢ 32) w
digit_bytes [] h = (tt, tt)
digit_bytes (b ∷ bs) h =
    let here = digit_from_value b h.0 in
    let rest = digit_bytes bs h.1 in
    (((omega (arith, here.0), omega (arith, here.1)), rest.0), ((λ e. omega (arith, here.0, e)), rest.1))

pub number_spelled : (n : ℕ) → n < 2 ^ 64 → Spells (decimal n)
number_spelled n h =
    let bytes = digit_bytes (decimal n) (decimal_is_IsNumeral n h).0.1 in
    let most : n < 10 ^ 20 = omega (arith, h) in
    record {
      plain = bytes.0;
      word = (not_nil (decimal n) (decimal_nonempty n h), bytes.1);
      short = omega (arith, length-decimal-le 20 n (omega arith) most h);
    }

pub is_number : (n : ℕ) → n < 2 ^ 64 → IsNumber (decimal n) n
is_number n h = ((decimal_is_IsNumeral n h).0, sym (decimal_is_IsNumeral n h).1, h)

-- what a line asks for is one thing

some_is : {A : Type 0} (a b : A) → Some a ≡ Some b → a ≡ b
some_is a b e = cc

pub asks_one : (line : List ℕ) (a b : Order) → Asks a line → Asks b line → a ≡ b
asks_one line a b p q =
    let first : words_in 5 line ≡ Some p.0 = words_in-every 5 p.0 line (asking-few p.0 a p.2) p.1 in
    let second : words_in 5 line ≡ Some q.0 = words_in-every 5 q.0 line (asking-few q.0 b q.2) q.1 in
    let same : p.0 ≡ q.0 = some_is _ _ (sym first ∙ second) in
    some_is _ _ (sym (order_in-every p.0 a p.2) ∙ ap order_in same ∙ order_in-every q.0 b q.2)

-- the line of an object

space_gap : IsGap (codes " ")
space_gap = ((λ e. absurd cc), (refl, tt))

keyword_object : IsWord (codes "object")
keyword_object = ((λ e. absurd cc), search rules)

keyword_field : (is_transient : Bool) → IsWord (field_word is_transient)
keyword_field false = ((λ e. absurd cc), search rules)
keyword_field true = ((λ e. absurd cc), search rules)

plain_keyword : (is_transient : Bool) → ArePlain (field_word is_transient)
plain_keyword false = search rules
plain_keyword true = search rules

short_keyword : (is_transient : Bool) → length (field_word is_transient) ≤ 9
short_keyword false = omega arith
short_keyword true = omega arith

-- such a line is read
read_keyword : (is_transient : Bool) (rest : List ℕ) → IsSkipped (field_word is_transient ++ rest) → ⊥
read_keyword false rest (inl e) = absurd (omega (arith, length-append (codes "field") rest, e))
read_keyword false rest (inr e) = absurd (omega (arith, e))
read_keyword true rest (inl e) = absurd (omega (arith, length-append (codes "transient") rest, e))
read_keyword true rest (inr e) = absurd (omega (arith, e))

last_word : (w : List ℕ) → Spells w → AreWords (w ∷ []) (w ++ [])
last_word w s = (s.word, append-nil w)

more_words : (w rest next : List ℕ) (others : List (List ℕ)) → Spells w → AreWords (next ∷ others) rest → AreWords (w ∷ next ∷ others) (w ++ (codes " " ++ rest))
more_words w rest next others s h = (s.word, codes " ", rest, space_gap, refl, h)

asks_object : (name : List ℕ) → IsName name → Asks (order.Object name) (object_line name)
asks_object name h =
    (codes "object" ∷ name ∷ [], (keyword_object, codes " ", name ++ [], space_gap, refl, last_word name (spelled name h)), (h, refl))

plain_object : (name : List ℕ) → IsName name → ArePlain (object_line name)
plain_object name h = plain-append (codes "object ") (name ++ []) (search rules) (plain-append name [] (spelled name h).plain tt)

text_object : (name : List ℕ) → IsName name → IsText (object_line name)
text_object name h =
    let short = (spelled name h).short in
    (omega (arith, length-append (codes "object ") (name ++ []), length-append name [], short), plain-ascii (object_line name) (plain_object name h))

-- the object is declared by it

module _ (old : Declarations) (name : List ℕ) (is : IsName name) (free : Contains old.objects name → ⊥) (room : object_count old < MOST_OBJECTS) where
  declares_object : DeclaresLine old (object_line name) (with_object old name)
  declares_object = inr (record {
    order = order.Object name;
    text = text_object name is;
    asks = asks_object name is;
    declares = record {
      refused = λ e. absurd ((spelled name is).word.0 e);
      passed = λ _. record {
        refused = λ c. absurd (free c);
        passed = λ _. record {
          refused = λ e. absurd (omega (arith, room, e));
          passed = λ _. (refl, refl);
        };
      };
    };
  })

  object_declared : (new : Declarations) → DeclaresObject old Added new name → new ≡ with_object old name
  object_declared new h = (((h.passed (spelled name is).word.0).passed free).passed (λ e. omega (arith, room, e))).1

  only_object : (new : Declarations) → DeclaresLine old (object_line name) new → new ≡ with_object old name
  only_object new (inl h) = elim h.1 [
    | inl e ↦ absurd (omega (arith, length-append (codes "object ") (name ++ []), e))
    | inr e ↦ absurd (omega (arith, e))
  ]
  only_object new (inr h) =
      let same : h.order ≡ order.Object name = asks_one _ h.order (order.Object name) h.asks (asks_object name is) in
      object_declared new (subst (λ o. Declares old o Added new) same h.declares)

-- names that are apart

pub apart : (before names : List (List ℕ)) → AreNames before names → (k : ℕ) → k < length names → Contains before (get_or names k []) → ⊥
apart before [] h k lt c = absurd (omega arith)
apart before (x ∷ names) h zero lt c = h.1 c
apart before (x ∷ names) h (suc k) lt c = apart (before ++ x ∷ []) names h.2 k (omega arith) (Contains-append_left before (x ∷ []) (get_or names k []) c)

behind : (before names : List (List ℕ)) (x : List ℕ) → AreNames (before ++ x ∷ []) names → (k : ℕ) → k < length names → x ≡ get_or names k [] → ⊥
behind before names x h k lt e = apart (before ++ x ∷ []) names h k lt (subst (Contains (before ++ x ∷ [])) e (Contains-push before x))

pub one_place : (before names : List (List ℕ)) → AreNames before names → (i j : ℕ) → i < length names → j < length names → get_or names i [] ≡ get_or names j [] → i ≡ j
one_place before [] h i j p q e = absurd (omega arith)
one_place before (x ∷ names) h zero zero p q e = refl
one_place before (x ∷ names) h zero (suc j) p q e = absurd (behind before names x h.2 j (omega arith) e)
one_place before (x ∷ names) h (suc i) zero p q e = absurd (behind before names x h.2 i (omega arith) (sym e))
one_place before (x ∷ names) h (suc i) (suc j) p q e = ap suc (one_place (before ++ x ∷ []) names h.2 i j (omega arith) (omega arith) e)

pub name_is : (before names : List (List ℕ)) → AreNames before names → (k : ℕ) → k < length names → IsName (get_or names k [])
name_is before [] h k lt = absurd (omega arith)
name_is before (x ∷ names) h zero lt = h.0
name_is before (x ∷ names) h (suc k) lt = name_is (before ++ x ∷ []) names h.2 k (omega arith)

-- the line of a field

-- the field is one of these objects', and begins with a value of 64 bits
pub record IsFieldOf (objects : List (List ℕ)) (f : Field) : Type 0 where
  pub named : IsName f.name
  pub owner : f.owner < length objects
  pub guard : f.guard < length objects
  pub first : f.first < 2 ^ 64

module _ (objects : List (List ℕ)) (names : AreNames [] objects) (f : Field) (is : IsFieldOf objects f) where
  abbrev owner_name : List ℕ
  owner_name = name_of objects f.owner

  abbrev guard_name : List ℕ
  guard_name = name_of objects f.guard

  abbrev asked : Order
  asked = order.Field f.name owner_name guard_name f.first f.is_transient

  owner_is : IsName owner_name
  owner_is = name_is [] objects names f.owner is.owner

  guard_is : IsName guard_name
  guard_is = name_is [] objects names f.guard is.guard

  abbrev ending : List ℕ
  ending = codes " " ++ (decimal f.first ++ [])

  abbrev guarding : List ℕ
  guarding = guard_name ++ ending

  abbrev owning : List ℕ
  owning = owner_name ++ (codes " " ++ guarding)

  abbrev middle : List ℕ
  middle = codes " " ++ owning

  words_field : AreWords (f.name ∷ owner_name ∷ guard_name ∷ decimal f.first ∷ []) (f.name ++ middle)
  words_field = more_words f.name owning owner_name (guard_name ∷ decimal f.first ∷ []) (spelled f.name is.named)
      (more_words owner_name guarding guard_name (decimal f.first ∷ []) (spelled owner_name owner_is)
      (more_words guard_name (decimal f.first ++ []) (decimal f.first) [] (spelled guard_name guard_is) (last_word (decimal f.first) (number_spelled f.first is.first))))

  asks_field : Asks asked (field_line objects f)
  asks_field = (
    field_word f.is_transient ∷ f.name ∷ owner_name ∷ guard_name ∷ decimal f.first ∷ [],
    (keyword_field f.is_transient, codes " ", f.name ++ middle, space_gap, refl, words_field),
    (is.named, owner_is, guard_is, decimal f.first, is_number f.first is.first, refl),
  )

  plain_field : ArePlain (field_line objects f)
  plain_field =
      let space : ArePlain (codes " ") = search rules in
      let number = plain-append (codes " ") (decimal f.first ++ []) space (plain-append (decimal f.first) [] (number_spelled f.first is.first).plain tt) in
      let guarded = plain-append (codes " ") (guard_name ++ ending) space (plain-append guard_name ending (spelled guard_name guard_is).plain number) in
      let owned = plain-append (codes " ") _ space (plain-append owner_name _ (spelled owner_name owner_is).plain guarded) in
      let named = plain-append (codes " ") _ space (plain-append f.name _ (spelled f.name is.named).plain owned) in
      plain-append (field_word f.is_transient) _ (plain_keyword f.is_transient) named

  text_field : IsText (field_line objects f)
  text_field =
      let a = (spelled f.name is.named).short in
      let b = (spelled owner_name owner_is).short in
      let c = (spelled guard_name guard_is).short in
      let d = (number_spelled f.first is.first).short in (
        omega (
          arith,
          a,
          b,
          c,
          d,
          short_keyword f.is_transient,
          length-append (field_word f.is_transient) (codes " " ++ (f.name ++ middle)),
          length-append (codes " ") (f.name ++ middle),
          length-append f.name middle,
          length-append (codes " ") (owner_name ++ (codes " " ++ (guard_name ++ ending))),
          length-append owner_name (codes " " ++ (guard_name ++ ending)),
          length-append (codes " ") (guard_name ++ ending),
          length-append guard_name ending,
          length-append (codes " ") (decimal f.first ++ []),
          length-append (decimal f.first) [],
        ),
        plain-ascii (field_line objects f) plain_field,
      )

  -- the number of a name
  number_is : (at number : ℕ) → at < length objects → slice_get objects number ≡ Some (name_of objects at) → at ≡ number
  number_is at number lt e =
      let there : number < length objects = slice_get_within objects number _ e in
      one_place [] objects names at number lt there (sym (get_or_from_slice_get objects number _ [] e))

  there_is : (at : ℕ) → at < length objects → slice_get objects at ≡ Some (name_of objects at)
  there_is at lt = slice_get-get_or objects at [] lt

  -- the field is declared by it

  module _ (before : List Field) (free : Contains (names_of before) f.name → ⊥) (room : length before < MOST_FIELDS) where
    abbrev old : Declarations
    old = record { objects = objects; fields = before }

    declares_field : DeclaresLine old (field_line objects f) (with_field old f)
    declares_field = inr (record {
      order = asked;
      text = text_field;
      asks = asks_field;
      declares = record {
        refused = λ e. absurd ((spelled f.name is.named).word.0 e);
        passed = λ _. record {
          refused = λ c. absurd (free c);
          passed = λ _. record {
            unknown = λ no. absurd (no (Contains-get_or objects f.owner [] is.owner));
            known = λ o at. record {
              unknown = λ no. absurd (no (Contains-get_or objects f.guard [] is.guard));
              known = λ g there. record {
                refused = λ full. absurd (omega (arith, room, full));
                passed = λ _. (refl, λ i. with_field old (record { name = f.name; owner = number_is f.owner o is.owner at i; guard = number_is f.guard g is.guard there i; first = f.first; is_transient = f.is_transient }));
              };
            };
          };
        };
      };
    })

    field_declared : (new : Declarations) → DeclaresField old Added new f.name owner_name guard_name f.first f.is_transient → new ≡ with_field old f
    field_declared new h =
        let named = (h.passed (spelled f.name is.named).word.0).passed free in
        let owned = named.known f.owner (there_is f.owner is.owner) in
        let guarded = owned.known f.guard (there_is f.guard is.guard) in
        (guarded.passed (λ full. omega (arith, room, full))).1

    only_field : (new : Declarations) → DeclaresLine old (field_line objects f) new → new ≡ with_field old f
    only_field new (inl h) = absurd (read_keyword f.is_transient (codes " " ++ (f.name ++ middle)) h.1)
    only_field new (inr h) =
        let same : h.order ≡ asked = asks_one _ h.order asked h.asks asks_field in
        field_declared new (subst (λ o. Declares old o Added new) same h.declares)

-- all lines

abbrev pub with_objects : List (List ℕ) → Declarations
with_objects objects = record { objects = objects; fields = [] }

abbrev pub having : (objects : List (List ℕ)) → List Field → Declarations
having objects fields = record { objects = objects; fields = fields }

objects_declare : (before names : List (List ℕ)) → AreNames before names → length before + length names ≤ MOST_OBJECTS
    → DeclaresLines (with_objects before) (object_lines names) (with_objects (before ++ names))
objects_declare before [] h few = ap with_objects (append-nil before)
objects_declare before (x ∷ names) h few =
    let long = length-append before (x ∷ []) in (
      with_objects (before ++ x ∷ []),
      declares_object (with_objects before) x h.0 h.1 (omega arith),
      subst (λ xs. DeclaresLines (with_objects (before ++ x ∷ [])) (object_lines names) (with_objects xs)) (append_assoc before (x ∷ []) names)
          (objects_declare (before ++ x ∷ []) names h.2 (omega arith)),
    )

objects_only : (before names : List (List ℕ)) → AreNames before names → length before + length names ≤ MOST_OBJECTS → (other : Declarations)
    → DeclaresLines (with_objects before) (object_lines names) other → other ≡ with_objects (before ++ names)
objects_only before [] h few other d = d ∙ ap with_objects (sym (append-nil before))
objects_only before (x ∷ names) h few other d =
    let long = length-append before (x ∷ []) in
    let first : d.0 ≡ with_objects (before ++ x ∷ []) = only_object (with_objects before) x h.0 h.1 (omega arith) d.0 d.1 in
    objects_only (before ++ x ∷ []) names h.2 (omega arith) other (subst (λ m. DeclaresLines m (object_lines names) other) first d.2)
    ∙ ap with_objects (append_assoc before (x ∷ []) names)

pub names-push : (before : List Field) (f : Field) → names_of (before ++ f ∷ []) ≡ names_of before ++ f.name ∷ []
names-push [] f = refl
names-push (g ∷ before) f = ap (λ ns. g.name ∷ ns) (names-push before f)

module _ (objects : List (List ℕ)) (names : AreNames [] objects) where
  fields_declare : (before fields : List Field) → AllByRecursion (IsFieldOf objects) fields → AreNames (names_of before) (names_of fields)
      → length before + length fields ≤ MOST_FIELDS → DeclaresLines (having objects before) (field_lines objects fields) (having objects (before ++ fields))
  fields_declare before [] each h few = ap (having objects) (append-nil before)
  fields_declare before (f ∷ fields) each h few =
      let long = length-append before (f ∷ []) in (
        having objects (before ++ f ∷ []),
        declares_field objects names f each.0 before h.1 (omega arith),
        subst (λ fs. DeclaresLines (having objects (before ++ f ∷ [])) (field_lines objects fields) (having objects fs)) (append_assoc before (f ∷ []) fields)
            (fields_declare (before ++ f ∷ []) fields each.1 (subst (λ ns. AreNames ns (names_of fields)) (sym (names-push before f)) h.2) (omega arith)),
      )

  fields_only : (before fields : List Field) → AllByRecursion (IsFieldOf objects) fields → AreNames (names_of before) (names_of fields)
      → length before + length fields ≤ MOST_FIELDS → (other : Declarations) → DeclaresLines (having objects before) (field_lines objects fields) other
      → other ≡ having objects (before ++ fields)
  fields_only before [] each h few other d = d ∙ ap (having objects) (sym (append-nil before))
  fields_only before (f ∷ fields) each h few other d =
      let long = length-append before (f ∷ []) in
      let first : d.0 ≡ having objects (before ++ f ∷ []) = only_field objects names f each.0 before h.1 (omega arith) d.0 d.1 in
      fields_only (before ++ f ∷ []) fields each.1 (subst (λ ns. AreNames ns (names_of fields)) (sym (names-push before f)) h.2) (omega arith) other
      (subst (λ m. DeclaresLines m (field_lines objects fields) other) first d.2)
      ∙ ap (having objects) (append_assoc before (f ∷ []) fields)

  plain_fields : (fields : List Field) → AllByRecursion (IsFieldOf objects) fields → AllByRecursion ArePlain (field_lines objects fields)
  plain_fields [] each = tt
  plain_fields (f ∷ fields) each = (plain_field objects names f each.0, plain_fields fields each.1)

plain_objects : (before names : List (List ℕ)) → AreNames before names → AllByRecursion ArePlain (object_lines names)
plain_objects before [] h = tt
plain_objects before (x ∷ names) h = (plain_object x h.0, plain_objects (before ++ x ∷ []) names h.2)

all-append : (xs ys : List (List ℕ)) → AllByRecursion ArePlain xs → AllByRecursion ArePlain ys → AllByRecursion ArePlain (xs ++ ys)
all-append [] ys p q = q
all-append (x ∷ xs) ys p q = (p.0, all-append xs ys p.1 q)

pub declares-append : (start : Declarations) (xs ys : List (List ℕ)) (between end : Declarations) → DeclaresLines start xs between → DeclaresLines between ys end
    → DeclaresLines start (xs ++ ys) end
declares-append start [] ys between end p q = subst (λ m. DeclaresLines m ys end) p q
declares-append start (x ∷ xs) ys between end p q = (p.0, p.1, declares-append p.0 xs ys between end p.2 q)

pub declares-split : (start : Declarations) (xs ys : List (List ℕ)) (end : Declarations) → DeclaresLines start (xs ++ ys) end
    → (between : Declarations) × DeclaresLines start xs between × DeclaresLines between ys end
declares-split start [] ys end p = (start, refl, p)
declares-split start (x ∷ xs) ys end p = let rest = declares-split p.0 xs ys end p.2 in (rest.0, (p.0, p.1, rest.1), rest.2)

fields_fit : (objects : List (List ℕ)) (earlier : List (List ℕ)) (fields : List Field) → AreNames earlier (names_of fields)
    → ((k : ℕ) → k < length fields → slice_index (owners_of fields) k < length objects)
    → ((k : ℕ) → k < length fields → slice_index (guards_of fields) k < length objects)
    → ((k : ℕ) → k < length fields → slice_index (firsts_of fields) k < 2 ^ 64)
    → AllByRecursion (IsFieldOf objects) fields
fields_fit objects earlier [] h owners guards firsts = tt
fields_fit objects earlier (f ∷ fields) h owners guards firsts = (
  record { named = h.0; owner = owners 0 (omega arith); guard = guards 0 (omega arith); first = firsts 0 (omega arith) },
  fields_fit objects (earlier ++ f.name ∷ []) fields h.2 (λ k lt. owners (suc k) (omega arith)) (λ k lt. guards (suc k) (omega arith)) (λ k lt. firsts (suc k) (omega arith)),
)

module _ (schema : Declarations) (is : IsSchema schema) (named : HasNames schema) where
  each_field : AllByRecursion (IsFieldOf schema.objects) schema.fields
  each_field = fields_fit schema.objects [] schema.fields named.fields is.limits.owners is.limits.guards is.limits.firsts

  lines_are : lines_of (schema_text schema) ≡ schema_lines schema
  lines_are = lines_ended (schema_lines schema)
      (all-append (object_lines schema.objects) (field_lines schema.objects schema.fields) (plain_objects [] schema.objects named.objects)
      (plain_fields schema.objects named.objects schema.fields each_field))

  pub text_declares : DeclaresLines nothing (lines_of (schema_text schema)) schema
  text_declares = subst (λ ls. DeclaresLines nothing ls schema) (sym lines_are)
      (declares-append nothing (object_lines schema.objects) (field_lines schema.objects schema.fields) (with_objects schema.objects) schema
      (objects_declare [] schema.objects named.objects (omega (arith, is.limits.objects)))
      (fields_declare schema.objects named.objects [] schema.fields each_field named.fields (omega (arith, is.limits.fields))))

  pub text_only : (other : Declarations) → DeclaresLines nothing (lines_of (schema_text schema)) other → other ≡ schema
  text_only other d =
      let parts = declares-split nothing (object_lines schema.objects) (field_lines schema.objects schema.fields) other (subst (λ ls. DeclaresLines nothing ls other) lines_are d) in
      let objects : parts.0 ≡ with_objects schema.objects = objects_only [] schema.objects named.objects (omega (arith, is.limits.objects)) parts.0 parts.1 in
      fields_only schema.objects named.objects [] schema.fields each_field named.fields (omega (arith, is.limits.fields)) other
      (subst (λ m. DeclaresLines m (field_lines schema.objects schema.fields) other) objects parts.2)

pub schema_text_declares : SchemaTextLaw
schema_text_declares schema is named = (text_declares schema is named, text_only schema is named)
