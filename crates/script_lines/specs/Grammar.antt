-- The lines of a script (docs/SCRIPTS.md, "Text" and "Lines").
use Rattle.std.specs.Prelude.{◌≡◌, ◌⊎◌, ℕ, ◌+◌, ◌/◌, ◌%◌, ◌^◌, ◌<◌, nat_lt, nat_le, Bool, true, false, ◌&&◌, ◌||◌, ◌==◌, IsTrue, List, [], ◌∷◌, length, codes}
use Rattle.std.specs.Char.{is_ascii_alphanumeric, digit_char}
use Rattle.std.specs.List.{list_all}
use Rattle.std.specs.Str.Parse.{IsNumeral, digits_value}
use Rattle.block_disk.specs.declared.crash.Fill.{Fill}
use Rattle.block_disk.specs.declared.crash.Fill.TheVariants.{Lost, Kept, Byte}
use Rattle.heap_model.specs.declared.ids.Lane.{Lane}
use Rattle.heap_model.specs.declared.limits.TheConstants.{LANES}
use Rattle.script_lines.specs.declared.terms.TheConstants.{LONGEST_NAME}
use Rattle.script_lines.specs.Orders as order
use Rattle.script_lines.specs.Orders.{Action, Order}
use Rattle.script_lines.specs.Words.{AreWords}

-- a letter, a digit, `_` or `.`
abbrev pub is_name_byte : ℕ → Bool
is_name_byte byte = is_ascii_alphanumeric byte || (byte == 95) || (byte == 46)

-- a name: 1 to 32 of these
abbrev pub is_name : List ℕ → Bool
is_name word = nat_lt 0 (length word) && nat_le (length word) LONGEST_NAME && list_all is_name_byte word

abbrev pub IsName : List ℕ → Type 0
IsName word = IsTrue (is_name word)

-- a number: one or more decimal digits, with leading zeros or without, below 2^64
abbrev pub IsNumber : List ℕ → ℕ → Type 0
IsNumber word value = IsNumeral 10 word × (value ≡ digits_value 10 word) × (value < 2 ^ 64)

-- a thread: `t` and its number, that of its lane plus one
abbrev pub IsThread : List ℕ → Lane → Type 0
IsThread word lane = (digits : List ℕ) × (word ≡ 116 ∷ digits) × IsNumber digits (lane.0 + 1) × (lane.0 < LANES)

-- what a crash leaves: a word, or two lower-case hexadecimal digits
abbrev pub IsFill : List ℕ → Fill → Type 0
IsFill word Lost = word ≡ codes "lost"
IsFill word Kept = word ≡ codes "kept"
IsFill word (Byte byte) = (byte < 256) × (word ≡ digit_char (byte / 16) ∷ digit_char (byte % 16) ∷ [])

-- the words that say what a thread does, behind the one that says which
abbrev pub AreActing : List (List ℕ) → Action → Type 0
AreActing words (order.Enter name) = IsName name × (words ≡ codes "enter" ∷ name ∷ [])
AreActing words (order.Exit name) = IsName name × (words ≡ codes "exit" ∷ name ∷ [])
AreActing words (order.Load name) = IsName name × (words ≡ codes "load" ∷ name ∷ [])
AreActing words (order.Store name value) = IsName name × (number : List ℕ) × IsNumber number value
    × (words ≡ codes "store" ∷ name ∷ number ∷ [])
AreActing words (order.Wait name) = IsName name × (words ≡ codes "wait" ∷ name ∷ [])
AreActing words order.Resume = words ≡ codes "resume" ∷ []
AreActing words (order.Notify name) = IsName name × (words ≡ codes "notify" ∷ name ∷ [])
AreActing words (order.NotifyAll name) = IsName name × (words ≡ codes "notifyall" ∷ name ∷ [])

-- the word with which a field's line begins
abbrev pub field_word : (is_transient : Bool) → List ℕ
field_word false = codes "field"
field_word true = codes "transient"

-- the words of a line that asks for this
abbrev pub AreAsking : List (List ℕ) → Order → Type 0
AreAsking words (order.Object name) = IsName name × (words ≡ codes "object" ∷ name ∷ [])
AreAsking words (order.Field name owner guard first is_transient) = IsName name × IsName owner × IsName guard
    × (number : List ℕ) × IsNumber number first × (words ≡ field_word is_transient ∷ name ∷ owner ∷ guard ∷ number ∷ [])
AreAsking words (order.Format lanes capacity) = (first : List ℕ) × (second : List ℕ)
    × IsNumber first lanes × IsNumber second capacity × (words ≡ codes "format" ∷ first ∷ second ∷ [])
AreAsking words (order.Act lane action) = (thread : List ℕ) × (others : List (List ℕ))
    × IsThread thread lane × AreActing others action × (words ≡ thread ∷ others)
AreAsking words order.Log = words ≡ codes "log" ∷ []
AreAsking words order.Home = words ≡ codes "home" ∷ []
AreAsking words order.Settle = words ≡ codes "settle" ∷ []
AreAsking words order.Trim = words ≡ codes "trim" ∷ []
AreAsking words order.Heap = words ≡ codes "heap" ∷ []
AreAsking words (order.Crash fill back) = (left : List ℕ) × IsFill left fill
    × (((back ≡ 0) × (words ≡ codes "crash" ∷ left ∷ []))
    ⊎ ((number : List ℕ) × IsNumber number back × (words ≡ codes "crash" ∷ left ∷ codes "back" ∷ number ∷ [])))
AreAsking words order.Show = words ≡ codes "show" ∷ []
AreAsking words order.Recover = words ≡ codes "recover" ∷ []
AreAsking words order.Upgrade = words ≡ codes "upgrade" ∷ []

-- a line asks for this
abbrev pub Asks : Order → List ℕ → Type 0
Asks order line = (words : List (List ℕ)) × AreWords words line × AreAsking words order
