-- What words ask for, as functions: what the proofs compare with "Grammar".
use Rattle.std.specs.Prelude.{ℕ, ◌+◌, ◌-◌, ◌*◌, ◌^◌, nat_lt, nat_le, Bool, true, false, ◌&&◌, ◌==◌, Option, None, Some, List, [], ◌∷◌, length, codes, if◌then◌else◌}
use Rattle.std.specs.Char.{is_ascii_digit}
use Rattle.std.specs.Option.{option_map, option_and_then}
use Rattle.std.specs.List.{list_all}
use Rattle.std.specs.Str.{bytes_eq}
use Rattle.std.specs.Str.Parse.{digits_value}
use Rattle.block_disk.specs.declared.crash.Fill.{Fill}
use Rattle.block_disk.specs.declared.crash.Fill.TheVariants.{Lost, Kept, Byte}
use Rattle.heap_model.specs.declared.ids.Lane.{Lane}
use Rattle.heap_model.specs.declared.limits.TheConstants.{LANES}
use Rattle.script_lines.specs.Grammar.{is_name}
use Rattle.script_lines.specs.Orders as order
use Rattle.script_lines.specs.Orders.{Action, Order}

-- the name that a word is
abbrev pub name_in : List ℕ → Option (List ℕ)
name_in word = if is_name word then Some word else None

-- the number that a word is
abbrev pub number_in : List ℕ → Option ℕ
number_in word = if list_all is_ascii_digit word && nat_lt 0 (length word) && nat_lt (digits_value 10 word) (2 ^ 64) then Some (digits_value 10 word) else None

-- the lane of a thread's number
abbrev pub lane_in : ℕ → Option Lane
lane_in thread = if nat_lt 0 thread && nat_le thread LANES then Some (record { 0 = thread - 1 }) else None

-- the lane of the thread that a word is
abbrev pub thread_in : List ℕ → Option Lane
thread_in [] = None
thread_in (letter ∷ digits) = if letter == 116 then option_and_then lane_in (number_in digits) else None

-- the digit that a byte is, in base 16
abbrev pub hex_in : ℕ → Option ℕ
hex_in digit = if nat_le 48 digit && nat_le digit 57 then Some (digit - 48) else (if nat_le 97 digit && nat_le digit 102 then Some (digit - 97 + 10) else None)

-- the byte that two digits are
abbrev pub byte_in : List ℕ → Option Fill
byte_in (high ∷ low ∷ []) = option_and_then (λ a. option_map (λ b. Byte (16 * a + b)) (hex_in low)) (hex_in high)
byte_in _ = None

-- what a word says that a crash leaves
abbrev pub fill_in : List ℕ → Option Fill
fill_in word = if bytes_eq word (codes "lost") then Some Lost else (if bytes_eq word (codes "kept") then Some Kept else byte_in word)

abbrev pub action_in : List ℕ → List ℕ → Option Action
action_in word name =
    if bytes_eq word (codes "enter") then Some (order.Enter name)
    else (if bytes_eq word (codes "exit") then Some (order.Exit name)
    else (if bytes_eq word (codes "load") then Some (order.Load name)
    else (if bytes_eq word (codes "wait") then Some (order.Wait name)
    else (if bytes_eq word (codes "notify") then Some (order.Notify name)
    else (if bytes_eq word (codes "notifyall") then Some (order.NotifyAll name)
    else None)))))

abbrev pub one_word : List ℕ → Option Order
one_word word =
    if bytes_eq word (codes "log") then Some order.Log
    else (if bytes_eq word (codes "home") then Some order.Home
    else (if bytes_eq word (codes "settle") then Some order.Settle
    else (if bytes_eq word (codes "trim") then Some order.Trim
    else (if bytes_eq word (codes "heap") then Some order.Heap
    else (if bytes_eq word (codes "show") then Some order.Show
    else (if bytes_eq word (codes "recover") then Some order.Recover
    else (if bytes_eq word (codes "upgrade") then Some order.Upgrade
    else None)))))))

abbrev pub two_words : List ℕ → List ℕ → Option Order
two_words first second =
    if bytes_eq first (codes "object") then option_map order.Object (name_in second)
    else (if bytes_eq first (codes "crash") then option_map (λ fill. order.Crash fill 0) (fill_in second)
    else (if bytes_eq second (codes "resume") then option_map (λ lane. order.Act lane order.Resume) (thread_in first)
    else None))

abbrev pub three_words : List ℕ → List ℕ → List ℕ → Option Order
three_words first second third =
    if bytes_eq first (codes "format")
    then option_and_then (λ lanes. option_map (λ capacity. order.Format lanes capacity) (number_in third)) (number_in second)
    else option_and_then (λ lane. option_and_then (λ name. option_map (λ action. order.Act lane action) (action_in second name)) (name_in third)) (thread_in first)

abbrev pub four_words : List ℕ → List ℕ → List ℕ → List ℕ → Option Order
four_words first second third fourth =
    if bytes_eq first (codes "crash")
    then (if bytes_eq third (codes "back")
    then option_and_then (λ fill. option_map (λ back. order.Crash fill back) (number_in fourth)) (fill_in second)
    else None)
    else (if bytes_eq second (codes "store")
    then option_and_then (λ lane. option_and_then (λ name. option_map (λ value. order.Act lane (order.Store name value)) (number_in fourth)) (name_in third)) (thread_in first)
    else None)

abbrev pub field_in : List ℕ → List ℕ → List ℕ → List ℕ → (is_transient : Bool) → Option Order
field_in second third fourth fifth is_transient =
    option_and_then (λ name. option_and_then (λ owner. option_and_then (λ guard. option_map (λ value. order.Field name owner guard value is_transient) (number_in fifth)) (name_in fourth)) (name_in third)) (name_in second)

abbrev pub five_words : List ℕ → List ℕ → List ℕ → List ℕ → List ℕ → Option Order
five_words first second third fourth fifth =
    if bytes_eq first (codes "field") then field_in second third fourth fifth false
    else (if bytes_eq first (codes "transient") then field_in second third fourth fifth true
    else None)

abbrev pub order_in : List (List ℕ) → Option Order
order_in (a ∷ []) = one_word a
order_in (a ∷ b ∷ []) = two_words a b
order_in (a ∷ b ∷ c ∷ []) = three_words a b c
order_in (a ∷ b ∷ c ∷ d ∷ []) = four_words a b c d
order_in (a ∷ b ∷ c ∷ d ∷ e ∷ []) = five_words a b c d e
order_in _ = None
