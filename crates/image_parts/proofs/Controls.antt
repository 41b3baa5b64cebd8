-- A control has one spelling.
use Rattle.std.proofs.Common.{◌≡◌, ℕ, ◌<◌, ◌^◌, List, [], ◌∷◌, ◌++◌, length, take, drop, refl, sym, ap, subst, ◌∙◌, arith}
use Rattle.std.specs.Prelude.{All}
use Rattle.std.proofs.lemmas.List.{take-append-drop}
use Rattle.std.proofs.lemmas.List.Elements.{All-head, All-tail, All-append, All-weaker, All-same}
use Rattle.std.specs.Int.{w32, w64, from_be_bytes, to_be_bytes}
use Rattle.std.proofs.lemmas.Nat.{from_be_bytes-to_be_bytes_4, from_be_bytes-to_be_bytes_8}
use Rattle.block_disk.specs.Bytes.{part}
use Rattle.image_parts.specs.declared.lane_row.LaneRow.{LaneRow}
use Rattle.image_parts.specs.declared.layout.Layout.{Layout}
use Rattle.image_parts.specs.declared.control.Control.{Control}
use Rattle.image_parts.specs.Rows.{row_bytes, rows_bytes, FitsRow, IsRow, empty_row}
use Rattle.image_parts.specs.Control.{IsControl, Spells}

one_64 : (m n : ℕ) → m < 2 ^ 64 → n < 2 ^ 64 → to_be_bytes w64 m ≡ to_be_bytes w64 n → m ≡ n
one_64 m n p q is = sym (from_be_bytes-to_be_bytes_8 m p) ∙ ap (from_be_bytes w64) is ∙ from_be_bytes-to_be_bytes_8 n q

one_32 : (m n : ℕ) → m < 2 ^ 32 → n < 2 ^ 32 → to_be_bytes w32 m ≡ to_be_bytes w32 n → m ≡ n
one_32 m n p q is = sym (from_be_bytes-to_be_bytes_4 m p) ∙ ap (from_be_bytes w32) is ∙ from_be_bytes-to_be_bytes_4 n q

one_row : (x y : LaneRow) → FitsRow x → FitsRow y → row_bytes x ≡ row_bytes y → x ≡ y
one_row x y p q is =
    let a = one_64 x.start y.start p.start q.start (ap (part 0 8) is) in
    let b = one_64 x.settled y.settled p.settled q.settled (ap (part 8 8) is) in
    let d = one_64 x.logged y.logged p.logged q.logged (ap (part 16 8) is) in
    let e = one_64 x.kept y.kept p.kept q.kept (ap (part 24 8) is) in
    λ i. record { start = a i; settled = b i; logged = d i; kept = e i }

pub one_rows : (xs ys : List LaneRow) → All FitsRow xs → All FitsRow ys → length xs ≡ length ys → rows_bytes xs ≡ rows_bytes ys → xs ≡ ys
one_rows [] [] p q n is = refl
one_rows [] (y ∷ ys) p q n is = absurd (omega arith)
one_rows (x ∷ xs) [] p q n is = absurd (omega arith)
one_rows (x ∷ xs) (y ∷ ys) p q n is =
    let head = one_row x y (All-head FitsRow x xs p) (All-head FitsRow y ys q) (ap (take 32) is) in
    let rest = one_rows xs ys (All-tail FitsRow x xs p) (All-tail FitsRow y ys q) (omega arith) (ap (drop 32) is) in
    λ i. head i ∷ rest i

row_fits : (capacity : ℕ) (r : LaneRow) → IsRow capacity r → FitsRow r
row_fits capacity r is = record { start = omega (arith, is.settled, is.logged, is.limit); settled = omega (arith, is.logged, is.limit); logged = omega (arith, is.limit); kept = omega (arith, is.kept, is.logged, is.limit) }

empty_fits : (r : LaneRow) → r ≡ empty_row → FitsRow r
empty_fits r is = subst FitsRow (sym is) (record { start = omega arith; settled = omega arith; logged = omega arith; kept = omega arith })

pub control_fits : (l : Layout) (c : Control) → IsControl l c → All FitsRow c.rows
control_fits l c is =
    All-same FitsRow c.rows (take l.lanes c.rows ++ drop l.lanes c.rows) (sym (take-append-drop l.lanes c.rows))
    (All-append FitsRow (take l.lanes c.rows) (drop l.lanes c.rows)
    (All-weaker (IsRow l.capacity) FitsRow (row_fits l.capacity) (take l.lanes c.rows) is.rows.lanes)
    (All-weaker (λ r. r ≡ empty_row) FitsRow empty_fits (drop l.lanes c.rows) is.rows.rest))

control_version : (l : Layout) (c : Control) → IsControl l c → c.version < 2 ^ 32
control_version l c is = omega (arith, is.version)

-- what is read at the places of a control is that control
pub one_control : (l : Layout) (body : List ℕ) (c : Control) (sequence version : ℕ) (rows : List LaneRow) → Spells l body c
    → sequence ≡ from_be_bytes w64 (part 0 8 body) → version ≡ from_be_bytes w32 (part 8 4 body) → drop 16 body ≡ rows_bytes rows → All FitsRow rows → length rows ≡ 32
    → c ≡ record { sequence = sequence; version = version; rows = rows }
one_control l body c sequence version rows s a b d fit n =
    let seq = from_be_bytes-to_be_bytes_8 c.sequence s.valid.sequence.1 in
    let ver = from_be_bytes-to_be_bytes_4 c.version (control_version l c s.valid) in
    let a' = sym seq ∙ ap (λ (l : List ℕ). from_be_bytes w64 (part 0 8 l)) (sym s.bytes) ∙ sym a in
    let b' = sym ver ∙ ap (λ (l : List ℕ). from_be_bytes w32 (part 8 4 l)) (sym s.bytes) ∙ sym b in
    let d' = one_rows c.rows rows (control_fits l c s.valid) fit (s.valid.rows.size ∙ sym n) (ap (drop 16) (sym s.bytes) ∙ d) in
    λ i. record { sequence = a' i; version = b' i; rows = d' i }

-- bytes are those of one control
pub same_control : (l : Layout) (body : List ℕ) (c d : Control) → Spells l body c → Spells l body d → c ≡ d
same_control l body c d s t =
    let is = sym s.bytes ∙ t.bytes in
    let a = one_64 c.sequence d.sequence s.valid.sequence.1 t.valid.sequence.1 (ap (part 0 8) is) in
    let b = one_32 c.version d.version (control_version l c s.valid) (control_version l d t.valid) (ap (part 8 4) is) in
    let e = one_rows c.rows d.rows (control_fits l c s.valid) (control_fits l d t.valid) (s.valid.rows.size ∙ sym t.valid.rows.size) (ap (drop 16) is) in
    λ i. record { sequence = a i; version = b i; rows = e i }
