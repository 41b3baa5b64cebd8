-- Records without the values of their stores. What a record needs of the monitors is the same.
use Rattle.std.proofs.Common.{ℕ, ◌≡◌, ◌+◌, ◌==◌, if◌then◌else◌, true, false, List, [], ◌∷◌, map, Option, Some, None, refl, sym, ap, ◌∙◌, subst}
use Rattle.heap_model.specs.declared.record.Record.{Record}
use Rattle.heap_model.specs.declared.record.Record.TheVariants.{Acq, Rel, WaitRel, Put}
use Rattle.heap_model.specs.declared.record.UndoRecord.{UndoRecord}
use Rattle.heap_model.specs.declared.record.UndoRecord.TheVariants as undo
use Rattle.heap_model.specs.Record.{undo_of}
use Rattle.heap_model.specs.Setting.{Setting}
use Rattle.heap_model.specs.Log.{holder, number, value, awaited, MayFollow, IsAllowed, IsRecordOf, IsLegal}

-- an undo record as a record with no values
abbrev pub blank : UndoRecord → Record
blank (undo.Acq o n) = Acq o n
blank (undo.Rel o n) = Rel o n
blank (undo.WaitRel o n) = WaitRel o n
blank (undo.Put f before) = Put f 0 0

abbrev pub blanks : List (ℕ × UndoRecord) → List (ℕ × Record)
blanks log = map (λ (x : ℕ × UndoRecord). (x.0, blank x.1)) log

-- the records as undo logs keep them, in one list
abbrev pub undone : List (ℕ × Record) → List (ℕ × UndoRecord)
undone log = map (λ (x : ℕ × Record). (x.0, undo_of x.1)) log

-- the setting with no first values
abbrev pub valueless : Setting → Setting
valueless s = record s { first = λ f. 0 }

-- who holds an object, its number and what a lane awaits are told without the values
pub holder_blank : (o : ℕ) (log : List (ℕ × Record)) → holder o (blanks (undone log)) ≡ holder o log
holder_blank o [] = refl
holder_blank o ((l, Acq p n) ∷ older) = ap (λ (v : Option ℕ). if p.0 == o then Some l else v) (holder_blank o older)
holder_blank o ((l, Rel p n) ∷ older) = ap (λ (v : Option ℕ). if p.0 == o then None else v) (holder_blank o older)
holder_blank o ((l, WaitRel p n) ∷ older) = ap (λ (v : Option ℕ). if p.0 == o then None else v) (holder_blank o older)
holder_blank o ((l, Put f before after) ∷ older) = holder_blank o older

number_blank : (o : ℕ) (log : List (ℕ × Record)) → number o (blanks (undone log)) ≡ number o log
number_blank o [] = refl
number_blank o ((l, Acq p n) ∷ older) = number_blank o older
number_blank o ((l, Rel p n) ∷ older) = ap (λ (v : ℕ). if p.0 == o then n + 1 else v) (number_blank o older)
number_blank o ((l, WaitRel p n) ∷ older) = ap (λ (v : ℕ). if p.0 == o then n + 1 else v) (number_blank o older)
number_blank o ((l, Put f before after) ∷ older) = number_blank o older

awaited_blank : (l : ℕ) (log : List (ℕ × Record)) → awaited l (blanks (undone log)) ≡ awaited l log
awaited_blank l [] = refl
awaited_blank l ((m, Acq p n) ∷ older) = ap (λ (v : Option ℕ). if m == l then None else v) (awaited_blank l older)
awaited_blank l ((m, Rel p n) ∷ older) = ap (λ (v : Option ℕ). if m == l then None else v) (awaited_blank l older)
awaited_blank l ((m, WaitRel p n) ∷ older) = ap (λ (v : Option ℕ). if m == l then Some p.0 else v) (awaited_blank l older)
awaited_blank l ((m, Put f before after) ∷ older) = ap (λ (v : Option ℕ). if m == l then None else v) (awaited_blank l older)

pub value_blank : (f : ℕ) (log : List (ℕ × UndoRecord)) → value (λ g. 0) f (blanks log) ≡ 0
value_blank f [] = refl
value_blank f ((l, undo.Acq p n) ∷ older) = value_blank f older
value_blank f ((l, undo.Rel p n) ∷ older) = value_blank f older
value_blank f ((l, undo.WaitRel p n) ∷ older) = value_blank f older
value_blank f ((l, undo.Put g before) ∷ older) = elim (g.0 == f) as (λ b. (if b then 0 else value (λ h. 0) f (blanks older)) ≡ 0) [ true ↦ refl | false ↦ value_blank f older ]

allowed_blank : (s : Setting) (older : List (ℕ × Record)) (l : ℕ) (r : Record) → IsAllowed s older l r → IsAllowed (valueless s) (blanks (undone older)) l (blank (undo_of r))
allowed_blank s older l (Acq o n) h = (holder_blank o.0 older ∙ h.0, number_blank o.0 older ∙ h.1, h.2)
allowed_blank s older l (Rel o n) h = (holder_blank o.0 older ∙ h.0, number_blank o.0 older ∙ h.1)
allowed_blank s older l (WaitRel o n) h = (holder_blank o.0 older ∙ h.0, number_blank o.0 older ∙ h.1)
allowed_blank s older l (Put f before after) h = (holder_blank (s.guard f.0) older ∙ h.0, value_blank f.0 (undone older))

follows_blank : (v : Option ℕ) (r : Record) → MayFollow v r → MayFollow v (blank (undo_of r))
follows_blank v (Acq o n) h = h
follows_blank v (Rel o n) h = h
follows_blank v (WaitRel o n) h = h
follows_blank None (Put f before after) h = tt
follows_blank (Some o) (Put f before after) h = h

of_blank : (s : Setting) (r : Record) → IsRecordOf s r → IsRecordOf (valueless s) (blank (undo_of r))
of_blank s (Acq o n) h = h
of_blank s (Rel o n) h = h
of_blank s (WaitRel o n) h = h
of_blank s (Put f before after) h = h

-- a legal list is one without the values
pub blank_legal : (s : Setting) (log : List (ℕ × Record)) → IsLegal s log → IsLegal (valueless s) (blanks (undone log))
blank_legal s [] legal = tt
blank_legal s ((l, r) ∷ older) legal = (
  blank_legal s older legal.0,
  allowed_blank s older l r legal.1,
  subst (λ (v : Option ℕ). MayFollow v (blank (undo_of r))) (sym (awaited_blank l older)) (follows_blank (awaited l older) r legal.2),
  of_blank s r legal.3,
)
