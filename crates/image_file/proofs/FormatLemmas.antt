-- The size of an image, and what is said where none is made.
use Rattle.std.proofs.Common.{ℕ, ◌≡◌, ◌+◌, ◌*◌, List, Option, ap, refl, sym, ◌∙◌, inl, inr}
use Rattle.store_image.specs.Formatting.{AreLimits, layout_with}
use Rattle.script_declarations.specs.SchemaFiles.{DeclaresSchema, RefusesSchema}
use Rattle.script_declarations.specs.declared.schema_fault.SchemaFault.{SchemaFault}
use Rattle.script_declarations.specs.declared.schema_fault.SchemaFaultKind.{SchemaFaultKind}
use Rattle.script_declarations.specs.declared.schema_fault.SchemaFaultKind.TheVariants as kinds
use Rattle.guards.specs.Schema.{Declarations}
use Rattle.image_parts.specs.Layout.{IsLayoutOf, size_of}
use Rattle.image_parts.specs.declared.layout.Layout.{Layout}
use Rattle.image_file.specs.Formatting.{IsBeforeFile, MayBlameNumbers, PrintsLess, PrintsLessOf, RefusesImage, told_by_kind, told_of_schema}
use Rattle.image_file.specs.declared.error.FormatError.{FormatError}
use Rattle.image_file.specs.declared.error.FormatError.TheVariants as errors

-- a layout of the schema's image with so many lanes of so many records has the size that the image has
pub sizes_agree : (schema : Declarations) (lanes capacity : ℕ) (l made : Layout) → IsLayoutOf schema l → l.lanes ≡ lanes → l.capacity ≡ capacity
    → made ≡ layout_with schema lanes capacity → size_of l ≡ size_of made
sizes_agree schema lanes capacity l made of by_lanes by_capacity is =
    ap (λ f. 2160 + 24 * f + 16 * l.lanes * l.capacity) of.fields
    ∙ ap (λ n. 2160 + 24 * (layout_with schema lanes capacity).fields + 16 * n * l.capacity) by_lanes
    ∙ ap (λ n. 2160 + 24 * (layout_with schema lanes capacity).fields + 16 * lanes * n) by_capacity
    ∙ ap size_of (sym is)

-- no image was made for a schema that was read
pub not_made : (old new : Option (List ℕ)) (lanes capacity : ℕ) (schema : Declarations) (e : FormatError) → DeclaresSchema old new schema
    → (IsBeforeFile e → (e ≡ errors.BadHeader) × (AreLimits lanes capacity → ⊥)) → RefusesImage old new lanes capacity e
not_made old new lanes capacity schema (errors.Schema fault) declares before = let is : errors.Schema fault ≡ errors.BadHeader = (before tt).0 in absurd cc
not_made old new lanes capacity schema errors.BadHeader declares before = (schema, declares, (before tt).1)
not_made old new lanes capacity schema errors.Fault declares before = tt
not_made old new lanes capacity schema errors.NoMemory declares before = tt
not_made old new lanes capacity schema errors.InUse declares before = tt
not_made old new lanes capacity schema errors.NotImage declares before = tt

-- what is said of its numbers
pub blames : (old new : Option (List ℕ)) (lanes capacity : ℕ) (e : FormatError) → RefusesImage old new lanes capacity e → MayBlameNumbers lanes capacity e
blames old new lanes capacity errors.BadHeader refused = refused.2
blames old new lanes capacity (errors.Schema fault) refused = tt
blames old new lanes capacity errors.Fault refused = tt
blames old new lanes capacity errors.NoMemory refused = tt
blames old new lanes capacity errors.InUse refused = tt
blames old new lanes capacity errors.NotImage refused = tt

-- what is written, whatever the schema
pub less : (declared : Declarations → Type 0) (lanes capacity : ℕ) (old new : Option (List ℕ)) → PrintsLessOf declared lanes capacity old new → PrintsLess lanes capacity old new
less declared lanes capacity old new (inl silent) = inl silent
less declared lanes capacity old new (inr part) = inr record { schema = part.schema; so = tt; limits = part.limits; printed = part.printed }

-- the schema file is refused
by_kind : (old new : Option (List ℕ)) (lanes capacity : ℕ) (kind : SchemaFaultKind) (fault : SchemaFault) → fault.why ≡ kind → RefusesSchema old new fault
    → RefusesImage old new lanes capacity (told_by_kind kind fault)
by_kind old new lanes capacity kinds.Read fault is refused = tt
by_kind old new lanes capacity kinds.Memory fault is refused = tt
by_kind old new lanes capacity kinds.Syntax fault is refused = (refused, ap (λ k. told_by_kind k fault) is)
by_kind old new lanes capacity kinds.NotText fault is refused = (refused, ap (λ k. told_by_kind k fault) is)
by_kind old new lanes capacity kinds.TooLong fault is refused = (refused, ap (λ k. told_by_kind k fault) is)
by_kind old new lanes capacity kinds.Empty fault is refused = (refused, ap (λ k. told_by_kind k fault) is)
by_kind old new lanes capacity kinds.DoubleName fault is refused = (refused, ap (λ k. told_by_kind k fault) is)
by_kind old new lanes capacity kinds.Unknown fault is refused = (refused, ap (λ k. told_by_kind k fault) is)
by_kind old new lanes capacity kinds.TooMany fault is refused = (refused, ap (λ k. told_by_kind k fault) is)

pub schema_refused : (old new : Option (List ℕ)) (lanes capacity : ℕ) (fault : SchemaFault) → RefusesSchema old new fault → RefusesImage old new lanes capacity (told_of_schema fault)
schema_refused old new lanes capacity fault refused = by_kind old new lanes capacity fault.why fault refl refused
