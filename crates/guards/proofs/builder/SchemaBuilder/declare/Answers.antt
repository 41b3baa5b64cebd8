use Rattle.std.proofs.Common.{◌≡◌, ◌≤◌, ◌⊎◌, ◌++◌, ◌∷◌, [], Contains, sym, ap, subst, inl, inr, arith, rules, ◌∙◌}
use Rattle.guards.specs.Schema.{Declarations, object_count, field_count, names_of, field_of, IsWithinLimits}
use Rattle.guards.specs.Tables.{declared_by, fields_in}
use Rattle.guards.proofs.FieldLemmas.{object_count-declared_by, field_count-declared_by}
use Rattle.guards.proofs.LimitLemmas.{IsWithinLimits-with_field}
use Rattle.guards.proofs.builder.SchemaBuilder.declare.Goals as goal
use Rattle.guards.proofs.builder.SchemaBuilder.declare.Goals.{then-row-objects-via-then-row-objects, then-row-objects-via-else-row-objects+then-row-objects-2}

pub returns-then-row-objects-clause-double_name :
    goal.returns-then-row-objects-clause-double_name
returns-then-row-objects-clause-double_name c = (λ e. absurd cc, λ h. let t = c.if-has_field.ensures.1 (subst (λ (d : Declarations). Contains (names_of d.fields) c.args.name.now) (sym c.self.view_is) h.1) in cc)

pub returns-then-row-objects-clause-unknown_object :
    goal.returns-then-row-objects-clause-unknown_object
returns-then-row-objects-clause-unknown_object c =
    let count : object_count c.args.self.now ≡ c.len-objects.result = ap (λ (d : Declarations). object_count d) (sym c.self.view_is) ∙ object_count-declared_by c.self.inside.objects.entries c.self.inside.fields.entries ∙ sym c.len-objects.ensures.len in
    let unknown : (object_count c.args.self.now ≤ c.args.row.owner.0) ⊎ (object_count c.args.self.now ≤ c.args.row.guard.0) = elim c.then-row-objects.branch [
      | then-row-objects-via-then-row-objects w ↦ inl (omega arith)
      | then-row-objects-via-else-row-objects+then-row-objects-2 w ↦ inr (omega arith)
    ] in
    (λ e. ((search rules, λ there. let t = c.if-has_field.ensures.1 (subst (λ (d : Declarations). Contains (names_of d.fields) c.args.name.now) (sym c.self.view_is) there) in cc), unknown), λ h. search rules)

pub returns-then-count-ge-MOST_FIELDS-clause-double_name :
    goal.returns-then-count-ge-MOST_FIELDS-clause-double_name
returns-then-count-ge-MOST_FIELDS-clause-double_name c = (λ e. absurd cc, λ h. let t = c.if-has_field.ensures.1 (subst (λ (d : Declarations). Contains (names_of d.fields) c.args.name.now) (sym c.self.view_is) h.1) in cc)

pub returns-then-count-ge-MOST_FIELDS-clause-too_many :
    goal.returns-then-count-ge-MOST_FIELDS-clause-too_many
returns-then-count-ge-MOST_FIELDS-clause-too_many c =
    let objects : object_count c.args.self.now ≡ c.len-objects.result = ap (λ (d : Declarations). object_count d) (sym c.self.view_is) ∙ object_count-declared_by c.self.inside.objects.entries c.self.inside.fields.entries ∙ sym c.len-objects.ensures.len in
    let fields : field_count c.args.self.now ≡ c.len-count.result = ap (λ (d : Declarations). field_count d) (sym c.self.view_is) ∙ field_count-declared_by c.self.inside.objects.entries c.self.inside.fields.entries ∙ sym c.len-count.ensures.len in
    let limit : field_count c.args.self.now ≤ 16384 = subst (λ (d : Declarations). field_count d ≤ 16384) c.self.view_is c.self.invariant.fields in
    (λ e. ((search rules, λ there. let t = c.if-has_field.ensures.1 (subst (λ (d : Declarations). Contains (names_of d.fields) c.args.name.now) (sym c.self.view_is) there) in cc), omega arith, omega arith, omega arith), λ h. search rules)

pub returns-then-is_err-clause-double_name : goal.returns-then-is_err-clause-double_name
returns-then-is_err-clause-double_name c = (λ e. absurd cc, λ h. let t = c.if-has_field.ensures.1 (subst (λ (d : Declarations). Contains (names_of d.fields) c.args.name.now) (sym c.self.view_is) h.1) in cc)

pub invariant_of-self-2 : goal.invariant_of-self-2
invariant_of-self-2 c =
    let old = declared_by c.self.inside.objects.entries c.self.inside.fields.entries in
    let added : fields_in c.add_field.new.fields.entries ≡ old.fields ++ field_of c.args.name.now c.args.row.owner c.args.row.guard c.args.row.first c.args.row.is_transient ∷ [] = search rules in
    let objects : object_count old ≡ c.len-objects.result = object_count-declared_by c.self.inside.objects.entries c.self.inside.fields.entries ∙ sym c.len-objects.ensures.len in
    let fields : field_count old ≡ c.len-count.result = field_count-declared_by c.self.inside.objects.entries c.self.inside.fields.entries ∙ sym c.len-count.ensures.len in
    let kept = IsWithinLimits-with_field old (field_of c.args.name.now c.args.row.owner c.args.row.guard c.args.row.first c.args.row.is_transient) c.self.invariant (omega arith) (omega arith) (omega arith) (search rules) in
    subst (λ fields. IsWithinLimits (record old { fields = fields })) (sym added) kept

pub returns-clause-double_name : goal.returns-clause-double_name
returns-clause-double_name c = (λ e. absurd cc, λ h. let t = c.if-has_field.ensures.1 (subst (λ (d : Declarations). Contains (names_of d.fields) c.args.name.now) (sym c.self.view_is) h.1) in cc)
