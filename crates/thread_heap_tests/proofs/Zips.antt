-- What holds of the values that are zipped holds of the pair that a zip gives.
use Rattle.std.proofs.Common.{◌≡◌, Option, None, Some, IfSome, subst, sym}
use Rattle.std.specs.Option.{option_zip}

module _ {X Y : Type 0} where
  pub zip_with : (P : X × Y → Type 0) (x : X) (o : Option Y) (r : Option (X × Y)) → r ≡ option_zip (Some x) o → IfSome o (λ y. P (x, y)) → IfSome r P
  zip_with P x None r e h = subst (λ (s : Option (X × Y)). IfSome s P) (sym e) h
  zip_with P x (Some y) r e h = subst (λ (s : Option (X × Y)). IfSome s P) (sym e) h

  pub zip_first : (P : X → Type 0) (o : Option X) (q : Option Y) (r : Option (X × Y)) → r ≡ option_zip o q → IfSome o P → IfSome r (λ p. P p.0)
  zip_first P None q r e h = subst (λ (s : Option (X × Y)). IfSome s (λ p. P p.0)) (sym e) h
  zip_first P (Some x) None r e h = subst (λ (s : Option (X × Y)). IfSome s (λ p. P p.0)) (sym e) tt
  zip_first P (Some x) (Some y) r e h = subst (λ (s : Option (X × Y)). IfSome s (λ p. P p.0)) (sym e) h

  pub zip_second : (P : Y → Type 0) (o : Option X) (q : Option Y) (r : Option (X × Y)) → r ≡ option_zip o q → IfSome q P → IfSome r (λ p. P p.1)
  zip_second P None q r e h = subst (λ (s : Option (X × Y)). IfSome s (λ p. P p.1)) (sym e) tt
  zip_second P (Some x) None r e h = subst (λ (s : Option (X × Y)). IfSome s (λ p. P p.1)) (sym e) h
  zip_second P (Some x) (Some y) r e h = subst (λ (s : Option (X × Y)). IfSome s (λ p. P p.1)) (sym e) h
