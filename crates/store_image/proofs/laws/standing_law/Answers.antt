use Rattle.store_image.proofs.Stands.{kept_size, kept_at, stands, stands_always}
use Rattle.store_image.proofs.laws.standing_law.Goals as goal

pub returns-clause-stands : goal.returns-clause-stands
returns-clause-stands c = stands_always

pub returns-clause-heap : goal.returns-clause-heap
returns-clause-heap c = λ l s log cut. (kept_size l s log cut, kept_at l s log cut)

pub returns-clause-shown : goal.returns-clause-shown
returns-clause-shown c = λ l s p image is none shown. stands l s p is none image shown
