-- What holds of each claim holds of them once one more is put among them.
use Rattle.std.proofs.Common.{◌≡◌, Bool, true, false, List, [], ◌∷◌, refl}
use Rattle.std.specs.List.{AllByRecursion}
use Rattle.std.specs.Ordering.{is_lt}
use Rattle.wire_base.specs.model.Control.{system_order}
use Rattle.wire_base.specs.model.View.{Claim, put_claim}

pub all_put : (P : Claim → Type 0) (c : Claim) (cs : List Claim) → P c → AllByRecursion P cs → AllByRecursion P (put_claim c cs)
all_put P c [] h all = (h, tt)
all_put P c (x ∷ xs) h all = by (is_lt (system_order c.system x.system)) refl (all_put P c xs h all.1)
  where
    by : (b : Bool) → is_lt (system_order c.system x.system) ≡ b → AllByRecursion P (put_claim c xs) → AllByRecursion P (put_claim c (x ∷ xs))
    by true e more = rw e (h, all)
    by false e more = rw e (all.0, more)
