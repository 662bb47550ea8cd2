-- One node is nearer to d than another.
use Rattle.std.specs.Prelude.{◌≡◌, ℕ, ◌<◌, List, Some}
use Rattle.wire_base.specs.declared.view.ViewNode.{ViewNode}
use Rattle.wire_base.specs.model.Walk.{dist}

-- both reach d, and x is nearer than u
pub record Nearer (g : List ViewNode) (d u x : ℕ) : Type 0 where
  pub far : ℕ
  pub near : ℕ
  pub from : dist g u d ≡ Some far
  pub to : dist g x d ≡ Some near
  pub less : near < far
