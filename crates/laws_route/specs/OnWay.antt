-- A node on a shortest walk to another.
use Rattle.std.specs.Prelude.{◌≡◌, ℕ, ◌+◌, List, Some}
use Rattle.wire_base.specs.declared.view.ViewNode.{ViewNode}
use Rattle.wire_base.specs.model.Walk.{dist}

-- the distances from u to x and from x to d add up to the distance from u to d
pub record IsOnWay (g : List ViewNode) (u x d : ℕ) : Type 0 where
  pub before : ℕ
  pub after : ℕ
  pub to : dist g u x ≡ Some before
  pub on : dist g x d ≡ Some after
  pub whole : dist g u d ≡ Some (before + after)
