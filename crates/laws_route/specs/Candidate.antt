-- The nodes to which a router may send a bit for an owner.
use Rattle.std.specs.Prelude.{◌≡◌, ℕ, Bool, true, List}
use Rattle.wire_base.specs.declared.view.ViewNode.{ViewNode}
use Rattle.wire_base.specs.model.Supporting.{IsFirst}

-- d supports the triple and is not u, and x is a first supporting node from u toward d
pub record IsCandidate (g : List ViewNode) (c : ℕ → Bool) (d u x : ℕ) : Type 0 where
  pub ends : c d ≡ true
  pub other : u ≡ d → ⊥
  pub first : IsFirst g c d u x
