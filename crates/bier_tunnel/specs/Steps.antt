-- First steps, found edge by edge.
use Rattle.std.specs.Prelude.{◌≡◌, ℕ, ◌<◌, ◌⊎◌, Bool, List, length, is_some, slice_index_or, Option, Some, None, if◌then◌else◌}
use Rattle.wire_base.specs.declared.view.ViewNode.{ViewNode}
use Rattle.path_tree.specs.Forward.{ForwardWay}

-- the step of a node, once it is known whether the node is beyond
abbrev pub filled : ℕ → Bool → Option ℕ → Option ℕ
filled first beyond (Some step) = Some step
filled first beyond None = if beyond then Some first else None

-- x is that node, or shortest walks from u lead on from there to x, over nodes at which the search does not stop
abbrev pub LeadsOn : List ViewNode → ℕ → (ℕ → Bool) → ℕ → ℕ → Type 0
LeadsOn g u stops first x = (x ≡ first) ⊎ ((k : ℕ) × ForwardWay g u stops k first x)

-- the search stops at nodes that have a step
abbrev pub has_step : List (Option ℕ) → ℕ → Bool
has_step steps x = is_some (slice_index_or steps x None)

-- known steps are unchanged; `first` becomes the step of the other nodes to which the search leads from there
pub record IsLedOn (g : List ViewNode) (u first : ℕ) (old new : List (Option ℕ)) : Type 0 where
  pub rows : length new ≡ length g
  pub kept : (x v : ℕ) → x < length g → slice_index_or old x None ≡ Some v → slice_index_or new x None ≡ Some v
  pub led : (x : ℕ) → x < length g → slice_index_or old x None ≡ None → LeadsOn g u (has_step old) first x → slice_index_or new x None ≡ Some first
  pub only : (x v : ℕ) → x < length g → slice_index_or old x None ≡ None → slice_index_or new x None ≡ Some v → (v ≡ first) × LeadsOn g u (has_step old) first x
