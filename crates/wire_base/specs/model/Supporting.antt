-- The first supporting routers (BFR-NBRs) toward a router: how a packet crosses non-BFRs (RFC 8279, 6.9).
use Rattle.std.specs.Prelude.{◌≡◌, ℕ, zero, suc, Bool, true, false, ◌==◌, List, length, filter, if◌then◌else◌}
use Rattle.std.specs.List.{range_with_len, list_any}
use Rattle.wire_base.specs.declared.view.ViewNode.{ViewNode}
use Rattle.wire_base.specs.model.Tight.{IsTight, tight_from}

-- one more than k tight steps lead from u to x, over nodes that do not support the triple; c is the test for support
abbrev pub TightWay : List ViewNode → (ℕ → Bool) → ℕ → ℕ → ℕ → ℕ → Type 0
TightWay g c d zero u x = IsTight g d u x
TightWay g c d (suc k) u x = (y : ℕ) × IsTight g d u y × (c y ≡ false) × TightWay g c d k y x

-- x supports the triple and ends one or more tight steps from u toward d, and no node between u and x supports it
pub record IsFirst (g : List ViewNode) (c : ℕ → Bool) (d u x : ℕ) : Type 0 where
  pub covers : c x ≡ true
  pub steps : ℕ
  pub way : TightWay g c d steps u x

-- The same as a list.

-- whether x is the first supporting node on some path of at most k tight steps from u
abbrev pub meets : List ViewNode → (ℕ → Bool) → ℕ → ℕ → ℕ → ℕ → Bool
meets g c d zero u x = false
meets g c d (suc k) u x = list_any (λ y. if c y then y == x else meets g c d k y x) (tight_from g d u)

-- the first supporting nodes from u toward d, in the order of the nodes, which is that of their system IDs
unfoldable pub firsts : List ViewNode → (ℕ → Bool) → ℕ → ℕ → List ℕ
firsts g c d u = filter (meets g c d (length g) u) (range_with_len 0 (length g))
