-- Ways of a router without a node.
use Rattle.std.proofs.Common.{◌≡◌, ℕ, ◌≤◌, List, length, Option, Some, None, option_and_then, refl, sym, ap, ◌∙◌, arith}
use Rattle.wire_base.specs.declared.addresses.Ipv4.{Ipv4}
use Rattle.wire_base.specs.declared.conf.RouterConf.{RouterConf}
use Rattle.wire_base.specs.declared.triple.Triple.{Triple}
use Rattle.wire_base.specs.declared.view.First.{First}
use Rattle.wire_base.specs.declared.view.ViewNode.{ViewNode}
use Rattle.wire_base.specs.model.OnFrame.{link_to, next_link, node_place, prefix_of}
use Rattle.wire_base.specs.model.Tight.{head, next_step}
use Rattle.bier_tunnel.specs.declared.ways.Way.{Way}
use Rattle.bier_forward.specs.Hops.{place_of, tunnel_way, way_on}
use Rattle.bier_forward.specs.Tunnels.{HasNode}
use Rattle.bier_forward.proofs.TableLaws.{steps-without-node}

-- no link leads from it
pub link-without-node : (r : RouterConf) (g : List ViewNode) (u x : ℕ) → length g ≤ u → next_link r g u x ≡ None
unfolding next_step
link-without-node r g u x past = ap (λ (xs : List ℕ). option_and_then (link_to r g) (head xs)) (steps-without-node g x u past)

pub no-link-without-node : (r : RouterConf) (g : List ViewNode) (o : Option ℕ) → node_place g r.system ≡ length g → option_and_then (next_link r g (node_place g r.system)) o ≡ None
no-link-without-node r g None none = refl
no-link-without-node r g (Some x) none = link-without-node r g (node_place g r.system) x (omega (arith, none))

-- and so no tunnel, where no ways were found
pub way-without-node : (r : RouterConf) (g : List ViewNode) (t : Triple) (f : First) (bift : ℕ) (ways : Option (List Way)) → HasNode r g ways → ways ≡ None → tunnel_way r g t f bift ≡ None
way-without-node r g t f bift (Some ways) has none = cc
way-without-node r g t f bift None has none =
    ap (λ (l : Option ℕ). option_and_then (λ (dst : Ipv4). option_and_then (way_on r bift (Some dst)) l) (prefix_of g t.sd (place_of g f))) (link-without-node r g (node_place g r.system) (place_of g f) (omega (arith, has)))
    ∙ by (prefix_of g t.sd (place_of g f))
  where
    by : (o : Option Ipv4) → option_and_then (λ (dst : Ipv4). option_and_then (way_on r bift (Some dst)) None) o ≡ None
    by None = refl
    by (Some dst) = refl

-- The way by what is kept of the ways.

pub without-prefix : (r : RouterConf) (g : List ViewNode) (t : Triple) (f : First) (bift : ℕ) → None ≡ prefix_of g t.sd (place_of g f) → tunnel_way r g t f bift ≡ None
without-prefix r g t f bift none = ap (λ (o : Option Ipv4). option_and_then (λ dst. option_and_then (way_on r bift (Some dst)) (next_link r g (node_place g r.system) (place_of g f))) o) (sym none)

pub with-prefix : (r : RouterConf) (g : List ViewNode) (t : Triple) (f : First) (bift : ℕ) (dst : Ipv4) (link : Option ℕ) → Some dst ≡ prefix_of g t.sd (place_of g f)
    → link ≡ next_link r g (node_place g r.system) (place_of g f) → tunnel_way r g t f bift ≡ option_and_then (way_on r bift (Some dst)) link
with-prefix r g t f bift dst link prefix is =
    ap (λ (o : Option Ipv4). option_and_then (λ dst. option_and_then (way_on r bift (Some dst)) (next_link r g (node_place g r.system) (place_of g f))) o) (sym prefix)
    ∙ ap (option_and_then (way_on r bift (Some dst))) (sym is)
