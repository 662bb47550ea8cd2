-- No tunnel of a path has more links than its longest one.
use Rattle.std.proofs.Common.{◌≡◌, ℕ, zero, suc, ◌<◌, ◌≤◌, max, Bool, true, false, List, length, Option, Some, None, option_map, inl, inr, refl, sym, ap, ◌∙◌, arith}
use mathlib.Core.Bool.{true≢false}
use Rattle.std.proofs.lemmas.Bool.{ne_eqb}
use Rattle.std.proofs.lemmas.Option.{same_Some}
use Rattle.wire_base.specs.declared.conf.SubKind.{SubKind}
use Rattle.wire_base.specs.declared.conf.TableRow.{TableRow}
use Rattle.wire_base.specs.declared.triple.Triple.{Triple}
use Rattle.wire_base.specs.declared.view.ViewNode.{ViewNode}
use Rattle.wire_base.specs.model.Choice.{choose}
use Rattle.wire_base.specs.model.Graph.{IsGraph, has_id_at}
use Rattle.wire_base.specs.model.HopCount.{FitTunnels, Follows, IsPassed}
use Rattle.wire_base.specs.model.OnFrame.{outer_ttl}
use Rattle.wire_base.specs.model.Walk.{dist}
use Rattle.laws_route.proofs.DescentLemmas.{dist-end}
use Rattle.laws_route.proofs.HopCountLemmas.{descends}
use Rattle.laws_route.proofs.OwnerLemmas.{owner-is}
use Rattle.quiet_domain.specs.declared.path.Way.{Way}
use Rattle.quiet_domain.specs.Way.{hop_before, links_over, way_by, way_to}

-- ---- paths

-- where a path goes on it has not ended, and the next node is one of the topology
abbrev GoOn : (ℕ → Option ℕ) → (ℕ → Bool) → ℕ → Type 0
GoOn next ends len = (y z : ℕ) → y < len → next y ≡ Some z → (ends y ≡ false) × (z < len)

first_step : (next : ℕ → Option ℕ) (j u y : ℕ) → Follows next j u y → (x : ℕ) × (next u ≡ Some x)
first_step next zero u y s = (y, s)
first_step next (suc j) u y s = (s.0, s.1)

module _ (next : ℕ → Option ℕ) (ends : ℕ → Bool) (links : ℕ → ℕ → ℕ) (len : ℕ) (goes_on : GoOn next ends len) where
  -- the rest of a path after its first hop
  record Rest (k x l : ℕ) (w : Way) : Type 0 where
    rest : Way
    is : way_by next ends links k x ≡ Some rest
    longer : rest.longest ≤ w.longest
    first : l ≤ w.longest

  rest_of : (k x l : ℕ) (w : Way) → option_map (hop_before l) (way_by next ends links k x) ≡ Some w → Rest k x l w
  rest_of k x l w q = by (way_by next ends links k x) refl q
    where
      most : (v : Way) → hop_before l v ≡ w → max l v.longest ≡ w.longest
      most v e = ap (λ (z : Way). z.longest) e

      by : (o : Option Way) → way_by next ends links k x ≡ o → option_map (hop_before l) o ≡ Some w → Rest k x l w
      by None e p = cc
      by (Some v) e p =
          let m = most v (same_Some (hop_before l v) w p) in
          record { rest = v; is = e; longer = omega (arith, m); first = omega (arith, m) }

  first_rest : (k u x : ℕ) (w : Way) → u < len → next u ≡ Some x → way_by next ends links (suc k) u ≡ Some w → Rest k x (links u x) w
  first_rest k u x w node step q = rest_of k x (links u x) w (rw ((goes_on u x node step).0, step) at q)

  -- where no hop is allowed there is none
  none_left : (u x : ℕ) (w : Way) → u < len → next u ≡ Some x → way_by next ends links zero u ≡ Some w → ⊥
  none_left u x w node step q = let z : None ≡ Some w = rw ((goes_on u x node step).0) at q in cc

  -- no hop has a longer tunnel
  longest_hop : (k u : ℕ) (w : Way) → u < len → way_by next ends links k u ≡ Some w → (y z : ℕ) → IsPassed next u y → next y ≡ Some z → links y z ≤ w.longest
  longest_hop zero u w node q y z (inl e) goes = absurd (none_left u z w node (ap next (sym e) ∙ goes) q)
  longest_hop zero u w node q y z (inr f) goes = let s = first_step next f.0 u y f.1 in absurd (none_left u s.0 w node s.1 q)
  longest_hop (suc k) u w node q y z (inl e) goes =
      let r = first_rest k u z w node (ap next (sym e) ∙ goes) q in
      let first = r.first in
      let same = ap (λ (v : ℕ). links v z) e in
      omega (arith, first, same)
  longest_hop (suc k) u w node q y z (inr (zero, s)) goes =
      let r = first_rest k u y w node s q in
      let more = longest_hop k y r.rest (goes_on u y node s).1 r.is y z (inl refl) goes in
      let longer = r.longer in
      omega (arith, more, longer)
  longest_hop (suc k) u w node q y z (inr (suc j, s)) goes =
      let r = first_rest k u s.0 w node s.1 q in
      let more = longest_hop k s.0 r.rest (goes_on u s.0 node s.1).1 r.is y z (inr (j, s.2)) goes in
      let longer = r.longer in
      omega (arith, more, longer)

-- ---- the path to the owner of a BFR-id

module _ (g : List ViewNode) (graph : IsGraph g) (kinds : List SubKind) (table : List TableRow) (t : Triple) (class k : ℕ) where
  abbrev next : ℕ → Option ℕ
  next y = choose g kinds table t class y k

  -- a node with a choice isn't the owner
  choice_goes_on : (y z : ℕ) → y < length g → next y ≡ Some z → (has_id_at g t.sd k y ≡ false) × (z < length g)
  choice_goes_on y z node goes =
      let d = descends g kinds table t class k y z graph node goes in
      let own = owner-is g t.sd k d.owner d.owns in
      let near = d.nearer in
      let apart : y ≡ d.owner → ⊥ = λ e. (let none : near.far ≡ 0 = same_Some near.far 0 (sym near.from ∙ ap (λ (v : ℕ). dist g v d.owner) e ∙ dist-end g d.owner) in let less = near.less in omega (arith, none, less)) in
      (own.alone y node ∙ ne_eqb y d.owner apart, d.within)

  -- the tunnels of a path whose longest one has at most 255 links
  pub way_fits : (u : ℕ) → u < length g → (w : Way) → way_to g kinds table t class k u ≡ Some w → w.longest ≤ outer_ttl → FitTunnels g next u
  unfolding way_to links_over
  way_fits u node w q short y z h passed goes far links =
      let most = longest_hop next (has_id_at g t.sd k) (links_over g) (length g) choice_goes_on (length g) u w node q y z passed goes in
      let over : links_over g y z ≡ h = rw (far, links) refl in
      omega (arith, most, over, short)

  -- from the owner there is no path on
  pub owner_fits : (u : ℕ) → u < length g → has_id_at g t.sd k u ≡ true → FitTunnels g next u
  owner_fits u node has y z h passed goes far links = absurd (by passed)
    where
      none : (x : ℕ) → next u ≡ Some x → ⊥
      none x q = true≢false (sym has ∙ (choice_goes_on u x node q).0)

      by : IsPassed next u y → ⊥
      by (inl e) = none z (ap next (sym e) ∙ goes)
      by (inr f) = let s = first_step next f.0 u y f.1 in none s.0 s.1
