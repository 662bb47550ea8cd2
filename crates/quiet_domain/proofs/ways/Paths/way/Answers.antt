use Rattle.std.proofs.Common.{◌≡◌, ℕ, ◌<◌, ◌≤◌, max, List, Some, None, true, false, length, refl, ap, subst, ◌∙◌}
use Rattle.wire_base.specs.declared.view.ViewNode.{ViewNode}
use Rattle.wire_base.specs.model.Graph.{IsGraph, has_id_at}
use Rattle.laws_route.proofs.HopCountLemmas.{descends}
use Rattle.quiet_domain.specs.Paths.{PathsIn, next_in, way_in}
use Rattle.quiet_domain.specs.Way.{links_over, way_to}
use Rattle.quiet_domain.proofs.PathLaws.{few_way, led, way_found, way_lost, way_next, way_past, way_start}
use Rattle.quiet_domain.proofs.PathsLaws.{IsPath, hop_is, is_path, tested}
use Rattle.quiet_domain.proofs.ways.Paths.way.Goals as goal

good_for : (p : PathsIn) (h : List ViewNode) → h ≡ p.nodes → IsGraph h → IsGraph p.nodes
good_for p h same good = subst IsGraph same good

module _ (p : PathsIn) (good : IsGraph p.nodes) (k u hops longest node : ℕ) (within : u < length p.nodes)
    (is : way_in p u k ≡ led (λ x. next_in p x k) (has_id_at p.nodes p.triple.sd k) (links_over p.nodes) (length p.nodes) hops longest node) where
  at_end : has_id_at p.nodes p.triple.sd k node ≡ true → IsPath p u k (Some (record { hops = hops; longest = longest }))
  at_end here = is_path p good u k within _ (way_found (λ x. next_in p x k) (has_id_at p.nodes p.triple.sd k) (links_over p.nodes) (length p.nodes) _ hops longest node here is)

  at_loss : has_id_at p.nodes p.triple.sd k node ≡ false → next_in p node k ≡ None → IsPath p u k None
  at_loss past step = is_path p good u k within _ (way_lost (λ x. next_in p x k) (has_id_at p.nodes p.triple.sd k) (links_over p.nodes) (length p.nodes) _ hops longest node past step is)

  at_last : length p.nodes ≤ hops → IsPath p u k None
  at_last past =
      is_path p good u k within _
      (way_past (λ x. next_in p x k) (has_id_at p.nodes p.triple.sd k) (links_over p.nodes) (length p.nodes) _ hops longest node past (few_way p.nodes good p.conf.kinds p.conf.table p.triple p.class k u within) is)

pub path-init : goal.path-init
unfolding way_to
path-init c =
    let p = c.args.self.now in
    record { same = refl; within = c.requires.node; is = way_start (λ x. next_in p x c.args.k) (has_id_at p.nodes p.triple.sd c.args.k) (links_over p.nodes) (length p.nodes) c.args.u }

pub returns-then-has_id_at : goal.returns-then-has_id_at
returns-then-has_id_at c =
    let p = c.args.self.now in
    let inv = c.path.invariant in
    let nodes = c.as_slice-nodes.ensures.nodes ∙ ap (λ (q : PathsIn). q.nodes) c.self.view_is in
    let test = tested p c.path.self _ _ c.args.k c.path.node _ nodes (ap (λ (q : PathsIn). q.triple.sd) c.self-in-path.view_is) inv.same c.has_id_at.ensures in
    let path = at_end p (good_for p _ nodes c.as_slice-nodes.ensures.graph) c.args.k c.args.u _ _ c.path.node c.requires.node inv.is (test ∙ c.if-has_id_at.true) in
    record { way = path.way; hops = path.hops; none = path.none; same = inv.same }

pub returns-in_default : goal.returns-in_default
returns-in_default c =
    let p = c.args.self.now in
    let inv = c.path.invariant in
    let nodes = c.as_slice-nodes.ensures.nodes ∙ ap (λ (q : PathsIn). q.nodes) c.self.view_is in
    let test = tested p c.path.self _ _ c.args.k c.path.node _ nodes (ap (λ (q : PathsIn). q.triple.sd) c.self-in-path.view_is) inv.same c.has_id_at.ensures in
    let step = hop_is p c.path.self c.path.node c.args.k c.in_ok-hop.field-0 None inv.same c.in_default.is c.in_ok-hop.ensures.hop in
    let path = at_loss p (good_for p _ nodes c.as_slice-nodes.ensures.graph) c.args.k c.args.u _ _ c.path.node c.requires.node inv.is (test ∙ c.if-has_id_at.false) step in
    record { way = path.way; hops = path.hops; none = path.none; same = c.in_ok-hop.ensures.same ∙ inv.same }

pub path-preserved : goal.path-preserved
path-preserved c =
    let p = c.args.self.now in
    let inv = c.path.invariant in
    let nodes = c.as_slice-nodes.ensures.nodes ∙ ap (λ (q : PathsIn). q.nodes) c.self.view_is in
    let good = good_for p _ nodes c.as_slice-nodes.ensures.graph in
    let test = tested p c.path.self _ _ c.args.k c.path.node _ nodes (ap (λ (q : PathsIn). q.triple.sd) c.self-in-path.view_is) inv.same c.has_id_at.ensures in
    let past = test ∙ c.if-has_id_at.false in
    let hop = hop_is p c.path.self c.path.node c.args.k c.in_ok-hop.field-0 (Some c.in-Some.hop) inv.same c.in-Some.is c.in_ok-hop.ensures.hop in
    let less : c.path.hops < length p.nodes = subst (λ (g : List ViewNode). c.path.hops < length g) nodes c.path-test.true in
    let most : c.max-longest.result ≡ max c.path.longest (links_over p.nodes c.path.node c.in-Some.hop.next) = c.max-longest.ensures ∙ ap (λ (n : ℕ). max c.path.longest n) hop.1 in
    record {
      same = c.in_ok-hop.ensures.same ∙ inv.same;
      within = (descends p.nodes p.conf.kinds p.conf.table p.triple p.class c.args.k c.path.node c.in-Some.hop.next good inv.within hop.0).within;
      is = way_next (λ x. next_in p x c.args.k) (has_id_at p.nodes p.triple.sd c.args.k) (links_over p.nodes) (length p.nodes) _ c.path.hops c.path.longest c.path.node c.in-Some.hop.next c.max-longest.result less past hop.0 most inv.is;
    }

pub returns : goal.returns
returns c =
    let p = c.args.self.now in
    let inv = c.path.invariant in
    let nodes = c.as_slice-nodes.ensures.nodes ∙ ap (λ (q : PathsIn). q.nodes) c.self.view_is in
    let past : length p.nodes ≤ c.path.hops = subst (λ (g : List ViewNode). length g ≤ c.path.hops) nodes c.path-test.false in
    let path = at_last p (good_for p _ nodes c.as_slice-nodes.ensures.graph) c.args.k c.args.u _ _ c.path.node c.requires.node inv.is past in
    record { way = path.way; hops = path.hops; none = path.none; same = inv.same }
