-- The edges of a system's node lead to systems that its LSPs list.
use Rattle.std.proofs.Common.{◌≡◌, ℕ, ◌+◌, true, List, [], ◌∷◌, map, Contains, slice_get, is_some, Option, Some, None, option_map, refl, sym, ap, subst, ◌∙◌, arith}
use Rattle.std.specs.List.{AllByRecursion, flat_map}
use Rattle.std.proofs.lemmas.Option.{same_Some, slice_get-map}
use Rattle.wire_base.specs.declared.addresses.SystemId.{SystemId}
use Rattle.wire_base.specs.declared.conf.SubKind.{SubKind}
use Rattle.wire_base.specs.declared.entry.Entry.{Entry}
use Rattle.wire_base.specs.declared.view.ViewEdge.{ViewEdge}
use Rattle.wire_base.specs.declared.view.ViewNode.{ViewNode}
use Rattle.wire_base.specs.model.OnFrame.{node_place}
use Rattle.wire_base.specs.model.View.{Claim, Link, claim_of, edges_from, links_in, metric_to, node_of, nodes_of, tlvs_of, with_known}
use Rattle.domain_model.proofs.EachLaws.{each_got}
use Rattle.laws_course.proofs.KnownLaws.{each_contained, place_has}
use Rattle.bier_forward.proofs.OwnEdges.{edges-lead}

-- ---- edges of claims

-- each claim has the links of its system's TLVs
abbrev IsLinked : List Entry → Claim → Type 0
IsLinked every c = c.links ≡ flat_map links_in (tlvs_of every c.system)

linked_claims : (kinds : List SubKind) (every es : List Entry) → AllByRecursion (IsLinked every) (map (with_known kinds) (map (claim_of every) es))
linked_claims kinds every [] = tt
linked_claims kinds every (e ∷ es) = (refl, linked_claims kinds every es)

node_at : (known : List Claim) (x : ℕ) (n : ViewNode) → slice_get (nodes_of known) x ≡ Some n → (c : Claim) × (slice_get known x ≡ Some c) × (n ≡ node_of known c)
node_at known x n h = by (slice_get known x) refl (sym (slice_get-map (node_of known) known x) ∙ h)
  where
    by : (o : Option Claim) → slice_get known x ≡ o → option_map (node_of known) o ≡ Some n → (c : Claim) × (slice_get known x ≡ Some c) × (n ≡ node_of known c)
    by None q e = cc
    by (Some c) q e = (c, q, sym (same_Some (node_of known c) n e))

-- the edges of the node of a system lead to systems that its TLVs list
pub leaves : (kinds : List SubKind) (every es : List Entry) (s : SystemId) (links : List Link) → flat_map links_in (tlvs_of every s) ≡ links
    → (g : List ViewNode) → g ≡ nodes_of (map (with_known kinds) (map (claim_of every) es))
    → (n : ViewNode) → slice_get g (node_place g s) ≡ Some n → (e : ViewEdge) → Contains n.edges e → (m : ViewNode) → slice_get g e.to ≡ Some m → is_some (metric_to links m.system) ≡ true
leaves kinds every es s links said g is n at e has =
    let known = map (with_known kinds) (map (claim_of every) es) in
    let c = node_at known (node_place g s) n (subst (λ (h : List ViewNode). slice_get h (node_place g s) ≡ Some n) is at) in
    let system : c.0.system ≡ s = sym (ap (λ (v : ViewNode). v.system) c.2) ∙ place_has s g n at in
    let own : c.0.links ≡ links = each_got (IsLinked every) known (node_place g s) c.0 (linked_claims kinds every es) c.1 ∙ ap (λ (t : SystemId). flat_map links_in (tlvs_of every t)) system ∙ said in
    let Q : ℕ → Type 0 = λ p. (m : ViewNode) → slice_get g p ≡ Some m → is_some (metric_to links m.system) ≡ true in
    let each : AllByRecursion (λ (f : ViewEdge). Q f.to) (edges_from c.0 0 known) =
    edges-lead Q c.0 0 known (λ k d there listed m node.
    let z : 0 + k ≡ k = omega arith in
    let found = node_at known k m (subst (λ (p : ℕ). slice_get (nodes_of known) p ≡ Some m) z (subst (λ (h : List ViewNode). slice_get h (0 + k) ≡ Some m) is node)) in
    let same : found.0 ≡ d = same_Some found.0 d (sym found.1 ∙ there) in
    let name : m.system ≡ d.system = ap (λ (v : ViewNode). v.system) found.2 ∙ ap (λ (x : Claim). x.system) same in
    ap (λ (t : SystemId). is_some (metric_to links t)) name ∙ ap (λ (ls : List Link). is_some (metric_to ls d.system)) (sym own) ∙ listed) in
    each_contained (λ (f : ViewEdge). Q f.to) (edges_from c.0 0 known) e each (subst (λ (v : ViewNode). Contains v.edges e) c.2 has)
