-- The ways that are kept, and the nodes of the view.
use Rattle.std.proofs.Common.{◌≡◌, ℕ, suc, ◌+◌, ◌<◌, ◌≤◌, ◌==◌, inl, inr, List, [], ◌∷◌, length, map, slice_get, Option, Some, None, option_map, option_and_then, refl, ap, ap₂, arith, sym, ◌∙◌}
use Rattle.std.proofs.lemmas.Bool.{cases_Bool}
use Rattle.std.proofs.lemmas.Option.{slice_get_cases}
use Rattle.wire_base.specs.declared.addresses.Ipv4.{Ipv4}
use Rattle.wire_base.specs.declared.addresses.SystemId.{SystemId}
use Rattle.wire_base.specs.declared.conf.End.{End}
use Rattle.wire_base.specs.declared.conf.RouterConf.{RouterConf}
use Rattle.wire_base.specs.declared.view.ViewNode.{ViewNode}
use Rattle.wire_base.specs.declared.view.ViewSub.{ViewSub}
use Rattle.wire_base.specs.model.Choice.{is_system}
use Rattle.wire_base.specs.model.Graph.{IsGraph, place_in}
use Rattle.wire_base.specs.model.OnFrame.{next_link, node_place, node_with, prefix_of}
use Rattle.wire_base.specs.model.Tight.{next_step}
use Rattle.wire_base.specs.model.View as view
use Rattle.wire_base.specs.model.Walk.{dist}
use Rattle.laws_route.proofs.LastLemmas.{leads-within}
use Rattle.laws_route.proofs.RouteLemmas.{next_step-tight}
use Rattle.laws_route.proofs.WalkLemmas.{best-route}
use Rattle.bier_tunnel.specs.declared.ways.Way.{Way}
use Rattle.bier_tunnel.specs.Ways.{AreWays, end_of, has_prefix, link_to, link_with, own_prefix, prefix_in, prefix_to, way_to, ways, ways_from}

-- ---- prefixes of a node

prefixes-in : (subs : List ViewSub) (sd : ℕ) → prefix_in (map own_prefix subs) sd ≡ option_map (λ s. s.prefix) (place_in subs sd)
prefixes-in [] sd = refl
prefixes-in (s ∷ subs) sd = elim (cases_Bool (s.sd == sd)) [ inl q ↦ rw q refl | inr q ↦ rw q (prefixes-in subs sd) ]

prefixes-have : (subs : List ViewSub) (prefix : Ipv4) → has_prefix (map own_prefix subs) prefix ≡ view.has_prefix prefix subs
prefixes-have [] prefix = refl
prefixes-have (s ∷ subs) prefix = rw (prefixes-have subs prefix) refl

-- ---- a walk leads to nodes alone

dist-within : (g : List ViewNode) → IsGraph g → (u x n : ℕ) → u < length g → dist g u x ≡ Some n → x < length g
unfolding dist
dist-within g good u x n node q = let r = best-route g x _ u n q in leads-within g good u x r.edges node r.leads

next-absent : (g : List ViewNode) → IsGraph g → (u x : ℕ) → u < length g → length g ≤ x → next_step g x u ≡ None
next-absent g good u x node past = none (next_step g x u) refl
  where
    none : (o : Option ℕ) → next_step g x u ≡ o → o ≡ None
    none None q = refl
    none (Some v) q =
        let t = next_step-tight g good x u v node q in
        let within = dist-within g good u x (t.edge.metric + t.rest) node t.whole in
        absurd (omega arith)

past : (g : List ViewNode) (p : ℕ) → slice_get g p ≡ None → length g ≤ p
past g p q =
    elim (slice_get_cases g p).1 [
      | inl h ↦ absurd (let e = h.2 in cc)
      | inr h ↦ h.0
    ]

-- ---- the ways to the nodes from a place on

one-on : (p : ℕ) → 1 + p ≡ suc p
one-on p = omega arith

module _ (ends : List End) (g : List ViewNode) (step : ℕ → Option ℕ) where
  abbrev over : ℕ → Option ℕ
  over x = option_and_then (end_of ends g) (step x)

  abbrev link_at : ℕ → List ViewNode → ℕ → Option ℕ
  link_at x ns p = option_and_then (λ (n : ViewNode). over (x + p)) (slice_get ns p)

  link-from : (s : SystemId) (x : ℕ) (ns : List ViewNode) → link_to (ways_from ends g step x ns) s ≡ link_at x ns (node_place ns s)
  link-from s x [] = refl
  link-from s x (n ∷ ns) =
      elim (cases_Bool (is_system n.system s)) [
        | inl q ↦ rw q (ap over (let e : x ≡ x + 0 = omega arith in e))
        | inr q ↦
            rw q
            (link-from s (x + 1) ns
            ∙ ap (λ (k : ℕ). option_and_then (λ (n : ViewNode). over k) (slice_get ns (node_place ns s))) (let e : x + 1 + node_place ns s ≡ x + (1 + node_place ns s) = omega arith in e)
            ∙ ap (λ (k : ℕ). option_and_then (λ (n : ViewNode). over (x + (1 + node_place ns s))) (slice_get (n ∷ ns) k)) (sym (one-on (node_place ns s))))
      ]

  prefix-from : (s : SystemId) (sd x : ℕ) (ns : List ViewNode) → prefix_to (ways_from ends g step x ns) s sd ≡ prefix_of ns sd (node_place ns s)
  prefix-from s sd x [] = refl
  prefix-from s sd x (n ∷ ns) =
      elim (cases_Bool (is_system n.system s)) [
        | inl q ↦ rw q (prefixes-in n.subs sd)
        | inr q ↦ rw q (prefix-from s sd (x + 1) ns ∙ ap (λ (k : ℕ). prefix_of (n ∷ ns) sd k) (sym (one-on (node_place ns s))))
      ]

  with-from : (prefix : Ipv4) (x : ℕ) (ns : List ViewNode) → link_with (ways_from ends g step x ns) prefix ≡ option_and_then (λ p. over (x + p)) (node_with ns prefix)
  with-from prefix x [] = refl
  with-from prefix x (n ∷ ns) =
      elim (cases_Bool (view.has_prefix prefix n.subs)) [
        | inl q ↦ rw (prefixes-have n.subs prefix, q) (ap over (let e : x ≡ x + 0 = omega arith in e))
        | inr q ↦ rw (prefixes-have n.subs prefix, q) (with-from prefix (x + 1) ns ∙ on (node_with ns prefix))
      ]
    where
      on : (o : Option ℕ) → option_and_then (λ p. over (x + 1 + p)) o ≡ option_and_then (λ p. over (x + p)) (option_map (λ p. 1 + p) o)
      on None = refl
      on (Some p) = ap over (let e : x + 1 + p ≡ x + (1 + p) = omega arith in e)

-- ---- the ways of a router

module _ (r : RouterConf) (g : List ViewNode) (u : ℕ) (kept : List Way) (are : AreWays r g u kept) where
  pub link-is : (s : SystemId) → link_to kept s ≡ next_link r g u (node_place g s)
  unfolding ways
  link-is s =
      ap (λ (l : List Way). link_to l s) are.are ∙ link-from r.ends g (λ x. next_step g x u) s 0 g ∙ at (slice_get g (node_place g s)) refl
    where
      at : (o : Option ViewNode) → slice_get g (node_place g s) ≡ o
          → option_and_then (λ (n : ViewNode). option_and_then (end_of r.ends g) (next_step g (0 + node_place g s) u)) o ≡ next_link r g u (node_place g s)
      at (Some n) q = ap (λ (k : ℕ). option_and_then (end_of r.ends g) (next_step g k u)) (let e : 0 + node_place g s ≡ node_place g s = omega arith in e)
      at None q = sym (ap (option_and_then (end_of r.ends g)) (next-absent g are.graph u (node_place g s) are.within (past g (node_place g s) q)))

  pub prefix-is : (s : SystemId) (sd : ℕ) → prefix_to kept s sd ≡ prefix_of g sd (node_place g s)
  unfolding ways
  prefix-is s sd = ap (λ (l : List Way). prefix_to l s sd) are.are ∙ prefix-from r.ends g (λ x. next_step g x u) s sd 0 g

  pub with-is : (prefix : Ipv4) → link_with kept prefix ≡ option_and_then (next_link r g u) (node_with g prefix)
  unfolding ways
  with-is prefix = ap (λ (l : List Way). link_with l prefix) are.are ∙ with-from r.ends g (λ x. next_step g x u) prefix 0 g ∙ at (node_with g prefix)
    where
      at : (o : Option ℕ) → option_and_then (λ p. option_and_then (end_of r.ends g) (next_step g (0 + p) u)) o ≡ option_and_then (next_link r g u) o
      at None = refl
      at (Some p) = ap (λ (k : ℕ). option_and_then (end_of r.ends g) (next_step g k u)) (let e : 0 + p ≡ p = omega arith in e)

-- ---- the ways that are made

same-ways : (ends : List End) (g : List ViewNode) (step other : ℕ → Option ℕ) (count : ℕ) → ((x : ℕ) → x < count → step x ≡ other x) → (x : ℕ) (ns : List ViewNode) → x + length ns ≡ count
    → ways_from ends g step x ns ≡ ways_from ends g other x ns
same-ways ends g step other count same x [] here = refl
same-ways ends g step other count same x (n ∷ ns) here =
    ap₂ (λ (o : Option ℕ) (l : List Way). way_to ends g o n ∷ l) (same x (omega arith)) (same-ways ends g step other count same (x + 1) ns (omega arith))

pub built : (r : RouterConf) (g : List ViewNode) (u : ℕ) (ends : List End) (step : ℕ → Option ℕ) (kept : List Way) → IsGraph g → u < length g → ends ≡ r.ends
    → ((x : ℕ) → x < length g → step x ≡ next_step g x u) → kept ≡ ways_from ends g step 0 g → AreWays r g u kept
unfolding ways
built r g u ends step kept graph within ends-are steps-are are = record {
  graph = graph;
  within = within;
  are =
      are ∙ same-ways ends g step (λ x. next_step g x u) (length g) steps-are 0 g (omega arith) ∙ ap (λ (l : List End). ways_from l g (λ x. next_step g x u) 0 g) ends-are;
}
