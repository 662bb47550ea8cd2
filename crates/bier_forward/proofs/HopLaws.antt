-- The hop of a packet is that over its table.
use Rattle.std.proofs.Common.{◌≡◌, ℕ, ◌-◌, ◌≤◌, List, [], ◌∷◌, map, get_or, Option, option_map, refl, ap, subst, ◌∙◌, sym}
use Rattle.wire_base.specs.declared.conf.RouterConf.{RouterConf}
use Rattle.wire_base.specs.declared.view.First.{First}
use Rattle.wire_base.specs.declared.view.ViewNode.{ViewNode}
use Rattle.wire_base.specs.model.BitSet.{IsWithin}
use Rattle.wire_base.specs.model.Graph.{IsGraph}
use Rattle.wire_base.specs.model.Hop.{Outcome, hop}
use Rattle.wire_base.specs.model.OnFrame.{Effects, Packet, choice_of, class_of, hop_at, joined, node_place, nothing, outcome_done}
use Rattle.wire_base.specs.model.Place.{bits_of, id_at, own_id}
use Rattle.bift_table.specs.Bift.{member_at, router_at}
use Rattle.bier_forward.specs.Hops.{AreRows, after, given, over_ids, own_position, place_of}
use Rattle.bier_forward.specs.Packets.{LeadsToEnds, hopped}
use Rattle.bier_forward.proofs.ImageLaws.{hop-image}
use Rattle.bier_forward.proofs.TableLaws.{table-chosen}

done-over : (f : Outcome → Effects) (h : Outcome → Outcome) (os : List Outcome) → map f (map h os) ≡ map (λ o. f (h o)) os
done-over f h [] = refl
done-over f h (o ∷ os) = ap (λ (es : List Effects). f (h o) ∷ es) (done-over f h os)

hopped-is : (r : RouterConf) (g : List ViewNode) (p : Packet) (ttl : ℕ) (rows : List (List First)) (table : List (Option First)) (ps : List ℕ) → IsGraph g → LeadsToEnds r g
    → AreRows r g p.triple rows → ((q : ℕ) → 1 ≤ q → router_at table q ≡ member_at (class_of p) (get_or rows (q - 1) []))
    → ps ≡ p.header.positions → IsWithin 0 (bits_of p.triple.bsl) ps
    → joined (map (given r g p) (hop (own_position r p.triple) (λ q. option_map (place_of g) (router_at table q)) ps ttl)) ≡ hopped r g p ttl
unfolding hop_at
hopped-is r g p ttl rows table ps graph ends are at set within =
    let u = node_place g r.system in
    ap joined
    (sym (done-over (outcome_done r g u p) (over_ids p.triple) (hop (own_position r p.triple) (λ q. option_map (place_of g) (router_at table q)) ps ttl))
    ∙ ap (map (outcome_done r g u p))
    (sym (hop-image p.triple (own_id r p.triple.sd) (choice_of r g u p) (λ q. option_map (place_of g) (router_at table q)) ps ttl within (table-chosen r g p.triple (class_of p) rows table graph ends are at))
    ∙ ap (λ (qs : List ℕ). hop (own_id r p.triple.sd) (choice_of r g u p) (map (id_at p.triple) qs) ttl) set))

-- The same where the class has another name in the code.

pub over-is : (r : RouterConf) (g : List ViewNode) (p : Packet) (ttl class : ℕ) (rows : List (List First)) (table : List (Option First)) (ps : List ℕ) (size : ℕ) → IsGraph g → LeadsToEnds r g → class ≡ class_of p
    → bits_of p.triple.bsl ≡ size → AreRows r g p.triple rows → ((q : ℕ) → 1 ≤ q → router_at table q ≡ member_at class (get_or rows (q - 1) []))
    → ps ≡ p.header.positions → IsWithin 0 size ps
    → joined (map (given r g p) (hop (own_position r p.triple) (λ q. option_map (place_of g) (router_at table q)) ps ttl)) ≡ hopped r g p ttl
over-is r g p ttl class rows table ps size graph ends is bits are at set within =
    hopped-is r g p ttl rows table ps graph ends are
    (subst (λ (k : ℕ). (q : ℕ) → 1 ≤ q → router_at table q ≡ member_at k (get_or rows (q - 1) [])) is at) set (subst (λ (n : ℕ). IsWithin 0 n ps) (sym bits) within)

pub after-nothing-hopped : (r : RouterConf) (g : List ViewNode) (p : Packet) (ttl : ℕ) → after nothing (hopped r g p ttl) ≡ hopped r g p ttl
unfolding hop_at
after-nothing-hopped r g p ttl = refl
