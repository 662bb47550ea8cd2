-- Packets that enter, one after the other.
use Rattle.std.proofs.Common.{◌≡◌, ℕ, ◌+◌, ◌≤◌, List, [], ◌∷◌, length, drop, map, refl, sym, ap, ◌∙◌}
use Rattle.std.proofs.lemmas.List.{drop_all}
use Rattle.wire_base.specs.declared.bsl.Bsl.{Bsl}
use Rattle.wire_base.specs.declared.conf.RouterConf.{RouterConf}
use Rattle.wire_base.specs.declared.view.ViewNode.{ViewNode}
use Rattle.wire_base.specs.model.Control.{Control}
use Rattle.wire_base.specs.model.Ingress.{IngressPacket, inject, packets_for}
use Rattle.wire_base.specs.model.OnFrame.{Effects, Positions, joined}
use Rattle.wire_base.specs.model.View.{control_view}
use Rattle.bfr_edge.specs.declared.packet.Packet.{Packet}
use Rattle.bfr_edge.specs.Entry.{placed, positions_in}
use Rattle.bier_forward.specs.Hops.{after}
use Rattle.bier_forward.specs.Packets.{entered, entering_with, hopped}
use Rattle.bier_forward.proofs.JoinLaws.{all-joined}

map-map : {X Y Z : Type 0} (f : Y → Z) (h : X → Y) (xs : List X) → map f (map h xs) ≡ map (λ x. f (h x)) xs
map-map f h [] = refl
map-map {X} {Y} {Z} f h (x ∷ xs) = ap (λ (ys : List Z). f (h x) ∷ ys) (map-map f h xs)

-- what one of them does
abbrev enters : RouterConf → List ViewNode → ℕ → ℕ → List ℕ → Positions → Effects
enters r g ttl entropy payload set = hopped r g (entering_with r ttl entropy payload set) (ttl + 1)

pub all-entered : (r : RouterConf) (g : List ViewNode) (ttl entropy : ℕ) (payload : List ℕ) (packets : List Packet) (i : ℕ) (e : Effects) → length packets ≤ i
    → after e (joined (map (λ p. hopped r g (entering_with r ttl entropy payload (positions_in p)) (ttl + 1)) (drop i packets))) ≡ joined (map (λ p. hopped r g (entering_with r ttl entropy payload (positions_in p)) (ttl + 1)) packets)
    → e ≡ entered r g ttl entropy payload (map positions_in packets)
unfolding entered
all-entered r g ttl entropy payload packets i e past kept =
    all-joined (λ (p : Packet). enters r g ttl entropy payload (positions_in p)) e _ (drop i packets) (drop_all i packets past) kept
    ∙ sym (ap joined (map-map (enters r g ttl entropy payload) positions_in packets))

pub injected : (r : RouterConf) (g : List ViewNode) (ttl entropy : ℕ) (payload : List ℕ) (packets : List Packet) (e : Effects) → e ≡ entered r g ttl entropy payload (map positions_in packets)
    → (c : Control) (sd : ℕ) (bsl : Bsl) (ids : List ℕ) → c.conf ≡ r → control_view c ≡ g → map positions_in packets ≡ map placed (packets_for sd bsl ids) → e ≡ inject c sd bsl ids ttl entropy payload
unfolding entered inject
injected r g ttl entropy payload packets e is c sd bsl ids conf view same =
    is ∙ ap (λ (sets : List Positions). joined (map (enters r g ttl entropy payload) sets)) same
    ∙ ap joined (map-map (enters r g ttl entropy payload) placed (packets_for sd bsl ids))
    ∙ sym (ap (λ (s : RouterConf). joined (map (λ (p : IngressPacket). enters s (control_view c) ttl entropy payload (placed p)) (packets_for sd bsl ids))) conf
    ∙ ap (λ (h : List ViewNode). joined (map (λ (p : IngressPacket). enters r h ttl entropy payload (placed p)) (packets_for sd bsl ids))) view)
