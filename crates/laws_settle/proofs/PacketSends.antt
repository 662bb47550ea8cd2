-- What is sent for a packet that arrives or is injected are packets.
use Rattle.std.proofs.Common.{◌⊎◌, inl, inr, ℕ, ◌+◌, List, map, sym, subst}
use Rattle.std.specs.List.{AllByRecursion}
use Rattle.wire_base.specs.declared.bsl.Bsl.{Bsl}
use Rattle.wire_base.specs.declared.conf.RouterConf.{RouterConf}
use Rattle.wire_base.specs.model.Control.{Control}
use Rattle.wire_base.specs.model.Ingress.{IngressPacket, packets_for}
use Rattle.wire_base.specs.model.Item.{Item, PacketItem, DataItem, Outer}
use Rattle.wire_base.specs.model.OnFrame.{node_place}
use Rattle.wire_base.specs.model.View.{control_view}
use Rattle.domain_model.specs.Moves.{Sending, Made, entering_item, hop_made, sent_onward, packet_taken, inject_made}
use Rattle.domain_model.proofs.EachLaws.{each_from, each_weaker, each_mapped, each_flat}
use Rattle.laws_ledger.proofs.CopyLaws.{IsOnwardSent, IsOnwardLost, onward_is}
use Rattle.laws_ledger.proofs.MadeLaws.{IsHopSent, hop_made_is, Fate, Hops, GoesOn, Ends, fate_of}

-- what holds of each packet holds of each item that is sent
module _ (P : Item → Type 0) (packet : (x : DataItem) → P (PacketItem x)) (confs : List RouterConf) (a : ℕ) (c : Control) where
  abbrev Says : Made → Type 0
  Says m = AllByRecursion (λ (s : Sending). P s.item) m.sent

  hop_packets : (x : DataItem) (ttl : ℕ) → Says (hop_made confs a c x ttl)
  hop_packets x ttl =
      let g = control_view c in
      let u = node_place g c.conf.system in
      each_weaker (IsHopSent confs a c.conf g u x ttl) (λ (s : Sending). P s.item) (λ s h. subst (λ (z : Sending). P z.item) (sym h.is) (packet _)) (hop_made confs a c x ttl).sent (hop_made_is confs a c.conf g u x ttl).sent

  pub taken_packets : (x : DataItem) → Says (packet_taken confs a c x x.outer)
  taken_packets x = by (packet_taken confs a c x x.outer) (fate_of confs a c x)
    where
      onward : (o : Outer) (m : Made) → IsOnwardSent confs a c.conf (control_view c) (node_place (control_view c) c.conf.system) x o m ⊎ IsOnwardLost a c.conf (control_view c) (node_place (control_view c) c.conf.system) x o m → Says m
      onward o m (inl s) = subst Says (sym s.is) (packet _, tt)
      onward o m (inr l) = subst Says (sym l.is) tt

      by : (m : Made) → Fate confs a c x m → Says m
      by m (Hops ends is) = subst Says (sym is) (hop_packets x x.ttl)
      by m (GoesOn o e on more is) = subst Says (sym is) (onward o (sent_onward confs a c.conf (control_view c) (node_place (control_view c) c.conf.system) x o) (onward_is confs a c.conf (control_view c) (node_place (control_view c) c.conf.system) x o))
      by m (Ends o e on few is) = subst Says (sym is) tt

  pub inject_packets : (number sd : ℕ) (bsl : Bsl) (ks : List ℕ) (ttl entropy : ℕ) (payload : List ℕ) → Says (inject_made confs a c number sd bsl ks ttl entropy payload)
  unfolding inject_made
  inject_packets number sd bsl ks ttl entropy payload =
      let enter : IngressPacket → Made = λ p. hop_made confs a c (entering_item c.conf number ttl entropy payload p) (ttl + 1) in
      each_flat (λ (s : Sending). P s.item) (λ (m : Made). m.sent) (map enter (packets_for sd bsl ks))
      (each_mapped Says enter (packets_for sd bsl ks) (each_from (λ p. Says (enter p)) (λ p. hop_packets (entering_item c.conf number ttl entropy payload p) (ttl + 1)) (packets_for sd bsl ks)))
