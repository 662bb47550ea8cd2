use Rattle.std.proofs.Common.{◌≡◌, ◌+◌, map, refl, sym, ◌∙◌, ap, subst, arith}
use Rattle.std.specs.List.{AllByRecursion}
use Rattle.bier_bits.specs.Any.{bsl_of, positions_of}
use Rattle.bfr_edge.specs.declared.packet.Packet.{Packet}
use Rattle.bfr_edge.specs.Entry.{positions_in}
use Rattle.bfr_edge.proofs.EnterLaws.{packets-none, packets-more, packets-same, packets-whole, lengths-push}
use Rattle.bfr_edge.proofs.OnceLaws.{each-once}
use Rattle.bfr_edge.proofs.enter.packets_of.Goals as goal
use Rattle.bfr_edge.proofs.enter.packets_of.Goals.{then-not-is_empty+in_ok-push, else-not-is_empty}

pub loop-si-init : goal.loop-si-init
loop-si-init c = record {
  packets = packets-none c.args.sd c.args.bsl c.args.ids.now c.new-packets.result c.new-packets.ensures;
  lengths = subst (λ ps. AllByRecursion (λ p. bsl_of p.bits ≡ p.triple.bsl) ps) (sym c.new-packets.ensures) tt;
}

pub loop-si-preserved : goal.loop-si-preserved
loop-si-preserved c =
    let n = c.loop-si.si in
    let so_far = c.loop-si.invariant in
    let ids = c.args.ids.now in
    elim c.if-not-is_empty.branch [
      | then-not-is_empty+in_ok-push w ↦
          let p : Packet = record { triple = record { sd = c.args.sd; bsl = c.args.bsl; si = n }; bits = c.bits_of_set-bits.result } in
          let e = w.packets-is ∙ w.in_ok-push.ensures.ok in
          record {
            packets = packets-more c.args.sd c.args.bsl ids n (n + 1) c.loop-si.packets c.if-not-is_empty.packets p c.requires.zero (omega arith) refl c.bits_of_set-bits.ensures.positions (sym w.if-not-is_empty.true ∙ c.is_empty.ensures) so_far.packets e;
            lengths = subst (λ ps. AllByRecursion (λ q. bsl_of q.bits ≡ q.triple.bsl) ps) (sym e) (lengths-push c.loop-si.packets p so_far.lengths c.bits_of_set-bits.ensures.bsl);
          }
      | else-not-is_empty w ↦ record {
        packets = ap (map positions_in) w.packets-is ∙ packets-same c.args.sd c.args.bsl ids n (n + 1) c.loop-si.packets (positions_of c.bits_of_set-bits.result) c.requires.zero (omega arith) c.bits_of_set-bits.ensures.positions (sym w.if-not-is_empty.false ∙ c.is_empty.ensures) so_far.packets;
        lengths = subst (λ ps. AllByRecursion (λ q. bsl_of q.bits ≡ q.triple.bsl) ps) (sym w.packets-is) so_far.lengths;
      }
    ]

pub returns-clause-packets : goal.returns-clause-packets
returns-clause-packets c = packets-whole c.args.sd c.args.bsl c.args.ids.now c.loop-si.si c.last_set-last.result c.loop-si.packets (omega (arith, c.loop-si-test.false, c.loop-si.auto.si-end)) c.last_set-last.ensures c.loop-si.invariant.packets

pub returns-clause-once : goal.returns-clause-once
returns-clause-once c k = each-once c.args.sd c.args.bsl c.args.ids.now k c.requires.zero
