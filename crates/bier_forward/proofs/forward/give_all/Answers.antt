use Rattle.std.proofs.Common.{◌≡◌, ℕ, ◌<◌, Option, map, option_map, rules, sym, ap, subst, ◌∙◌}
use Rattle.wire_base.specs.declared.triple.Triple.{Triple}
use Rattle.wire_base.specs.model.OnFrame.{Packet, joined}
use Rattle.wire_base.specs.model.Place.{id_at}
use Rattle.bift_table.specs.Bift.{router_at}
use Rattle.bier_hop.specs.Outcomes.{choose_in, left, number_in, out_of, outcome}
use Rattle.bier_hop.proofs.NextLaws.{numbered}
use Rattle.bier_forward.specs.Hops.{AreNext, after, given, own_position, place_of}
use Rattle.bier_forward.proofs.DueLaws.{due-is, numbered-places}
use Rattle.bier_forward.proofs.JoinLaws.{step-joined, all-joined, start-joined, table-kept, own-kept}
use Rattle.bier_forward.proofs.forward.give_all.Goals as goal

pub give-requires : goal.give-requires
give-requires g c =
    let h = c.outcomes.hop in
    let table : h.table ≡ c.args.table.now = table-kept c.outcomes.hop c.begin-hop.result c.args.table.now c.own_position-own.result c.args.set c.args.ttl c.outcomes.invariant.table c.begin-hop.ensures.state in
    let own : h.own ≡ c.own_position-own.result = own-kept c.outcomes.hop c.begin-hop.result c.args.table.now c.own_position-own.result c.args.set c.args.ttl c.outcomes.invariant.own c.begin-hop.ensures.state in
    let triple = ap (λ (q : Packet). q.triple) c.packet.view_is in
    let due = due-is c.args.conf.now c.args.view.now.nodes c.args.packet.now h (out_of c.next_into.new.set c.in-Some.action) _
    (subst (AreNext c.args.conf.now c.args.view.now.nodes) (sym table) c.requires.next)
    (λ q is. subst (λ (t : Triple). id_at t q < 65536) triple (c.own_position-own.ensures.id q (sym own ∙ is)))
    (c.in-Some.ensures.outcomes (number_in h.table) (choose_in h.table) (numbered h.table)) in
    (search rules, (c.requires.width, (c.requires.sound, (c.requires.ends, (c.requires.short, (c.requires.bits, (due, c.outcomes.invariant.built)))))))

pub outcomes-preserved : goal.outcomes-preserved
outcomes-preserved g c =
    let h = c.outcomes.hop in
    let table : h.table ≡ c.args.table.now = table-kept c.outcomes.hop c.begin-hop.result c.args.table.now c.own_position-own.result c.args.set c.args.ttl c.outcomes.invariant.table c.begin-hop.ensures.state in
    let next = c.in-Some.ensures.outcomes (place_of c.args.view.now.nodes) (λ p. option_map (place_of c.args.view.now.nodes) (router_at c.args.table.now p))
    (numbered-places c.args.conf.now c.args.view.now.nodes h.table c.args.table.now table c.requires.next) in
    record {
      table = c.in-Some.ensures.table ∙ c.outcomes.invariant.table;
      own = c.in-Some.ensures.own ∙ c.outcomes.invariant.own;
      built = c.in_ok-give.ensures.kept;
      whole = step-joined (given c.args.conf.now c.args.view.now.nodes c.args.packet.now) c.outcomes.effects c.give.new.effects
          (after c.args.effects.now (joined (map (given c.args.conf.now c.args.view.now.nodes c.args.packet.now) (left (λ p. option_map (place_of c.args.view.now.nodes) (router_at c.args.table.now p)) c.begin-hop.result))))
          (outcome (place_of c.args.view.now.nodes) (out_of c.next_into.new.set c.in-Some.action))
          (left (λ p. option_map (place_of c.args.view.now.nodes) (router_at c.args.table.now p)) c.next_into.new.self)
          (left (λ p. option_map (place_of c.args.view.now.nodes) (router_at c.args.table.now p)) c.outcomes.hop)
          next c.in_ok-give.ensures.given c.outcomes.invariant.whole;
    }

pub returns-clause-effects : goal.returns-clause-effects
returns-clause-effects g c =
    let h = c.outcomes.hop in
    let table : h.table ≡ c.args.table.now = table-kept c.outcomes.hop c.begin-hop.result c.args.table.now c.own_position-own.result c.args.set c.args.ttl c.outcomes.invariant.table c.begin-hop.ensures.state in
    let choose : ℕ → Option ℕ = λ p. option_map (place_of c.args.view.now.nodes) (router_at c.args.table.now p) in
    let none = c.in_default.ensures.outcomes (place_of c.args.view.now.nodes) choose
    (numbered-places c.args.conf.now c.args.view.now.nodes h.table c.args.table.now table c.requires.next) in
    let own = c.own_position-own.ensures.value ∙ ap (λ (q : Packet). own_position c.args.conf.now q.triple) c.packet.view_is in
    all-joined (given c.args.conf.now c.args.view.now.nodes c.args.packet.now) c.outcomes.effects
    (after c.args.effects.now (joined (map (given c.args.conf.now c.args.view.now.nodes c.args.packet.now) (left choose c.begin-hop.result))))
    (left choose c.outcomes.hop) none c.outcomes.invariant.whole
    ∙ start-joined (given c.args.conf.now c.args.view.now.nodes c.args.packet.now) c.args.effects.now choose c.begin-hop.result c.args.table.now c.own_position-own.result
    (own_position c.args.conf.now c.args.packet.now.triple) c.args.set c.args.ttl c.begin-hop.ensures.state own
