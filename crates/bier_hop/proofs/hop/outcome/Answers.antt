use Rattle.std.proofs.Common.{◌*◌, Some, option_map, refl, sym, ◌∙◌, ap, arith, subst}
use Rattle.wire_base.specs.model.BitSet.{intersection, difference, first_member}
use Rattle.bift_table.specs.Bift.{routed_of}
use Rattle.bier_hop.specs.declared.out.Out.TheVariants.{Local, Dropped}
use Rattle.bier_hop.specs.declared.out.Why.TheVariants.{Ttl}
use Rattle.bier_hop.specs.Outcomes.{HopState, out_of, IsNext}
use Rattle.bier_hop.proofs.NextLaws.{expired, delivered, unrouted, last, copied, difference-shared, drop-first, apart-after}
use Rattle.bier_hop.proofs.hop.outcome.Goals as goal

pub returns-then-ttl-eq0-clause-next : goal.returns-then-ttl-eq0-clause-next
returns-then-ttl-eq0-clause-next g c =
    let h : HopState = record { table = c.args.context.now.table.now; own = c.args.context.now.own; rest = c.args.rest.now; ttl = c.args.context.now.ttl } in
    subst (λ r. IsNext {w = g.row.W} (64 * g.row.W) h r) (sym c.drop_all.ensures.drop)
    (expired (64 * g.row.W) c.args.context.now.table.now c.args.context.now.own c.args.rest.now c.args.context.now.ttl c.if-ttl-eq0.true)

pub returns-in-Some-clause-next : goal.returns-in-Some-clause-next
returns-in-Some-clause-next g c = delivered (64 * g.row.W) c.args.context.now.table.now c.args.context.now.own c.args.rest.now c.args.context.now.ttl c.in-Some.bp (omega (arith, c.if-ttl-eq0.false)) c.requires.own (sym c.in-Some.ensures)

pub returns-in-None-clause-next : goal.returns-in-None-clause-next
returns-in-None-clause-next g c =
    let h : HopState = record { table = c.args.context.now.table.now; own = c.args.context.now.own; rest = c.args.rest.now; ttl = c.args.context.now.ttl } in
    subst (λ r. IsNext {w = g.row.W} (64 * g.row.W) h r) (sym c.drop_all-in-None.ensures.drop)
    (unrouted (64 * g.row.W) c.args.context.now.table.now c.args.context.now.own c.args.rest.now (intersection c.args.rest.now (routed_of c.args.context.now.table.now)) c.args.context.now.ttl (omega (arith, c.if-ttl-eq0.false)) (sym c.in_default.ensures) refl (sym c.in-None.ensures.first))

pub returns-in-Some-first_routed-clause-next : goal.returns-in-Some-first_routed-clause-next
returns-in-Some-first_routed-clause-next g c =
    let h : HopState = record { table = c.args.context.now.table.now; own = c.args.context.now.own; rest = c.args.rest.now; ttl = c.args.context.now.ttl } in
    let first = ap first_member c.cut_routed.ensures.taken ∙ sym c.in-Some-first_routed.ensures.first in
    subst (λ r. IsNext {w = g.row.W} (64 * g.row.W) h r) (drop-first {w = g.row.W} c.cut_routed.new.set Ttl c.in-Some-first_routed.field-0 first)
    (last (64 * g.row.W) c.args.context.now.table.now c.args.context.now.own c.args.rest.now c.cut_routed.new.set c.args.context.now.ttl c.in-Some-first_routed.field-0 c.if-ttl-eq1.true (sym c.in_default.ensures) c.cut_routed.ensures.taken first)

pub returns-in-Some-first_routed-clause-rest : goal.returns-in-Some-first_routed-clause-rest
returns-in-Some-first_routed-clause-rest g c = c.cut_routed.ensures.left ∙ sym (difference-shared c.args.rest.now (routed_of c.args.context.now.table.now)) ∙ ap (difference c.args.rest.now) (sym c.cut_routed.ensures.taken)

pub returns-in-Some-2-clause-next : goal.returns-in-Some-2-clause-next
returns-in-Some-2-clause-next g c =
    copied (64 * g.row.W) c.args.context.now.table.now c.args.context.now.own c.args.rest.now (intersection c.args.rest.now (routed_of c.args.context.now.table.now)) c.args.context.now.ttl c.in-Some-first_routed.field-0 (option_map (out_of {w = g.row.W} c.copy_toward.new.set) c.copy_toward.result) (omega (arith, c.if-ttl-eq0.false, c.if-ttl-eq1.false)) (sym c.in_default.ensures) refl (sym c.in-Some-first_routed.ensures.first) c.copy_toward.ensures.copy

pub returns-then-ttl-eq0-clause-from : goal.returns-then-ttl-eq0-clause-from
returns-then-ttl-eq0-clause-from g c = (c.requires.from.0, c.requires.from.1, apart-after c.args.from.now c.args.rest.now (routed_of c.args.context.now.table.now) c.drop_all.new.rest (option_map (out_of {w = g.row.W} c.drop_all.new.set) c.drop_all.result) c.drop_all.ensures.rest c.requires.from.2)

pub returns-in-Some-clause-from : goal.returns-in-Some-clause-from
returns-in-Some-clause-from g c = (c.requires.from.0, c.requires.from.1, apart-after {w = g.row.W} c.args.from.now c.args.rest.now (routed_of c.args.context.now.table.now) c.remove.new.self (Some (Local c.in-Some.bp)) c.remove.ensures c.requires.from.2)

pub returns-in-None-clause-from : goal.returns-in-None-clause-from
returns-in-None-clause-from g c = (c.requires.from.0, c.requires.from.1, apart-after c.args.from.now c.args.rest.now (routed_of c.args.context.now.table.now) c.drop_all-in-None.new.rest (option_map (out_of {w = g.row.W} c.drop_all-in-None.new.set) c.drop_all-in-None.result) c.drop_all-in-None.ensures.rest c.requires.from.2)

pub returns-in-Some-first_routed-clause-from : goal.returns-in-Some-first_routed-clause-from
returns-in-Some-first_routed-clause-from g c = (c.requires.from.0, c.requires.from.1, apart-after {w = g.row.W} c.args.from.now c.args.rest.now (routed_of c.args.context.now.table.now) c.cut_routed.new.rest (Some (Dropped c.cut_routed.new.set Ttl)) (returns-in-Some-first_routed-clause-rest g c) c.requires.from.2)

pub returns-in-Some-2-clause-from : goal.returns-in-Some-2-clause-from
returns-in-Some-2-clause-from g c = (c.in-Some-first_routed.ensures.low, omega (arith, c.in-Some-first_routed.ensures.high), apart-after c.in-Some-first_routed.field-0 c.args.rest.now (routed_of c.args.context.now.table.now) c.copy_toward.new.rest (option_map (out_of {w = g.row.W} c.copy_toward.new.set) c.copy_toward.result) c.copy_toward.ensures.rest c.in-Some-first_routed.ensures.apart)
