use Rattle.std.proofs.Common.{arith, ap}
use Rattle.std.proofs.lemmas.Result.{on_ok_weaker}
use Rattle.isis_flood.specs.declared.table.Bits.{Bits}
use Rattle.isis_flood.proofs.FloodLaws.{link_of, sent_turns}
use Rattle.isis_flood.proofs.flood.Flood.turn_srm.Goals as goal

pub turned-requires : goal.turned-requires
turned-requires c = let there = link_of c.self.inside.own c.self.inside.links c.self.inside.up c.self.inside.due c.self.inside.table.spare c.self.inside.table.rows c.args.self.now c.self.view_is c.args.link c.requires in omega (arith, there, c.self.invariant.most)

pub put_srm_at-requires : goal.put_srm_at-requires
put_srm_at-requires c = record {
  place = c.find_near-found.ensures.place;
  ssn = ap (λ (r : Bits). r.ssn) c.row_at-row.ensures;
}

pub returns-clause-ok : goal.returns-clause-ok
returns-clause-ok c =
    on_ok_weaker c.put_srm_at.result
    (λ is. sent_turns c.self.inside.own c.self.inside.links c.self.inside.up c.self.inside.due c.self.inside.table.spare c.self.inside.table.rows c.args.self.now c.self.view_is c.self.inside.table.narrow c.args.link c.self.invariant
    c.requires c.args.srm c.args.id c.row_at-row.result c.turned.result c.put_srm_at.new.self.rows c.row_at-row.ensures c.turned.ensures is)
    c.put_srm_at.ensures.ok
