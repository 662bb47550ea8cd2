use Rattle.std.proofs.Common.{◌<◌, IfOk, length, subst, sym}
use Rattle.quiet_domain.specs.Paths.{IsHop, PathsIn, next_in}
use Rattle.quiet_domain.proofs.PathsLaws.{birt_is, if_ok, not_missing}
use Rattle.quiet_domain.proofs.ways.Paths.hop.Goals as goal

pub hop_of-requires-clause-bits : goal.hop_of-requires-clause-bits
hop_of-requires-clause-bits c = (birt_is c.self.inside.conf.now c.self.inside.view.now.nodes c.self.inside.triple _ _ _ _ _ c.in_ok-keep.ensures.birts c.from.ensures (subst (λ (p : PathsIn). c.args.u < length p.nodes) (sym c.self.view_is) c.requires.node) c.index.ensures c.in-Some.is).bits

pub hop_of-requires-clause-costs : goal.hop_of-requires-clause-costs
hop_of-requires-clause-costs c = (birt_is c.self.inside.conf.now c.self.inside.view.now.nodes c.self.inside.triple _ _ _ _ _ c.in_ok-keep.ensures.birts c.from.ensures (subst (λ (p : PathsIn). c.args.u < length p.nodes) (sym c.self.view_is) c.requires.node) c.index.ensures c.in-Some.is).costs

pub unreachable-requires : goal.unreachable-requires
unreachable-requires c = not_missing c.self.inside.conf.now c.self.inside.view.now.nodes c.self.inside.triple _ _ _ _ c.in_ok-keep.ensures.birts c.from.ensures (subst (λ (p : PathsIn). c.args.u < length p.nodes) (sym c.self.view_is) c.requires.node) c.index.ensures c.in_ok-keep.ensures.there c.in-None.is

pub returns-clause-hop : goal.returns-clause-hop
returns-clause-hop c =
    let birt = birt_is c.self.inside.conf.now c.self.inside.view.now.nodes c.self.inside.triple _ _ _ _ _ c.in_ok-keep.ensures.birts c.from.ensures (subst (λ (p : PathsIn). c.args.u < length p.nodes) (sym c.self.view_is) c.requires.node) c.index.ensures c.in-Some.is in
    subst (λ (p : PathsIn). IfOk c.hop_of.result (IsHop p.nodes c.args.u (next_in p c.args.u c.args.k))) c.self.view_is (if_ok c.hop_of.result _ _ c.hop_of.ensures (λ hop h. h c.self.inside.conf.now birt))
