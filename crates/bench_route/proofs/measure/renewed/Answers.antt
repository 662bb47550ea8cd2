use Rattle.std.proofs.Common.{◌∷◌, []}
use Rattle.bench_route.proofs.OtherLaws.{others_same, one_put}
use Rattle.bench_route.proofs.measure.renewed.Goals as goal

pub renew-requires-clause-unchanged : goal.renew-requires-clause-unchanged
renew-requires-clause-unchanged c =
    others_same c.in_ok-keep.keep c.args.conf.now.system c.args.conf.now.kinds c.args.store.now.entries c.put.new.self.entries (c.args.entry.id.system ∷ []) c.in_ok-keep.ensures.system c.in_ok-keep.ensures.kinds c.in_ok-keep.ensures.heard (one_put c.args.conf.now.kinds c.args.entry c.args.store.now.entries c.put.new.self.entries c.in-Ok.ensures.ok)
