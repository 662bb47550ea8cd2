use Rattle.std.proofs.Common.{◌∷◌, []}
use Rattle.bench_route.proofs.OtherLaws.{others_same, two_put}
use Rattle.bench_route.proofs.measure.parted.Goals as goal

pub renew-requires-clause-unchanged : goal.renew-requires-clause-unchanged
renew-requires-clause-unchanged c =
    others_same c.in_ok-keep.keep c.args.conf.now.system c.args.conf.now.kinds c.args.store.now.entries c.put-2.new.self.entries (c.args.first.id.system ∷ c.args.second.id.system ∷ []) c.in_ok-keep.ensures.system c.in_ok-keep.ensures.kinds c.in_ok-keep.ensures.heard (two_put c.args.conf.now.kinds c.args.first c.args.second c.args.store.now.entries c.put.new.self.entries c.put-2.new.self.entries c.in-Ok.ensures.ok c.in-Ok-put.ensures.ok)
