use Rattle.router_core.proofs.KeepLaws.{noted_keeps}
use Rattle.router_core.proofs.staleness.note.Goals as goal

pub returns : goal.returns
returns c = noted_keeps c.args.system c.args.kept.now c.may_go_stale-stays.new.kept c.keep_if.new.kept c.may_go_stale-stays.result c.may_go_stale-stays.ensures c.keep_if.ensures
