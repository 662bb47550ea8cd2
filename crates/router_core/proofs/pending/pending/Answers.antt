use Rattle.laws_router.specs.State.{control_of}
use Rattle.router_core.proofs.CountLaws.{counted_so}
use Rattle.router_core.proofs.pending.pending.Goals as goal

pub returns : goal.returns
returns c =
    λ conf spent. counted_so (control_of conf c.args.flood.now.flood c.args.store.now.entries spent) c.args.link c.due.result c.csnps.result c.marked.result c.asked.result c.lists.result
    c.due.ensures c.csnps.ensures.csnps c.marked.ensures.marked c.asked.ensures.asked c.lists.ensures.lists
