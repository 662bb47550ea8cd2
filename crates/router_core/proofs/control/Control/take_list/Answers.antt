use Rattle.laws_router.specs.State.{AreIssued}
use Rattle.wire_base.specs.model.Flooding.{SnpAnswer}
use Rattle.router_core.proofs.IssuedLaws.{list_issued}
use Rattle.router_core.proofs.ReceivedLaws.{list_listed, list_framed, ready_known, ready_keeps, ready_issued, ready_framed}
use Rattle.std.proofs.Common.{◌∙◌, subst}
use Rattle.router_core.proofs.control.Control.take_list.Goals as goal

pub issue_ready-requires-clause-known : goal.issue_ready-requires-clause-known
issue_ready-requires-clause-known c =
    ready_known _ c.args.self.now c.self.invariant.router c.self.view_is _ _
    (list_listed _ c.args.self.now c.self.invariant.router c.self.view_is c.args.link c.requires.up _ c.reserve.ensures.flood _ c.args.range c.args.rows.now c.in_ok-apply_list.ensures.done)
    c.in_ok-ready.ready c.in_ok-ready.ensures

pub invariant_of-self-2 : goal.invariant_of-self-2
invariant_of-self-2 c =
    record {
      router =
          ready_keeps _ c.args.self.now c.self.invariant.router c.self.view_is _ _
          (list_listed _ c.args.self.now c.self.invariant.router c.self.view_is c.args.link c.requires.up _ c.reserve.ensures.flood _ c.args.range c.args.rows.now c.in_ok-apply_list.ensures.done)
          c.in_ok-ready.ready c.in_ok-ready.ensures _ _ c.issue_ready.ensures.flood c.issue_ready.ensures.entries c.issue_ready.ensures.database;
      issued =
          ready_issued _ c.args.self.now c.self.invariant.router c.self.view_is _ _
          (list_listed _ c.args.self.now c.self.invariant.router c.self.view_is c.args.link c.requires.up _ c.reserve.ensures.flood _ c.args.range c.args.rows.now c.in_ok-apply_list.ensures.done)
          c.in_ok-ready.ready c.in_ok-ready.ensures _ _ c.issue_ready.ensures.flood c.issue_ready.ensures.entries
          (subst (λ (a : SnpAnswer). AreIssued c.self.inside.conf c.self.inside.flood.flood.up c.self.inside.spent a.entries) c.in_ok-apply_list.ensures.done
          (list_issued c.self.inside.conf c.self.inside.flood.flood.up c.self.inside.spent c.args.link _ c.self.inside.store.entries c.args.range c.args.rows.now c.self.invariant.issued));
    }

pub returns-clause-next : goal.returns-clause-next
returns-clause-next c =
    ready_framed _ c.args.self.now c.self.invariant.router c.self.view_is _ _
    (list_listed _ c.args.self.now c.self.invariant.router c.self.view_is c.args.link c.requires.up _ c.reserve.ensures.flood _ c.args.range c.args.rows.now c.in_ok-apply_list.ensures.done)
    c.in_ok-ready.ready c.in_ok-ready.ensures _ _ c.issue_ready.ensures.flood c.issue_ready.ensures.entries c.drop_each.new.effects c.args.link c.drop_each.ensures
    ∙ list_framed _ c.args.self.now c.self.invariant.router c.self.view_is c.args.link c.requires.up _ c.reserve.ensures.flood _ c.args.range c.args.rows.now c.in_ok-apply_list.ensures.done
