use Rattle.router_core.proofs.IssuedLaws.{reissued_issued}
use Rattle.std.proofs.Common.{◌∙◌, ap, refl}
use Rattle.wire_base.specs.model.Control.{Control}
use Rattle.wire_base.specs.model.Flooding.{reissue}
use Rattle.router_core.proofs.OwnLaws.{own_not_refused, made_id, reissued_is, reissued_keeps, kept_of}
use Rattle.laws_router.specs.State.{control_of}
use Rattle.router_core.proofs.control.Control.reissue.Goals as goal

pub issue-requires : goal.issue-requires
issue-requires c =
    own_not_refused c.self.inside.conf.system c.self.inside.store.entries c.in_ok-own.own.id (c.self.invariant.router.own (ap (λ (x : Control). x.spent) c.self.view_is ∙ c.requires))
    (made_id c.self.inside.conf c.self.inside.flood.flood c.self.inside.store.entries c.self.inside.spent c.args.seq _ c.in_ok-own.own c.in_ok-own.ensures)

pub invariant_of-self-2 : goal.invariant_of-self-2
invariant_of-self-2 c =
    record {
      router =
          reissued_keeps c.self.inside.conf c.self.inside.flood.flood c.self.inside.store.entries c.self.inside.spent c.args.seq _ c.in_ok-own.own c.in_ok-own.ensures
          c.issue.new.flood.flood c.issue.new.store.entries _ c.in_ok-issue.ensures.ok.0 c.in_ok-issue.ensures.ok.1 c.spent_past-self-inside.ensures
          c.self.inside.flood.flood.up c.self.inside.spent c.self.invariant.router.sound c.self.invariant.router.control.links
          (kept_of (control_of c.self.inside.conf c.self.inside.flood.flood c.self.inside.store.entries c.self.inside.spent) c.self.invariant.router) c.in_ok-issue.ensures.database;
      issued =
          reissued_issued c.self.inside.conf c.self.inside.flood.flood c.self.inside.store.entries c.self.inside.spent c.self.invariant.router c.self.invariant.issued c.args.seq _ c.in_ok-own.own c.in_ok-own.ensures
          c.issue.new.flood.flood c.issue.new.store.entries _ c.spent_past-self-inside.ensures c.in_ok-issue.ensures.ok.0 c.in_ok-issue.ensures.ok.1 (ap (λ (x : Control). x.spent) c.self.view_is ∙ c.requires)
          refl;
    }

pub returns-clause-ok : goal.returns-clause-ok
returns-clause-ok c =
    reissued_is c.self.inside.conf c.self.inside.flood.flood c.self.inside.store.entries c.self.inside.spent c.args.seq _ c.in_ok-own.own c.in_ok-own.ensures
    c.issue.new.flood.flood c.issue.new.store.entries _ c.in_ok-issue.ensures.ok.0 c.in_ok-issue.ensures.ok.1 c.spent_past-self-inside.ensures
    refl
    ∙ ap (λ (x : Control). reissue x c.args.seq) c.self.view_is
