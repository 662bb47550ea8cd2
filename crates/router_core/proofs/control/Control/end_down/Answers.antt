use Rattle.router_core.proofs.IssuedLaws.{spent_issued, down_issued}
use Rattle.std.proofs.Common.{◌∙◌, ap, refl}
use Rattle.wire_base.specs.declared.addresses.LspId.{LspId}
use Rattle.wire_base.specs.model.Control.{Control, entry_in, seq_of}
use Rattle.wire_base.specs.model.Flooding.{end_down}
use Rattle.router_core.proofs.OwnLaws.{own_not_refused, made_id}
use Rattle.router_core.proofs.EventLaws.{down_keeps, down_spent, down_issued_keeps, down_issued_is}
use Rattle.router_core.proofs.control.Control.end_down.Goals as goal

pub invariant_of-self : goal.invariant_of-self
invariant_of-self c =
    record {
      router =
          down_keeps c.self.inside.conf c.self.inside.flood.flood c.self.inside.store.entries c.self.inside.spent c.self.invariant.router c.args.link c.link_down.new.self.flood c.link_down.ensures.flood;
      issued =
          spent_issued c.self.inside.conf c.self.inside.flood.flood c.self.inside.store.entries c.self.inside.spent c.self.invariant.router c.self.invariant.issued c.if-self.true c.link_down.new.self.flood.up;
    }

pub returns-then-self-clause-ok : goal.returns-then-self-clause-ok
returns-then-self-clause-ok c =
    down_spent c.self.inside.conf c.self.inside.flood.flood c.self.inside.store.entries c.self.inside.spent c.self.invariant.router c.args.link c.if-self.true c.link_down.new.self.flood c.link_down.ensures.flood
    ∙ ap (λ (x : Control). (end_down x c.args.link).control) c.self.view_is

pub link_down_issuing-requires-clause-known : goal.link_down_issuing-requires-clause-known
link_down_issuing-requires-clause-known c =
    own_not_refused c.self.inside.conf.system c.self.inside.store.entries c.in_ok-own.own.id (c.self.invariant.router.own c.if-self.false)
    (made_id c.self.inside.conf c.self.inside.flood.flood c.self.inside.store.entries c.self.inside.spent c.seq_of-seq.result _ c.in_ok-own.own c.in_ok-own.ensures)

pub invariant_of-self-2 : goal.invariant_of-self-2
invariant_of-self-2 c =
    record {
      router =
          down_issued_keeps c.self.inside.conf c.self.inside.flood.flood c.self.inside.store.entries c.self.inside.spent c.self.invariant.router c.args.link c.seq_of-seq.result _ c.in_ok-own.own c.in_ok-own.ensures
          c.link_down_issuing.new.flood.flood c.link_down_issuing.new.store.entries _ c.in_ok-link_down_issuing.ensures.ok.1 c.spent_past-self-inside.ensures c.in_ok-link_down_issuing.ensures.database
          c.in_ok-link_down_issuing.ensures.ok.0;
      issued =
          down_issued c.self.inside.conf c.self.inside.flood.flood c.self.inside.store.entries c.self.inside.spent c.self.invariant.router c.self.invariant.issued c.seq_of-seq.result _ c.in_ok-own.own c.in_ok-own.ensures
          c.link_down_issuing.new.flood.flood c.link_down_issuing.new.store.entries _ c.spent_past-self-inside.ensures c.args.link c.in_ok-link_down_issuing.ensures.ok.0 c.in_ok-link_down_issuing.ensures.ok.1 c.if-self.false
          refl;
    }

pub returns-clause-ok : goal.returns-clause-ok
returns-clause-ok c =
    down_issued_is c.self.inside.conf c.self.inside.flood.flood c.self.inside.store.entries c.self.inside.spent c.self.invariant.router c.args.link c.seq_of-seq.result _ c.in_ok-own.own c.in_ok-own.ensures
    c.link_down_issuing.new.flood.flood c.link_down_issuing.new.store.entries _ c.in_ok-link_down_issuing.ensures.ok.1 c.spent_past-self-inside.ensures c.in_ok-link_down_issuing.ensures.database
    c.in_ok-link_down_issuing.ensures.ok.0 c.if-self.false (c.seq_of-seq.ensures ∙ ap (λ (i : LspId). seq_of (entry_in c.self.inside.store.entries i)) c.fragment_0.ensures)
    refl
    ∙ ap (λ (x : Control). (end_down x c.args.link).control) c.self.view_is
