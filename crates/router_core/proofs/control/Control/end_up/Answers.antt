use Rattle.router_core.proofs.IssuedLaws.{spent_issued, up_issued}
use Rattle.std.proofs.Common.{◌∙◌, ◌<◌, length, ap, refl, arith}
use Rattle.wire_base.specs.declared.addresses.LspId.{LspId}
use Rattle.wire_base.specs.model.Control.{Control, entry_in, seq_of}
use Rattle.wire_base.specs.model.Flooding.{end_up}
use Rattle.router_core.proofs.OwnLaws.{own_not_refused, made_id}
use Rattle.router_core.proofs.EventLaws.{up_keeps, up_spent, up_issued_keeps, up_issued_is}
use Rattle.router_core.proofs.control.Control.end_up.Goals as goal

pub invariant_of-self-then-self : goal.invariant_of-self-then-self
invariant_of-self-then-self c =
    record {
      router =
          up_keeps c.self.inside.conf c.self.inside.flood.flood c.self.inside.store.entries c.self.inside.spent c.self.invariant.router c.args.link c.link_up.new.self.flood c.in_ok-link_up.ensures.ok (let lt : c.args.link < length c.self.inside.conf.ends = omega (arith, ap (λ (x : Control). length x.conf.ends) c.self.view_is) in lt);
      issued =
          spent_issued c.self.inside.conf c.self.inside.flood.flood c.self.inside.store.entries c.self.inside.spent c.self.invariant.router c.self.invariant.issued c.if-self.true c.link_up.new.self.flood.up;
    }

pub returns-then-self-clause-ok : goal.returns-then-self-clause-ok
returns-then-self-clause-ok c =
    up_spent c.self.inside.conf c.self.inside.flood.flood c.self.inside.store.entries c.self.inside.spent c.self.invariant.router c.args.link c.if-self.true c.link_up.new.self.flood c.in_ok-link_up.ensures.ok
    ∙ ap (λ (x : Control). (end_up x c.args.link).control) c.self.view_is

pub link_up_issuing-requires-clause-known : goal.link_up_issuing-requires-clause-known
link_up_issuing-requires-clause-known c =
    own_not_refused c.self.inside.conf.system c.self.inside.store.entries c.in_ok-own.own.id (c.self.invariant.router.own c.if-self.false)
    (made_id c.self.inside.conf c.self.inside.flood.flood c.self.inside.store.entries c.self.inside.spent c.seq_of-seq.result _ c.in_ok-own.own c.in_ok-own.ensures)

pub invariant_of-self-2 : goal.invariant_of-self-2
invariant_of-self-2 c =
    record {
      router =
          up_issued_keeps c.self.inside.conf c.self.inside.flood.flood c.self.inside.store.entries c.self.inside.spent c.self.invariant.router c.args.link c.seq_of-seq.result _ c.in_ok-own.own c.in_ok-own.ensures
          c.link_up_issuing.new.flood.flood c.link_up_issuing.new.store.entries _ c.in_ok-link_up_issuing.ensures.ok.1 c.spent_past-self-inside.ensures c.in_ok-link_up_issuing.ensures.database
          c.in_ok-link_up_issuing.ensures.ok.0 (let lt : c.args.link < length c.self.inside.conf.ends = omega (arith, ap (λ (x : Control). length x.conf.ends) c.self.view_is) in lt);
      issued =
          up_issued c.self.inside.conf c.self.inside.flood.flood c.self.inside.store.entries c.self.inside.spent c.self.invariant.router c.self.invariant.issued c.seq_of-seq.result _ c.in_ok-own.own c.in_ok-own.ensures
          c.link_up_issuing.new.flood.flood c.link_up_issuing.new.store.entries _ c.spent_past-self-inside.ensures c.args.link c.in_ok-link_up_issuing.ensures.ok.0 c.in_ok-link_up_issuing.ensures.ok.1 c.if-self.false
          refl;
    }

pub returns-clause-ok : goal.returns-clause-ok
returns-clause-ok c =
    up_issued_is c.self.inside.conf c.self.inside.flood.flood c.self.inside.store.entries c.self.inside.spent c.self.invariant.router c.args.link c.seq_of-seq.result _ c.in_ok-own.own c.in_ok-own.ensures
    c.link_up_issuing.new.flood.flood c.link_up_issuing.new.store.entries _ c.in_ok-link_up_issuing.ensures.ok.1 c.spent_past-self-inside.ensures c.in_ok-link_up_issuing.ensures.database
    c.in_ok-link_up_issuing.ensures.ok.0 (let lt : c.args.link < length c.self.inside.conf.ends = omega (arith, ap (λ (x : Control). length x.conf.ends) c.self.view_is) in lt) c.if-self.false (c.seq_of-seq.ensures ∙ ap (λ (i : LspId). seq_of (entry_in c.self.inside.store.entries i)) c.fragment_0.ensures)
    refl
    ∙ ap (λ (x : Control). (end_up x c.args.link).control) c.self.view_is
