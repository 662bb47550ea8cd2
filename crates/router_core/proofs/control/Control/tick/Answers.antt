use Rattle.router_core.proofs.IssuedLaws.{tick_issued, tick_reissued}
use Rattle.std.proofs.Common.{◌∙◌, ap, refl, sym}
use Rattle.wire_base.specs.model.Control.{Control, entry_in, seq_of}
use Rattle.wire_base.specs.model.Flooding.{tick}
use Rattle.wire_base.specs.declared.addresses.LspId.{LspId}
use Rattle.router_core.specs.Aging.{is_near}
use Rattle.router_core.proofs.OwnLaws.{made_id}
use Rattle.router_core.proofs.EventLaws.{tick_keeps, tick_is, near_known, tick_issued_keeps, tick_issued_is}
use Rattle.router_core.proofs.control.Control.tick.Goals as goal

pub invariant_of-self-then-not-is_near : goal.invariant_of-self-then-not-is_near
invariant_of-self-then-not-is_near c =
    record {
      router =
          tick_keeps c.self.inside.conf c.self.inside.flood.flood c.self.inside.store.entries c.self.inside.spent c.self.invariant.router (ap (λ (i : LspId). is_near (entry_in c.self.inside.store.entries i)) (sym c.fragment_0-id.ensures) ∙ sym c.is_near.ensures ∙ c.if-not-is_near.true)
          c.age.new.flood.flood c.age.new.store.entries c.in_ok-age.ensures.ok.0 c.in_ok-age.ensures.ok.1 c.in_ok-age.ensures.database;
      issued =
          tick_issued c.self.inside.conf c.self.inside.flood.flood c.self.inside.store.entries c.self.inside.spent c.self.invariant.router c.self.invariant.issued c.age.new.flood.flood c.age.new.store.entries c.in_ok-age.ensures.ok.0 c.in_ok-age.ensures.ok.1;
    }

pub returns-then-not-is_near-clause-ok : goal.returns-then-not-is_near-clause-ok
returns-then-not-is_near-clause-ok c =
    tick_is c.self.inside.conf c.self.inside.flood.flood c.self.inside.store.entries c.self.inside.spent c.self.invariant.router (ap (λ (i : LspId). is_near (entry_in c.self.inside.store.entries i)) (sym c.fragment_0-id.ensures) ∙ sym c.is_near.ensures ∙ c.if-not-is_near.true)
    c.age.new.flood.flood c.age.new.store.entries c.in_ok-age.ensures.ok.0 c.in_ok-age.ensures.ok.1
    ∙ ap (λ (x : Control). (tick x).control) c.self.view_is

pub age_issuing-requires : goal.age_issuing-requires
age_issuing-requires c =
    near_known c.self.inside.conf c.self.inside.flood.flood c.self.inside.store.entries c.self.inside.spent c.self.invariant.router (ap (λ (i : LspId). is_near (entry_in c.self.inside.store.entries i)) (sym c.fragment_0-id.ensures) ∙ sym c.is_near.ensures ∙ c.if-not-is_near.false)
    c.in_ok-own.own.id (made_id c.self.inside.conf c.self.inside.flood.flood c.self.inside.store.entries c.self.inside.spent c.seq_of-seq.result _ c.in_ok-own.own c.in_ok-own.ensures)

pub invariant_of-self-2 : goal.invariant_of-self-2
invariant_of-self-2 c =
    record {
      router =
          tick_issued_keeps c.self.inside.conf c.self.inside.flood.flood c.self.inside.store.entries c.self.inside.spent c.self.invariant.router (ap (λ (i : LspId). is_near (entry_in c.self.inside.store.entries i)) (sym c.fragment_0-id.ensures) ∙ sym c.is_near.ensures ∙ c.if-not-is_near.false)
          c.seq_of-seq.result _ c.in_ok-own.own c.in_ok-own.ensures c.age_issuing.new.flood.flood c.age_issuing.new.store.entries _ c.in_ok-age_issuing.ensures.ok.0 c.in_ok-age_issuing.ensures.ok.1 c.spent_past-self-inside.ensures c.in_ok-age_issuing.ensures.database;
      issued =
          tick_reissued c.self.inside.conf c.self.inside.flood.flood c.self.inside.store.entries c.self.inside.spent c.self.invariant.router c.self.invariant.issued c.seq_of-seq.result _ c.in_ok-own.own c.in_ok-own.ensures c.age_issuing.new.flood.flood c.age_issuing.new.store.entries _ c.spent_past-self-inside.ensures
          (ap (λ (i : LspId). is_near (entry_in c.self.inside.store.entries i)) (sym c.fragment_0-id.ensures) ∙ sym c.is_near.ensures ∙ c.if-not-is_near.false) c.in_ok-age_issuing.ensures.ok.0 c.in_ok-age_issuing.ensures.ok.1
          refl;
    }

pub returns-clause-ok : goal.returns-clause-ok
returns-clause-ok c =
    tick_issued_is c.self.inside.conf c.self.inside.flood.flood c.self.inside.store.entries c.self.inside.spent c.self.invariant.router (ap (λ (i : LspId). is_near (entry_in c.self.inside.store.entries i)) (sym c.fragment_0-id.ensures) ∙ sym c.is_near.ensures ∙ c.if-not-is_near.false)
    c.seq_of-seq.result _ c.in_ok-own.own c.in_ok-own.ensures c.age_issuing.new.flood.flood c.age_issuing.new.store.entries _ c.in_ok-age_issuing.ensures.ok.0 c.in_ok-age_issuing.ensures.ok.1 c.spent_past-self-inside.ensures
    (c.seq_of-seq.ensures ∙ ap (λ (i : LspId). seq_of (entry_in c.self.inside.store.entries i)) c.fragment_0-id.ensures)
    refl
    ∙ ap (λ (x : Control). (tick x).control) c.self.view_is
