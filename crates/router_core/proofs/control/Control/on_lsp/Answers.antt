use Rattle.router_core.proofs.IssuedLaws.{taken_issued}
use Rattle.std.proofs.Common.{◌∙◌, get_or, false, ap}
use Rattle.std.proofs.lemmas.Result.{on_err_weaker}
use Rattle.wire_base.specs.model.Control.{Control}
use Rattle.isis_pdu.specs.Views.{head_of}
use Rattle.isis_flood.specs.Answers.{requested}
use Rattle.router_core.proofs.ReceivedLaws.{lsp_keeps, lsp_up, lsp_asks, lsp_unchanged}
use Rattle.router_core.proofs.control.Control.on_lsp.Goals as goal

pub invariant_of-self-2 : goal.invariant_of-self-2
invariant_of-self-2 c =
    record {
      router =
          lsp_keeps c.self.inside.conf c.self.inside.flood.flood c.self.inside.store.entries c.self.inside.spent c.self.invariant.router c.args.link (ap (λ (x : Control). get_or x.flood.up c.args.link false) c.self.view_is ∙ c.requires.up)
          (head_of c.args.head.now) c.args.tlvs.now c.requires.short c.on_lsp.new.self.flood c.on_lsp.new.store.entries (requested (head_of c.args.head.now) c.in_ok-action.action) c.in_ok-action.ensures.done c.len-entries.ensures.database;
      issued =
          taken_issued c.self.inside.conf c.self.inside.flood.flood c.self.inside.store.entries c.self.inside.spent c.self.invariant.router c.self.invariant.issued c.args.link (head_of c.args.head.now) c.args.tlvs.now c.on_lsp.new.self.flood c.on_lsp.new.store.entries (requested (head_of c.args.head.now) c.in_ok-action.action) c.in_ok-action.ensures.done
          (lsp_up c.self.inside.conf c.self.inside.flood.flood c.self.inside.store.entries c.self.inside.spent c.self.invariant.router c.args.link (ap (λ (x : Control). get_or x.flood.up c.args.link false) c.self.view_is ∙ c.requires.up)
          (head_of c.args.head.now) c.args.tlvs.now c.requires.short c.on_lsp.new.self.flood c.on_lsp.new.store.entries (requested (head_of c.args.head.now) c.in_ok-action.action) c.in_ok-action.ensures.done);
    }

pub answer_lsp-requires-clause-unspent : goal.answer_lsp-requires-clause-unspent
answer_lsp-requires-clause-unspent c =
    lsp_asks c.self.inside.conf c.self.inside.flood.flood c.self.inside.store.entries c.self.inside.spent c.self.invariant.router c.args.link (ap (λ (x : Control). get_or x.flood.up c.args.link false) c.self.view_is ∙ c.requires.up)
    (head_of c.args.head.now) c.args.tlvs.now c.requires.short c.on_lsp.new.self.flood c.on_lsp.new.store.entries (requested (head_of c.args.head.now) c.in_ok-action.action) c.in_ok-action.ensures.done

pub returns-clause-err : goal.returns-clause-err
returns-clause-err c =
    on_err_weaker c.answer_lsp.result
    (λ asks.
    asks.1
    ∙ lsp_unchanged c.self.inside.conf c.self.inside.flood.flood c.self.inside.store.entries c.self.inside.spent c.self.invariant.router c.args.link (ap (λ (x : Control). get_or x.flood.up c.args.link false) c.self.view_is ∙ c.requires.up)
    (head_of c.args.head.now) c.args.tlvs.now c.requires.short c.on_lsp.new.self.flood c.on_lsp.new.store.entries (requested (head_of c.args.head.now) c.in_ok-action.action) c.in_ok-action.ensures.done asks.0
    ∙ c.self.view_is)
    c.answer_lsp.ensures.err
