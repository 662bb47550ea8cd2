use Rattle.std.proofs.Common.{◌≡◌, false, sym, subst}
use Rattle.wire_base.specs.declared.addresses.LspId.{LspId}
use Rattle.lsp_store.specs.Places.{is_refused}
use Rattle.router_core.proofs.OwnLaws.{made_id}
use Rattle.router_core.proofs.reconfiguration.issue_from.Goals as goal

pub issue-requires : goal.issue-requires
issue-requires c =
    subst (λ (i : LspId). is_refused c.args.store.now.entries i ≡ false) (sym (made_id c.args.conf.now c.args.flood.now.flood c.args.store.now.entries c.args.spent c.seq_of-seq.result _ c.in_ok-own.own c.in_ok-own.ensures)) (c.requires.own c.if-spent.false)
