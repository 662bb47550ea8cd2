use Rattle.std.proofs.Common.{sym, subst}
use Rattle.wire_base.specs.model.OnFrame.{pdu_taken}
use Rattle.isis_pdu.specs.declared.kinds.Pdu.{Pdu}
use Rattle.isis_pdu.specs.Views.{head_of, pdu_of}
use Rattle.router_core.specs.Keeping.{MayKeep}
use Rattle.router_core.proofs.KeepLaws.{lsp_keeps, list_keeps, csnp_keeps, psnp_keeps}
use Rattle.router_core.proofs.StalenessLaws.{says_itself}
use Rattle.router_core.proofs.control.Control.note_pdu.Goals as goal

pub returns-in-Lsp-clause-now : goal.returns-in-Lsp-clause-now
returns-in-Lsp-clause-now c = c.note.ensures c.args.self.now c.args.self.now c.requires (says_itself c.in-Lsp.head.id.system c.args.self.now)

pub returns-in-Lsp-clause-next : goal.returns-in-Lsp-clause-next
returns-in-Lsp-clause-next c =
    λ link. subst (λ (p : Pdu). MayKeep (pdu_taken c.args.self.now link (pdu_of p)).control c.note.new.kept) (sym c.in-Lsp.is)
    (lsp_keeps c.args.self.now link (head_of c.in-Lsp.head) c.in-Lsp.tlvs.now c.args.kept.now c.note.new.kept c.requires c.note.ensures)

pub returns-in-Csnp-clause-now : goal.returns-in-Csnp-clause-now
returns-in-Csnp-clause-now c = list_keeps c.args.self.now c.in-Csnp.tlvs.now c.note_list.new.kept c.note_list.ensures

pub returns-in-Csnp-clause-next : goal.returns-in-Csnp-clause-next
returns-in-Csnp-clause-next c =
    λ link. subst (λ (p : Pdu). MayKeep (pdu_taken c.args.self.now link (pdu_of p)).control c.note_list.new.kept) (sym c.in-Csnp.is)
    (csnp_keeps c.args.self.now c.in-Csnp.tlvs.now c.note_list.new.kept c.note_list.ensures link c.in-Csnp.source c.in-Csnp.start c.in-Csnp.last)

pub returns-in-Psnp-clause-now : goal.returns-in-Psnp-clause-now
returns-in-Psnp-clause-now c = list_keeps c.args.self.now c.in-Psnp.tlvs.now c.note_list-in-Psnp.new.kept c.note_list-in-Psnp.ensures

pub returns-in-Psnp-clause-next : goal.returns-in-Psnp-clause-next
returns-in-Psnp-clause-next c =
    λ link. subst (λ (p : Pdu). MayKeep (pdu_taken c.args.self.now link (pdu_of p)).control c.note_list-in-Psnp.new.kept) (sym c.in-Psnp.is)
    (psnp_keeps c.args.self.now c.in-Psnp.tlvs.now c.note_list-in-Psnp.new.kept c.note_list-in-Psnp.ensures link c.in-Psnp.source)
