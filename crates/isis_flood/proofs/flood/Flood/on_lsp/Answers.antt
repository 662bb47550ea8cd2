use Rattle.std.proofs.Common.{ap, List, Bool, length}
use Rattle.isis_pdu.specs.Views.{head_of}
use Rattle.isis_flood.proofs.KeptLaws.{Keeps, lsp_keeps, lsp_done_keeps}
use Rattle.isis_flood.proofs.flood.Flood.on_lsp.Goals as goal

keeps : (c : goal.After-apply_lsp) → Keeps c.args.self.now.flood c.args.store.now.entries c.apply_lsp.new.self.flood c.apply_lsp.new.store.entries
keeps c =
    lsp_done_keeps (head_of c.args.head.now) c.apply_lsp.result c.args.self.now.flood c.args.store.now.entries c.apply_lsp.new.self.flood c.apply_lsp.new.store.entries _
    (lsp_keeps c.args.self.now.flood c.args.store.now.entries c.args.link (head_of c.args.head.now) c.args.tlvs.now c.args.spent) c.apply_lsp.ensures.done

pub returns-clause-kept : goal.returns-clause-kept
returns-clause-kept c = (keeps c).entries

pub returns-clause-links : goal.returns-clause-links
returns-clause-links c = ap (λ (l : List Bool). length l) (keeps c).up
