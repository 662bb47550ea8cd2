use Rattle.std.proofs.Common.{sym, ap, ◌∙◌}
use Rattle.std.specs.Ordering.{is_gt}
use Rattle.lsp_store.specs.Keys.{octets_from}
use Rattle.lsp_store.proofs.KeyLaws.{above_by_number, system_key_order}
use Rattle.lsp_store.proofs.keys.is_system_above.Goals as goal

pub returns : goal.returns
returns c =
    rw (c.system_key.ensures.key, c.system_key-2.ensures.key)
    (above_by_number (octets_from 0 c.args.a.0) (octets_from 0 c.args.b.0) ∙ ap is_gt (sym (system_key_order c.args.a c.args.b c.system_key.ensures.octets c.system_key-2.ensures.octets)))
