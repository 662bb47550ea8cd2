use Rattle.std.proofs.Common.{sym, ap, ◌∙◌}
use Rattle.std.specs.Ordering.{is_gt}
use Rattle.lsp_store.specs.Keys.{id_key}
use Rattle.lsp_store.proofs.KeyLaws.{above_by_number, key_order}
use Rattle.lsp_store.proofs.keys.is_id_above.Goals as goal

pub returns : goal.returns
returns c =
    rw (c.id_key.ensures.key, c.id_key-2.ensures.key)
    (above_by_number (id_key c.args.a) (id_key c.args.b) ∙ ap is_gt (sym (key_order c.args.a c.args.b c.id_key.ensures.octets c.id_key-2.ensures.octets)))
