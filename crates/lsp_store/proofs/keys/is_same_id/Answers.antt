use Rattle.std.proofs.Common.{sym, ap, ◌∙◌}
use Rattle.std.specs.Ordering.{is_eq}
use Rattle.std.specs.Cmp.{unsigned_tied}
use Rattle.lsp_store.specs.Keys.{id_key}
use Rattle.lsp_store.proofs.KeyLaws.{key_order}
use Rattle.wire_base.proofs.OrderLaws.{tie_is_same}
use Rattle.lsp_store.proofs.keys.is_same_id.Goals as goal

pub returns : goal.returns
returns c =
    rw (c.id_key.ensures.key, c.id_key-2.ensures.key)
    (sym (unsigned_tied (id_key c.args.a) (id_key c.args.b)) ∙ ap is_eq (sym (key_order c.args.a c.args.b c.id_key.ensures.octets c.id_key-2.ensures.octets)) ∙ tie_is_same c.args.a c.args.b)
