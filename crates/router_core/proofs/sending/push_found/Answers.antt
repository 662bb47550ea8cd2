use Rattle.std.proofs.Common.{◌≤◌, length, Bor}
use Rattle.wire_base.specs.declared.entry.Entry.{Entry}
use Rattle.wire_base.specs.declared.limits.TheConstants.{MOST_CONTENT}
use Rattle.wire_base.specs.model.Control.{entry_in}
use Rattle.router_core.proofs.MergeLaws.{entry_all, mapped_some}
use Rattle.router_core.proofs.sending.push_found.Goals as goal

pub push_entry-requires-clause-short : goal.push_entry-requires-clause-short
push_entry-requires-clause-short c =
    mapped_some (λ (e : Bor Entry). e.now) (λ e. length e.content ≤ MOST_CONTENT) c.get_near.result (entry_in c.args.store.now.entries c.args.id) c.get_near.ensures
    (entry_all (λ e. length e.content ≤ MOST_CONTENT) c.args.store.now.entries c.args.id c.requires.short)
