use Rattle.std.proofs.Common.{Option, option_map, sym, ap, ◌∙◌}
use Rattle.wire_base.specs.declared.addresses.LspId.{LspId}
use Rattle.wire_base.specs.declared.entry.Entry.{Entry}
use Rattle.quiet_domain.proofs.LiveLaws.{dead_at, live_at}
use Rattle.quiet_domain.proofs.live.first_live.Goals as goal

abbrev id_of : Option Entry → Option LspId
id_of o = option_map (λ e. e.id) o

pub returns-then-is_live : goal.returns-then-is_live
returns-then-is_live c = ap id_of (sym (live_at c.args.store.now.entries c.entries.place c.at-entry.result.now c.at-entry.ensures (sym c.is_live.ensures ∙ c.if-is_live.true)) ∙ c.entries.invariant)

pub entries-preserved : goal.entries-preserved
entries-preserved c = sym (dead_at c.args.store.now.entries c.entries.place c.at-entry.result.now c.at-entry.ensures (sym c.is_live.ensures ∙ c.if-is_live.false)) ∙ c.entries.invariant
