use Rattle.std.proofs.Common.{Vec, Global, ◌++◌, ◌∷◌, [], sym, ap, ◌∙◌}
use Rattle.wire_base.specs.declared.triple.Summary.{Summary}
use Rattle.wire_base.specs.model.Control.{summary_of}
use Rattle.wire_base.specs.model.Flooding.{is_known}
use Rattle.isis_flood.proofs.EntryLaws.{listed, unlisted}
use Rattle.router_core.proofs.sending.known_rows.Goals.{then-is_known+in_ok-push, else-is_known}
use Rattle.router_core.proofs.sending.known_rows.Goals as goal

pub entries-preserved : goal.entries-preserved
entries-preserved c = elim c.if-is_known.branch [
  | then-is_known+in_ok-push w ↦
      listed c.args.store.now.entries c.entries.place c.at-e.result.now c.at-e.ensures summary_of is_known c.entries.rows.items c.if-is_known.rows.items (sym c.is_known.ensures ∙ w.if-is_known.true) c.entries.invariant
      (ap (λ (v : Vec Summary Global). v.items) w.rows-is ∙ w.in_ok-push.ensures.items ∙ ap (λ (s : Summary). c.entries.rows.items ++ s ∷ []) w.summary_of.ensures)
  | else-is_known w ↦
      unlisted c.args.store.now.entries c.entries.place c.at-e.result.now c.at-e.ensures summary_of is_known c.entries.rows.items c.if-is_known.rows.items (sym c.is_known.ensures ∙ w.if-is_known.false) c.entries.invariant
      (ap (λ (v : Vec Summary Global). v.items) w.rows-is)
]
