use Rattle.std.proofs.Common.{refl, sym, ap, ◌∙◌}
use Rattle.std.proofs.lemmas.Option.{slice_get_within, get_or_from_slice_get}
use Rattle.lsp_store.specs.Views.{Stored}
use Rattle.topo_mt.specs.MultiTopology.{is_projected, projected_entry}
use Rattle.topo_mt.proofs.ProjectedLaws.{more, room, same}
use Rattle.topo_mt.proofs.projected.projected.Goals as goal
use Rattle.topo_mt.proofs.projected.projected.Goals.{then-is_projected+in_ok-projected_entry+in_ok-put_into, else-is_projected}

pub put_into-requires : goal.put_into-requires
put_into-requires c =
    let es = c.args.store.now.entries in
    room (is_projected c.args.mt es) (projected_entry c.args.mt es) (λ x. refl) es c.entries.made.entries c.entries.place c.len-place-end.ensures.database.few
    (slice_get_within es c.entries.place c.at-entry.result.now c.at-entry.ensures) c.entries.invariant.made

pub entries-preserved : goal.entries-preserved
entries-preserved c =
    let es = c.args.store.now.entries in
    let entry = c.at-entry.result.now in
    let lt = slice_get_within es c.entries.place entry c.at-entry.ensures in
    let at = sym (get_or_from_slice_get es c.entries.place entry entry c.at-entry.ensures) in
    record {
      made = elim c.if-is_projected.branch [
        | then-is_projected+in_ok-projected_entry+in_ok-put_into w ↦
            more (is_projected c.args.mt es) (projected_entry c.args.mt es) (λ x. refl) es c.entries.made.entries c.if-is_projected.made.entries c.entries.place entry w.in_ok-projected_entry.field-0 c.len-place-end.ensures.database.in_order lt at (sym c.is_projected.ensures.answer ∙ w.if-is_projected.true) w.in_ok-projected_entry.ensures c.entries.invariant.made
            (ap (λ (s : Stored). s.entries) w.made-is ∙ w.in_ok-put_into.ensures)
        | else-is_projected w ↦
            ap (λ (s : Stored). s.entries) w.made-is ∙ same (is_projected c.args.mt es) (projected_entry c.args.mt es) (λ x. refl) es c.entries.made.entries c.entries.place entry lt at (sym c.is_projected.ensures.answer ∙ w.if-is_projected.false) c.entries.invariant.made
      ];
      known = c.is_projected.ensures.known;
    }
