use Rattle.std.proofs.Common.{length, true, ap, sym, ◌∙◌, arith}
use Rattle.wire_base.specs.declared.entry.Entry.{Entry}
use Rattle.wire_base.specs.model.Control.{Flood}
use Rattle.wire_base.specs.model.Flooding.{lacks, set_srm, with_row}
use Rattle.isis_flood.specs.Masks.{Flooding}
use Rattle.isis_flood.proofs.EntryLaws.{folded_in, folded_out, one_more, none_more, has_room, no_error}
use Rattle.isis_flood.proofs.flood.Flood.send_lacking.Goals.{then-lacks+in_ok-want, else-lacks}
use Rattle.isis_flood.proofs.flood.Flood.send_lacking.Goals as goal

pub returns-in_err-want-clause-next : goal.returns-in_err-want-clause-next
returns-in_err-want-clause-next c =
    let room = has_room c.args.store.now.entries c.entries.place c.at-e.result.now c.at-e.ensures (lacks c.args.start.now c.args.last.now c.args.rows.now) c.args.self.now.spare c.entries.self.spare (sym c.lacks.ensures ∙ c.if-lacks.true) c.requires.flags c.entries.invariant.spare in
    absurd (no_error c.want.result _ (c.want.ensures.room room) c.in_err-want.was)

pub returns-in_err-want-clause-ok : goal.returns-in_err-want-clause-ok
returns-in_err-want-clause-ok c =
    let room = has_room c.args.store.now.entries c.entries.place c.at-e.result.now c.at-e.ensures (lacks c.args.start.now c.args.last.now c.args.rows.now) c.args.self.now.spare c.entries.self.spare (sym c.lacks.ensures ∙ c.if-lacks.true) c.requires.flags c.entries.invariant.spare in
    absurd (no_error c.want.result _ (c.want.ensures.room room) c.in_err-want.was)

pub returns-in_err-want-clause-spare : goal.returns-in_err-want-clause-spare
returns-in_err-want-clause-spare c =
    let room = has_room c.args.store.now.entries c.entries.place c.at-e.result.now c.at-e.ensures (lacks c.args.start.now c.args.last.now c.args.rows.now) c.args.self.now.spare c.entries.self.spare (sym c.lacks.ensures ∙ c.if-lacks.true) c.requires.flags c.entries.invariant.spare in
    absurd (no_error c.want.result _ (c.want.ensures.room room) c.in_err-want.was)

pub entries-preserved : goal.entries-preserved
entries-preserved c = elim c.if-lacks.branch [
  | then-lacks+in_ok-want w ↦
      let passes = sym c.lacks.ensures ∙ w.if-lacks.true in
      let more = one_more c.args.store.now.entries c.entries.place c.at-e.result.now c.at-e.ensures (lacks c.args.start.now c.args.last.now c.args.rows.now) passes in
      let spare = ap (λ (f : Flooding). f.spare) w.self-is in
      let changed = ap (λ (f : Flooding). f.flood) w.self-is ∙ w.in_ok-want.ensures.ok in
      record {
        next = folded_in c.args.store.now.entries c.entries.place c.at-e.result.now c.at-e.ensures (lacks c.args.start.now c.args.last.now c.args.rows.now) (λ (f : Flood) (e : Entry). with_row f e.id (set_srm c.args.link true)) c.args.self.now.flood c.entries.self.flood c.if-lacks.self.flood passes c.entries.invariant.next changed;
        spare = omega (arith, more, spare, w.want.ensures.spare, c.entries.invariant.spare);
        links = ap (λ (f : Flood). length f.up) changed ∙ c.entries.invariant.links;
      }
  | else-lacks w ↦
      let fails = sym c.lacks.ensures ∙ w.if-lacks.false in
      let same = none_more c.args.store.now.entries c.entries.place c.at-e.result.now c.at-e.ensures (lacks c.args.start.now c.args.last.now c.args.rows.now) fails in
      let spare = ap (λ (f : Flooding). f.spare) w.self-is in
      let unchanged = ap (λ (f : Flooding). f.flood) w.self-is in
      record {
        next = folded_out c.args.store.now.entries c.entries.place c.at-e.result.now c.at-e.ensures (lacks c.args.start.now c.args.last.now c.args.rows.now) (λ (f : Flood) (e : Entry). with_row f e.id (set_srm c.args.link true)) c.args.self.now.flood c.entries.self.flood c.if-lacks.self.flood fails c.entries.invariant.next unchanged;
        spare = omega (arith, same, spare, c.entries.invariant.spare);
        links = ap (λ (f : Flood). length f.up) unchanged ∙ c.entries.invariant.links;
      }
]
