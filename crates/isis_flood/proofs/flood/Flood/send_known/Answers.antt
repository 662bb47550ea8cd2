use Rattle.std.proofs.Common.{◌≡◌, length, true, false, ap, ◌∙◌, arith}
use Rattle.std.proofs.lemmas.Bool.Decides.{nat_tests}
use Rattle.wire_base.specs.declared.entry.Entry.{Entry}
use Rattle.wire_base.specs.model.Control.{Flood}
use Rattle.wire_base.specs.model.Flooding.{is_known, set_srm, with_row}
use Rattle.isis_flood.specs.Masks.{Flooding}
use Rattle.isis_flood.proofs.EntryLaws.{folded_in, folded_out}
use Rattle.isis_flood.proofs.flood.Flood.send_known.Goals.{then-e-gt0+in_ok-want, else-e-gt0}
use Rattle.isis_flood.proofs.flood.Flood.send_known.Goals as goal

pub entries-preserved : goal.entries-preserved
entries-preserved c = elim c.if-e-gt0.branch [
  | then-e-gt0+in_ok-want w ↦
      let passes : is_known c.at-e.result.now ≡ true = grind (arith, nat_tests, w.if-e-gt0.true) in
      let spare = ap (λ (f : Flooding). f.spare) w.self-is in
      let changed = ap (λ (f : Flooding). f.flood) w.self-is ∙ w.in_ok-want.ensures.ok in
      record {
        next = folded_in c.args.store.now.entries c.entries.place c.at-e.result.now c.at-e.ensures is_known (λ (f : Flood) (e : Entry). with_row f e.id (set_srm c.args.link true)) c.args.self.now.flood c.entries.self.flood c.if-e-gt0.self.flood passes c.entries.invariant.next changed;
        spare = omega (arith, spare, w.want.ensures.spare, c.entries.invariant.spare);
        links = ap (λ (f : Flood). length f.up) changed ∙ c.entries.invariant.links;
      }
  | else-e-gt0 w ↦
      let fails : is_known c.at-e.result.now ≡ false = grind (arith, nat_tests, w.if-e-gt0.false) in
      let spare = ap (λ (f : Flooding). f.spare) w.self-is in
      let unchanged = ap (λ (f : Flooding). f.flood) w.self-is in
      record {
        next = folded_out c.args.store.now.entries c.entries.place c.at-e.result.now c.at-e.ensures is_known (λ (f : Flood) (e : Entry). with_row f e.id (set_srm c.args.link true)) c.args.self.now.flood c.entries.self.flood c.if-e-gt0.self.flood fails c.entries.invariant.next unchanged;
        spare = omega (arith, spare, c.entries.invariant.spare);
        links = ap (λ (f : Flood). length f.up) unchanged ∙ c.entries.invariant.links;
      }
]
