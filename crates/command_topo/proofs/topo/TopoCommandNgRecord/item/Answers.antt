use Rattle.std.proofs.Common.{◌+◌, Bool, List, refl, ap, subst, ℕ}
use Rattle.wire_base.specs.declared.status.Status.{Status}
use Rattle.command_topo.specs.Frames.{HasAdded, after_record}
use Rattle.command_topo.proofs.Steps.{concludes_full, told_record}
use Rattle.command_topo.proofs.topo.TopoCommandNgRecord.item.Goals as goal

pub returns-then-added-clause-did : goal.returns-then-added-clause-did
returns-then-added-clause-did c =
    let s = c.args.self.now in
    let after = after_record s.query.level s.store.entries c.args.item.now in
    told_record s.query s.records (s.records + 1) s.store.entries c.add_record.new.store.entries c.args.item.now c.args.texts.now refl
    (subst (λ (b : Bool). HasAdded b after c.add_record.new.store.entries) c.if-added.true c.in_ok-added.ensures)

pub returns-clause-did : goal.returns-clause-did
returns-clause-did c =
    let s = c.args.self.now in
    let after = after_record s.query.level s.store.entries c.args.item.now in (
      ap (λ (a : Status × List ℕ). a.0) c.in_ok-ended.ensures,
      λ more how.
          concludes_full s.query s.records s.store.entries c.args.item.now more how c.in_ok-ended.ended c.args.texts.now (record c.args.texts.now { report = c.refuse_full.new.out })
          (subst (λ (b : Bool). HasAdded b after c.add_record.new.store.entries) c.if-added.false c.in_ok-added.ensures) c.in_ok-ended.ensures refl,
    )
