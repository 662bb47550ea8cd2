use Rattle.std.proofs.Common.{[], refl, ap, sym, ◌∙◌, ◌-◌, ◌+◌}
use Rattle.grown_domain.specs.declared.schedule.GrownLine.{GrownLine}
use Rattle.command_drive.specs.declared.items.Close.TheVariants as closes
use Rattle.command_drive.specs.Reading.{Closed, first}
use Rattle.command_grow.specs.Counted.{lines_from}
use Rattle.command_grow.proofs.GrowLaws.{lines_more}
use Rattle.command_grow.proofs.growing.GrownLinesItemsGrownLineNoSource.next.Goals as goal

pub returns-clause-found : goal.returns-clause-found
returns-clause-found c =
    let given = c.args.self.now.given in (
      [],
      refl,
      λ end more.
          lines_more given (Closed closes.Ended) c.if-self-ge-COUNT.false
          ∙ ap (λ (l : GrownLine). first l (record { items = lines_from (given + 1) (18 - (given + 1)); behind = Closed closes.Ended })) (sym c.at-self.ensures),
    )
