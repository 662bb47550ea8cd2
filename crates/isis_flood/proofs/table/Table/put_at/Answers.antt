use Rattle.std.proofs.Common.{subst}
use Rattle.isis_flood.specs.Masks.{IsPlace}
use Rattle.isis_flood.proofs.table.Table.put_at.Goals as goal

pub replace-requires : goal.replace-requires
replace-requires c = subst (λ b. IsPlace c.args.self.now.rows c.args.row.id b c.args.found.place) c.if-found.true c.requires

pub insert-requires : goal.insert-requires
insert-requires c = subst (λ b. IsPlace c.args.self.now.rows c.args.row.id b c.args.found.place) c.if-found.false c.requires
