use Rattle.std.proofs.Common.{ap, subst}
use Rattle.isis_flood.specs.Masks.{Held, IsPlace}
use Rattle.isis_flood.proofs.TableLaws.{set_within, row_there, row_new}
use Rattle.isis_flood.proofs.table.Table.row_at.Goals as goal

pub at-requires : goal.at-requires
at-requires c = set_within c.self.inside.items.rows c.args.self.now.rows c.args.found.place c.args.id (ap (λ (t : Held). t.rows) c.self.view_is) (subst (λ b. IsPlace c.args.self.now.rows c.args.id b c.args.found.place) c.if-found.true c.requires)

pub returns-then-found : goal.returns-then-found
returns-then-found c = row_there c.self.inside.items.rows c.args.self.now.rows c.args.found.place c.args.id c.at.result (ap (λ (t : Held). t.rows) c.self.view_is) (subst (λ b. IsPlace c.args.self.now.rows c.args.id b c.args.found.place) c.if-found.true c.requires) c.at.ensures

pub returns : goal.returns
returns c = row_new c.args.self.now.rows c.args.found.place c.args.id (subst (λ b. IsPlace c.args.self.now.rows c.args.id b c.args.found.place) c.if-found.false c.requires)
