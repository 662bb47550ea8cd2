use Rattle.std.proofs.Common.{ap, subst}
use Rattle.isis_flood.specs.Masks.{Held, IsPlace}
use Rattle.isis_flood.proofs.BusyLaws.{removed_table}
use Rattle.isis_flood.proofs.TableLaws.{set_within, remove_goes, remove_ascends, none_goes}
use Rattle.isis_flood.proofs.table.Table.remove.Goals as goal

pub remove-requires : goal.remove-requires
remove-requires c = set_within c.self.inside.items.rows c.args.self.now.rows c.find-found.result.place c.args.id.now (ap (λ (t : Held). t.rows) c.self.view_is) (subst (λ b. IsPlace c.args.self.now.rows c.args.id.now b c.find-found.result.place) c.if-found.true c.find-found.ensures.place)

pub invariant_of-self : goal.invariant_of-self
invariant_of-self c = removed_table c.self.inside.sending c.self.inside.asking c.self.inside.items.rows c.remove.new.self.rows c.find-found.result.place c.self.invariant (remove_ascends c.self.inside.items.rows c.remove.new.self.rows c.find-found.result.place c.self.invariant.ascends c.remove.ensures.rows) c.remove.ensures.rows

pub returns-then-found-clause-rows : goal.returns-then-found-clause-rows
returns-then-found-clause-rows c = remove_goes c.self.inside.items.rows c.args.self.now.rows c.remove.new.self.rows c.find-found.result.place c.args.id.now (ap (λ (t : Held). t.rows) c.self.view_is) (subst (λ b. IsPlace c.args.self.now.rows c.args.id.now b c.find-found.result.place) c.if-found.true c.find-found.ensures.place) c.remove.ensures.rows

pub returns-else-found-clause-rows : goal.returns-else-found-clause-rows
returns-else-found-clause-rows c = none_goes c.self.inside.items.rows c.args.self.now.rows c.find-found.result.place c.args.id.now (ap (λ (t : Held). t.rows) c.self.view_is) c.self.invariant.ascends (subst (λ b. IsPlace c.args.self.now.rows c.args.id.now b c.find-found.result.place) c.if-found.false c.find-found.ensures.place)
