use Rattle.std.proofs.Common.{ap, subst, ◌∙◌}
use Rattle.std.proofs.lemmas.Result.{on_ok_weaker}
use Rattle.isis_flood.specs.declared.table.Bits.{Bits}
use Rattle.isis_flood.specs.Masks.{IsPlace, put_bits}
use Rattle.isis_flood.proofs.TableLaws.{new_is}
use Rattle.isis_flood.proofs.table.Table.put_srm_at.Goals as goal

pub replace_srm-requires : goal.replace_srm-requires
replace_srm-requires c = record {
  place = subst (λ b. IsPlace c.args.self.now.rows c.args.row.id b c.args.found.place) c.if-found.true c.requires.place;
  ssn = c.requires.ssn;
}

pub insert-requires : goal.insert-requires
insert-requires c = subst (λ b. IsPlace c.args.self.now.rows c.args.row.id b c.args.found.place) c.if-found.false c.requires.place

pub returns-clause-ok : goal.returns-clause-ok
returns-clause-ok c =
    on_ok_weaker c.insert.result
    (λ is. is ∙ ap (λ (r : Bits). put_bits r c.args.self.now.rows) (new_is c.args.self.now.rows c.args.found.place c.args.row c.args.self.now.narrow (subst (λ b. IsPlace c.args.self.now.rows c.args.row.id b c.args.found.place) c.if-found.false c.requires.place) c.requires.ssn))
    c.insert.ensures.ok
