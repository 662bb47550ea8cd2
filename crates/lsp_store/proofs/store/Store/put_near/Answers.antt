use Rattle.std.proofs.Common.{ap, ◌∙◌, arith}
use Rattle.lsp_store.specs.Views.{Stored}
use Rattle.lsp_store.proofs.PlaceLaws.{set_within, set_kept, set_puts, answers_there}
use Rattle.lsp_store.proofs.store.Store.put_near.Goals as goal

pub put-requires : goal.put-requires
put-requires c = omega (arith, set_within c.self.inside.list.entries c.args.self.now.entries c.in-Ok.place c.args.e.id (ap (λ (s : Stored). s.entries) c.self.view_is) c.in-Ok.ensures.there)

pub invariant_of-self : goal.invariant_of-self
invariant_of-self c = rw c.put.ensures.entries (set_kept c.self.inside.list.entries c.args.self.now.entries c.in-Ok.place c.args.e (ap (λ (s : Stored). s.entries) c.self.view_is) c.self.invariant c.in-Ok.ensures.there)

pub returns-in-Ok-clause-ok : goal.returns-in-Ok-clause-ok
returns-in-Ok-clause-ok c = c.put.ensures.entries ∙ set_puts c.self.inside.list.entries c.args.self.now.entries c.in-Ok.place c.args.e (ap (λ (s : Stored). s.entries) c.self.view_is) c.in-Ok.ensures.there

pub returns-in-Ok-clause-answers : goal.returns-in-Ok-clause-answers
returns-in-Ok-clause-answers c = answers_there c.args.self.now.entries c.args.self.now.spare c.args.e.id c.in-Ok.place c.in-Ok.ensures.there

pub returns-in-Ok-clause-database : goal.returns-in-Ok-clause-database
returns-in-Ok-clause-database c = rw c.put.ensures.entries (set_kept c.self.inside.list.entries c.args.self.now.entries c.in-Ok.place c.args.e (ap (λ (s : Stored). s.entries) c.self.view_is) c.self.invariant c.in-Ok.ensures.there)

pub returns-in-Err-clause-database : goal.returns-in-Err-clause-database
returns-in-Err-clause-database c = c.add.ensures.database
