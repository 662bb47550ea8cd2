use Rattle.std.proofs.Common.{ap, arith}
use Rattle.lsp_store.specs.Views.{Stored}
use Rattle.lsp_store.proofs.PlaceLaws.{set_within, read_there, none_there}
use Rattle.lsp_store.proofs.store.Store.get.Goals as goal

pub at-requires : goal.at-requires
at-requires c = omega (arith, set_within c.self.inside.list.entries c.args.self.now.entries c.in-Ok.place c.args.id.now (ap (λ (s : Stored). s.entries) c.self.view_is) c.in-Ok.ensures.there)

pub returns-in-Ok : goal.returns-in-Ok
returns-in-Ok c = read_there c.self.inside.list.entries c.args.self.now.entries c.in-Ok.place c.args.id.now c.at.result.now (ap (λ (s : Stored). s.entries) c.self.view_is) c.in-Ok.ensures.there c.at.ensures

pub returns-in-Err : goal.returns-in-Err
returns-in-Err c = none_there c.self.inside.list.entries c.args.self.now.entries c.in-Err.field-0 c.args.id.now (ap (λ (s : Stored). s.entries) c.self.view_is) c.self.invariant c.in-Err.ensures.gone
