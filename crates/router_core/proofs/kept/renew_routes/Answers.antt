use Rattle.router_core.proofs.kept.renew_routes.Goals as goal

pub returns-then-is_new : goal.returns-then-is_new
returns-then-is_new c = λ r before now are answer. c.new.ensures r now
