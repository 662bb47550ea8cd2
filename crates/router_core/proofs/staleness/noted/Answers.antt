use Rattle.std.proofs.Common.{◌∙◌, List, sym, ap}
use Rattle.wire_base.specs.declared.addresses.SystemId.{SystemId}
use Rattle.view_graph.specs.Keep.{is_named}
use Rattle.router_core.proofs.KeepLaws.{noted_before, noted_now, pushed_is}
use Rattle.router_core.proofs.staleness.noted.Goals as goal

pub returns-then-is_named : goal.returns-then-is_named
returns-then-is_named c = λ _ b next kept same. noted_before b next c.args.kept.now c.args.system (ap (λ (l : List SystemId). is_named l c.args.system) (sym c.as_slice.ensures) ∙ sym c.is_named.ensures ∙ c.if-is_named.true) kept same

pub returns : goal.returns
returns c = λ yes b next kept same. noted_now b next c.args.kept.now c.args.system c.push.new.self (pushed_is c.push.result (sym c.is_ok.ensures.value ∙ yes) c.push.ensures.ok) kept same
