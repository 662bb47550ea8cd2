use Rattle.std.proofs.Common.{◌≡◌, Bool, true, false, None, not, refl, sym, ap}
use Rattle.domain_core.specs.Answers.{outcome}
use Rattle.domain_core.specs.Held.{state_of}
use Rattle.domain_model.specs.Step.{Happened}
use Rattle.domain_core.proofs.CarryLaws.{send_idle}
use Rattle.domain_core.proofs.TurnLaws.{router_there, nothing_told}
use Rattle.domain_core.proofs.network.Network.owes_nothing.Goals as goal

none_owed : (b : Bool) → not b ≡ true → b ≡ false
none_owed true idle = cc
none_owed false idle = refl

pub returns : goal.returns
returns c = λ to idle joined.
    let n = state_of c.args.self.now in
    let r = c.index.result.now in
    let there = router_there n.routers c.from.result c.args.from r c.from.ensures c.requires.place c.index.ensures in
    let happened = send_idle n c.requires.truth c.args.from to c.args.link r there joined (c.may_owe.ensures (none_owed c.may_owe.result idle)) in
    record {
      world = sym (ap (λ (h : Happened). h.world) happened);
      frames = c.requires.truth.frames;
      answer = nothing_told n.domain.routers (outcome None) _ refl (ap (λ (h : Happened). h.made) happened);
    }
