use Rattle.std.proofs.Common.{◌≡◌, ◌∙◌, List, ℕ, length, Option, None, MatchResult, sym, ap, subst}
use Rattle.replay_text.specs.declared.event.Event.{Event}
use Rattle.replay_text.specs.declared.event.Event.TheVariants.{Down, Up, Send, Relabel, Leave, Join}
use Rattle.domain_model.specs.declared.fault.EventFault.{EventFault}
use Rattle.domain_core.specs.Answers.{early_fault, Refuses}
use Rattle.domain_core.specs.Held.{world_in, inject_fault}
use Rattle.domain_model.specs.Truth.{EventFits}
use Rattle.domain_core.proofs.EventLaws.{late_fault, late_is}
use Rattle.domain_core.proofs.network.Network.dispatch.Goals as goal

pub down-requires-clause-allowed : goal.down-requires-clause-allowed
down-requires-clause-allowed c = late_is (world_in c.args.self.now) (Down c.in-Down.from c.in-Down.to) (subst (λ (e : Event). early_fault (world_in c.args.self.now) e ≡ None) c.in-Down.is c.requires.allowed)

pub up-requires-clause-allowed : goal.up-requires-clause-allowed
up-requires-clause-allowed c = late_is (world_in c.args.self.now) (Up c.in-Up.from c.in-Up.to) (subst (λ (e : Event). early_fault (world_in c.args.self.now) e ≡ None) c.in-Up.is c.requires.allowed)

pub send-requires-clause-allowed : goal.send-requires-clause-allowed
send-requires-clause-allowed c = late_is (world_in c.args.self.now) (Send c.in-Send.from c.in-Send.to) (subst (λ (e : Event). early_fault (world_in c.args.self.now) e ≡ None) c.in-Send.is c.requires.allowed)

pub relabel-requires-clause-fits : goal.relabel-requires-clause-fits
relabel-requires-clause-fits c = subst (λ (e : Event). EventFits (length c.args.self.now.domain.routers) e) c.in-Relabel.is c.requires.fits

pub relabel-requires-clause-allowed : goal.relabel-requires-clause-allowed
relabel-requires-clause-allowed c =
    late_is (world_in c.args.self.now) (Relabel c.in-Relabel.router c.in-Relabel.sd c.in-Relabel.bsl c.in-Relabel.label) (subst (λ (e : Event). early_fault (world_in c.args.self.now) e ≡ None) c.in-Relabel.is c.requires.allowed)

pub leave-requires-clause-allowed : goal.leave-requires-clause-allowed
leave-requires-clause-allowed c = late_is (world_in c.args.self.now) (Leave c.in-Leave.router c.in-Leave.sd) (subst (λ (e : Event). early_fault (world_in c.args.self.now) e ≡ None) c.in-Leave.is c.requires.allowed)

pub join-requires-clause-allowed : goal.join-requires-clause-allowed
join-requires-clause-allowed c = late_is (world_in c.args.self.now) (Join c.in-Join.router c.in-Join.sd) (subst (λ (e : Event). early_fault (world_in c.args.self.now) e ≡ None) c.in-Join.is c.requires.allowed)

pub returns-in-Inject-clause-refused : goal.returns-in-Inject-clause-refused
returns-in-Inject-clause-refused c =
    let is = late_is (world_in c.args.self.now) c.args.event.now c.requires.allowed ∙ ap (late_fault (world_in c.args.self.now)) c.in-Inject.is in
    subst (λ (o : Option EventFault). MatchResult c.inject.result (λ x. o ≡ None) (λ e. Refuses o e))
    (ap (λ (ids : List ℕ). inject_fault c.args.self.now c.in-Inject.router c.in-Inject.sd c.in-Inject.bsl ids) c.as_slice.ensures ∙ sym is) c.inject.ensures.refused

pub returns-in_ok-take-in-Take-clause-refused : goal.returns-in_ok-take-in-Take-clause-refused
returns-in_ok-take-in-Take-clause-refused c = late_is (world_in c.args.self.now) c.args.event.now c.requires.allowed ∙ ap (late_fault (world_in c.args.self.now)) c.in-Take.is

pub returns-in_ok-lose-in-Lose-clause-refused : goal.returns-in_ok-lose-in-Lose-clause-refused
returns-in_ok-lose-in-Lose-clause-refused c = late_is (world_in c.args.self.now) c.args.event.now c.requires.allowed ∙ ap (late_fault (world_in c.args.self.now)) c.in-Lose.is

pub returns-in_ok-again-in-Again-clause-refused : goal.returns-in_ok-again-in-Again-clause-refused
returns-in_ok-again-in-Again-clause-refused c = late_is (world_in c.args.self.now) c.args.event.now c.requires.allowed ∙ ap (late_fault (world_in c.args.self.now)) c.in-Again.is

pub returns-in_ok-down-in-Down-clause-refused : goal.returns-in_ok-down-in-Down-clause-refused
returns-in_ok-down-in-Down-clause-refused c = late_is (world_in c.args.self.now) c.args.event.now c.requires.allowed ∙ ap (late_fault (world_in c.args.self.now)) c.in-Down.is

pub returns-in_ok-up-in-Up-clause-refused : goal.returns-in_ok-up-in-Up-clause-refused
returns-in_ok-up-in-Up-clause-refused c = late_is (world_in c.args.self.now) c.args.event.now c.requires.allowed ∙ ap (late_fault (world_in c.args.self.now)) c.in-Up.is

pub returns-in_ok-send-in-Send-clause-refused : goal.returns-in_ok-send-in-Send-clause-refused
returns-in_ok-send-in-Send-clause-refused c = late_is (world_in c.args.self.now) c.args.event.now c.requires.allowed ∙ ap (late_fault (world_in c.args.self.now)) c.in-Send.is

pub returns-in_ok-tick-in-Tick-clause-refused : goal.returns-in_ok-tick-in-Tick-clause-refused
returns-in_ok-tick-in-Tick-clause-refused c = late_is (world_in c.args.self.now) c.args.event.now c.requires.allowed ∙ ap (late_fault (world_in c.args.self.now)) c.in-Tick.is

pub returns-in_ok-restart-in-Restart-clause-refused : goal.returns-in_ok-restart-in-Restart-clause-refused
returns-in_ok-restart-in-Restart-clause-refused c = late_is (world_in c.args.self.now) c.args.event.now c.requires.allowed ∙ ap (late_fault (world_in c.args.self.now)) c.in-Restart.is

pub returns-in_ok-relabel-in-Relabel-clause-refused : goal.returns-in_ok-relabel-in-Relabel-clause-refused
returns-in_ok-relabel-in-Relabel-clause-refused c = late_is (world_in c.args.self.now) c.args.event.now c.requires.allowed ∙ ap (late_fault (world_in c.args.self.now)) c.in-Relabel.is

pub returns-in_ok-leave-in-Leave-clause-refused : goal.returns-in_ok-leave-in-Leave-clause-refused
returns-in_ok-leave-in-Leave-clause-refused c = late_is (world_in c.args.self.now) c.args.event.now c.requires.allowed ∙ ap (late_fault (world_in c.args.self.now)) c.in-Leave.is

pub returns-in_ok-join-in-Join-clause-refused : goal.returns-in_ok-join-in-Join-clause-refused
returns-in_ok-join-in-Join-clause-refused c = late_is (world_in c.args.self.now) c.args.event.now c.requires.allowed ∙ ap (late_fault (world_in c.args.self.now)) c.in-Join.is
