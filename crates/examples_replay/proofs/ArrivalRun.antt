-- The run in which a packet arrives is one that the lines of a schedule lead to.
use Rattle.std.proofs.Common.{◌≡◌, ℕ, List, None, refl, ap, subst, ◌∙◌}
use Rattle.wire_base.specs.model.Configuration.{IsValid}
use Rattle.examples_model.specs.Domains.{pair}
use Rattle.replay_text.specs.declared.event.Event.{Event}
use Rattle.domain_model.specs.World.{first_world}
use Rattle.domain_model.specs.Run.{Run, run_of}
use Rattle.domain_replay.specs.Texts.{schedule_reaches}
use Rattle.laws_ledger.specs.Runs.{AreAllowed, unlined}
use Rattle.laws_replay.proofs.Reached.{schedule_reached}
use Rattle.laws_replay.proofs.MomentLaws.{events_of}
use Rattle.examples_replay.specs.Arrival.{whole, lines}
use Rattle.examples_replay.proofs.OnLiterals.{views_on_literals, hops_on_literals, floods_on_literals, runs_on_literals, texts_on_literals, lines_on_literals}

pub reads : (schedule_reaches pair lines).run ≡ run_of pair whole
unfolding views_on_literals hops_on_literals floods_on_literals runs_on_literals texts_on_literals lines_on_literals
reads = refl

pub accepts : (schedule_reaches pair lines).refused ≡ None
unfolding views_on_literals hops_on_literals floods_on_literals runs_on_literals texts_on_literals lines_on_literals
accepts = refl

pub all_allowed : IsValid pair → AreAllowed (first_world pair) (unlined whole)
all_allowed valid =
    subst (λ (es : List (ℕ × Event)). AreAllowed (first_world pair) (unlined es)) (ap (λ (r : Run). r.events) reads ∙ events_of pair whole)
    (schedule_reached pair valid lines).allowed
