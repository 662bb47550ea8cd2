-- The domain stays the same, whatever a call answers.
use Rattle.std.proofs.Common.{◌≡◌, ◌⊎◌, inl, inr, ℕ, List, [], ◌∷◌, Result, Ok, Err, OnErr, refl, sym, ap, subst, ◌∙◌}
use Rattle.wire_base.specs.model.Configuration.{DomainConf}
use Rattle.replay_text.specs.declared.event.Event.{Event}
use Rattle.replay_text.specs.declared.event.Line.{Line}
use Rattle.domain_model.specs.declared.fault.EventFault.{EventFault}
use Rattle.domain_model.specs.World.{WorldState}
use Rattle.domain_model.specs.Step.{happens}
use Rattle.domain_model.specs.Run.{Direction, line_events, world_after}
use Rattle.domain_replay.specs.Telling.{Telling, tells_line}
use Rattle.domain_replay.specs.Replaying.{Tells, NextUntold, StopsIn, AreDirections}
use Rattle.domain_replay.proofs.Stays.{happens_domain}
use Rattle.domain_replay.proofs.TellsLaws.{world_told}

after_domain : (es : List Event) (w : WorldState) → (world_after w es).domain ≡ w.domain
after_domain [] w = refl
after_domain (e ∷ es) w = after_domain es (happens w e).world ∙ happens_domain w e

stopped_domain : (line : ℕ) (t now : Telling) (es : List Event) → StopsIn line t es now → now.world.domain ≡ t.world.domain
stopped_domain line t now es s = by s.left s.stands
  where
    so_far : s.so_far.world.domain ≡ t.world.domain
    so_far = ap (λ (w : WorldState). w.domain) (world_told line s.done t s.so_far s.tells) ∙ after_domain s.done t.world

    by : (left : List Event) → (now ≡ s.so_far) ⊎ NextUntold s.so_far left now → now.world.domain ≡ t.world.domain
    by left (inl same) = ap (λ (u : Telling). u.world.domain) same ∙ so_far
    by [] (inr next) = absurd next
    by (e ∷ es) (inr next) = ap (λ (u : Telling). u.world.domain) next.1 ∙ happens_domain s.so_far.world e ∙ so_far

pub line_domain : (line : ℕ) (t now : Telling) (said : Line) (result : Result (Unit {0}) EventFault) → Tells (tells_line line t said) now result → OnErr result (StopsIn line t (line_events t.world said) now) →
    now.world.domain ≡ t.world.domain
unfolding tells_line
line_domain line t now said (Ok u) is stops = ap (λ (w : WorldState). w.domain) (world_told line (line_events t.world said) t now is) ∙ after_domain (line_events t.world said) t.world
line_domain line t now said (Err why) is stops = stopped_domain line t now (line_events t.world said) stops

-- so the directions that are known stay those of its links
pub line_directions : (line : ℕ) (t now : Telling) (said : Line) (result : Result (Unit {0}) EventFault) (all : List Direction) → Tells (tells_line line t said) now result →
    OnErr result (StopsIn line t (line_events t.world said) now) → AreDirections t.world.domain.routers all → AreDirections now.world.domain.routers all
line_directions line t now said result all is stops are = subst (λ (d : DomainConf). AreDirections d.routers all) (sym (line_domain line t now said result is stops)) are
