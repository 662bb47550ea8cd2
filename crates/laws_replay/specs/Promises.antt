-- All that is promised of a run in a valid domain, for any events.
use Rattle.std.specs.Prelude.{◌≡◌, ℕ, ◌≤◌, List, [], ◌∷◌, ◌++◌, take, Some}
use Rattle.wire_base.specs.model.Configuration.{DomainConf, IsValid}
use Rattle.replay_text.specs.declared.event.Event.{Event}
use Rattle.replay_text.specs.declared.event.Line.{Line}
use Rattle.replay_text.specs.declared.event.Line.TheVariants.{One}
use Rattle.domain_model.specs.Run.{Run, run_of}
use Rattle.domain_model.specs.Truth.{IsTruthful, EventFits}
use Rattle.laws_ledger.specs.Ledger.{Injection, entered}
use Rattle.laws_ledger.specs.Runs.{unlined}
use Rattle.laws_ledger.specs.Weights.{first_weight, copies_in, takes_in}
use Rattle.laws_replay.specs.Moments.{moment, HasLedgerThroughout, DeliversOnce}
use Rattle.laws_replay.specs.Reports.{IsReported}
use Rattle.laws_replay.specs.Once.{ArriveOnce}

-- a line whose event names routers of the domain by their index, and whose numbers fit
abbrev pub LineFits : ℕ → Line → Type 0
LineFits count (One e) = EventFits count e
LineFits count other = Unit {0}

-- Once there were as many `take` events of an injection's copies as its BFR-ids times (256 times its TTL plus 255),
-- none of its copies is in flight: e is injection n, and `after` the events after it up to the moment.
abbrev pub TakesEnd : DomainConf → Run → Type 0
TakesEnd d r =
    (j : ℕ) (before : List (ℕ × Event)) (e : ℕ × Event) (after : List (ℕ × Event)) (n : ℕ) (i : Injection) → take j r.events ≡ before ++ e ∷ after
    → entered (run_of d before).world.injections e.1 n ≡ Some i → first_weight i ≤ takes_in n (run_of d (before ++ e ∷ [])).world (unlined after)
    → copies_in n (moment d r j).world.flights ≡ 0

pub record KeepsPromises (d : DomainConf) (r : Run) : Type 0 where
  -- the domain is valid
  pub valid : IsValid d
  -- at every moment the world is truthful: LSDBs and PDUs contain what their routers advertise, and each copy's BIFT-id selects
  -- its triple at its target
  pub truthful : (j : ℕ) → IsTruthful (moment d r j).world
  -- at every moment each BFR-id that an injection names is in one copy, one delivery or one drop
  pub ledger : HasLedgerThroughout d r
  -- the report's lines are the run's deliveries and drops, and the numbers of its last line add up
  pub reported : IsReported d r
  -- no router delivers an injection twice, no BFR-id is delivered twice, and none that was not named
  pub delivered_once : DeliversOnce r
  -- copies do not stay in flight forever: that many `take` events end them
  pub takes_end : TakesEnd d r
  -- a reachable BFR-id is never dropped, and arrives exactly once, while topologies agree, no copy is lost and the TTL covers
  -- its path
  pub exactly_once : ArriveOnce d r
