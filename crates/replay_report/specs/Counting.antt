-- What a run did, in numbers of BFR-ids.
use Rattle.std.specs.Prelude.{ℕ, ◌≡◌, ◌+◌, List, [], length, sum_by}
use Rattle.wire_base.specs.model.Hop.{distinct}
use Rattle.replay_text.specs.declared.event.Event.{Event}
use Rattle.replay_text.specs.declared.event.Event.TheVariants as event
use Rattle.domain_model.specs.declared.lines.GotLine.{GotLine}
use Rattle.domain_model.specs.declared.lines.DropLine.{DropLine}
use Rattle.domain_model.specs.Run.{Run}
use Rattle.replay_report.specs.declared.counts.Counts.{Counts}

-- ---- one event

-- how many injections an event is: one or none
abbrev pub injected_by : Event → ℕ
injected_by (event.Inject router sd bsl ids ttl entropy payload) = 1
injected_by (event.Take from to i) = 0
injected_by (event.Lose from to i) = 0
injected_by (event.Again from to i) = 0
injected_by (event.Down from to) = 0
injected_by (event.Up from to) = 0
injected_by (event.Send from to) = 0
injected_by (event.Tick router) = 0
injected_by (event.Restart router) = 0
injected_by (event.Relabel router sd bsl label) = 0
injected_by (event.Leave router sd) = 0
injected_by (event.Join router sd) = 0

-- the BFR-ids that it names
abbrev pub ids_of : Event → List ℕ
ids_of (event.Inject router sd bsl ids ttl entropy payload) = ids
ids_of (event.Take from to i) = []
ids_of (event.Lose from to i) = []
ids_of (event.Again from to i) = []
ids_of (event.Down from to) = []
ids_of (event.Up from to) = []
ids_of (event.Send from to) = []
ids_of (event.Tick router) = []
ids_of (event.Restart router) = []
ids_of (event.Relabel router sd bsl label) = []
ids_of (event.Leave router sd) = []
ids_of (event.Join router sd) = []

-- how many those are; one that is named twice counts once
abbrev pub named_by : Event → ℕ
named_by e = length (distinct (ids_of e))

-- no BFR-id is named twice
abbrev pub NamesOnce : Event → Type 0
NamesOnce e = distinct (ids_of e) ≡ ids_of e

abbrev pub dropped_ids : DropLine → ℕ
dropped_ids dropped = length dropped.ids

-- the counts with one more event: each delivery is one BFR-id
abbrev pub counted : Counts → Event → List GotLine → List DropLine → Counts
counted counts e gots drops =
    record {
      injected = counts.injected + injected_by e;
      named = counts.named + named_by e;
      got = counts.got + length gots;
      dropped = counts.dropped + sum_by dropped_ids drops;
    }

-- ---- runs

abbrev pub no_counts : Counts
no_counts = record { injected = 0; named = 0; got = 0; dropped = 0 }

-- The injections of a run, the BFR-ids that its events name, its deliveries, and the BFR-ids of its drops.
abbrev pub counts_of : Run → Counts
counts_of r =
    record {
      injected = r.world.injections;
      named = sum_by (λ (e : ℕ × Event). named_by e.1) r.events;
      got = length r.got;
      dropped = sum_by (λ (d : ℕ × DropLine). dropped_ids d.1) r.drops;
    }
