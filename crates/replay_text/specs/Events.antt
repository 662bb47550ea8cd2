-- What is true of each event that a line contains, in a domain of that many routers.
use Rattle.std.specs.Prelude.{ℕ, ◌<◌, ◌≤◌, ◌^◌, List, length}
use Rattle.replay_text.specs.declared.event.Event.{Event}
use Rattle.replay_text.specs.declared.event.Event.TheVariants as event
use Rattle.replay_text.specs.declared.event.Line.{Line}
use Rattle.replay_text.specs.declared.event.Line.TheVariants as line
use Rattle.wire_base.specs.declared.limits.TheConstants.{LAST_LABEL, MOST_PAYLOAD, MOST_ROUNDS}

-- both routers are in the domain
pub record LinkFits (count from to : ℕ) : Type 0 where
  pub from_within : from < count
  pub to_within : to < count

-- the router is in the domain, and the header and the payload are within their ranges (RFC 8296, 2.1.1.2 and 2.1.2)
pub record InjectFits (count router ttl entropy : ℕ) (payload : List ℕ) : Type 0 where
  pub within : router < count
  pub ttl_left : 0 < ttl
  pub entropy_fits : entropy < 2 ^ 20
  pub short : length payload ≤ MOST_PAYLOAD

-- the router is in the domain, and the label isn't reserved (RFC 3032, 2.1)
pub record RelabelFits (count router label : ℕ) : Type 0 where
  pub within : router < count
  pub free : 16 ≤ label
  pub label_fits : label ≤ LAST_LABEL

abbrev pub EventFits : ℕ → Event → Type 0
EventFits count (event.Inject router sd bsl ids ttl entropy payload) = InjectFits count router ttl entropy payload
EventFits count (event.Take from to i) = LinkFits count from to
EventFits count (event.Lose from to i) = LinkFits count from to
EventFits count (event.Again from to i) = LinkFits count from to
EventFits count (event.Down from to) = LinkFits count from to
EventFits count (event.Up from to) = LinkFits count from to
EventFits count (event.Send from to) = LinkFits count from to
EventFits count (event.Tick router) = router < count
EventFits count (event.Restart router) = router < count
EventFits count (event.Relabel router sd bsl label) = RelabelFits count router label
EventFits count (event.Leave router sd) = router < count
EventFits count (event.Join router sd) = router < count

abbrev pub LineFits : ℕ → Line → Type 0
LineFits count line.Empty = Unit {0}
LineFits count (line.One e) = EventFits count e
LineFits count (line.Settle rounds) = rounds ≤ MOST_ROUNDS
