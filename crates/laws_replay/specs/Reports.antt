-- What the report on a run contains: its lines, and the numbers of its last one.
use Rattle.std.specs.Prelude.{◌≡◌, ℕ, ◌+◌, List, flat_map, Option, Some, None}
use Rattle.std.specs.List.{AllByRecursion, filter_map}
use Rattle.wire_base.specs.declared.conf.RouterConf.{RouterConf}
use Rattle.wire_base.specs.model.Configuration.{DomainConf}
use Rattle.domain_model.specs.declared.lines.GotLine.{GotLine}
use Rattle.domain_model.specs.declared.lines.DropLine.{DropLine}
use Rattle.domain_model.specs.World.{ids_in_flight}
use Rattle.domain_model.specs.Run.{Run}
use Rattle.laws_ledger.specs.Runs.{IsDeliveryIn}
use Rattle.domain_replay.specs.Lines.{got_text, drop_text}
use Rattle.domain_replay.specs.Counting.{counts_of}
use Rattle.domain_replay.specs.Texts.{run_text}

-- A line of a report: a delivery or a drop, with the number of the schedule line whose event caused it.
pub data ReportLine : Type 0 where
  Got : (line : ℕ) (got : GotLine) → ReportLine
  Dropped : (line : ℕ) (dropped : DropLine) → ReportLine

-- its text
abbrev pub line_text : List RouterConf → ReportLine → List ℕ
line_text routers (Got line got) = got_text routers line got
line_text routers (Dropped line dropped) = drop_text routers line dropped

abbrev pub got_on : ReportLine → Option (ℕ × GotLine)
got_on (Got line got) = Some (line, got)
got_on (Dropped line dropped) = None

abbrev pub drop_on : ReportLine → Option (ℕ × DropLine)
drop_on (Got line got) = None
drop_on (Dropped line dropped) = Some (line, dropped)

-- What the report on a run contains.
pub record IsReported (d : DomainConf) (r : Run) : Type 0 where
  -- its lines before the last one
  pub lines : List ReportLine
  pub text : run_text d r ≡ flat_map (line_text d.routers) lines
  -- the `got` lines are the run's deliveries, and the `drop` lines its drops, each in order
  pub gots : filter_map got_on lines ≡ r.got
  pub drops : filter_map drop_on lines ≡ r.drops
  -- each `got` line is at a router whose own BFR-id in the injection's sub-domain is the one on the line, with the
  -- injection's payload
  pub owned : AllByRecursion (λ g. IsDeliveryIn r g.1) r.got
  -- in the numbers of the last line, `named` is the sum of `got`, `dropped` and `flight`
  pub sums : (counts_of r).named ≡ (counts_of r).got + ((counts_of r).dropped + ids_in_flight r.world.flights)
