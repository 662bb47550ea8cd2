-- What is reported of an event.
use Rattle.std.specs.Prelude.{◌≡◌, ℕ, ◌<◌, List, [], ◌∷◌, length, map, Bool, true, false, Option, None, Some}
use Rattle.wire_base.specs.declared.cause.Cause.{Cause}
use Rattle.wire_base.specs.declared.conf.RouterConf.{RouterConf}
use Rattle.wire_base.specs.model.OnFrame.{Effects}
use Rattle.domain_model.specs.declared.step_out.StepOut.{StepOut}
use Rattle.domain_model.specs.declared.step_out.WireFrame.{WireFrame}
use Rattle.domain_model.specs.Moves.{Made, listed}
use Rattle.frames_in_flight.specs.Framed.{wire_of, wire_from, got_line, drop_line}

-- what was sent, as frames, delivered and dropped
abbrev pub told : List RouterConf → Made → StepOut
told confs m = record { sent = map (wire_of confs) m.sent; got = m.got; drops = m.drops }

-- nothing was sent, delivered or dropped, so nothing is reported
pub record IsSilent (e : Effects) : Type 0 where
  pub sent : e.sent ≡ []
  pub got : e.got ≡ []
  pub drops : e.drops ≡ []

-- the report of a frame that a router received, if there was such a frame
abbrev pub taken_report : Bool → StepOut → Option StepOut
taken_report false made = None
taken_report true made = Some made

-- a frame that fits a record of a capture
abbrev pub IsShortFrame : WireFrame → Type 0
IsShortFrame f = length f.octets < 65536

-- the same for what the router at index a did for that injection or for none, after it received a packet with those
-- BFR-ids
abbrev pub told_of : List RouterConf → ℕ → Option ℕ → List ℕ → Effects → StepOut
told_of confs a number ids e =
    record {
      sent = map (wire_from confs a) e.sent;
      got = map (got_line a number) e.got;
      drops = map (drop_line a number ids) e.drops;
    }

-- the router at index a drops a frame of that injection, or of none, as a whole; it carried those BFR-ids
abbrev pub told_lost : ℕ → Option ℕ → Cause → List ℕ → StepOut
told_lost a number why ids =
    record { sent = []; got = []; drops = record { router = a; injection = number; cause = why; ids = listed ids } ∷ [] }
