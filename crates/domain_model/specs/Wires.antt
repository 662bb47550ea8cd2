-- Frames that a router sends to others, stored as a list of frames. Either all go to one router, or each has the router that it
-- goes to as its note.
use Rattle.std.specs.Prelude.{ℕ, List, map, Option, Some, None}
use Rattle.frame_list.specs.Spans.{Noted}
use Rattle.domain_model.specs.declared.step_out.WireFrame.{WireFrame}

abbrev pub wire_in : ℕ → Noted ℕ → WireFrame
wire_in from f = record { from = from; to = f.note; octets = f.octets }

abbrev pub wires_in : ℕ → List (Noted ℕ) → List WireFrame
wires_in from frames = map (wire_in from) frames

-- all to that router
abbrev pub wires_to : ℕ → ℕ → List (Noted ℕ) → List WireFrame
wires_to from to frames = map (λ f. record { from = from; to = to; octets = f.octets }) frames

abbrev pub wires_of : ℕ → Option ℕ → List (Noted ℕ) → List WireFrame
wires_of from None frames = wires_in from frames
wires_of from (Some to) frames = wires_to from to frames
