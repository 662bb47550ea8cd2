-- Frames that a router sends, stored as a list of frames with a note: the link that each is sent on.
use Rattle.std.specs.Prelude.{ℕ, List, map}
use Rattle.wire_base.specs.declared.effects.Sent.{Sent}
use Rattle.frame_list.specs.Spans.{Noted}

-- octets that are sent on a link
abbrev pub sent_as : ℕ → List ℕ → Sent
sent_as link octets = record { link = link; octets = octets }

abbrev pub sent_in : List (Noted ℕ) → List Sent
sent_in frames = map (λ f. sent_as f.note f.octets) frames
