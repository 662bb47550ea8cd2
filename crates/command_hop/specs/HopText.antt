-- A hop text: the packets that are reached, and the report on them.
use Rattle.std.specs.Prelude.{ℕ, ◌+◌, ◌≤◌, true, false, List, [], ◌∷◌, ◌++◌, length, Option, Some, None, unwrap_or, Ok, Err, codes}
use Rattle.std.specs.List.{flat_map}
use Rattle.std.specs.Fmt.{decimal}
use Rattle.wire_base.specs.declared.limits.TheConstants.{TEXT_LIMIT}
use Rattle.wire_base.specs.declared.status.Status.{Status}
use Rattle.wire_base.specs.declared.status.Status.TheVariants.{Done, InputRefused, ReadFault}
use Rattle.bier_bits.specs.Any.{positions_of}
use Rattle.replay_text.specs.declared.fault.TextFault.{TextFault}
use Rattle.replay_text.specs.Fault.{rule_text, fault_text}
use Rattle.replay_text.specs.declared.hop.HopRow.{HopRow}
use Rattle.replay_text.specs.declared.hop.HopState.{HopState}
use Rattle.replay_text.specs.declared.hop.HopLine.{HopLine}
use Rattle.replay_text.specs.declared.hop.HopLine.TheVariants as line
use Rattle.replay_text.specs.Pieces.{lines_in}
use Rattle.replay_text.specs.Hop.{hop_line}
use Rattle.replay_text.specs.Grammar.{IsLine}
use Rattle.command_drive.specs.Answer.{behind}
use Rattle.command_drive.specs.Texts.{Close, Ended, Longer, Cut, close_of, is_short, lines_within}
use Rattle.command_hop.specs.Forward.{Outcome, outcomes, outcomes_text}

-- ---- lines and what they contain

-- before the first line
abbrev pub fresh : HopState
fresh = record { bsl = None; own = None; rows = []; packets = false }

-- the state after a line
abbrev pub after : HopState → HopLine → HopState
after state line.Empty = state
after state (line.Length bsl) = record state { bsl = Some bsl }
after state (line.Own own) = record state { own = Some own }
after state (line.Row row) = record state { rows = state.rows ++ row ∷ [] }
after state (line.Packet bits) = record state { packets = true }

-- ---- packets

-- A packet that is reached: the number of its line, the own id and the rows of the lines before it, and its ids.
pub record Packet : Type 0 where
  pub line : ℕ
  pub own : ℕ
  pub rows : List HopRow
  pub ids : List ℕ

abbrev pub packet_in : ℕ → HopState → HopLine → List Packet
packet_in n state line.Empty = []
packet_in n state (line.Length bsl) = []
packet_in n state (line.Own own) = []
packet_in n state (line.Row row) = []
packet_in n state (line.Packet bits) = record { line = n; own = unwrap_or state.own 0; rows = state.rows; ids = positions_of bits } ∷ []

-- the packets of lines that follow n others, up to the first line that is rejected
unfoldable pub packets_from : HopState → ℕ → List (List ℕ) → List Packet
packets_from state n [] = []
packets_from state n (text ∷ more) = elim (hop_line text state) [
  | Err why ↦ []
  | Ok said ↦ packet_in (n + 1) state said ++ packets_from (after state said) (n + 1) more
]

-- the first line that is rejected, and why
unfoldable pub refusal_from : HopState → ℕ → List (List ℕ) → Option (ℕ × TextFault)
refusal_from state n [] = None
refusal_from state n (text ∷ more) = elim (hop_line text state) [
  | Err why ↦ Some (n + 1, why)
  | Ok said ↦ refusal_from (after state said) (n + 1) more
]

-- the packets of an input
unfoldable pub packets_of : List ℕ → List Packet
packets_of input = packets_from fresh 0 (lines_within input)

-- ---- the report

-- the outcomes of a packet, and the lines that report them
abbrev pub outcomes_of : Packet → List Outcome
outcomes_of packet = outcomes packet.own packet.rows packet.ids

abbrev pub packet_text : Packet → List ℕ
packet_text packet = outcomes_text packet.line (outcomes_of packet)

abbrev pub refused_text : ℕ → List ℕ → List ℕ
refused_text n why = codes "refused " ++ decimal n ++ codes " text " ++ why ++ 10 ∷ []

abbrev pub done_text : ℕ → ℕ → List ℕ
done_text lines packets = codes "done lines " ++ decimal lines ++ codes " packets " ++ decimal packets ++ 10 ∷ []

-- How the report ends on a text with that many lines and packets: at the first rejected line, at its end, or at the
-- line that exceeds the limit. If its source failed, nothing is reported.
abbrev pub ending : Close → (lines packets : ℕ) → Option (ℕ × TextFault) → Status × List ℕ
ending close lines packets (Some refusal) = (InputRefused, refused_text refusal.0 (fault_text refusal.1))
ending Ended lines packets None = (Done, done_text lines packets)
ending Longer lines packets None = (InputRefused, refused_text (lines + 1) (rule_text 6 (codes "TooLong")))
ending Cut lines packets None = (ReadFault, [])

-- The status and the report for lines that follow n others with k packets, in a state: the lines of each packet in
-- order, and a last line.
abbrev pub answer_from : Close → HopState → (n k : ℕ) → List (List ℕ) → Status × List ℕ
answer_from close state n k lines =
    behind (flat_map packet_text (packets_from state n lines))
    (ending close (n + length lines) (k + length (packets_from state n lines)) (refusal_from state n lines))

-- those of an input
unfoldable pub hop_answer : List ℕ → Status × List ℕ
hop_answer input = answer_from (close_of (is_short input)) fresh 0 0 (lines_within input)

-- those of the complete lines in octets after which the source failed
unfoldable pub hop_cut : List ℕ → Status × List ℕ
hop_cut octets = answer_from Cut fresh 0 0 (lines_in false octets)

-- ---- inputs that are processed to their end

-- each line is in the grammar, and allowed after the lines before it
unfoldable pub AreAllowed : HopState → List (List ℕ) → Type 0
AreAllowed state [] = Unit {0}
AreAllowed state (text ∷ more) = (said : HopLine) × IsLine state text said × AreAllowed (after state said) more

-- an input that is not too long, each line of which is allowed
pub record IsAllowed (input : List ℕ) : Type 0 where
  pub short : length input ≤ TEXT_LIMIT
  pub lines : AreAllowed fresh (lines_in true input)
