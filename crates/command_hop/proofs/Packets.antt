-- Each packet of an input is parted among its lines.
use Rattle.std.proofs.Common.{◌≡◌, ℕ, ◌+◌, List, [], ◌∷◌, Result, Ok, Err, refl, arith}
use Rattle.std.specs.Prelude.{All, IfOk, unwrap_or}
use Rattle.std.proofs.lemmas.List.Elements.{All-append, All-cons}
use Rattle.bier_bits.specs.Any.{bsl_of, positions_of}
use Rattle.wire_base.specs.model.Place.{bits_of}
use Rattle.replay_text.specs.declared.fault.TextFault.{TextFault}
use Rattle.replay_text.specs.declared.hop.HopState.{HopState}
use Rattle.replay_text.specs.declared.hop.HopLine.{HopLine}
use Rattle.replay_text.specs.declared.hop.HopLine.TheVariants as says
use Rattle.replay_text.specs.Hop.{hop_line, IsOrdered}
use Rattle.replay_text.proofs.Ordered.{line_ordered}
use Rattle.command_hop.specs.HopText.{packet_in, packets_from, packets_of, after, fresh}
use Rattle.command_hop.specs.Partition.{IsParted}
use Rattle.command_hop.proofs.Partition.{each_once}

none_parted : All IsParted []
none_parted k d lt = absurd (omega arith)

line_parted : (n : ℕ) (state : HopState) (said : HopLine) → IsOrdered said → All IsParted (packet_in n state said)
line_parted n state says.Empty is = none_parted
line_parted n state (says.Length bsl) is = none_parted
line_parted n state (says.Own own) is = none_parted
line_parted n state (says.Row row) is = none_parted
line_parted n state (says.Packet bits) is =
    All-cons IsParted _ [] (λ id. each_once (unwrap_or state.own 0) (bits_of (bsl_of bits)) id state.rows (positions_of bits) is) none_parted

parted_from : (state : HopState) (n : ℕ) (lines : List (List ℕ)) → All IsParted (packets_from state n lines)
unfolding packets_from
parted_from state n [] = none_parted
parted_from state n (text ∷ more) = go (hop_line text state) refl (line_ordered text state) (λ said. parted_from (after state said) (n + 1) more)
  where
    go : (r : Result HopLine TextFault) → hop_line text state ≡ r → IfOk r IsOrdered → ((said : HopLine) → All IsParted (packets_from (after state said) (n + 1) more)) → All IsParted (packets_from state n (text ∷ more))
    go (Err why) reads ordered rest = rw (reads, packets_from) none_parted
    go (Ok said) reads ordered rest = rw (reads, packets_from) (All-append IsParted (packet_in (n + 1) state said) (packets_from (after state said) (n + 1) more) (line_parted (n + 1) state said ordered) (rest said))

pub all_parted : (input : List ℕ) → All IsParted (packets_of input)
unfolding packets_of
all_parted input = parted_from fresh 0 _
