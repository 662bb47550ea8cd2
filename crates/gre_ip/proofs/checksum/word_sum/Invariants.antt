use Rattle.std.proofs.Common.{◌≡◌, ◌+◌, ◌*◌, ◌%◌, ◌≤◌, length}
use Rattle.wire_base.specs.model.Tunnel.{word_sum}
use Rattle.gre_ip.proofs.checksum.word_sum.Given as goal

-- the sum so far and that of the rest are the sum of all
abbrev pub invariant-word : goal.invariant-word
invariant-word l = record {
  sum : l.sum + word_sum l.rest ≡ word_sum l.header;
  small : l.sum + 32768 * length l.rest ≤ 655360;
  even : length l.rest % 2 ≡ 0;
}

abbrev pub decreases-word : goal.decreases-word
decreases-word l = length l.rest
