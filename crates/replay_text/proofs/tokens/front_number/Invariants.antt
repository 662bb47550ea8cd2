use Rattle.std.proofs.Common.{◌≡◌, ◌<◌, ◌≤◌, ◌^◌, ◌-◌, Some, take}
use Rattle.replay_text.specs.Tokens.{number_after}
use Rattle.replay_text.proofs.tokens.front_number.Given as goal

abbrev pub invariant-digits : goal.invariant-digits
invariant-digits l = (l.count ≤ l.most) × (l.value < 10 ^ l.count) × (number_after 0 (take l.count l.text) ≡ Some l.value)

abbrev pub decreases-digits : goal.decreases-digits
decreases-digits l = l.most - l.count
