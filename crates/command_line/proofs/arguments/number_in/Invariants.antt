use Rattle.std.proofs.Common.{◌≡◌, ◌-◌}
use Rattle.std.specs.Fmt.{decimal}
use Rattle.std.specs.Str.{bytes_eq}
use Rattle.std.specs.List.{find, range_with_len}
use Rattle.command_line.specs.Words.{number_from}
use Rattle.command_line.proofs.arguments.number_in.Given as goal

-- none of the numbers below
abbrev pub invariant-loop-n : goal.invariant-loop-n
invariant-loop-n l = find (λ m. bytes_eq (decimal m) l.word) (range_with_len l.n (l.end - l.n)) ≡ number_from l.low (l.end - l.low) l.word
