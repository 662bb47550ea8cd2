-- The first LF of a chunk.
use Rattle.std.proofs.Common.{◌≡◌, ◌<◌, ℕ, List, length, take, get_or, Option, Some, None, subst, arith}
use Rattle.std.specs.Prelude.{MatchOption}
use Rattle.std.proofs.lemmas.Bool.{eqb-true}
use Rattle.std.proofs.lemmas.List.{take_all}
use Rattle.memchr.specs.Find.{IsFirstByte, is_byte}
use Rattle.replay_text.proofs.Cutting.{none_before}
use Rattle.command_drive.specs.Lines.{HasNoEnd}

pub first_end : (found : Option ℕ) (octets : List ℕ) → IsFirstByte (is_byte 10) octets found → MatchOption found (HasNoEnd octets) (λ i. (i < length octets) × HasNoEnd (take i octets) × (get_or octets i 0 ≡ 10))
first_end None octets nowhere = subst HasNoEnd (take_all (length octets) octets (omega arith)) (none_before 10 (length octets) octets (omega arith) nowhere)
first_end (Some i) octets is = (is.0.high, none_before 10 i octets (omega (arith, is.0.high)) is.0.before, eqb-true _ _ is.1)
