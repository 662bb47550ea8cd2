-- What remains to be produced for a hop text from some line on.
use Rattle.std.specs.Prelude.{ℕ, ◌≡◌, List, [], refl}
use Rattle.command_drive.specs.Answer.{Verdict}
use Rattle.command_drive.specs.Reading.{Behind, Closed}
use Rattle.command_drive.specs.Reading as reading
use Rattle.command_drive.specs.Reporting.{alone}
use Rattle.command_drive.specs.Texts.{Close, Ended, Longer, Cut}
use Rattle.command_drive.specs.declared.items.Close.TheVariants as closes
use Rattle.replay_text.specs.declared.hop.HopState.{HopState}
use Rattle.command_drive.specs.Doing.{nothing_more}
use Rattle.command_hop.specs.HopText.{fresh, answer_from, packets_from, refusal_from}

-- how lines close
abbrev pub closing : Behind → Close
closing (Closed closes.Ended) = Ended
closing (Closed closes.TooLong) = Longer
closing (Closed (closes.Broken why)) = Longer
closing reading.Cut = Cut

-- The state of a run on a hop text: what its lines contained, and the numbers of lines and packets.
pub record Reached : Type 0 where
  pub state : HopState
  pub lines : ℕ
  pub packets : ℕ

abbrev pub nothing_reached : Reached
nothing_reached = record { state = fresh; lines = 0; packets = 0 }

abbrev pub owed : Reached → List (List ℕ) → Behind → Verdict
owed reached lines behind = alone (answer_from (closing behind) reached.state reached.lines reached.packets lines)

-- nothing after a read error
pub nothing_cut : (reached : Reached) → owed reached [] reading.Cut ≡ nothing_more
unfolding packets_from refusal_from
nothing_cut reached = refl
