-- What a reader that has read nothing gives of a text.
use Rattle.std.proofs.Common.{◌≡◌, ℕ, ◌<◌, ◌≤◌, Bool, true, false, List, [], length, take, map, sym, ap, ◌∙◌, inl, inr}
use Rattle.std.proofs.lemmas.Bool.{cases_lt, le-leb, lt-leb}
use Rattle.std.proofs.lemmas.List.{take_all}
use Rattle.wire_base.specs.declared.limits.TheConstants.{TEXT_LIMIT}
use Rattle.replay_text.specs.Pieces.{lines_in}
use Rattle.command_drive.specs.declared.items.Close.{Close}
use Rattle.command_drive.specs.declared.items.Close.TheVariants as close
use Rattle.command_drive.specs.Reading.{Ends, Fails, Closed, Cut, Reads}
use Rattle.command_drive.specs.Lines.{shown, whole_read, lines_read}
use Rattle.command_drive.specs.Texts.{is_short, within_limit, lines_within}
use Rattle.command_drive.proofs.LineSteps.{over_is, under_is}

-- how a text closes
abbrev pub closes : Bool → Close
closes true = close.Ended
closes false = close.TooLong

pub lines_of_whole : (octets : List ℕ) → lines_read [] TEXT_LIMIT false Ends octets ≡ record { items = map shown (lines_within octets); behind = Closed (closes (is_short octets)) }
unfolding within_limit
lines_of_whole octets = elim (cases_lt TEXT_LIMIT (length octets)) [
  | inl over ↦ over_is [] octets TEXT_LIMIT Ends over ∙ sym (ap (λ (b : Bool). shut b) (lt-leb (length octets) TEXT_LIMIT over))
  | inr fits ↦
      under_is [] octets TEXT_LIMIT Ends fits ∙ ap (λ (l : List ℕ). whole_read Ends l) (sym (take_all TEXT_LIMIT octets fits)) ∙ sym (ap (λ (b : Bool). shut b) (le-leb (length octets) TEXT_LIMIT fits))
]
  where
    shut : Bool → Reads (List ℕ)
    shut b = record { items = map shown (lines_in b (take TEXT_LIMIT octets)); behind = Closed (closes b) }

-- and behind a read error: as long as it is short
pub lines_of_front : (octets : List ℕ) → length octets ≤ TEXT_LIMIT → lines_read [] TEXT_LIMIT false Fails octets ≡ record { items = map shown (lines_in false octets); behind = Cut }
lines_of_front octets fits = under_is [] octets TEXT_LIMIT Fails fits

pub lines_past_limit : (octets : List ℕ) → TEXT_LIMIT < length octets → lines_read [] TEXT_LIMIT false Fails octets ≡ record { items = map shown (lines_in false (take TEXT_LIMIT octets)); behind = Closed close.TooLong }
lines_past_limit octets over = over_is [] octets TEXT_LIMIT Fails over
