-- How the answer to a hop text ends.
use Rattle.std.proofs.Common.{◌≡◌, ℕ, ◌+◌, ◌≤◌, Bool, true, List, [], ◌∷◌, length, Option, Some, None, refl, ap, ◌∙◌}
use Rattle.std.proofs.lemmas.Bool.{le-leb}
use Rattle.std.proofs.lemmas.List.{take_all}
use Rattle.wire_base.specs.declared.limits.TheConstants.{TEXT_LIMIT}
use Rattle.wire_base.specs.declared.status.Status.TheVariants.{Done, InputRefused}
use Rattle.replay_text.specs.declared.fault.TextFault.{TextFault}
use Rattle.replay_text.specs.declared.hop.HopState.{HopState}
use Rattle.replay_text.specs.Pieces.{lines_in}
use Rattle.replay_text.proofs.Spelled.{line_back}
use Rattle.command_drive.specs.Texts.{Ended, Longer, close_of, is_short, within_limit, lines_within}
use Rattle.command_hop.specs.HopText.{hop_answer, answer_from, ending, packets_from, refusal_from, fresh, after, AreAllowed, IsAllowed}

-- ---- how an answer ends

pub longer_status : (n k : ℕ) (o : Option (ℕ × TextFault)) → (ending Longer n k o).0 ≡ InputRefused
longer_status n k (Some refusal) = refl
longer_status n k None = refl

-- ---- inputs that are allowed

none_refused : (state : HopState) (n : ℕ) (lines : List (List ℕ)) → AreAllowed state lines → refusal_from state n lines ≡ None
unfolding refusal_from AreAllowed
none_refused state n [] are = refl
none_refused state n (text ∷ more) are = rw (line_back text state are.0 are.1, refusal_from) (none_refused (after state are.0) (n + 1) more are.2)

all_lines : (input : List ℕ) → is_short input ≡ true → length input ≤ TEXT_LIMIT → lines_within input ≡ lines_in true input
unfolding within_limit
all_lines input short is = ap (λ (b : Bool). lines_in b (within_limit input)) short ∙ ap (lines_in true) (take_all TEXT_LIMIT input is)

pub allowed_done : (input : List ℕ) → IsAllowed input → (hop_answer input).0 ≡ Done
unfolding hop_answer
allowed_done input is =
    let short : is_short input ≡ true = le-leb (length input) TEXT_LIMIT is.short in
    let lines = all_lines input short is.short in
    ap (λ (b : Bool). (answer_from (close_of b) fresh 0 0 (lines_within input)).0) short
    ∙ ap (λ (ls : List (List ℕ)). (answer_from Ended fresh 0 0 ls).0) lines
    ∙ ap (λ (o : Option (ℕ × TextFault)). (ending Ended (0 + length (lines_in true input)) (0 + length (packets_from fresh 0 (lines_in true input))) o).0) (none_refused fresh 0 (lines_in true input) is.lines)
