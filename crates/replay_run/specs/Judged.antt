-- The verdict where sources don't tell what they hold: it is that on octets which they may have held.
use Rattle.std.specs.Prelude.{ℕ, List, Option, Some, IfSome}
use Rattle.command_line.specs.Form.{Form}
use Rattle.command_drive.specs.Answer.{Verdict}
use Rattle.replay_run.specs.Verdict.{verdict}
use Rattle.command_drive.specs.Outside.{Held}

-- That holds of the verdict on octets that the two sources may have held.
abbrev pub OnHeld : Form → (router : List ℕ) → (conf input : Option (List ℕ)) → (Verdict → Type 0) → Type 0
OnHeld form router conf input Holds =
    (file octets : List ℕ) × Held conf file × Held input octets × IfSome (verdict form router (Some file) (Some octets)) Holds
