-- What is reported of nothing.
use Rattle.std.proofs.Common.{◌≡◌, ◌∙◌, ℕ, List, [], map, Option, sym, ap}
use Rattle.wire_base.specs.declared.conf.RouterConf.{RouterConf}
use Rattle.wire_base.specs.declared.effects.Got.{Got}
use Rattle.wire_base.specs.declared.effects.Sent.{Sent}
use Rattle.wire_base.specs.model.OnFrame.{Drop, Effects}
use Rattle.domain_model.specs.declared.step_out.StepOut.{StepOut}
use Rattle.frames_in_flight.specs.Framed.{wire_from, got_line, drop_line}
use Rattle.frames_in_flight.specs.Told.{IsSilent, told_of}

-- the same of its parts
abbrev pub told_from : List RouterConf → ℕ → Option ℕ → List ℕ → List Sent → List Got → List Drop → StepOut
told_from confs a number ids sent got drops = record { sent = map (wire_from confs a) sent; got = map (got_line a number) got; drops = map (drop_line a number ids) drops }

pub silent_told : (confs : List RouterConf) (a : ℕ) (number : Option ℕ) (ids : List ℕ) (e : Effects) → IsSilent e → record { sent = []; got = []; drops = [] } ≡ told_of confs a number ids e
silent_told confs a number ids e silent =
    ap (λ (l : List Sent). told_from confs a number ids l [] []) (sym silent.sent)
    ∙ ap (λ (l : List Got). told_from confs a number ids e.sent l []) (sym silent.got)
    ∙ ap (λ (l : List Drop). told_from confs a number ids e.sent e.got l) (sym silent.drops)
