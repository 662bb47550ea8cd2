use Rattle.std.proofs.Common.{refl, subst, ap, ◌≡◌, ◌+◌, ◌∷◌, ◌∙◌, ℕ, List, sym}
use Rattle.wire_base.specs.declared.status.Status.TheVariants.{InputRefused}
use Rattle.replay_text.specs.Hop.{hop_line}
use Rattle.replay_text.specs.Reading.{Fails}
use Rattle.command_drive.specs.Doing.{Told, Concludes}
use Rattle.command_drive.specs.Reading.{Behind}
use Rattle.command_hop.specs.Owed.{Reached, owed}
use Rattle.command_hop.proofs.Steps.{told_line, ends_line}
use Rattle.command_hop.proofs.hop.HopCommandOctets.item.Goals as goal

pub returns-in_ok-refuse-in-Err-clause-did : goal.returns-in_ok-refuse-in-Err-clause-did
returns-in_ok-refuse-in-Err-clause-did c =
    let before : Reached = record { state = c.self.inside.state; lines = c.self.inside.lines; packets = c.self.inside.packets } in
    let after = record c.args.texts.now { report = c.refuse.new.out } in
    let fails = subst (λ (l : List ℕ). Fails c.in-Err.why (hop_line l c.self.inside.state)) c.as_slice.ensures c.in-Err.ensures.value in
    subst (λ (b : Reached). (c.in_ok-refuse-in-Err.field-0 ≡ InputRefused) × ((more : List (List ℕ)) (behind : Behind) → Concludes c.in_ok-refuse-in-Err.field-0 (owed b (c.args.item.now ∷ more) behind) c.args.texts.now after)) c.self.view_is
    (ends_line before c.args.item.now c.in-Err.why c.in_ok-refuse-in-Err.field-0 c.args.texts.now after fails c.in-Err.ensures.quiet c.in_ok-refuse-in-Err.ensures.status c.in_ok-refuse-in-Err.ensures.text refl)

pub returns-in_ok-packets-in-Ok-clause-did : goal.returns-in_ok-packets-in-Ok-clause-did
returns-in_ok-packets-in-Ok-clause-did c =
    let before : Reached = record { state = c.self.inside.state; lines = c.self.inside.lines; packets = c.self.inside.packets } in
    let now : Reached = record { state = c.accept.new.state; lines = c.self.inside.lines + 1; packets = c.self.inside.packets + c.in_ok-packets-in-Ok.packets } in
    let after = record c.args.texts.now { report = c.accept.new.out } in
    let reads = ap (λ (l : List ℕ). hop_line l c.self.inside.state) (sym c.as_slice.ensures) ∙ c.in-Ok.ensures.value in
    subst (λ (b : Reached). Told {T = List ℕ} (λ more behind. owed b (c.args.item.now ∷ more) behind) (owed now) c.args.texts.now after) c.self.view_is
    (told_line before now c.args.item.now c.read_hop_line.new.said c.args.texts.now after reads c.in_ok-packets-in-Ok.ensures.state refl (ap (λ (m : ℕ). c.self.inside.packets + m) c.in_ok-packets-in-Ok.ensures.packets) c.in_ok-packets-in-Ok.ensures.text refl)
