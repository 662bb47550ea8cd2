use Rattle.std.proofs.Common.{◌≡◌, List, subst}
use Rattle.std.specs.List.{AllByRecursion}
use Rattle.domain_model.specs.declared.step_out.WireFrame.{WireFrame}
use Rattle.domain_model.proofs.WireLaws.{senders_are}
use Rattle.domain_model.proofs.wire_frames.WireFrames.sender.Goals as goal

pub returns : goal.returns
returns c =
    let frames = c.self.inside in
    subst (λ (fs : List WireFrame). AllByRecursion (λ (f : WireFrame). f.from ≡ frames.from) fs) c.self.view_is (senders_are frames.from frames.to frames.list)
