use Rattle.std.proofs.Common.{◌∙◌, List, ap}
use Rattle.frame_list.specs.Spans.{Noted, noted_anew, frames_in}
use Rattle.frame_list.proofs.SpanLaws.{frames_noted}
use Rattle.frame_list.proofs.list.FrameList.set_note.Goals as goal

pub returns : goal.returns
returns g c =
    ap (frames_in c.self.inside.octets.items) c.put.ensures
    ∙ frames_noted c.args.note c.self.inside.octets.items c.self.inside.spans c.args.i c.at-span.result c.at-span.ensures
    ∙ ap (λ (l : List (Noted _)). noted_anew l c.args.i c.args.note) c.self.view_is
