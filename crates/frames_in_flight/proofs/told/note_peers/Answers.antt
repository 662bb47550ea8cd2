use Rattle.std.proofs.Common.{◌∙◌, ℕ, List, sym, ap, slice_get, option_map}
use Rattle.frame_list.specs.Spans.{Noted, noted_anew}
use Rattle.domain_model.specs.World.{peer_place}
use Rattle.frames_in_flight.proofs.SentLaws.{half_more}
use Rattle.frames_in_flight.proofs.told.note_peers.Goals as goal

pub frames-preserved : goal.frames-preserved
frames-preserved c = record {
  frames =
      c.set_note.ensures
      ∙ ap (noted_anew c.frames.frames c.frames.place) c.peer_again-to.ensures
      ∙ ap (λ (l : List (Noted ℕ)). noted_anew l c.frames.place (peer_place c.args.confs.now c.args.at c.note_at-link.result)) c.frames.invariant.frames
      ∙ half_more c.args.confs.now c.args.at c.frames.place c.note_at-link.result c.args.frames.now
      (ap (λ (l : List (Noted ℕ)). option_map (λ f. f.note) (slice_get l c.frames.place)) (sym c.frames.invariant.frames) ∙ c.note_at-link.ensures);
  last = c.peer_again-to.ensures;
}
