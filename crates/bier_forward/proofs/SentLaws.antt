-- Frames that a router sends, read off the list that they are kept in.
use Rattle.std.proofs.Common.{◌≡◌, ℕ, zero, suc, List, [], ◌∷◌, ◌++◌, slice_get, option_map, refl}
use Rattle.std.proofs.lemmas.List.{map-append}
use Rattle.frame_list.specs.Spans.{Noted}
use Rattle.bier_forward.specs.SentFrames.{sent_as, sent_in}

pub sent_more : (frames : List (Noted ℕ)) (f : Noted ℕ) → sent_in (frames ++ f ∷ []) ≡ sent_in frames ++ sent_as f.note f.octets ∷ []
sent_more frames f = map-append (λ (g : Noted ℕ). sent_as g.note g.octets) frames (f ∷ [])

pub links_are : (frames : List (Noted ℕ)) (i : ℕ) → option_map (λ s. s.link) (slice_get (sent_in frames) i) ≡ option_map (λ f. f.note) (slice_get frames i)
links_are [] i = refl
links_are (f ∷ frames) zero = refl
links_are (f ∷ frames) (suc i) = links_are frames i

pub octets_are : (frames : List (Noted ℕ)) (i : ℕ) → option_map (λ s. s.octets) (slice_get (sent_in frames) i) ≡ option_map (λ f. f.octets) (slice_get frames i)
octets_are [] i = refl
octets_are (f ∷ frames) zero = refl
octets_are (f ∷ frames) (suc i) = octets_are frames i
