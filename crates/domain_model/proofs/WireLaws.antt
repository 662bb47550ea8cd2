-- Frames that a router sends to others, read off the list that they are kept in.
use Rattle.std.proofs.Common.{◌≡◌, ℕ, zero, suc, ◌<◌, List, [], ◌∷◌, length, slice_get, option_map, Option, Some, None, refl, arith}
use Rattle.std.specs.List.{AllByRecursion}
use Rattle.frame_list.specs.Spans.{Noted}
use Rattle.domain_model.specs.Wires.{wires_in, wires_to, wires_of}

pub octets_are : (from : ℕ) (to : Option ℕ) (frames : List (Noted ℕ)) (i : ℕ) → option_map (λ w. w.octets) (slice_get (wires_of from to frames) i) ≡ option_map (λ f. f.octets) (slice_get frames i)
octets_are from None [] i = refl
octets_are from None (f ∷ frames) zero = refl
octets_are from None (f ∷ frames) (suc i) = octets_are from None frames i
octets_are from (Some to) [] i = refl
octets_are from (Some to) (f ∷ frames) zero = refl
octets_are from (Some to) (f ∷ frames) (suc i) = octets_are from (Some to) frames i

pub receivers_are : (from : ℕ) (frames : List (Noted ℕ)) (i : ℕ) → option_map (λ w. w.to) (slice_get (wires_in from frames) i) ≡ option_map (λ f. f.note) (slice_get frames i)
receivers_are from [] i = refl
receivers_are from (f ∷ frames) zero = refl
receivers_are from (f ∷ frames) (suc i) = receivers_are from frames i

pub receivers_same : (from to : ℕ) (frames : List (Noted ℕ)) (i : ℕ) → i < length (wires_to from to frames) → option_map (λ w. w.to) (slice_get (wires_to from to frames) i) ≡ Some to
receivers_same from to [] i within = absurd (omega (arith, within))
receivers_same from to (f ∷ frames) zero within = refl
receivers_same from to (f ∷ frames) (suc i) within = receivers_same from to frames i (omega (arith, within))

pub senders_are : (from : ℕ) (to : Option ℕ) (frames : List (Noted ℕ)) → AllByRecursion (λ w. w.from ≡ from) (wires_of from to frames)
senders_are from None [] = tt
senders_are from None (f ∷ frames) = (refl, senders_are from None frames)
senders_are from (Some to) [] = tt
senders_are from (Some to) (f ∷ frames) = (refl, senders_are from (Some to) frames)
