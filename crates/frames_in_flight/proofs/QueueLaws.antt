-- Frames in flight, read off the list that they are kept in, and frames that are sent one after the other.
use Rattle.std.proofs.Common.{◌≡◌, ◌∙◌, ◌≤◌, ◌+◌, ℕ, zero, suc, List, [], ◌∷◌, ◌++◌, length, map, take, drop, sum_by, slice_get, option_map, Option, Some, None, refl, ap, sym, arith}
use Rattle.std.specs.List.{remove}
use Rattle.std.proofs.lemmas.List.{map-append}
use Rattle.std.proofs.lemmas.List.Sums.{sum_by-cons}
use Rattle.std.proofs.lemmas.Option.{none-some, same_Some}
use Rattle.wire_base.specs.declared.effects.Sent.{Sent}
use Rattle.frame_list.specs.Spans.{Noted, noted_as}
use Rattle.frames_in_flight.specs.declared.flight.Flight.{Flight}
use Rattle.frames_in_flight.specs.declared.flight.Note.{Note}
use Rattle.frames_in_flight.specs.Flights.{flight_as, flight_with, flights_in}

pub flight_more : (frames : List (Noted (Option Note))) (f : Noted (Option Note)) → flights_in (frames ++ f ∷ []) ≡ flights_in frames ++ flight_with f.octets f.note ∷ []
flight_more frames f = map-append (λ (g : Noted (Option Note)). flight_with g.octets g.note) frames (f ∷ [])

pub flights_more : (frames : List (Noted (Option Note))) (mark : Option Note) (others : List (Noted ℕ)) → flights_in (frames ++ map (noted_as mark) others) ≡ flights_in frames ++ map (flight_as mark) others
flights_more [] mark [] = refl
flights_more [] mark (f ∷ others) = ap (λ (l : List Flight). flight_as mark f ∷ l) (flights_more [] mark others)
flights_more (f ∷ frames) mark others = ap (λ (l : List Flight). flight_with f.octets f.note ∷ l) (flights_more frames mark others)

pub flight_gone : (frames : List (Noted (Option Note))) (i : ℕ) → flights_in (remove frames i) ≡ remove (flights_in frames) i
flight_gone [] zero = refl
flight_gone [] (suc i) = refl
flight_gone (f ∷ frames) zero = refl
flight_gone (f ∷ frames) (suc i) = ap (λ (l : List Flight). flight_with f.octets f.note ∷ l) (flight_gone frames i)

-- the frame of those octets and that note
pub flight_is : (frames : List (Noted (Option Note))) (i : ℕ) (octets : List ℕ) (mark : Option Note) → option_map (λ f. f.octets) (slice_get frames i) ≡ Some octets → option_map (λ f. f.note) (slice_get frames i) ≡ Some mark → slice_get (flights_in frames) i ≡ Some (flight_with octets mark)
flight_is [] i octets mark o n = absurd (none-some octets o)
flight_is (f ∷ frames) zero octets mark o n = ap (λ (l : List ℕ). Some (flight_with l f.note)) (same_Some f.octets octets o) ∙ ap (λ (m : Option Note). Some (flight_with octets m)) (same_Some f.note mark n)
flight_is (f ∷ frames) (suc i) octets mark o n = flight_is frames i octets mark o n

pub past_end : (flights : List Flight) (i : ℕ) → length flights ≤ i → None ≡ slice_get flights i
past_end [] i h = refl
past_end (f ∷ flights) zero h = absurd (omega (arith, h))
past_end (f ∷ flights) (suc i) h = past_end flights i (omega (arith, h))

pub one : (i : ℕ) → i + 1 ≡ suc i
one i = omega arith

-- ---- what a router sends, from a place on

sent_suc : (sent : List Sent) (i link : ℕ) (octets : List ℕ) → option_map (λ s. s.link) (slice_get sent i) ≡ Some link → option_map (λ s. s.octets) (slice_get sent i) ≡ Some octets → drop i sent ≡ record { link = link; octets = octets } ∷ drop (suc i) sent
sent_suc [] i link octets l o = absurd (none-some link l)
sent_suc (s ∷ sent) zero link octets l o = ap (λ (n : ℕ). record { link = n; octets = s.octets } ∷ sent) (same_Some s.link link l) ∙ ap (λ (x : List ℕ). record { link = link; octets = x } ∷ sent) (same_Some s.octets octets o)
sent_suc (s ∷ sent) (suc i) link octets l o = sent_suc sent i link octets l o

pub sent_from : (sent : List Sent) (i link : ℕ) (octets : List ℕ) → option_map (λ s. s.link) (slice_get sent i) ≡ Some link → option_map (λ s. s.octets) (slice_get sent i) ≡ Some octets → drop i sent ≡ record { link = link; octets = octets } ∷ drop (i + 1) sent
sent_from sent i link octets l o = sent_suc sent i link octets l o ∙ ap (λ (n : ℕ). record { link = link; octets = octets } ∷ drop n sent) (sym (one i))

pub sent_none : (sent : List Sent) (i : ℕ) → length sent ≤ i → drop i sent ≡ []
sent_none [] zero h = refl
sent_none [] (suc i) h = refl
sent_none (s ∷ sent) zero h = absurd (omega (arith, h))
sent_none (s ∷ sent) (suc i) h = sent_none sent i (omega (arith, h))

-- a sum over the first ones, with one more
summed_suc : (g : Flight → ℕ) (flights : List Flight) (i : ℕ) (f : Flight) → slice_get flights i ≡ Some f → sum_by g (take (suc i) flights) ≡ sum_by g (take i flights) + g f
summed_suc g [] i f is = absurd (none-some f is)
summed_suc g (x ∷ flights) zero f is =
    let s = sum_by-cons g x [] in
    let e = ap g (same_Some x f is) in
    omega (arith, s, e)
summed_suc g (x ∷ flights) (suc i) f is =
    let s = sum_by-cons g x (take (suc i) flights) in
    let t = sum_by-cons g x (take i flights) in
    let m = summed_suc g flights i f is in
    omega (arith, s, t, m)

pub summed_more : (g : Flight → ℕ) (flights : List Flight) (i : ℕ) (f : Flight) → slice_get flights i ≡ Some f → sum_by g (take (i + 1) flights) ≡ sum_by g (take i flights) + g f
summed_more g flights i f is = ap (λ (n : ℕ). sum_by g (take n flights)) (one i) ∙ summed_suc g flights i f is
