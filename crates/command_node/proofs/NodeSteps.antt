-- What a node's calls do is what it does.
use Rattle.std.proofs.Common.{◌≡◌, ℕ, ◌+◌, ◌-◌, ◌<◌, ◌≤◌, zero, suc, Bool, true, if◌then◌else◌, List, [], ◌∷◌, ◌++◌, length, take, slice_get, Some, option_map, sym, ap, subst, ◌∙◌, append_assoc, arith}
use Rattle.std.specs.List.{fold, range_with_len}
use Rattle.std.proofs.lemmas.List.{append-nil}
use Rattle.std.proofs.lemmas.List.Concat.{flat_map-cons}
use Rattle.std.proofs.lemmas.List.Sums.{fold-append}
use Rattle.std.proofs.lemmas.Option.{none-some, same_Some}
use Rattle.wire_base.specs.declared.effects.Sent.{Sent}
use Rattle.wire_base.specs.model.Capture.{written_record}
use Rattle.wire_base.specs.model.Flooding.{send}
use Rattle.wire_base.specs.model.OnFrame.{Next, framed}
use Rattle.router_core.specs.Bounds.{FitRecords}
use Rattle.laws_router.specs.State.{is_up}
use Rattle.command_node.specs.NodeRun.{Node, frame_record, frames_text, goes_out, next_sent, sends_on, second_passes, seconds_pass}

-- the records of the first frames, with one more
records_more : (sec usec : ℕ) (sent : List Sent) (i : ℕ) (octets : List ℕ) → option_map (λ s. s.octets) (slice_get sent i) ≡ Some octets
    → frames_text sec usec (take (suc i) sent) ≡ frames_text sec usec (take i sent) ++ written_record sec usec octets
unfolding frame_record
records_more sec usec [] i octets is = absurd (none-some octets is)
records_more sec usec (s ∷ sent) zero octets is =
    flat_map-cons (frame_record sec usec) s []
    ∙ append-nil (written_record sec usec s.octets)
    ∙ ap (written_record sec usec) (same_Some s.octets octets is)
records_more sec usec (s ∷ sent) (suc i) octets is =
    flat_map-cons (frame_record sec usec) s (take (suc i) sent)
    ∙ ap (λ (l : List ℕ). frame_record sec usec s ++ l) (records_more sec usec sent i octets is)
    ∙ sym (append_assoc (frame_record sec usec s) (frames_text sec usec (take i sent)) (written_record sec usec octets))
    ∙ ap (λ (l : List ℕ). l ++ written_record sec usec octets) (sym (flat_map-cons (frame_record sec usec) s (take i sent)))

-- one frame more
pub frames_more : (sec usec : ℕ) (sent : List Sent) (i : ℕ) (octets old out new : List ℕ) → option_map (λ s. s.octets) (slice_get sent i) ≡ Some octets
    → out ≡ old ++ frames_text sec usec (take i sent) → new ≡ out ++ written_record sec usec octets → new ≡ old ++ frames_text sec usec (take (i + 1) sent)
frames_more sec usec sent i octets old out new is so added =
    let one : i + 1 ≡ suc i = omega arith in
    added
    ∙ ap (λ (l : List ℕ). l ++ written_record sec usec octets) so
    ∙ append_assoc old (frames_text sec usec (take i sent)) (written_record sec usec octets)
    ∙ ap (λ (l : List ℕ). old ++ l) (sym (records_more sec usec sent i octets is))
    ∙ ap (λ (k : ℕ). old ++ frames_text sec usec (take k sent)) (sym one)

-- each frame fits a record
pub fits_at : (sent : List Sent) (i : ℕ) (octets : List ℕ) → FitRecords sent → option_map (λ s. s.octets) (slice_get sent i) ≡ Some octets → length octets ≤ 65535
fits_at [] i octets fit is = absurd (none-some octets is)
fits_at (s ∷ sent) zero octets fit is = subst (λ (l : List ℕ). length l ≤ 65535) (same_Some s.octets octets is) fit.0
fits_at (s ∷ sent) (suc i) octets fit is = fits_at sent i octets fit.1 is

-- what is due on a link that is up went out
pub sent_on : (sec : ℕ) (n : Node) (link : ℕ) (next : Next) (sent : List Sent) → is_up n.control link ≡ true → next ≡ framed link (send n.control link) → sent ≡ next.effects.sent → goes_out sec 0 sent (record n { control = next.control }) ≡ sends_on sec n link
unfolding sends_on
sent_on sec n link next sent up is sent_is =
    ap (λ (l : List Sent). goes_out sec 0 l (record n { control = next.control })) sent_is
    ∙ ap (λ (x : Next). next_sent sec n x) is
    ∙ sym (ap (λ (b : Bool). if b then next_sent sec n (framed link (send n.control link)) else n) up)

-- one link more
pub links_more : (sec : ℕ) (n m : Node) (link : ℕ) → m ≡ fold (sends_on sec) n (range_with_len 0 link) → sends_on sec m link ≡ fold (sends_on sec) n (range_with_len 0 (link + 1))
links_more sec n m link so =
    ap (λ (x : Node). sends_on sec x link) so
    ∙ sym (fold-append (sends_on sec) n (range_with_len 0 link) (link ∷ []))
    ∙ ap (λ (l : List ℕ). fold (sends_on sec) n l) (sym (more 0 link link (omega arith)))
  where
    more : (from count last : ℕ) → from + count ≡ last → range_with_len from (count + 1) ≡ range_with_len from count ++ last ∷ []
    more from zero last is = let same : from ≡ last = omega arith in ap (λ (k : ℕ). k ∷ []) same
    more from (suc count) last is =
        let one : suc count + 1 ≡ suc (count + 1) = omega arith in
        ap (λ (n : ℕ). range_with_len from n) one ∙ ap (λ (l : List ℕ). from ∷ l) (more (from + 1) count last (omega (arith, is)))

-- one second more
pub seconds_more : (to sec : ℕ) (n : Node) → sec < to → seconds_pass (to - sec) sec n ≡ seconds_pass (to - (sec + 1)) (sec + 1) (second_passes (sec + 1) n)
unfolding seconds_pass
seconds_more to sec n less =
    let one : to - sec ≡ suc (to - (sec + 1)) = omega (arith, less) in
    ap (λ (k : ℕ). seconds_pass k sec n) one

pub seconds_end : (to sec : ℕ) (n : Node) → to ≤ sec → seconds_pass (to - sec) sec n ≡ n
unfolding seconds_pass
seconds_end to sec n end =
    let none : to - sec ≡ 0 = omega (arith, end) in
    ap (λ (k : ℕ). seconds_pass k sec n) none
