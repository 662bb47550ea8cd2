-- The records of frames, one by one.
use Rattle.std.proofs.Common.{◌≡◌, ◌∙◌, ◌<◌, ◌≤◌, ℕ, zero, suc, List, [], ◌∷◌, ◌++◌, length, take, slice_get, Some, option_map, refl, sym, ap, subst, arith}
use Rattle.std.proofs.lemmas.List.{append_assoc, append-nil}
use Rattle.std.proofs.lemmas.List.Concat.{flat_map-cons}
use Rattle.std.proofs.lemmas.Option.{same_Some}
use Rattle.std.specs.List.{AllByRecursion}
use Rattle.wire_base.specs.declared.conf.RouterConf.{RouterConf}
use Rattle.wire_base.specs.model.Configuration.{IsSound}
use Rattle.domain_model.specs.declared.step_out.WireFrame.{WireFrame}
use Rattle.replay_report.specs.declared.recording.Recording.{Recording}
use Rattle.replay_report.specs.declared.recording.Recording.TheVariants.{Discarded, Pcap, Pcapng}
use Rattle.replay_report.specs.Captures.{frame_record, wire_record, wire_records, interface_toward, AreShort}

pub is_short : (frames : List WireFrame) (i : ℕ) (octets : List ℕ) → AreShort frames → option_map (λ (f : WireFrame). f.octets) (slice_get frames i) ≡ Some octets → length octets < 65536
is_short [] i octets all e = absurd cc
is_short (f ∷ frames) zero octets all e = subst (λ (l : List ℕ). length l < 65536) (same_Some f.octets octets e) all.0
is_short (f ∷ frames) (suc i) octets all e = is_short frames i octets all.1 e

-- only one format has the interface
pub same_record : (recording : Recording) (i j line : ℕ) (octets : List ℕ) → (recording ≡ Pcapng → i ≡ j) → frame_record recording i line octets ≡ frame_record recording j line octets
unfolding frame_record
same_record Discarded i j line octets same = refl
same_record Pcap i j line octets same = refl
same_record Pcapng i j line octets same = ap (λ (n : ℕ). frame_record Pcapng n line octets) (same refl)

-- the record of a frame by its parts
pub record_by : (recording : Recording) (routers : List RouterConf) (line : ℕ) (f : WireFrame) (from to interface : ℕ) (octets : List ℕ) → f.from ≡ from → f.to ≡ to → f.octets ≡ octets
    → (recording ≡ Pcapng → interface ≡ interface_toward routers from to) → frame_record recording interface line octets ≡ wire_record recording routers line f
record_by recording routers line f from to interface octets sender receiver is number =
    same_record recording interface (interface_toward routers from to) line octets number
    ∙ sym (λ i. frame_record recording (interface_toward routers (sender i) (receiver i)) line (is i))

pub one_more : (recording : Recording) (routers : List RouterConf) (line : ℕ) (frames : List WireFrame) (i from to interface : ℕ) (octets : List ℕ) → AllByRecursion (λ (f : WireFrame). f.from ≡ from) frames
    → option_map (λ (f : WireFrame). f.to) (slice_get frames i) ≡ Some to → option_map (λ (f : WireFrame). f.octets) (slice_get frames i) ≡ Some octets
    → (recording ≡ Pcapng → interface ≡ interface_toward routers from to)
    → wire_records recording routers line (take i frames) ++ frame_record recording interface line octets ≡ wire_records recording routers line (take (suc i) frames)
one_more recording routers line [] i from to interface octets all goes e number = absurd cc
one_more recording routers line (f ∷ frames) zero from to interface octets all goes e number =
    record_by recording routers line f from to interface octets all.0 (same_Some f.to to goes) (same_Some f.octets octets e) number
    ∙ sym (append-nil (wire_record recording routers line f)) ∙ sym (flat_map-cons (wire_record recording routers line) f [])
one_more recording routers line (f ∷ frames) (suc i) from to interface octets all goes e number =
    ap (λ (l : List ℕ). l ++ frame_record recording interface line octets) (flat_map-cons (wire_record recording routers line) f (take i frames))
    ∙ append_assoc (wire_record recording routers line f) (wire_records recording routers line (take i frames)) (frame_record recording interface line octets)
    ∙ ap (λ (l : List ℕ). wire_record recording routers line f ++ l) (one_more recording routers line frames i from to interface octets all.1 goes e number)
    ∙ sym (flat_map-cons (wire_record recording routers line) f (take (suc i) frames))

-- where frames are discarded, nothing is recorded
none_of : (routers : List RouterConf) (line : ℕ) (frames : List WireFrame) → wire_records Discarded routers line frames ≡ []
unfolding frame_record
none_of routers line [] = refl
none_of routers line (f ∷ frames) = flat_map-cons (wire_record Discarded routers line) f frames ∙ none_of routers line frames

pub none_recorded : (recording : Recording) (routers : List RouterConf) (line : ℕ) (frames : List WireFrame) (out : List ℕ) → recording ≡ Discarded → out ≡ out ++ wire_records recording routers line frames
none_recorded recording routers line frames out is =
    sym (append-nil out) ∙ ap (λ (l : List ℕ). out ++ l) (sym (none_of routers line frames) ∙ ap (λ (r : Recording). wire_records r routers line frames) (sym is))

-- the routers before an index

pub front_few : (routers : List RouterConf) (n : ℕ) → length (take n routers) ≤ length routers
front_few [] zero = omega arith
front_few [] (suc n) = omega arith
front_few (r ∷ rs) zero = omega arith
front_few (r ∷ rs) (suc n) = (let less = front_few rs n in omega (arith, less))

pub front_sound : (routers : List RouterConf) (n : ℕ) → AllByRecursion IsSound routers → AllByRecursion IsSound (take n routers)
front_sound [] zero all = tt
front_sound [] (suc n) all = tt
front_sound (r ∷ rs) zero all = tt
front_sound (r ∷ rs) (suc n) all = (all.0, front_sound rs n all.1)
