-- Frames whose octets are stored in one list.
use Rattle.std.specs.Prelude.{ℕ, zero, suc, ◌≤◌, ◌+◌, ◌-◌, List, [], ◌∷◌, length, take, drop, map}
use Rattle.std.specs.List.{AllByRecursion}
use Rattle.frame_list.specs.declared.spans.Span.{Span}

-- a frame and its note
pub record Noted (N : Type 0) : Type 0 where
  pub note : N
  pub octets : List ℕ

-- the same frame with another note
abbrev pub noted_as : {N O : Type 0} → N → Noted O → Noted N
noted_as note f = record { note = note; octets = f.octets }

-- the list in which the frame at an index has another note
abbrev pub noted_anew : {N : Type 0} → List (Noted N) → ℕ → N → List (Noted N)
noted_anew [] i note = []
noted_anew (f ∷ frames) zero note = noted_as note f ∷ frames
noted_anew (f ∷ frames) (suc i) note = f ∷ noted_anew frames i note

-- the frame in the range of a span
abbrev pub cut_out : {N : Type 0} → List ℕ → Span N → Noted N
cut_out octets s = record { note = s.note; octets = take (s.end - s.start) (drop s.start octets) }

abbrev pub frames_in : {N : Type 0} → List ℕ → List (Span N) → List (Noted N)
frames_in octets spans = map (cut_out octets) spans

-- a span is within the octets
pub record IsWithin {N : Type 0} (octets : List ℕ) (s : Span N) : Type 0 where
  pub ordered : s.start ≤ s.end
  pub there : s.end ≤ length octets

abbrev pub AreWithin : {N : Type 0} → List ℕ → List (Span N) → Type 0
AreWithin octets spans = AllByRecursion (IsWithin octets) spans

-- a span of octets that were appended to that many others
abbrev pub moved : {N O : Type 0} → N → ℕ → Span O → Span N
moved note start s = record { note = note; start = start + s.start; end = start + s.end }
