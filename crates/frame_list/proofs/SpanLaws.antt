-- Frames whose octets stand in one list stay what they are when more octets are put behind them.
use Rattle.std.proofs.Common.{◌≡◌, ◌∙◌, ◌≤◌, ◌-◌, ◌+◌, ℕ, zero, suc, List, [], ◌∷◌, ◌++◌, map, length, take, drop, slice_get, slice_set, option_map, Some, refl, sym, ap, arith}
use Rattle.std.specs.List.{AllByRecursion, remove}
use Rattle.std.proofs.lemmas.List.{take-append-le, drop-append-le, length-append, length-drop, length-take-le, take-append-drop, map-append, drop-drop, drop-set-add}
use Rattle.std.proofs.lemmas.List.Edits.{remove-append_right}
use Rattle.std.proofs.Math.Seq.{take-length, drop-append_seam, drop-append-add}
use Rattle.std.proofs.lemmas.Option.{none-some, same_Some}
use Rattle.frame_list.specs.declared.spans.Span.{Span}
use Rattle.frame_list.specs.Spans.{Noted, cut_out, moved, noted_anew, noted_as, frames_in, IsWithin, AreWithin}

cut_kept : (a b : ℕ) (o more : List ℕ) → a ≤ b → b ≤ length o → take (b - a) (drop a (o ++ more)) ≡ take (b - a) (drop a o)
cut_kept a b o more ordered there =
    ap (take (b - a)) (drop-append-le a o more (omega (arith, ordered, there)))
    ∙ take-append-le (b - a) (drop a o) more (omega (arith, ordered, there, length-drop a o))

cut_added : (o more : List ℕ) → take (length (o ++ more) - length o) (drop (length o) (o ++ more)) ≡ more
cut_added o more =
    ap (take (length (o ++ more) - length o)) (drop-append_seam o more)
    ∙ ap (λ (n : ℕ). take n more) (omega (arith, length-append o more))
    ∙ take-length more

abbrev pub noted : {N : Type 0} → N → List ℕ → Noted N
noted note octets = record { note = note; octets = octets }

pub frames_kept : {N : Type 0} (o more : List ℕ) (spans : List (Span N)) → AreWithin o spans → frames_in (o ++ more) spans ≡ frames_in o spans
frames_kept o more [] within = refl
frames_kept o more (s ∷ spans) within =
    ap (λ (octets : List ℕ). noted s.note octets ∷ frames_in (o ++ more) spans) (cut_kept s.start s.end o more within.0.ordered within.0.there)
    ∙ ap (λ (l : List (Noted _)). cut_out o s ∷ l) (frames_kept o more spans within.1)

pub within_kept : {N : Type 0} (o more : List ℕ) (spans : List (Span N)) → AreWithin o spans → AreWithin (o ++ more) spans
within_kept o more [] within = tt
within_kept o more (s ∷ spans) within =
    (record { ordered = within.0.ordered; there = omega (arith, within.0.there, length-append o more) }, within_kept o more spans within.1)

-- the span of what is put behind those octets
abbrev pub behind : {N : Type 0} → N → List ℕ → List ℕ → Span N
behind note o more = record { note = note; start = length o; end = length (o ++ more) }

pub frames_added : {N : Type 0} (note : N) (o more : List ℕ) (spans : List (Span N)) → AreWithin o spans → frames_in (o ++ more) (spans ++ behind note o more ∷ []) ≡ frames_in o spans ++ noted note more ∷ []
frames_added note o more spans within =
    map-append (cut_out (o ++ more)) spans (behind note o more ∷ [])
    ∙ ap (λ (l : List (Noted _)). l ++ cut_out (o ++ more) (behind note o more) ∷ []) (frames_kept o more spans within)
    ∙ ap (λ (octets : List ℕ). frames_in o spans ++ noted note octets ∷ []) (cut_added o more)

within_one : {N : Type 0} (o more : List ℕ) (spans : List (Span N)) (s : Span N) → AreWithin o spans → IsWithin (o ++ more) s → AreWithin (o ++ more) (spans ++ s ∷ [])
within_one o more [] s within one = (one, tt)
within_one o more (x ∷ spans) s within one =
    (record { ordered = within.0.ordered; there = omega (arith, within.0.there, length-append o more) }, within_one o more spans s within.1 one)

pub within_added : {N : Type 0} (note : N) (o more : List ℕ) (spans : List (Span N)) → AreWithin o spans → AreWithin (o ++ more) (spans ++ behind note o more ∷ [])
within_added note o more spans within =
    within_one o more spans (behind note o more) within (record { ordered = omega (arith, length-append o more); there = omega arith })

each_taken : {X : Type 0} (P : X → Type 0) (n : ℕ) (xs : List X) → AllByRecursion P xs → AllByRecursion P (take n xs)
each_taken P zero xs all = tt
each_taken P (suc n) [] all = tt
each_taken P (suc n) (x ∷ xs) all = (all.0, each_taken P n xs all.1)

each_dropped : {X : Type 0} (P : X → Type 0) (n : ℕ) (xs : List X) → AllByRecursion P xs → AllByRecursion P (drop n xs)
each_dropped P zero xs all = all
each_dropped P (suc n) [] all = tt
each_dropped P (suc n) (x ∷ xs) all = each_dropped P n xs all.1

each_joined : {X : Type 0} (P : X → Type 0) (xs ys : List X) → AllByRecursion P xs → AllByRecursion P ys → AllByRecursion P (xs ++ ys)
each_joined P [] ys all more = more
each_joined P (x ∷ xs) ys all more = (all.0, each_joined P xs ys all.1 more)

pub within_removed : {N : Type 0} (o : List ℕ) (spans : List (Span N)) (i : ℕ) → AreWithin o spans → AreWithin o (remove spans i)
within_removed o spans i all = each_joined (IsWithin o) (take i spans) (drop (suc i) spans) (each_taken (IsWithin o) i spans all) (each_dropped (IsWithin o) (suc i) spans all)

map_removed : {X Y : Type 0} (f : X → Y) (xs : List X) (i : ℕ) → map f (remove xs i) ≡ remove (map f xs) i
map_removed f [] zero = refl
map_removed f [] (suc i) = refl
map_removed f (x ∷ xs) zero = refl
map_removed f (x ∷ xs) (suc i) = ap (λ (l : List _). f x ∷ l) (map_removed f xs i)

pub frames_removed : {N : Type 0} (o : List ℕ) (spans : List (Span N)) (i : ℕ) → frames_in o (remove spans i) ≡ remove (frames_in o spans) i
frames_removed o spans i = map_removed (cut_out o) spans i

-- the first frames, with one more
pub taken_more : {N : Type 0} (xs : List (Noted N)) (i : ℕ) (note : N) (octets : List ℕ) → option_map (λ f. f.note) (slice_get xs i) ≡ Some note → option_map (λ f. f.octets) (slice_get xs i) ≡ Some octets → take (suc i) xs ≡ take i xs ++ noted note octets ∷ []
taken_more [] i note octets n o = absurd (none-some note n)
taken_more (x ∷ xs) zero note octets n o = ap (λ m. noted m x.octets ∷ []) (same_Some x.note note n) ∙ ap (λ (l : List ℕ). noted note l ∷ []) (same_Some x.octets octets o)
taken_more (x ∷ xs) (suc i) note octets n o = ap (λ (l : List (Noted _)). x ∷ l) (taken_more xs i note octets n o)

-- ---- the frames of another list

cut_moved : (o p : List ℕ) (a b : ℕ) → take ((length o + b) - (length o + a)) (drop (length o + a) (o ++ p)) ≡ take (b - a) (drop a p)
cut_moved o p a b =
    let n : (length o + b) - (length o + a) ≡ b - a = omega arith in
    ap (λ (k : ℕ). take k (drop (length o + a) (o ++ p))) n ∙ ap (take (b - a)) (drop-append-add o p a)

frames_moved : {N O : Type 0} (note : N) (o p : List ℕ) (others : List (Span O)) → frames_in (o ++ p) (map (moved note (length o)) others) ≡ map (noted_as note) (frames_in p others)
frames_moved note o p [] = refl
frames_moved note o p (s ∷ others) =
    ap (λ (octets : List ℕ). noted note octets ∷ frames_in (o ++ p) (map (moved note (length o)) others)) (cut_moved o p s.start s.end)
    ∙ ap (λ (l : List (Noted _)). noted_as note (cut_out p s) ∷ l) (frames_moved note o p others)

within_moved : {N O : Type 0} (note : N) (o p : List ℕ) (others : List (Span O)) → AreWithin p others → AreWithin (o ++ p) (map (moved note (length o)) others)
within_moved note o p [] within = tt
within_moved note o p (s ∷ others) within =
    (record { ordered = omega (arith, within.0.ordered); there = omega (arith, within.0.there, length-append o p) }, within_moved note o p others within.1)

pub frames_joined : {N O : Type 0} (note : N) (o p : List ℕ) (spans : List (Span N)) (others : List (Span O)) → AreWithin o spans
    → frames_in (o ++ p) (spans ++ map (moved note (length o)) others) ≡ frames_in o spans ++ map (noted_as note) (frames_in p others)
frames_joined note o p spans others within =
    map-append (cut_out (o ++ p)) spans (map (moved note (length o)) others)
    ∙ ap (λ (l : List (Noted _)). l ++ frames_in (o ++ p) (map (moved note (length o)) others)) (frames_kept o p spans within)
    ∙ ap (λ (l : List (Noted _)). frames_in o spans ++ l) (frames_moved note o p others)

pub within_joined : {N O : Type 0} (note : N) (o p : List ℕ) (spans : List (Span N)) (others : List (Span O)) → AreWithin o spans → AreWithin p others → AreWithin (o ++ p) (spans ++ map (moved note (length o)) others)
within_joined note o p spans others within theirs =
    each_joined (IsWithin (o ++ p)) spans (map (moved note (length o)) others) (within_kept o p spans within) (within_moved note o p others theirs)

-- ---- a frame of which something else is noted

pub frames_noted : {N : Type 0} (note : N) (o : List ℕ) (spans : List (Span N)) (i : ℕ) (s : Span N) → slice_get spans i ≡ Some s
    → frames_in o (slice_set spans i (record { note = note; start = s.start; end = s.end })) ≡ noted_anew (frames_in o spans) i note
frames_noted note o [] i s is = refl
frames_noted note o (x ∷ spans) zero s is = ap (λ (y : Span _). noted note (take (y.end - y.start) (drop y.start o)) ∷ frames_in o spans) (sym (same_Some x s is))
frames_noted note o (x ∷ spans) (suc i) s is = ap (λ (l : List (Noted _)). cut_out o x ∷ l) (frames_noted note o spans i s is)

-- ---- spans behind those of removed frames

pub first_gone : {X : Type 0} (k : ℕ) (xs : List X) → drop (k + 1) xs ≡ remove (drop k xs) 0
first_gone k xs = sym (drop-drop 1 k xs)

pub later_gone : {X : Type 0} (k i : ℕ) (xs : List X) → k ≤ length xs → drop k (remove xs (k + i)) ≡ remove (drop k xs) i
later_gone k i xs low =
    let e : length (take k xs) ≡ k = length-take-le k xs low in
    let n : (k + i) - k ≡ i = omega arith in
    ap (λ (l : List _). drop k (remove l (k + i))) (sym (take-append-drop k xs))
    ∙ ap (drop k) (remove-append_right (take k xs) (drop k xs) k (k + i) e (omega arith))
    ∙ ap (λ (m : ℕ). drop k (take k xs ++ remove (drop k xs) m)) n
    ∙ ap (λ (m : ℕ). drop m (take k xs ++ remove (drop k xs) i)) (sym e)
    ∙ drop-append_seam (take k xs) (remove (drop k xs) i)

pub put_there : {X : Type 0} (k i : ℕ) (xs : List X) (x : X) → drop k (slice_set xs (k + i) x) ≡ slice_set (drop k xs) i x
put_there k i xs x = drop-set-add k xs i x
