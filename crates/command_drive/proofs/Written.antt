-- A text written piece by piece.
use Rattle.std.proofs.Common.{◌≡◌, ℕ, ◌+◌, ◌-◌, List, ◌++◌, length, take, drop, Option, Some, None, sym, ap, subst, ◌∙◌, arith}
use Rattle.std.proofs.lemmas.List.{take-append-drop, take-append-le, take-take, drop-take, take_rest}
use Rattle.std.proofs.Math.Seq.{take-length}
use Rattle.std.proofs.KnownBytes.{Appends-trans}
use Rattle.std.specs.Io.KnownBytes.{Appends, Keeps}
use Rattle.std.specs.Prelude.{Result, Ok, Err, OnErr}
use Rattle.command_drive.specs.Outside.{AppendsFront}

take_two : (n m : ℕ) (xs : List ℕ) → take n xs ++ take m (drop n xs) ≡ take (n + m) xs
take_two n m xs =
    ap (λ (l : List ℕ). l ++ take m (drop n xs)) (sym (take-take n (n + m) xs (omega arith)))
    ∙ ap (λ (l : List ℕ). take n (take (n + m) xs) ++ l) (sym (drop-take n m xs))
    ∙ take-append-drop n (take (n + m) xs)

pub wrote_more : (a b c : Option (List ℕ)) (n m : ℕ) (text : List ℕ) → Appends a b (take n text) → Appends b c (take m (take (length text - n) (drop n text))) → Appends a c (take (n + m) text)
wrote_more a b c n m text first second =
    let more : Appends b c (take m (drop n text)) = subst (λ (l : List ℕ). Appends b c (take m l)) (take_rest text n) second in
    subst (Appends a c) (take_two n m text) (Appends-trans a b c (take n text) (take m (drop n text)) first more)

-- what is written whole and then kept is written from its front
pub whole_front : (a b c : Option (List ℕ)) (text : List ℕ) → Appends a b text → Keeps b c → AppendsFront a c text
whole_front None b c text written kept = (0, tt)
whole_front (Some xs) None c text written kept = absurd written
whole_front (Some xs) (Some ys) None text written kept = absurd kept
whole_front (Some xs) (Some ys) (Some zs) text written kept =
    (length text, kept ∙ written ∙ ap (λ (l : List ℕ). xs ++ l) (sym (take-length text)))

pub on_err : {X E : Type 0} (result : Result X E) (P : Type 0) → P → OnErr result P
on_err (Ok x) P holds = tt
on_err (Err e) P holds = holds

-- a front that was appended
pub front_appended : (a b : Option (List ℕ)) (front rest text : List ℕ) → Appends a b front → text ≡ front ++ rest → AppendsFront a b text
front_appended a b front rest text written is =
    (length front, subst (Appends a b) (sym (ap (take (length front)) is ∙ take-append-le (length front) front rest (omega arith) ∙ take-length front)) written)

-- and all of it
pub whole_appended : (a b : Option (List ℕ)) (text : List ℕ) → Appends a b text → AppendsFront a b text
whole_appended a b text written = (length text, subst (Appends a b) (sym (take-length text)) written)
