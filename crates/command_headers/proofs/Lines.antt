-- The line of a record, which is put together piece by piece.
use Rattle.std.proofs.Common.{◌≡◌, ℕ, ◌+◌, ◌≤◌, ◌++◌, length, append-nil, arith, List, [], ◌∷◌, Result, Ok, Err, OnOk, sym, ap, ◌∙◌, append_assoc}

-- three numbers with a space after each
pub three_put : (old first second new a b c : List ℕ) → first ≡ old ++ (a ++ 32 ∷ []) → second ≡ first ++ (b ++ 32 ∷ []) → new ≡ second ++ (c ++ 32 ∷ []) → new ≡ old ++ (a ++ 32 ∷ (b ++ 32 ∷ (c ++ 32 ∷ [])))
three_put old first second new a b c at_first at_second at_third =
    at_third ∙ ap (λ (l : List ℕ). l ++ (c ++ 32 ∷ [])) (at_second ∙ ap (λ (l : List ℕ). l ++ (b ++ 32 ∷ [])) at_first) ∙ simp append_assoc

-- all up to the bit positions
pub front_put : (empty first second third new number kind three more : List ℕ) → empty ≡ [] → first ≡ empty ++ number → second ≡ first ++ kind → third ≡ second ++ three → new ≡ third ++ more → new ≡ number ++ (kind ++ (three ++ more))
front_put empty first second third new number kind three more is at_first at_second at_third at_fourth =
    at_fourth ∙ ap (λ (l : List ℕ). l ++ more) (at_third ∙ ap (λ (l : List ℕ). l ++ three) (at_second ∙ ap (λ (l : List ℕ). l ++ kind) (at_first ∙ ap (λ (l : List ℕ). l ++ number) is))) ∙ simp append_assoc

-- what is left of a text of which all was appended
all_appended : (new rest out text : List ℕ) → new ++ rest ≡ out ++ text → length rest + 256 ≤ 256 → new ≡ out ++ text
all_appended new [] out text same few = sym (append-nil new) ∙ same
all_appended new (x ∷ rest) out text same few = absurd (omega (arith, few))

pub all_appended_if : {T E : Type 0} (result : Result T E) (new rest out text : List ℕ) → OnOk result (new ++ rest ≡ out ++ text) → OnOk result (length rest + 256 ≤ 256) → OnOk result (new ≡ out ++ text)
all_appended_if (Ok x) new rest out text same few = all_appended new rest out text same few
all_appended_if (Err e) new rest out text same few = tt

-- all of it
pub line_put : {T E : Type 0} (result : Result T E) (old out front line out' line' ended new number kind three more ids : List ℕ) → front ≡ number ++ (kind ++ (three ++ more)) → out ++ line ≡ old ++ (front ++ ids) → out' ++ line' ≡ out ++ line → ended ≡ line' ++ 10 ∷ []
    → OnOk result (new ≡ out' ++ ended) → OnOk result (new ≡ old ++ (number ++ (kind ++ (three ++ more ++ ids ++ 10 ∷ []))))
line_put (Ok x) old out front line out' line' ended new number kind three more ids is_front is_line moved is_ended is =
    is ∙ ap (λ (l : List ℕ). out' ++ l) is_ended ∙ sym (append_assoc out' line' (10 ∷ [])) ∙ ap (λ (l : List ℕ). l ++ 10 ∷ []) (moved ∙ is_line ∙ ap (λ (l : List ℕ). old ++ (l ++ ids)) is_front) ∙ simp append_assoc
line_put (Err e) old out front line out' line' ended new number kind three more ids is_front is_line moved is_ended is = tt
