-- A text that is appended part by part.
use Rattle.std.proofs.Common.{◌≡◌, ℕ, List, ◌∷◌, ◌++◌, Result, Ok, Err, ap, ◌∙◌, append_assoc}
use Rattle.std.specs.Prelude.{OnOk, codes}
use Rattle.std.specs.Fmt.{decimal}

pub two_parts : (start mid last a b : List ℕ) → mid ≡ start ++ a → last ≡ mid ++ b → last ≡ start ++ (a ++ b)
two_parts start mid last a b first second = second ∙ ap (λ (l : List ℕ). l ++ b) first ∙ append_assoc start a b

-- where the last part is appended by a call that may fail
pub last_part : {E : Type 0} (result : Result (Unit {0}) E) (start mid last a b : List ℕ) → mid ≡ start ++ a → OnOk result (last ≡ mid ++ b) → OnOk result (last ≡ start ++ (a ++ b))
last_part (Ok u) start mid last a b first second = two_parts start mid last a b first second
last_part (Err e) start mid last a b first second = tt

-- another spelling of what was appended
pub same_text : {E : Type 0} (result : Result (Unit {0}) E) (start last a b : List ℕ) → a ≡ b → OnOk result (last ≡ start ++ a) → OnOk result (last ≡ start ++ b)
same_text (Ok u) start last a b same appended = appended ∙ ap (λ (l : List ℕ). start ++ l) same
same_text (Err e) start last a b same appended = tt

-- the front of a refusal's line, and what follows the name of the rule
pub rule_front : (n rule : ℕ) (name rest : List ℕ) → (codes "refused record " ++ (decimal n ++ 32 ∷ (decimal rule ++ 32 ∷ name))) ++ rest ≡ codes "refused record " ++ (decimal n ++ 32 ∷ (decimal rule ++ 32 ∷ (name ++ rest)))
rule_front n rule name rest =
    ap (λ (l : List ℕ). codes "refused record " ++ l)
    (append_assoc (decimal n) (32 ∷ (decimal rule ++ 32 ∷ name)) rest ∙ ap (λ (l : List ℕ). decimal n ++ 32 ∷ l) (append_assoc (decimal rule) (32 ∷ name) rest))
