-- Texts of hexadecimal digits, two at a time.
use Rattle.std.proofs.Common.{◌≡◌, ℕ, ◌≤◌, ◌-◌, List, [], ◌∷◌, ◌++◌, length, get_or, take, drop, Option, Some, None, option_map, option_and_then, refl, sym, ap, ◌∙◌, arith, append_assoc, append-nil}
use Rattle.std.proofs.lemmas.List.{take_rest}
use Rattle.domain_conf.specs.Forms.{hex_octet, hex_octets, before}

hex_more : (h l : ℕ) (more : List ℕ) → hex_octets (h ∷ l ∷ more) ≡ option_and_then (λ (x : ℕ). before x (hex_octets more)) (hex_octet h l)
unfolding hex_octets
hex_more h l more = refl

-- two digits that write no octet
pub hex_bad : (text rest octets : List ℕ) → 2 ≤ length rest → None ≡ hex_octet (get_or rest 0 0) (get_or rest 1 0)
    → hex_octets text ≡ option_map (λ (more : List ℕ). octets ++ more) (hex_octets rest) → None ≡ hex_octets text
hex_bad text [] octets some bad so_far = absurd (omega arith)
hex_bad text (h ∷ []) octets some bad so_far = absurd (omega arith)
hex_bad text (h ∷ l ∷ more) octets some bad so_far =
    sym (so_far ∙ ap (option_map (λ (more : List ℕ). octets ++ more)) (hex_more h l more ∙ ap (option_and_then (λ (x : ℕ). before x (hex_octets more))) (sym bad)))

joined : (octets : List ℕ) (x : ℕ) (o : Option (List ℕ)) → option_map (λ (more : List ℕ). octets ++ more) (before x o) ≡ option_map (λ (more : List ℕ). (octets ++ x ∷ []) ++ more) o
joined octets x None = refl
joined octets x (Some more) = ap Some (sym (append_assoc octets (x ∷ []) more))

-- two digits that write one
pub hex_step : (text rest octets : List ℕ) (x : ℕ) → 2 ≤ length rest → Some x ≡ hex_octet (get_or rest 0 0) (get_or rest 1 0)
    → hex_octets text ≡ option_map (λ (more : List ℕ). octets ++ more) (hex_octets rest)
    → hex_octets text ≡ option_map (λ (more : List ℕ). (octets ++ x ∷ []) ++ more) (hex_octets (take (length rest - 2) (drop 2 rest)))
hex_step text [] octets x some is so_far = absurd (omega arith)
hex_step text (h ∷ []) octets x some is so_far = absurd (omega arith)
hex_step text (h ∷ l ∷ more) octets x some is so_far =
    so_far
    ∙ ap (option_map (λ (more : List ℕ). octets ++ more)) (hex_more h l more ∙ ap (option_and_then (λ (x : ℕ). before x (hex_octets more))) (sym is))
    ∙ joined octets x (hex_octets more)
    ∙ ap (λ (rest : List ℕ). option_map (λ (more : List ℕ). (octets ++ x ∷ []) ++ more) (hex_octets rest)) (sym (take_rest (h ∷ l ∷ more) 2))

-- the end of the text
pub hex_end : (text rest octets : List ℕ) → length rest ≡ 0 → hex_octets text ≡ option_map (λ (more : List ℕ). octets ++ more) (hex_octets rest) → hex_octets text ≡ Some octets
unfolding hex_octets
hex_end text [] octets none so_far = so_far ∙ ap Some (append-nil octets)
hex_end text (h ∷ rest) octets none so_far = absurd (omega arith)

-- a digit without its second
pub hex_odd : (text rest octets : List ℕ) → length rest ≡ 1 → hex_octets text ≡ option_map (λ (more : List ℕ). octets ++ more) (hex_octets rest) → hex_octets text ≡ None
unfolding hex_octets
hex_odd text [] octets one so_far = absurd (omega arith)
hex_odd text (h ∷ []) octets one so_far = so_far
hex_odd text (h ∷ l ∷ rest) octets one so_far = absurd (omega arith)
