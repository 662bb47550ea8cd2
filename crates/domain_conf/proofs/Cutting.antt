-- Texts cut at an octet.
use Rattle.std.proofs.Common.{◌≡◌, ℕ, ◌+◌, ◌<◌, ◌==◌, false, eqb, List, [], ◌∷◌, ◌++◌, length, get_or, take, drop, All, Option, Some, None, option_and_then, option_map, Bor, refl, sym, ap, ◌∙◌, arith}
use Rattle.std.proofs.lemmas.Bool.{eq-eqb}
use Rattle.std.proofs.lemmas.List.{take-append-drop, drop_more}
use Rattle.std.proofs.lemmas.List.Splits.{slice_split_at, slice_split_none, length-slice_split}
use Rattle.std.specs.List.{slice_split}
use Rattle.domain_conf.specs.Forms.{four_numbers, if_unicast, prefix_octets, more_pieces}

pub cut_at : (stop i : ℕ) (text : List ℕ) → i < length text → All (λ x. eqb x stop ≡ false) (take i text) → get_or text i 0 ≡ stop → slice_split (λ c. c == stop) text ≡ take i text ∷ slice_split (λ c. c == stop) (drop (i + 1) text)
cut_at stop i text lt none is =
    let whole : text ≡ take i text ++ get_or text i 0 ∷ drop (i + 1) text = sym (take-append-drop i text) ∙ ap (λ (l : List ℕ). take i text ++ l) (drop_more text i 0 lt) in
    ap (slice_split (λ b. eqb b stop)) whole ∙ slice_split_at (λ b. eqb b stop) (take i text) (get_or text i 0) (drop (i + 1) text) none (eq-eqb _ _ is)

pub cut_none : (stop : ℕ) (text : List ℕ) → All (λ x. eqb x stop ≡ false) text → slice_split (λ c. c == stop) text ≡ text ∷ []
cut_none stop text none = slice_split_none (λ b. eqb b stop) text none

-- a cut with a text after it
pub cut_goes : (stop : ℕ) (text first : List ℕ) (o : Option (Bor (List ℕ))) (after : Bor (List ℕ)) → slice_split (λ c. c == stop) text ≡ first ∷ more_pieces stop (option_map (λ x. x.now) o) → o ≡ Some after
    → slice_split (λ c. c == stop) text ≡ first ∷ slice_split (λ c. c == stop) after.now
cut_goes stop text first o after is some = is ∙ ap (λ (o : Option (Bor (List ℕ))). first ∷ more_pieces stop (option_map (λ x. x.now) o)) some

four_of_more : (a b c d : List ℕ) (more : List (List ℕ)) → 0 < length more → four_numbers (a ∷ b ∷ c ∷ d ∷ more) ≡ None
four_of_more a b c d [] some = absurd (omega arith)
four_of_more a b c d (e ∷ more) some = refl

-- five pieces and more are no four numbers
pub more_than_four : (text a b c d rest : List ℕ) → slice_split (λ x. x == 46) text ≡ a ∷ b ∷ c ∷ d ∷ slice_split (λ x. x == 46) rest → None ≡ prefix_octets text
unfolding prefix_octets
more_than_four text a b c d rest is =
    sym (ap (λ (ps : List (List ℕ)). option_and_then if_unicast (four_numbers ps)) is ∙ ap (option_and_then if_unicast) (four_of_more a b c d (slice_split (λ x. x == 46) rest) (omega (arith, length-slice_split (λ x. x == 46) rest))))
