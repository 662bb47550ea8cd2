-- The lines that answer a question, part by part as they are appended.
use Rattle.std.proofs.Common.{◌≡◌, ℕ, List, [], ◌∷◌, ◌++◌, append_assoc}

-- a line that ends in the name of a router
pub name_last : (start numbered said named last number what name known : List ℕ) → numbered ≡ start ++ number → said ≡ numbered ++ what → named ≡ said ++ name → name ≡ known → last ≡ named ++ 10 ∷ []
    → last ≡ start ++ (number ++ (what ++ (known ++ 10 ∷ [])))
name_last start numbered said named last number what name known first second third same end = rw (end, third, second, first, same) (simp append_assoc)

-- a line that ends in the names of two routers
pub names_last : (start front named last number what a b known_a known_b : List ℕ) → front ≡ start ++ (number ++ (what ++ (a ++ 32 ∷ []))) → named ≡ front ++ b → a ≡ known_a → b ≡ known_b → last ≡ named ++ 10 ∷ []
    → last ≡ start ++ (number ++ (what ++ (known_a ++ 32 ∷ (known_b ++ 10 ∷ []))))
names_last start front named last number what a b known_a known_b first second same_a same_b end = rw (end, second, first, same_a, same_b) (simp append_assoc)

-- a line that ends in the names of two routers and a word
pub word_last : (start front named spaced worded last number what a b known_a known_b word : List ℕ) → front ≡ start ++ (number ++ (what ++ (a ++ 32 ∷ []))) → named ≡ front ++ b → a ≡ known_a → b ≡ known_b → spaced ≡ named ++ 32 ∷ []
    → worded ≡ spaced ++ word → last ≡ worded ++ 10 ∷ [] → last ≡ start ++ (number ++ (what ++ (known_a ++ 32 ∷ (known_b ++ 32 ∷ (word ++ 10 ∷ [])))))
word_last start front named spaced worded last number what a b known_a known_b word first second same_a same_b third fourth end = rw (end, fourth, third, second, first, same_a, same_b) (simp append_assoc)
