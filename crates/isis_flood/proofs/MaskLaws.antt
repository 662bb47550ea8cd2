-- Masks of 64 bits as lists of truth values.
use Rattle.std.proofs.Common.{◌≡◌, ℕ, zero, suc, ◌+◌, ◌*◌, ◌%◌, ◌^◌, ◌<◌, ◌≤◌, ◌≢◌, eqb, eq-eqb, Bool, true, false, List, [], ◌∷◌, ◌++◌, length, get_or, set, map, take, drop, replicate, bit_and, bit_or, w64, refl, sym, ap, ◌∙◌, arith, inl, inr}
use Rattle.std.specs.Int.{bit_not}
use Rattle.std.proofs.lemmas.Bool.{cases_eq}
use Rattle.std.proofs.lemmas.List.{get_or-map, map-set, length-map}
use Rattle.std.proofs.lemmas.Nat.Bits.{bit_at-zero, bit_at_set_same, bit_at_set_other, bit_at_clear_same, bit_at_clear_other}
use Rattle.isis_flood.specs.Masks.{spread, at_bit, links_in}

-- a test that answers otherwise at one number
pub spread_set : (f g : ℕ → Bool) (b : Bool) (k i d n : ℕ) → k ≡ i + d → d < n → g k ≡ b → ((j : ℕ) → i ≤ j → j < i + n → j ≢ k → g j ≡ f j) → spread g i n ≡ set (spread f i n) d b
spread_set f g b k i d zero at lt here others = absurd (omega (arith, lt))
spread_set f g b k i zero (suc n) at lt here others =
    let e : i ≡ k = omega (arith, at) in
    ap (λ x. x ∷ spread g (suc i) n) (ap g e ∙ here) ∙ ap (λ (xs : List Bool). b ∷ xs) (spread_same f g (suc i) n (λ j low high. others j (omega (arith, low)) (omega (arith, high)) (λ same. absurd (omega (arith, same, low, e)))))
  where
    spread_same : (f g : ℕ → Bool) (i n : ℕ) → ((j : ℕ) → i ≤ j → j < i + n → g j ≡ f j) → spread g i n ≡ spread f i n
    spread_same f g i zero h = refl
    spread_same f g i (suc n) h = ap (λ x. x ∷ spread g (suc i) n) (h i (omega arith) (omega arith)) ∙ ap (λ (xs : List Bool). f i ∷ xs) (spread_same f g (suc i) n (λ j low high. h j (omega (arith, low)) (omega (arith, high))))
spread_set f g b k i (suc d) (suc n) at lt here others =
    ap (λ x. x ∷ spread g (suc i) n) (others i (omega arith) (omega arith) (λ same. absurd (omega (arith, same, at)))) ∙ ap (λ (xs : List Bool). f i ∷ xs) (spread_set f g b k (suc i) d n (omega (arith, at)) (omega (arith, lt)) here (λ j low high. others j (omega (arith, low)) (omega (arith, high))))

pub spread_get : (f : ℕ → Bool) (i d n : ℕ) → d < n → get_or (spread f i n) d false ≡ f (i + d)
spread_get f i d zero lt = absurd (omega (arith, lt))
spread_get f i zero (suc n) lt = ap f (omega arith)
spread_get f i (suc d) (suc n) lt = spread_get f (suc i) d n (omega (arith, lt)) ∙ ap f (omega arith)

pub spread_none : (f : ℕ → Bool) (i n : ℕ) → ((j : ℕ) → f j ≡ false) → spread f i n ≡ replicate n false
spread_none f i zero h = refl
spread_none f i (suc n) h = ap (λ x. x ∷ spread f (suc i) n) (h i) ∙ ap (λ (xs : List Bool). false ∷ xs) (spread_none f (suc i) n h)

pub spread_is : (f : ℕ → Bool) (i : ℕ) (xs : List Bool) → ((j : ℕ) → j < length xs → f (i + j) ≡ get_or xs j false) → spread f i (length xs) ≡ xs
spread_is f i [] h = refl
spread_is f i (x ∷ xs) h = ap (λ y. y ∷ spread f (suc i) (length xs)) (ap f (omega arith) ∙ h 0 (omega arith)) ∙ ap (λ (ys : List Bool). x ∷ ys) (spread_is f (suc i) xs (λ j lt. ap f (omega arith) ∙ h (suc j) (omega (arith, lt))))

pub spread_long : (f : ℕ → Bool) (i n : ℕ) → length (spread f i n) ≡ n
spread_long f i zero = refl
spread_long f i (suc n) = ap suc (spread_long f (suc i) n)

-- ---- the words of the code

pub bit_set : (mask k new : ℕ) → k < 64 → new ≡ bit_or mask (1 * 2 ^ k % 2 ^ 64) → at_bit new k ≡ true
bit_set mask k new lt is = rw is (eq-eqb _ 1 (bit_at_set_same w64 mask k lt))

pub bit_set_other : (mask k new i : ℕ) → k < 64 → new ≡ bit_or mask (1 * 2 ^ k % 2 ^ 64) → i ≢ k → at_bit new i ≡ at_bit mask i
bit_set_other mask k new i lt is apart = rw is (ap (λ b. eqb b 1) (bit_at_set_other w64 mask k lt i apart))

pub bit_clear : (mask k new : ℕ) → k < 64 → new ≡ bit_and mask (bit_not w64 (1 * 2 ^ k % 2 ^ 64)) → at_bit new k ≡ false
bit_clear mask k new lt is = rw is (ap (λ b. eqb b 1) (bit_at_clear_same w64 mask k lt))

pub bit_clear_other : (mask k new i : ℕ) → k < 64 → new ≡ bit_and mask (bit_not w64 (1 * 2 ^ k % 2 ^ 64)) → i < 64 → i ≢ k → at_bit new i ≡ at_bit mask i
bit_clear_other mask k new i lt is low apart = rw is (ap (λ b. eqb b 1) (bit_at_clear_other w64 mask k lt i low apart))

pub links_set : (mask new k n : ℕ) (b : Bool) → k < n → n ≤ 64 → at_bit new k ≡ b → ((i : ℕ) → i < 64 → i ≢ k → at_bit new i ≡ at_bit mask i) → links_in n new ≡ set (links_in n mask) k b
unfolding links_in
links_set mask new k n b lt few here others =
    spread_set (at_bit mask) (at_bit new) b k 0 k n (omega arith) lt here (λ j low high apart. others j (omega (arith, high, few)) apart)

pub links_get : (mask k n : ℕ) → k < n → get_or (links_in n mask) k false ≡ at_bit mask k
unfolding links_in
links_get mask k n lt = spread_get (at_bit mask) 0 k n lt ∙ ap (at_bit mask) (omega arith)

pub links_none : (n : ℕ) → links_in n 0 ≡ replicate n false
unfolding links_in
links_none n = spread_none (at_bit 0) 0 n (λ j. ap (λ b. eqb b 1) (bit_at-zero j))

pub links_are : (mask n : ℕ) (xs : List Bool) → n ≡ length xs → ((j : ℕ) → j < length xs → at_bit mask j ≡ get_or xs j false) → links_in n mask ≡ xs
unfolding links_in
links_are mask n xs long h = rw long (spread_is (at_bit mask) 0 xs (λ j lt. ap (at_bit mask) (omega arith) ∙ h j lt))

pub links_long : (n mask : ℕ) → length (links_in n mask) ≡ n
unfolding links_in
links_long n mask = spread_long (at_bit mask) 0 n

-- ---- a list of truth values, one more of which is read

taken_at : (xs : List Bool) (i : ℕ) → get_or (take (suc i) xs) i false ≡ get_or xs i false
taken_at [] i = refl
taken_at (x ∷ xs) zero = refl
taken_at (x ∷ xs) (suc i) = taken_at xs i

taken_other : (xs : List Bool) (i j : ℕ) → j ≢ i → get_or (take (suc i) xs) j false ≡ get_or (take i xs) j false
taken_other [] zero j apart = refl
taken_other [] (suc i) j apart = refl
taken_other (x ∷ xs) zero zero apart = absurd (apart refl)
taken_other (x ∷ xs) zero (suc j) apart = none xs j
  where
    none : (ys : List Bool) (j : ℕ) → get_or (take 0 ys) j false ≡ false
    none ys j = refl
taken_other (x ∷ xs) (suc i) zero apart = refl
taken_other (x ∷ xs) (suc i) (suc j) apart = taken_other xs i j (λ e. apart (ap suc e))

taken_past : (xs : List Bool) (i : ℕ) → get_or (take i xs) i false ≡ false
taken_past [] zero = refl
taken_past [] (suc i) = refl
taken_past (x ∷ xs) zero = refl
taken_past (x ∷ xs) (suc i) = taken_past xs i

pub one_more : (mask new : ℕ) (values : List Bool) (i next : ℕ) (b : Bool) → next ≡ suc i → ((j : ℕ) → j < 64 → at_bit mask j ≡ get_or (take i values) j false) → get_or values i false ≡ b → at_bit new i ≡ b → ((j : ℕ) → j < 64 → j ≢ i → at_bit new j ≡ at_bit mask j) → (j : ℕ) → j < 64 → at_bit new j ≡ get_or (take next values) j false
one_more mask new values i next b step so value here others j low = rw step (elim (cases_eq j i) [
  | inl same ↦ ap (at_bit new) same ∙ here ∙ sym (taken_at values i ∙ value) ∙ ap (λ k. get_or (take (suc i) values) k false) (sym same)
  | inr apart ↦ others j low apart ∙ so j low ∙ sym (taken_other values i j apart)
])

pub none_more : (mask : ℕ) (values : List Bool) (i : ℕ) → i < 64 → ((j : ℕ) → j < 64 → at_bit mask j ≡ get_or (take i values) j false) → at_bit mask i ≡ false
none_more mask values i low so = so i low ∙ taken_past values i

-- ---- a list of masks, one more of which is changed

set_step : {Y : Type 0} (f : Y → Y) (ys : List Y) (i : ℕ) (y d : Y) → i < length ys → y ≡ f (get_or (map f (take i ys) ++ drop i ys) i d) → set (map f (take i ys) ++ drop i ys) i y ≡ map f (take (suc i) ys) ++ drop (suc i) ys
set_step f [] i y d lt h = absurd (omega (arith, lt))
set_step f (r ∷ rs) zero y d lt h = ap (λ x. x ∷ rs) h
set_step f (r ∷ rs) (suc i) y d lt h = ap (λ xs. f r ∷ xs) (set_step f rs i y d (omega (arith, lt)) h)

pub mapped_step : {X Y : Type 0} (g : X → Y) (f : Y → Y) (xs now : List X) (i next : ℕ) (b x : X) → next ≡ suc i → i < length xs → length now ≡ length xs → map g now ≡ map f (take i (map g xs)) ++ drop i (map g xs) → x ≡ get_or now i x → g b ≡ f (g x) → map g (set now i b) ≡ map f (take next (map g xs)) ++ drop next (map g xs)
mapped_step g f xs now i next b x step lt long so at changed =
    let there : get_or (map g now) i (g x) ≡ g x = get_or-map g now i x (g x) (omega (arith, lt, long)) ∙ ap g (sym at) in
    rw step (
    map-set g now i b ∙ ap (λ ys. set ys i (g b)) so
    ∙ set_step f (map g xs) i (g b) (g x) (let l = length-map xs g in omega (arith, lt, l)) (changed ∙ ap f (sym there ∙ ap (λ ys. get_or ys i (g x)) so))
    )
