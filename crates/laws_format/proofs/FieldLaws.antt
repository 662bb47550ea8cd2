-- A field that is read is the field that was written, and what was written is read again.
use Rattle.std.proofs.Common.{◌≡◌, ℕ, suc, ◌+◌, ◌-◌, ◌*◌, ◌/◌, ◌%◌, ◌^◌, ◌<◌, ◌≤◌, Bool, true, false, cond, ltb, List, [], ◌∷◌, ◌++◌, length, take, drop, Result, Ok, Err, refl, sym, ap, subst, ◌∙◌, append_assoc, arith, inl, inr}
use Rattle.std.proofs.lemmas.Bool.{cases_lt, ltb-false, le-ltb}
use Rattle.std.proofs.lemmas.List.{take_at, drop_at, take-append-drop, length-append, length-drop, length-take, get_or-drop, get_or_past, get_or_append_left}
use Rattle.std.specs.Prelude.{IsOk}
use Rattle.byteorder.specs.Endian.{big_bytes, big_number}
use Rattle.byteorder.specs.Numbers.{big_number-reads_back, big_from-lt, length-bytes_high_first}
use Rattle.wire_base.specs.model.Fields.{◌>>=◌, AreOctets, IsReadAgain, Gives, octet_at, octets_at, number_at, counted, counted_at}

pub AreOctets-drop : (n : ℕ) (octets : List ℕ) → AreOctets octets → AreOctets (drop n octets)
AreOctets-drop n octets h i = rw get_or-drop (h (n + i))

-- the value of a step that did not fail
pub bind_ok : {E A B : Type 0} (r : Result A E) (f : A → Result B E) (y : B) → (r >>= f) ≡ Ok y → (x : A) × (r ≡ Ok x) × (f x ≡ Ok y)
bind_ok (Ok x) f y e = (x, refl, e)
bind_ok (Err d) f y e = absurd cc

-- a test that did not fail
pub guard_ok : {E A : Type 0} (b : Bool) (d : E) (x y : A) → cond b (Err d) (Ok x) ≡ Ok y → (b ≡ false) × (x ≡ y)
guard_ok true d x y e = absurd cc
guard_ok false d x y e = (refl, cc)

abbrev done : {E A : Type 0} → A → Result A E
done x = Ok x

pub ok_is : {E A : Type 0} (x y : A) → done {E = E} x ≡ done y → x ≡ y
ok_is x y e = cc

-- what a reader took from the front
pub record Takes (octets text rest : List ℕ) : Type 0 where
  pub parts : octets ≡ text ++ rest
  pub rest_fits : AreOctets rest

pub Takes-then : (a x b y c : List ℕ) → Takes a x b → Takes b y c → Takes a (x ++ y) c
Takes-then a x b y c p q = record { parts = p.parts ∙ ap (λ (t : List ℕ). x ++ t) q.parts ∙ sym (append_assoc x y c); rest_fits = q.rest_fits }

-- ---- octets

pub octet_takes : {E : Type 0} (fault : E) (octets : List ℕ) (x : ℕ × List ℕ) → AreOctets octets → octet_at fault octets ≡ Ok x → Takes octets (x.0 ∷ []) x.1 × (x.0 < 256)
octet_takes fault [] x fits e = absurd cc
octet_takes fault (octet ∷ rest) x fits e = subst (λ (p : ℕ × List ℕ). Takes (octet ∷ rest) (p.0 ∷ []) p.1 × (p.0 < 256)) (ok_is (octet, rest) x e) (record { parts = refl; rest_fits = λ i. fits (suc i) }, fits 0)

pub octets_takes : {E : Type 0} (fault : E) (n : ℕ) (octets : List ℕ) (x : List ℕ × List ℕ) → AreOctets octets → octets_at fault n octets ≡ Ok x → Takes octets x.0 x.1 × (length x.0 ≡ n)
octets_takes fault n octets x fits e =
    let g = guard_ok (ltb (length octets) n) fault (take n octets, drop n octets) x e in
    let long : n ≤ length octets = ltb-false _ _ g.0 in
    subst (λ (p : List ℕ × List ℕ). Takes octets p.0 p.1 × (length p.0 ≡ n)) g.1 (record { parts = sym (take-append-drop n octets); rest_fits = AreOctets-drop n octets fits }, omega (arith, length-take n octets))

pub octets_again : {E : Type 0} (fault : E) (n : ℕ) (text rest : List ℕ) → length text ≡ n → octets_at fault n (text ++ rest) ≡ Ok (text, rest)
octets_again fault n text rest len =
    let long : ltb (length (text ++ rest)) n ≡ false = le-ltb _ _ (omega (arith, length-append text rest)) in
    rw (long, take_at text rest n len, drop_at text rest n len) refl

-- ---- numbers

abbrev pub IsWide : ℕ → Type 0
IsWide n = (octets : List ℕ) → n ≤ length octets → AreOctets octets → take n octets ≡ big_bytes n (big_number n octets)

two_cells : (a b x : ℕ) → a < 256 → b < 256 → x ≡ a * 256 + b → (x / 256 % 256 ≡ a) × (x % 256 ≡ b)
two_cells a b x ha hb e = (omega arith, omega arith)

pub wide2 : IsWide 2
wide2 [] h f = absurd (omega arith)
wide2 (a ∷ []) h f = absurd (omega arith)
wide2 (a ∷ b ∷ rest) h f =
    let e = two_cells a b (big_number 2 (a ∷ b ∷ rest)) (f 0) (f 1) (omega arith) in
    rw (e.0, e.1) refl

three_cells : (a b c x : ℕ) → a < 256 → b < 256 → c < 256 → x ≡ a * 65536 + (b * 256 + c) → (x / 65536 % 256 ≡ a) × (x / 256 % 256 ≡ b) × (x % 256 ≡ c)
three_cells a b c x ha hb hc e = (omega arith, omega arith, omega arith)

pub wide3 : IsWide 3
wide3 [] h f = absurd (omega arith)
wide3 (a ∷ []) h f = absurd (omega arith)
wide3 (a ∷ b ∷ []) h f = absurd (omega arith)
wide3 (a ∷ b ∷ c ∷ rest) h f =
    let e = three_cells a b c (big_number 3 (a ∷ b ∷ c ∷ rest)) (f 0) (f 1) (f 2) (omega arith) in
    rw (e.0, e.1, e.2) refl

four_cells : (a b c d x : ℕ) → a < 256 → b < 256 → c < 256 → d < 256 → x ≡ a * 16777216 + (b * 65536 + (c * 256 + d)) → (x / 16777216 % 256 ≡ a) × (x / 65536 % 256 ≡ b) × (x / 256 % 256 ≡ c) × (x % 256 ≡ d)
four_cells a b c d x ha hb hc hd e = (omega arith, omega arith, omega arith, omega arith)

pub wide4 : IsWide 4
wide4 [] h f = absurd (omega arith)
wide4 (a ∷ []) h f = absurd (omega arith)
wide4 (a ∷ b ∷ []) h f = absurd (omega arith)
wide4 (a ∷ b ∷ c ∷ []) h f = absurd (omega arith)
wide4 (a ∷ b ∷ c ∷ d ∷ rest) h f =
    let e = four_cells a b c d (big_number 4 (a ∷ b ∷ c ∷ d ∷ rest)) (f 0) (f 1) (f 2) (f 3) (omega arith) in
    rw (e.0, e.1, e.2, e.3) refl

pub number_takes : {E : Type 0} (fault : E) (n : ℕ) → IsWide n → (octets : List ℕ) (x : ℕ × List ℕ) → AreOctets octets → number_at fault n octets ≡ Ok x → Takes octets (big_bytes n x.0) x.1 × (x.0 < 256 ^ n)
number_takes fault n wide octets x fits e =
    let g = guard_ok (ltb (length octets) n) fault (big_number n octets, drop n octets) x e in
    let long : n ≤ length octets = ltb-false _ _ g.0 in
    let front : octets ≡ big_bytes n (big_number n octets) ++ drop n octets = sym (take-append-drop n octets) ∙ ap (λ (l : List ℕ). l ++ drop n octets) (wide octets long fits) in
    subst (λ (p : ℕ × List ℕ). Takes octets (big_bytes n p.0) p.1 × (p.0 < 256 ^ n)) g.1 (record { parts = front; rest_fits = AreOctets-drop n octets fits }, big_from-lt 0 n octets fits)

pub number_again : {E : Type 0} (fault : E) (n x : ℕ) (rest : List ℕ) → x < 256 ^ n → number_at fault n (big_bytes n x ++ rest) ≡ Ok (x, rest)
number_again fault n x rest lt =
    let len = length-bytes_high_first n x in
    let long : ltb (length (big_bytes n x ++ rest)) n ≡ false = le-ltb _ _ (omega (arith, length-append (big_bytes n x) rest)) in
    rw (long, big_number-reads_back n x rest lt, drop_at (big_bytes n x) rest n len) refl

-- ---- octets behind their number

pub counted_takes : {E : Type 0} (fault : E) (octets : List ℕ) (x : List ℕ × List ℕ) → AreOctets octets → counted_at fault octets ≡ Ok x → Takes octets (counted x.0) x.1 × (length x.0 < 256)
counted_takes fault octets x fits e =
    let b = bind_ok (octet_at fault octets) (λ n. octets_at fault n.0 n.1) x e in
    let t = octet_takes fault octets b.0 fits b.1 in
    let u = octets_takes fault b.0.0 b.0.1 x t.0.rest_fits b.2 in
    let both = Takes-then octets (b.0.0 ∷ []) b.0.1 x.0 x.1 t.0 u.0 in
    (subst (λ (k : ℕ). Takes octets (k ∷ x.0) x.1) (sym u.1) both, omega (arith, t.1, u.1))

pub counted_again : {E : Type 0} (fault : E) (text rest : List ℕ) → counted_at fault (counted text ++ rest) ≡ Ok (text, rest)
counted_again fault text rest = octets_again fault (length text) text rest refl

-- ---- the size of what was taken

pub record IsRest (octets rest : List ℕ) : Type 0 where
  pub within : length rest ≤ length octets
  pub size : drop (length octets - length rest) octets ≡ rest

pub rest_of : (octets text rest : List ℕ) → octets ≡ text ++ rest → IsRest octets rest
rest_of octets text rest e =
    let l : length octets ≡ length text + length rest = ap length e ∙ length-append text rest in
    let n : length text ≡ length octets - length rest = omega arith in
    record { within = omega arith; size = ap (λ (x : List ℕ). drop (length octets - length rest) x) e ∙ drop_at text rest (length octets - length rest) n }

-- ---- what was appended

pub read_again : {X E : Type 0} (read : List ℕ → Result (X × List ℕ) E) (old text new : List ℕ) (value : X) → ((rest : List ℕ) → read (text ++ rest) ≡ Ok (value, rest)) → new ≡ old ++ text → IsReadAgain read old new value
read_again read old text new value law e rest =
    let added : drop (length old) new ≡ text = ap (λ (l : List ℕ). drop (length old) l) e ∙ drop_at old text (length old) refl in
    ap (λ (l : List ℕ). read (l ++ rest)) added ∙ law rest

-- ---- the answer of a reader

pub gives_along : {X Y E : Type 0} (view : X → Y) (r : Result X E) (a b : Result Y E) → a ≡ b → Gives view r a → Gives view r b
gives_along view r a b e given = subst (λ x. Gives view r x) e given

-- ---- a format whose spelling is read again has one value for a spelling

pub spelled_once : {X E : Type 0} (read : List ℕ → Result (X × List ℕ) E) (text_a text_b : List ℕ) (a b : X) → read (text_a ++ []) ≡ Ok (a, []) → read (text_b ++ []) ≡ Ok (b, []) → text_a ≡ text_b → a ≡ b
spelled_once {X} {E} read text_a text_b a b ra rb e =
    let both : read (text_a ++ []) ≡ read (text_b ++ []) = ap (λ (l : List ℕ). read (l ++ [])) e in
    ap (λ (x : X × List ℕ). x.0) (ok_is {E = E} (a, []) (b, []) (sym ra ∙ both ∙ rb))

-- a reader answers Ok where there is something to read
pub given_ok : {X Y E : Type 0} (view : X → Y) (r : Result X E) (read : Result Y E) (y : Y) → Gives view r read → read ≡ Ok y → IsOk r
given_ok view (Ok x) read y given e = refl
given_ok {X} {Y} {E} view (Err f) read y given e = let both : done {E = E} y ≡ Err f = sym e ∙ given in absurd cc

-- ---- what is left after a field

pub octet_shorter : {E : Type 0} (fault : E) (octets : List ℕ) (x : ℕ × List ℕ) → octet_at fault octets ≡ Ok x → length x.1 < length octets
octet_shorter fault [] x e = absurd cc
octet_shorter {E} fault (octet ∷ rest) x e = let same = ok_is {E = E} (octet, rest) x e in let l = ap (λ (p : ℕ × List ℕ). length p.1) same in omega (arith, l)

pub octets_shorter : {E : Type 0} (fault : E) (n : ℕ) (octets : List ℕ) (x : List ℕ × List ℕ) → octets_at fault n octets ≡ Ok x → length x.1 ≤ length octets
octets_shorter fault n octets x e =
    let g = guard_ok (ltb (length octets) n) fault (take n octets, drop n octets) x e in
    let l = ap (λ (p : List ℕ × List ℕ). length p.1) g.1 in
    omega (arith, l, length-drop n octets)

pub number_shorter : {E : Type 0} (fault : E) (n : ℕ) (octets : List ℕ) (x : ℕ × List ℕ) → number_at fault n octets ≡ Ok x → length x.1 ≤ length octets
number_shorter fault n octets x e =
    let g = guard_ok (ltb (length octets) n) fault (big_number n octets, drop n octets) x e in
    let l = ap (λ (p : ℕ × List ℕ). length p.1) g.1 in
    omega (arith, l, length-drop n octets)

pub counted_shorter : {E : Type 0} (fault : E) (octets : List ℕ) (x : List ℕ × List ℕ) → counted_at fault octets ≡ Ok x → length x.1 < length octets
counted_shorter fault octets x e =
    let b = bind_ok (octet_at fault octets) (λ n. octets_at fault n.0 n.1) x e in
    let s = octet_shorter fault octets b.0 b.1 in
    let t = octets_shorter fault b.0.0 b.0.1 x b.2 in
    omega (arith, s, t)

-- ---- tests that a reader passed

pub guarded : {E A : Type 0} (b : Bool) (d : E) (r : Result A E) (y : A) → cond b (Err d) r ≡ Ok y → (b ≡ false) × (r ≡ Ok y)
guarded true d r y e = absurd cc
guarded false d r y e = (refl, e)

pub guarded_else : {E A : Type 0} (b : Bool) (d : E) (r : Result A E) (y : A) → cond b r (Err d) ≡ Ok y → (b ≡ true) × (r ≡ Ok y)
guarded_else true d r y e = (refl, e)
guarded_else false d r y e = absurd cc

pub AreOctets-front : (a b : List ℕ) → AreOctets (a ++ b) → AreOctets a
AreOctets-front a b h i =
    elim (cases_lt i (length a)) [
      | inl lt ↦ rw (← get_or_append_left a b 0 i lt) (h i)
      | inr le ↦ rw (get_or_past a i 0 le) (omega arith)
    ]

pub AreOctets-back : (a b : List ℕ) → AreOctets (a ++ b) → AreOctets b
AreOctets-back a b h = subst AreOctets (drop_at a b (length a) refl) (AreOctets-drop (length a) (a ++ b) h)
