-- What a frame is read as, and how it is spelled.
use Rattle.std.proofs.Common.{◌≡◌, ℕ, ◌+◌, ◌*◌, ◌/◌, ◌%◌, ◌<◌, ◌≤◌, ◌&&◌, ◌==◌, true, leb, List, [], ◌∷◌, ◌++◌, length, take, drop, slice_index_or, Result, Ok, Err, is_ok, IfOk, refl, sym, ap, ap₂, ◌∙◌, subst, append_assoc, take-append-drop, arith, inl, inr}
use Rattle.std.proofs.lemmas.Bool.{cases_lt, cases_eq, cases_Bool, lt-ltb, le-ltb, le-leb, eq-eqb, ne_eqb, eqb-true, and_parts, false≢true}
use Rattle.std.proofs.lemmas.List.{take_at, drop_at, drop-drop, length-append, length-drop, length-take, get_or-drop}
use Rattle.byteorder.specs.Endian.{big_bytes, big_number}
use Rattle.byteorder.specs.Numbers.{big_number-reads_back, big_from-lt}
use Rattle.wire_base.specs.declared.faults.FrameFault.{FrameFault}
use Rattle.wire_base.specs.declared.faults.FrameFault.TheVariants as faults
use Rattle.wire_base.specs.model.Fields.{Gives, AreOctets}
use Rattle.wire_base.specs.model.Ethernet.{Carried, IsisPdu, MplsPacket, BierPacket, IpPacket, OtherFrame, IsFrame, IsCarried, frame_at, ethernet, typed, counted_out, begins_isis, mpls_type, bier_type, ip_type, most_length, source_at}
use Rattle.link_frame.specs.declared.frame.Class.{Class}
use Rattle.link_frame.specs.Frames.{carried}

-- the number of two octets spells them
two_again : (xs : List ℕ) → AreOctets xs → 2 ≤ length xs → big_bytes 2 (big_number 2 xs) ≡ take 2 xs
two_again [] small long = absurd (omega arith)
two_again (a ∷ []) small long = absurd (omega arith)
two_again (a ∷ b ∷ rest) small long =
    let a-small : a < 256 = small 0 in
    let b-small : b < 256 = small 1 in
    let high : (a * 256 + b) / 256 % 256 ≡ a = omega arith in
    let low : (a * 256 + b) % 256 ≡ b = omega arith in
    let n : big_number 2 (a ∷ b ∷ rest) ≡ a * 256 + b = omega arith in
    rw n (ap₂ (λ (x y : ℕ). x ∷ y ∷ []) high low)

drop_octets : (n : ℕ) (xs : List ℕ) → AreOctets xs → AreOctets (drop n xs)
drop_octets n xs small i = omega (arith, get_or-drop n xs i 0, small (n + i))

spelled_as : (frame : List ℕ) → AreOctets frame → 14 ≤ length frame
    → frame ≡ ethernet (take 6 frame) (take 6 (drop 6 frame)) (big_number 2 (drop 12 frame)) ++ drop 14 frame
spelled_as frame small long =
    let a : take 6 frame ++ drop 6 frame ≡ frame = take-append-drop 6 frame in
    let b : take 6 (drop 6 frame) ++ drop 12 frame ≡ drop 6 frame = ap (λ (l : List ℕ). take 6 (drop 6 frame) ++ l) (sym (drop-drop 6 6 frame)) ∙ take-append-drop 6 (drop 6 frame) in
    let n : big_bytes 2 (big_number 2 (drop 12 frame)) ≡ take 2 (drop 12 frame) = two_again (drop 12 frame) (drop_octets 12 frame small) (omega (arith, length-drop 12 frame)) in
    let d : big_bytes 2 (big_number 2 (drop 12 frame)) ++ drop 14 frame ≡ drop 12 frame = ap₂ (λ (k l : List ℕ). k ++ l) n (sym (drop-drop 2 12 frame)) ∙ take-append-drop 2 (drop 12 frame) in
    sym (append_assoc (take 6 frame) (take 6 (drop 6 frame) ++ big_bytes 2 (big_number 2 (drop 12 frame))) (drop 14 frame)
    ∙ ap (λ (l : List ℕ). take 6 frame ++ l) (append_assoc (take 6 (drop 6 frame)) (big_bytes 2 (big_number 2 (drop 12 frame))) (drop 14 frame) ∙ ap (λ (l : List ℕ). take 6 (drop 6 frame) ++ l) d ∙ b)
    ∙ a)

is_frame : (frame : List ℕ) (c : Carried) → AreOctets frame → 14 ≤ length frame → IsCarried (big_number 2 (drop 12 frame)) (drop 14 frame) c → IsFrame frame c
is_frame frame c small long carries = record {
  to = take 6 frame;
  from = take 6 (drop 6 frame);
  number = big_number 2 (drop 12 frame);
  rest = drop 14 frame;
  six_to = omega (arith, length-take 6 frame);
  six_from = omega (arith, length-take 6 (drop 6 frame), length-drop 6 frame);
  two = big_from-lt 0 2 (drop 12 frame) (drop_octets 12 frame small);
  spelled = spelled_as frame small long;
  carries = carries;
}

typed_is : (n : ℕ) (rest : List ℕ) → most_length < n → IsCarried n rest (typed n rest)
typed_is n rest big = elim (cases_eq n mpls_type) [
  | inl is ↦ rw (eq-eqb n mpls_type is) (is, refl)
  | inr not_mpls ↦ elim (cases_eq n bier_type) [
    | inl is ↦ rw (ne_eqb n mpls_type not_mpls, eq-eqb n bier_type is) (is, refl)
    | inr not_bier ↦ elim (cases_eq n ip_type) [
      | inl is ↦ rw (ne_eqb n mpls_type not_mpls, ne_eqb n bier_type not_bier, eq-eqb n ip_type is) (is, refl)
      | inr not_ip ↦ rw (ne_eqb n mpls_type not_mpls, ne_eqb n bier_type not_bier, ne_eqb n ip_type not_ip) (inl (big, not_mpls, not_bier, not_ip))
    ]
  ]
]

three_are : (a b d : ℕ) → ((a == 254) && ((b == 254) && (d == 3))) ≡ true → (a ≡ 254) × (b ≡ 254) × (d ≡ 3)
three_are a b d is =
    let first = and_parts (a == 254) ((b == 254) && (d == 3)) is in
    let more = and_parts (b == 254) (d == 3) first.1 in
    (eqb-true a 254 first.0, eqb-true b 254 more.0, eqb-true d 3 more.1)

-- octets that begin as IS-IS does
begins : (xs : List ℕ) → begins_isis xs ≡ true → xs ≡ 254 ∷ 254 ∷ 3 ∷ drop 3 xs
begins [] is = absurd (false≢true is)
begins (a ∷ []) is = absurd (false≢true is)
begins (a ∷ b ∷ []) is = absurd (false≢true is)
begins (a ∷ b ∷ d ∷ rest) is =
    let long : leb 3 (length (a ∷ b ∷ d ∷ rest)) ≡ true = le-leb _ _ (omega arith) in
    let are = three_are a b d (and_parts (leb 3 (length (a ∷ b ∷ d ∷ rest))) ((a == 254) && ((b == 254) && (d == 3))) is).1 in
    ap₂ (λ (x : ℕ) (l : List ℕ). x ∷ l) are.0 (ap₂ (λ (x : ℕ) (l : List ℕ). x ∷ l) are.1 (ap (λ (x : ℕ). x ∷ rest) are.2))

begins_so : (xs pdu : List ℕ) → xs ≡ 254 ∷ 254 ∷ 3 ∷ pdu → begins_isis xs ≡ true
begins_so xs pdu is =
    let long : leb 3 (length (254 ∷ 254 ∷ 3 ∷ pdu)) ≡ true = le-leb _ _ (omega arith) in
    ap begins_isis is ∙ rw long refl

counted_is : (n : ℕ) (rest : List ℕ) → n ≤ most_length → n ≤ length rest → IsCarried n rest (counted_out (take n rest))
counted_is n rest small within = elim (cases_Bool (begins_isis (take n rest))) [
  | inl is ↦ rw is (small, within, begins (take n rest) is)
  | inr not_so ↦ rw not_so (inr (small, within, λ pdu e. false≢true (sym not_so ∙ begins_so (take n rest) pdu e)))
]

not_isis : (xs : List ℕ) → ((pdu : List ℕ) → xs ≡ 254 ∷ 254 ∷ 3 ∷ pdu → ⊥) → counted_out xs ≡ OtherFrame
not_isis xs not_so = elim (cases_Bool (begins_isis xs)) [
  | inl is ↦ absurd (not_so (drop 3 xs) (begins xs is))
  | inr fails ↦ rw fails refl
]

-- a fault is no value
not_read : {A E : Type 0} → (e : E) (a : A) → Err e ≡ Ok a → ⊥
not_read e a is = false≢true (ap is_ok is)

value_or : Carried → Result Carried FrameFault → Carried
value_or c (Ok d) = d
value_or c (Err e) = c

same_value : (c d : Carried) → ◌≡◌ {A = Result Carried FrameFault} (Ok c) (Ok d) → c ≡ d
unfolding value_or
same_value c d is = ap (value_or c) is

short_at : (frame : List ℕ) → length frame < 14 → frame_at frame ≡ Err faults.Short
unfolding frame_at
short_at frame lt = rw (lt-ltb (length frame) 14 lt) refl

typed_at : (frame : List ℕ) (n : ℕ) → 14 ≤ length frame → n ≡ big_number 2 (drop 12 frame) → most_length < n → frame_at frame ≡ Ok (typed n (drop 14 frame))
unfolding frame_at
typed_at frame n long n-is big = rw (n-is, le-ltb (length frame) 14 long) (rw (← n-is, lt-ltb most_length n big) refl)

over_at : (frame : List ℕ) (n : ℕ) → 14 ≤ length frame → n ≡ big_number 2 (drop 12 frame) → n ≤ most_length → length (drop 14 frame) < n → frame_at frame ≡ Err faults.Length
unfolding frame_at
over_at frame n long n-is small over = rw (le-ltb (length frame) 14 long, ← n-is, le-ltb most_length n small, lt-ltb (length (drop 14 frame)) n over) refl

counted_at : (frame : List ℕ) (n : ℕ) → 14 ≤ length frame → n ≡ big_number 2 (drop 12 frame) → n ≤ most_length → n ≤ length (drop 14 frame) → frame_at frame ≡ Ok (counted_out (take n (drop 14 frame)))
unfolding frame_at
counted_at frame n long n-is small within = rw (le-ltb (length frame) 14 long, ← n-is, le-ltb most_length n small, le-ltb (length (drop 14 frame)) n within) refl

pub frame_found : (frame : List ℕ) (c : Carried) → AreOctets frame → frame_at frame ≡ Ok c → IsFrame frame c
frame_found frame c small read =
    let n = big_number 2 (drop 12 frame) in
    let rest = drop 14 frame in
    elim (cases_lt (length frame) 14) [
      | inl lt ↦ absurd (not_read faults.Short c (sym (short_at frame lt) ∙ read))
      | inr long ↦ elim (cases_lt most_length n) [
        | inl big ↦ subst (IsFrame frame) (same_value (typed n rest) c (sym (typed_at frame n long refl big) ∙ read)) (is_frame frame (typed n rest) small long (typed_is n rest big))
        | inr short ↦ elim (cases_lt (length rest) n) [
          | inl over ↦ absurd (not_read faults.Length c (sym (over_at frame n long refl short over) ∙ read))
          | inr within ↦ subst (IsFrame frame) (same_value (counted_out (take n rest)) c (sym (counted_at frame n long refl short within) ∙ read)) (is_frame frame (counted_out (take n rest)) small long (counted_is n rest short within))
        ]
      ]
    ]

pub found_from : (frame : List ℕ) (result : Result Class FrameFault) → AreOctets frame → Gives (carried frame) result (frame_at frame) → IfOk result (λ class. IsFrame frame (carried frame class))
found_from frame (Ok class) small gives = frame_found frame (carried frame class) small gives
found_from frame (Err fault) small gives = tt

-- what a length or a type says is what it is read as
carried_at : (frame : List ℕ) (n : ℕ) (c : Carried) → 14 ≤ length frame → n ≡ big_number 2 (drop 12 frame) → IsCarried n (drop 14 frame) c → frame_at frame ≡ Ok c
carried_at frame n (IsisPdu pdu) long n-is carries =
    counted_at frame n long n-is carries.0 carries.1
    ∙ ap (λ (x : Carried). Ok x) (rw (begins_so (take n (drop 14 frame)) pdu carries.2) (ap (λ (l : List ℕ). IsisPdu (drop 3 l)) carries.2))
carried_at frame n (MplsPacket packet) long n-is carries =
    typed_at frame n long n-is (omega (arith, carries.0)) ∙ ap (λ (x : Carried). Ok x) (rw (eq-eqb n mpls_type carries.0) (ap MplsPacket carries.1))
carried_at frame n (BierPacket packet) long n-is carries =
    typed_at frame n long n-is (omega (arith, carries.0)) ∙ ap (λ (x : Carried). Ok x) (rw (ne_eqb n mpls_type (λ e. omega (arith, carries.0)), eq-eqb n bier_type carries.0) (ap BierPacket carries.1))
carried_at frame n (IpPacket packet) long n-is carries =
    typed_at frame n long n-is (omega (arith, carries.0)) ∙ ap (λ (x : Carried). Ok x) (rw (ne_eqb n mpls_type (λ e. omega (arith, carries.0)), ne_eqb n bier_type (λ e. omega (arith, carries.0)), eq-eqb n ip_type carries.0) (ap IpPacket carries.1))
carried_at frame n OtherFrame long n-is carries = elim carries [
  | inl other ↦ typed_at frame n long n-is other.0 ∙ ap (λ (x : Carried). Ok x) (rw (ne_eqb n mpls_type other.1, ne_eqb n bier_type other.2, ne_eqb n ip_type other.3) refl)
  | inr other ↦ counted_at frame n long n-is other.0 other.1 ∙ ap (λ (x : Carried). Ok x) (not_isis (take n (drop 14 frame)) other.2)
]

pub frame_again : (to from rest : List ℕ) (n : ℕ) (c : Carried) → length to ≡ 6 → length from ≡ 6 → n < 65536 → IsCarried n rest c → frame_at (ethernet to from n ++ rest) ≡ Ok c
frame_again to from rest n c six-to six-from two carries =
    let frame = ethernet to from n ++ rest in
    let shape : frame ≡ (to ++ from) ++ (big_bytes 2 n ++ rest) = simp append_assoc in
    let heads : length (to ++ from) ≡ 12 = omega (arith, length-append to from) in
    let at12 : drop 12 frame ≡ big_bytes 2 n ++ rest = ap (λ (l : List ℕ). drop 12 l) shape ∙ drop_at (to ++ from) (big_bytes 2 n ++ rest) 12 heads in
    let at14 : drop 14 frame ≡ rest = sym (drop-drop 2 12 frame) ∙ ap (λ (l : List ℕ). drop 2 l) at12 in
    let n-is : n ≡ big_number 2 (drop 12 frame) = sym (ap (big_number 2) at12 ∙ big_number-reads_back 2 n rest (omega arith)) in
    let long : 14 ≤ length frame = omega (arith, ap length shape, length-append (to ++ from) (big_bytes 2 n ++ rest), heads) in
    carried_at frame n c long n-is (subst (λ (l : List ℕ). IsCarried n l c) (sym at14) carries)

pub frame_only : (frame : List ℕ) (c : Carried) → IsFrame frame c → frame_at frame ≡ Ok c
frame_only frame c is = ap frame_at is.spelled ∙ frame_again is.to is.from is.rest is.number c is.six_to is.six_from is.two is.carries

pub only_from : (frame : List ℕ) (result : Result Class FrameFault) → Gives (carried frame) result (frame_at frame) → (c : Carried) → IsFrame frame c → Gives (carried frame) result (Ok c)
only_from frame (Ok class) gives c is = sym (frame_only frame c is) ∙ gives
only_from frame (Err fault) gives c is = sym (frame_only frame c is) ∙ gives

-- the first octets that were written, before the rest
pub head_again : (to from old new : List ℕ) (n : ℕ) → length to ≡ 6 → length from ≡ 6 → n < 65536 → new ≡ ethernet to from n ++ drop 14 old
    → (c : Carried) → IsCarried n (drop 14 old) c → frame_at new ≡ Ok c
head_again to from old new n six-to six-from two is c carries = ap frame_at is ∙ frame_again to from (drop 14 old) n c six-to six-from two carries

pub head_source : (to from old new : List ℕ) (n : ℕ) → length to ≡ 6 → length from ≡ 6 → new ≡ ethernet to from n ++ drop 14 old → source_at new ≡ from
head_source to from old new n six-to six-from is =
    let more = big_bytes 2 n ++ drop 14 old in
    let shape : new ≡ to ++ (from ++ more) = is ∙ simp append_assoc in
    ap (λ (l : List ℕ). take 6 l) (ap (λ (l : List ℕ). drop 6 l) shape ∙ drop_at to (from ++ more) 6 six-to) ∙ take_at from more 6 six-from

-- ---- a head, octet by octet

pub six_are : (xs : List ℕ) → length xs ≡ 6 → slice_index_or xs 0 0 ∷ slice_index_or xs 1 0 ∷ slice_index_or xs 2 0 ∷ slice_index_or xs 3 0 ∷ slice_index_or xs 4 0 ∷ slice_index_or xs 5 0 ∷ [] ≡ xs
six_are [] long = absurd (omega (arith, long))
six_are (a ∷ []) long = absurd (omega (arith, long))
six_are (a ∷ b ∷ []) long = absurd (omega (arith, long))
six_are (a ∷ b ∷ c ∷ []) long = absurd (omega (arith, long))
six_are (a ∷ b ∷ c ∷ d ∷ []) long = absurd (omega (arith, long))
six_are (a ∷ b ∷ c ∷ d ∷ e ∷ []) long = absurd (omega (arith, long))
six_are (a ∷ b ∷ c ∷ d ∷ e ∷ f ∷ []) long = refl
six_are (a ∷ b ∷ c ∷ d ∷ e ∷ f ∷ x ∷ more) long = absurd (omega (arith, long))

pub head_is : (to from number : List ℕ) (n : ℕ) → length to ≡ 6 → length from ≡ 6 → number ≡ big_bytes 2 n
    → slice_index_or to 0 0 ∷ slice_index_or to 1 0 ∷ slice_index_or to 2 0 ∷ slice_index_or to 3 0 ∷ slice_index_or to 4 0 ∷ slice_index_or to 5 0 ∷ slice_index_or from 0 0 ∷ slice_index_or from 1 0 ∷ slice_index_or from 2 0 ∷ slice_index_or from 3 0 ∷ slice_index_or from 4 0 ∷ slice_index_or from 5 0 ∷ slice_index_or number 0 0 ∷ slice_index_or number 1 0 ∷ [] ≡ ethernet to from n
head_is to from number n six_to six_from is =
    ap (λ (l : List ℕ). l ++ (slice_index_or from 0 0 ∷ slice_index_or from 1 0 ∷ slice_index_or from 2 0 ∷ slice_index_or from 3 0 ∷ slice_index_or from 4 0 ∷ slice_index_or from 5 0 ∷ slice_index_or number 0 0 ∷ slice_index_or number 1 0 ∷ [])) (six_are to six_to)
    ∙ ap (λ (l : List ℕ). to ++ (l ++ (slice_index_or number 0 0 ∷ slice_index_or number 1 0 ∷ []))) (six_are from six_from)
    ∙ ap (λ (l : List ℕ). to ++ (from ++ (slice_index_or l 0 0 ∷ slice_index_or l 1 0 ∷ []))) is
