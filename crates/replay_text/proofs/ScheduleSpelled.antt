-- What is read of a schedule's line is what the grammar says, and the other way round.
use Rattle.std.proofs.Common.{◌≡◌, ℕ, Bool, true, false, cond, eqb, ltb, List, [], ◌∷◌, length, Option, Some, None, Result, Ok, Err, refl, sym, ap, subst, ◌∙◌, arith, inl, inr}
use Rattle.std.specs.Prelude.{IfOk, codes, option_and_then}
use Rattle.std.specs.Str.{bytes_eq}
use Rattle.std.proofs.lemmas.Bool.{eqb-true, le-ltb, ltb-false}
use Rattle.std.proofs.lemmas.Slice.Eq.{bytes_eq-Decides}
use Rattle.wire_base.specs.declared.limits.TheConstants.{LAST_LABEL, LINE_LIMIT, MOST_ROUNDS}
use Rattle.wire_base.specs.declared.bsl.Bsl.{Bsl}
use Rattle.wire_base.specs.model.Place.{bits_of, bsl_with}
use Rattle.wire_base.specs.model.Fields.{◌>>=◌}
use Rattle.replay_text.specs.declared.fault.TextFault.{TextFault}
use Rattle.replay_text.specs.declared.fault.TextFault.TheVariants.{Word, Number, Name, Hex, LineLong}
use Rattle.replay_text.specs.declared.event.Event.{Event}
use Rattle.replay_text.specs.declared.event.Event.TheVariants as event
use Rattle.replay_text.specs.declared.event.Line.{Line}
use Rattle.replay_text.specs.declared.event.Line.TheVariants as line
use Rattle.replay_text.specs.Reading.{or_fault, Gives}
use Rattle.replay_text.specs.Pieces.{words_of}
use Rattle.replay_text.specs.Tokens.{number_of}
use Rattle.replay_text.specs.Ids.{id_of}
use Rattle.replay_text.specs.Hop.{is_comment}
use Rattle.replay_text.specs.Arguments.{counted, and_words, argument, place_of, at_most, at_least, number_to, number_from, length_from, listed_ids, payload_of}
use Rattle.replay_text.specs.Schedule.{router_named, link_named, frame_named, member_named, relabel_event, change_line, inject_event, event_line, settle_line, schedule_words, line_of_words, schedule_line}
use Rattle.replay_text.specs.ScheduleGrammar.{IsNumber, IsOne, IsLink, IsFrame, IsMember, IsRelabelling, IsInjection, Says, IsEvent, IsRounds, IsSaid, IsScheduleLine}
use Rattle.replay_text.proofs.Spelled.{if_ok, bits_are, with_bits, id_is, id_back}

-- ---- steps

-- arguments of which there are so many
count_ok : {Y : Type 0} (P : Y → Type 0) (n : ℕ) (args : List (List ℕ)) (f : List (List ℕ) → Result Y TextFault) → (length args ≡ n → IfOk (f args) P) → IfOk (counted n args >>= f) P
count_ok P n args f each = go (eqb (length args) n) refl
  where
    go : (b : Bool) → eqb (length args) n ≡ b → IfOk ((cond b (Ok args) (Err Word)) >>= f) P
    go true e = each (eqb-true (length args) n e)
    go false e = tt

-- the first of them, and those after it
first_ok : {X Y : Type 0} (P : Y → Type 0) (fault : TextFault) (reading : List ℕ → Option X) (args : List (List ℕ)) (f : X × List (List ℕ) → Result Y TextFault)
    → ((word : List ℕ) (more : List (List ℕ)) (x : X) → args ≡ word ∷ more → reading word ≡ Some x → IfOk (f (x, more)) P) → IfOk (argument fault reading args >>= f) P
first_ok P fault reading [] f each = tt
first_ok {X} {Y} P fault reading (word ∷ more) f each = go (reading word) refl
  where
    go : (o : Option X) → reading word ≡ o → IfOk ((or_fault fault o >>= and_words more) >>= f) P
    go None e = tt
    go (Some x) e = each word more x refl e

-- what is left when all were read
none_left : (args : List (List ℕ)) → length args ≡ 0 → args ≡ []
none_left [] e = refl
none_left (word ∷ more) e = absurd (omega (arith, e))

number_is : (most : ℕ) (word : List ℕ) (n : ℕ) → number_to most word ≡ Some n → IsNumber 0 most word n
number_is most word n e = go (number_of word) refl e
  where
    within : (k : ℕ) → number_of word ≡ Some k → (b : Bool) → ltb most k ≡ b → (cond b None (Some k)) ≡ Some n → IsNumber 0 most word n
    within k is true over e = absurd cc
    within k is false fits e =
        let same : k ≡ n = cc in
        record { number = is ∙ ap (λ (m : ℕ). Some m) same; above = omega arith; within = omega (arith, same, ltb-false most k fits) }

    go : (o : Option ℕ) → number_of word ≡ o → option_and_then (at_most most) o ≡ Some n → IsNumber 0 most word n
    go None is e = absurd cc
    go (Some k) is e = within k is (ltb most k) refl e

number_back : (most : ℕ) (word : List ℕ) (n : ℕ) → IsNumber 0 most word n → number_to most word ≡ Some n
number_back most word n is = ap (option_and_then (at_most most)) is.number ∙ ap (λ (b : Bool). cond b None (Some n)) (le-ltb most n is.within)

from_is : (least most : ℕ) (word : List ℕ) (n : ℕ) → number_from least most word ≡ Some n → IsNumber least most word n
from_is least most word n e = go (number_to most word) refl e
  where
    within : (k : ℕ) → number_to most word ≡ Some k → (b : Bool) → ltb k least ≡ b → (cond b None (Some k)) ≡ Some n → IsNumber least most word n
    within k is true under e = absurd cc
    within k is false fits e =
        let same : k ≡ n = cc in
        let it = number_is most word k is in
        record { number = it.number ∙ ap (λ (m : ℕ). Some m) same; above = omega (arith, same, ltb-false k least fits); within = omega (arith, same, it.within) }

    go : (o : Option ℕ) → number_to most word ≡ o → option_and_then (at_least least) o ≡ Some n → IsNumber least most word n
    go None is e = absurd cc
    go (Some k) is e = within k is (ltb k least) refl e

from_back : (least most : ℕ) (word : List ℕ) (n : ℕ) → IsNumber least most word n → number_from least most word ≡ Some n
from_back least most word n is =
    ap (option_and_then (at_least least)) (number_back most word n (record { number = is.number; above = omega arith; within = is.within }))
    ∙ ap (λ (b : Bool). cond b None (Some n)) (le-ltb n least is.above)

ttl_is : (word : List ℕ) (n : ℕ) → id_of 255 word ≡ Some n → IsNumber 1 255 word n
ttl_is word n e = let is = id_is 255 word n e in record { number = is.0; above = is.1.0; within = is.1.1 }

length_is : (word : List ℕ) (bsl : Bsl) → length_from word ≡ Some bsl → number_of word ≡ Some (bits_of bsl)
length_is word bsl e = go (number_of word) refl e
  where
    go : (o : Option ℕ) → number_of word ≡ o → option_and_then bsl_with o ≡ Some bsl → number_of word ≡ Some (bits_of bsl)
    go None is e = absurd cc
    go (Some n) is e = is ∙ ap (λ (k : ℕ). Some k) (bits_are n bsl e)

length_back : (word : List ℕ) (bsl : Bsl) → number_of word ≡ Some (bits_of bsl) → length_from word ≡ Some bsl
length_back word bsl is = ap (option_and_then bsl_with) is ∙ with_bits bsl

-- ---- what is read is what the grammar says

one_spelled : (names args : List (List ℕ)) → IfOk (router_named names args) (IsOne names args)
unfolding router_named
one_spelled names args =
    count_ok is 1 args _ (λ count. first_ok is Name (place_of names) args _ (λ word more router are named.
    record { word = word; args_are = are ∙ ap (λ (l : List (List ℕ)). word ∷ l) (none_left more (omega (arith, count, ap length are))); named = named }))
  where
    is : ℕ → Type 0
    is = IsOne names args

link_spelled : (names args : List (List ℕ)) → IfOk (link_named names args) (λ l. IsLink names args l.0 l.1)
unfolding link_named
link_spelled names args =
    count_ok is 2 args _ (λ count. first_ok is Name (place_of names) args _ (λ first more from are first_named.
    first_ok is Name (place_of names) more _ (λ second rest to more_are second_named.
    let none = none_left rest (omega (arith, count, ap length are, ap length more_are)) in
    record { first = first; second = second; args_are = are ∙ ap (λ (l : List (List ℕ)). first ∷ l) (more_are ∙ ap (λ (l : List (List ℕ)). second ∷ l) none); first_named = first_named; second_named = second_named })))
  where
    is : ℕ × ℕ → Type 0
    is l = IsLink names args l.0 l.1

frame_spelled : (names args : List (List ℕ)) → IfOk (frame_named names args) (λ f. IsFrame names args f.0 f.1 f.2)
unfolding frame_named
frame_spelled names args =
    count_ok is 3 args _ (λ count. first_ok is Name (place_of names) args _ (λ first more from are first_named.
    first_ok is Name (place_of names) more _ (λ second rest to more_are second_named.
    first_ok is Number (number_to 4294967295) rest _ (λ place last i rest_are number.
    let none = none_left last (omega (arith, count, ap length are, ap length more_are, ap length rest_are)) in
    record {
      first = first;
      second = second;
      place = place;
      args_are = are ∙ ap (λ (l : List (List ℕ)). first ∷ l) (more_are ∙ ap (λ (l : List (List ℕ)). second ∷ l) (rest_are ∙ ap (λ (l : List (List ℕ)). place ∷ l) none));
      first_named = first_named;
      second_named = second_named;
      is_place = number_is 4294967295 place i number;
    }))))
  where
    is : ℕ × ℕ × ℕ → Type 0
    is f = IsFrame names args f.0 f.1 f.2

member_spelled : (names args : List (List ℕ)) → IfOk (member_named names args) (λ m. IsMember names args m.0 m.1)
unfolding member_named
member_spelled names args =
    count_ok is 2 args _ (λ count. first_ok is Name (place_of names) args _ (λ w1 m1 router e1 named.
    first_ok is Number (number_to 255) m1 _ (λ w2 m2 sd e2 subdomain.
    let none = none_left m2 (omega (arith, count, ap length e1, ap length e2)) in
    record {
      name = w1;
      subdomain = w2;
      args_are = e1 ∙ ap (λ (l : List (List ℕ)). w1 ∷ l) (e2 ∙ ap (λ (l : List (List ℕ)). w2 ∷ l) none);
      named = named;
      is_subdomain = number_is 255 w2 sd subdomain;
    })))
  where
    is : ℕ × ℕ → Type 0
    is m = IsMember names args m.0 m.1

relabel_spelled : (names args : List (List ℕ)) → IfOk (relabel_event names args) (IsEvent names (codes "relabel" ∷ args))
unfolding relabel_event
relabel_spelled names args =
    count_ok is 4 args _ (λ count. first_ok is Name (place_of names) args _ (λ w1 m1 router e1 named.
    first_ok is Number (number_to 255) m1 _ (λ w2 m2 sd e2 subdomain.
    first_ok is Number length_from m2 _ (λ w3 m3 bsl e3 bits.
    first_ok is Number (number_from 16 LAST_LABEL) m3 _ (λ w4 m4 label e4 digits.
    let none = none_left m4 (omega (arith, count, ap length e1, ap length e2, ap length e3, ap length e4)) in
    record {
      args = args;
      words_are = refl;
      are = record {
        name = w1;
        subdomain = w2;
        bits = w3;
        digits = w4;
        args_are =
            e1 ∙ ap (λ (l : List (List ℕ)). w1 ∷ l) (e2 ∙ ap (λ (l : List (List ℕ)). w2 ∷ l) (e3 ∙ ap (λ (l : List (List ℕ)). w3 ∷ l) (e4 ∙ ap (λ (l : List (List ℕ)). w4 ∷ l) none)));
        named = named;
        is_subdomain = number_is 255 w2 sd subdomain;
        is_length = length_is w3 bsl bits;
        is_label = from_is 16 LAST_LABEL w4 label digits;
      };
    })))))
  where
    is : Event → Type 0
    is = IsEvent names (codes "relabel" ∷ args)

inject_spelled : (names args : List (List ℕ)) → IfOk (inject_event names args) (IsEvent names (codes "inject" ∷ args))
unfolding inject_event
inject_spelled names args =
    count_ok is 7 args _ (λ count. first_ok is Name (place_of names) args _ (λ w1 m1 router e1 named.
    first_ok is Number (number_to 255) m1 _ (λ w2 m2 sd e2 subdomain.
    first_ok is Number length_from m2 _ (λ w3 m3 bsl e3 bits.
    first_ok is Number listed_ids m3 _ (λ w4 m4 ids e4 listed.
    first_ok is Number (id_of 255) m4 _ (λ w5 m5 ttl e5 hops.
    first_ok is Number (number_to 1048575) m5 _ (λ w6 m6 entropy e6 flow.
    first_ok is Hex payload_of m6 _ (λ w7 m7 payload e7 digits.
    let none = none_left m7 (omega (arith, count, ap length e1, ap length e2, ap length e3, ap length e4, ap length e5, ap length e6, ap length e7)) in
    record {
      args = args;
      words_are = refl;
      are = record {
        name = w1;
        subdomain = w2;
        bits = w3;
        list = w4;
        hops = w5;
        flow = w6;
        digits = w7;
        args_are =
            e1 ∙ ap (λ (l : List (List ℕ)). w1 ∷ l) (e2 ∙ ap (λ (l : List (List ℕ)). w2 ∷ l) (e3 ∙ ap (λ (l : List (List ℕ)). w3 ∷ l) (e4 ∙ ap (λ (l : List (List ℕ)). w4 ∷ l)
            (e5 ∙ ap (λ (l : List (List ℕ)). w5 ∷ l) (e6 ∙ ap (λ (l : List (List ℕ)). w6 ∷ l) (e7 ∙ ap (λ (l : List (List ℕ)). w7 ∷ l) none))))));
        named = named;
        is_subdomain = number_is 255 w2 sd subdomain;
        is_length = length_is w3 bsl bits;
        listed = listed;
        is_ttl = ttl_is w5 ttl hops;
        is_entropy = number_is 1048575 w6 entropy flow;
        spelled = digits;
      };
    }))))))))
  where
    is : Event → Type 0
    is = IsEvent names (codes "inject" ∷ args)

-- of what a call read of the arguments, the event is
of_read : {X : Type 0} (P : Event → Type 0) (Is : X → Type 0) (read : Result X TextFault) (make : X → Event) → IfOk read Is → ((x : X) → Is x → P (make x)) → IfOk (read >>= (λ x. Ok (make x))) P
of_read P Is (Ok x) make is each = each x is
of_read P Is (Err e) make is each = tt

says : (words : List (List ℕ)) (word : List ℕ) (args : List (List ℕ)) (Args : List (List ℕ) → Type 0) → words ≡ word ∷ args → Args args → Says words word Args
says words word args Args e are = record { args = args; words_are = e; are = are }

change_spelled : (names : List (List ℕ)) (word : List ℕ) (args : List (List ℕ)) → IfOk (change_line names word args) (IsEvent names (word ∷ args))
unfolding change_line
change_spelled names word args =
    if_ok is (bytes_eq word (codes "relabel")) _ _ (known (codes "relabel") (relabel_event names args) (relabel_spelled names args)) (λ no1.
    if_ok is (bytes_eq word (codes "leave")) _ _ (known (codes "leave") _ (of_read (of (codes "leave")) (λ m. IsMember names args m.0 m.1) (member_named names args) (λ m. event.Leave m.0 m.1) (member_spelled names args) (λ m it. says (codes "leave" ∷ args) (codes "leave") args (λ a. IsMember names a m.0 m.1) refl it))) (λ no2.
    if_ok is (bytes_eq word (codes "join")) _ _ (known (codes "join") _ (of_read (of (codes "join")) (λ m. IsMember names args m.0 m.1) (member_named names args) (λ m. event.Join m.0 m.1) (member_spelled names args) (λ m it. says (codes "join" ∷ args) (codes "join") args (λ a. IsMember names a m.0 m.1) refl it))) (λ no3. tt)))
  where
    of : List ℕ → Event → Type 0
    of key = IsEvent names (key ∷ args)

    is : Event → Type 0
    is = of word

    known : (key : List ℕ) (read : Result Event TextFault) → IfOk read (IsEvent names (key ∷ args)) → bytes_eq word key ≡ true → IfOk read (IsEvent names (word ∷ args))
    known key read spelled same = subst (λ (w : List ℕ). IfOk read (IsEvent names (w ∷ args))) (sym ((bytes_eq-Decides word key).0 same)) spelled

event_spelled : (names : List (List ℕ)) (word : List ℕ) (args : List (List ℕ)) → IfOk (event_line names word args) (IsEvent names (word ∷ args))
unfolding event_line
event_spelled names word args =
    if_ok is (bytes_eq word (codes "inject")) _ _ (known (codes "inject") (inject_event names args) (inject_spelled names args)) (λ no1.
    if_ok is (bytes_eq word (codes "take")) _ _ (known (codes "take") _ (of_read (of (codes "take")) (λ f. IsFrame names args f.0 f.1 f.2) (frame_named names args) (λ f. event.Take f.0 f.1 f.2) (frame_spelled names args) (λ f it. says (codes "take" ∷ args) (codes "take") args (λ a. IsFrame names a f.0 f.1 f.2) refl it))) (λ no2.
    if_ok is (bytes_eq word (codes "lose")) _ _ (known (codes "lose") _ (of_read (of (codes "lose")) (λ f. IsFrame names args f.0 f.1 f.2) (frame_named names args) (λ f. event.Lose f.0 f.1 f.2) (frame_spelled names args) (λ f it. says (codes "lose" ∷ args) (codes "lose") args (λ a. IsFrame names a f.0 f.1 f.2) refl it))) (λ no3.
    if_ok is (bytes_eq word (codes "again")) _ _ (known (codes "again") _ (of_read (of (codes "again")) (λ f. IsFrame names args f.0 f.1 f.2) (frame_named names args) (λ f. event.Again f.0 f.1 f.2) (frame_spelled names args) (λ f it. says (codes "again" ∷ args) (codes "again") args (λ a. IsFrame names a f.0 f.1 f.2) refl it))) (λ no4.
    if_ok is (bytes_eq word (codes "down")) _ _ (known (codes "down") _ (of_read (of (codes "down")) (λ l. IsLink names args l.0 l.1) (link_named names args) (λ l. event.Down l.0 l.1) (link_spelled names args) (λ l it. says (codes "down" ∷ args) (codes "down") args (λ a. IsLink names a l.0 l.1) refl it))) (λ no5.
    if_ok is (bytes_eq word (codes "up")) _ _ (known (codes "up") _ (of_read (of (codes "up")) (λ l. IsLink names args l.0 l.1) (link_named names args) (λ l. event.Up l.0 l.1) (link_spelled names args) (λ l it. says (codes "up" ∷ args) (codes "up") args (λ a. IsLink names a l.0 l.1) refl it))) (λ no6.
    if_ok is (bytes_eq word (codes "send")) _ _ (known (codes "send") _ (of_read (of (codes "send")) (λ l. IsLink names args l.0 l.1) (link_named names args) (λ l. event.Send l.0 l.1) (link_spelled names args) (λ l it. says (codes "send" ∷ args) (codes "send") args (λ a. IsLink names a l.0 l.1) refl it))) (λ no7.
    if_ok is (bytes_eq word (codes "tick")) _ _ (known (codes "tick") _ (of_read (of (codes "tick")) (IsOne names args) (router_named names args) event.Tick (one_spelled names args) (λ r it. says (codes "tick" ∷ args) (codes "tick") args (λ a. IsOne names a r) refl it))) (λ no8.
    if_ok is (bytes_eq word (codes "restart")) _ _ (known (codes "restart") _ (of_read (of (codes "restart")) (IsOne names args) (router_named names args) event.Restart (one_spelled names args) (λ r it. says (codes "restart" ∷ args) (codes "restart") args (λ a. IsOne names a r) refl it))) (λ no9. change_spelled names word args)))))))))
  where
    of : List ℕ → Event → Type 0
    of key = IsEvent names (key ∷ args)

    is : Event → Type 0
    is = of word

    known : (key : List ℕ) (read : Result Event TextFault) → IfOk read (IsEvent names (key ∷ args)) → bytes_eq word key ≡ true → IfOk read (IsEvent names (word ∷ args))
    known key read spelled same = subst (λ (w : List ℕ). IfOk read (IsEvent names (w ∷ args))) (sym ((bytes_eq-Decides word key).0 same)) spelled

settle_spelled : (names args : List (List ℕ)) → IfOk (settle_line args) (IsSaid names (codes "settle" ∷ args))
unfolding settle_line
settle_spelled names args =
    count_ok is 1 args _ (λ count. first_ok is Number (number_to MOST_ROUNDS) args _ (λ word more rounds are number.
    record {
      args = args;
      words_are = refl;
      are = record { word = word; args_are = are ∙ ap (λ (l : List (List ℕ)). word ∷ l) (none_left more (omega (arith, count, ap length are))); is_number = number_is MOST_ROUNDS word rounds number };
    }))
  where
    is : Line → Type 0
    is = IsSaid names (codes "settle" ∷ args)

words_spelled : (names : List (List ℕ)) (word : List ℕ) (args : List (List ℕ)) → IfOk (schedule_words names word args) (IsSaid names (word ∷ args))
unfolding schedule_words
words_spelled names word args =
    if_ok is (bytes_eq word (codes "settle")) _ _ (λ same. subst (λ (w : List ℕ). IfOk (settle_line args) (IsSaid names (w ∷ args))) (sym ((bytes_eq-Decides word (codes "settle")).0 same)) (settle_spelled names args)) (λ other.
    one (event_line names word args) (event_spelled names word args))
  where
    is : Line → Type 0
    is = IsSaid names (word ∷ args)

    one : (read : Result Event TextFault) → IfOk read (IsEvent names (word ∷ args)) → IfOk (read >>= (λ e. Ok (line.One e))) is
    one (Ok e) spelled = spelled
    one (Err fault) spelled = tt

line_spelled : (text : List ℕ) (names : List (List ℕ)) → IfOk (schedule_line text names) (IsScheduleLine names text)
unfolding schedule_line
line_spelled text names =
    if_ok (IsScheduleLine names text) (ltb LINE_LIMIT (length text)) _ _ (λ long. tt) (λ short.
    if_ok (IsScheduleLine names text) (is_comment text) _ _ (λ yes. record { short = ltb-false LINE_LIMIT (length text) short; says = inl (yes, refl) }) (λ no.
    lift (line_of_words names (words_of text)) (words (words_of text)) (λ said is. record { short = ltb-false LINE_LIMIT (length text) short; says = inr (no, is) })))
  where
    words : (ws : List (List ℕ)) → IfOk (line_of_words names ws) (IsSaid names ws)
    words [] = refl
    words (word ∷ args) = words_spelled names word args

    lift : (r : Result Line TextFault) → IfOk r (IsSaid names (words_of text)) → ((said : Line) → IsSaid names (words_of text) said → IsScheduleLine names text said) → IfOk r (IsScheduleLine names text)
    lift (Ok said) is each = each said is
    lift (Err e) is each = tt

-- ---- what the grammar says is read

one_back : (names args : List (List ℕ)) (router : ℕ) → IsOne names args router → router_named names args ≡ Ok router
unfolding router_named
one_back names args router is = rw (is.args_are, is.named) refl

link_back : (names args : List (List ℕ)) (from to : ℕ) → IsLink names args from to → link_named names args ≡ Ok (from, to)
unfolding link_named
link_back names args from to is = rw (is.args_are, is.first_named, is.second_named) refl

frame_back : (names args : List (List ℕ)) (from to i : ℕ) → IsFrame names args from to i → frame_named names args ≡ Ok (from, to, i)
unfolding frame_named
frame_back names args from to i is = rw (is.args_are, is.first_named, is.second_named, number_back 4294967295 is.place i is.is_place) refl

member_back : (names args : List (List ℕ)) (router sd : ℕ) → IsMember names args router sd → member_named names args ≡ Ok (router, sd)
unfolding member_named
member_back names args router sd is = rw (is.args_are, is.named, number_back 255 is.subdomain sd is.is_subdomain) refl

relabel_back : (names args : List (List ℕ)) (router sd : ℕ) (bsl : Bsl) (label : ℕ) → IsRelabelling names args router sd bsl label → relabel_event names args ≡ Ok (event.Relabel router sd bsl label)
unfolding relabel_event
relabel_back names args router sd bsl label is =
    rw (is.args_are, is.named, number_back 255 is.subdomain sd is.is_subdomain, length_back is.bits bsl is.is_length, from_back 16 LAST_LABEL is.digits label is.is_label) refl

inject_back : (names args : List (List ℕ)) (router sd : ℕ) (bsl : Bsl) (ids : List ℕ) (ttl entropy : ℕ) (payload : List ℕ) → IsInjection names args router sd bsl ids ttl entropy payload
    → inject_event names args ≡ Ok (event.Inject router sd bsl ids ttl entropy payload)
unfolding inject_event
inject_back names args router sd bsl ids ttl entropy payload is =
    rw (
      is.args_are,
      is.named,
      number_back 255 is.subdomain sd is.is_subdomain,
      length_back is.bits bsl is.is_length,
      is.listed,
      id_back 255 is.hops ttl is.is_ttl.number is.is_ttl.above is.is_ttl.within,
      number_back 1048575 is.flow entropy is.is_entropy,
      is.spelled,
    ) refl

event_back : (names : List (List ℕ)) (words : List (List ℕ)) (e : Event) → IsEvent names words e → line_of_words names words ≡ Ok (line.One e)
unfolding schedule_words event_line change_line
event_back names words (event.Inject router sd bsl ids ttl entropy payload) is = ap (line_of_words names) is.words_are ∙ rw (inject_back names is.args router sd bsl ids ttl entropy payload is.are) refl
event_back names words (event.Take from to i) is = ap (line_of_words names) is.words_are ∙ rw (frame_back names is.args from to i is.are) refl
event_back names words (event.Lose from to i) is = ap (line_of_words names) is.words_are ∙ rw (frame_back names is.args from to i is.are) refl
event_back names words (event.Again from to i) is = ap (line_of_words names) is.words_are ∙ rw (frame_back names is.args from to i is.are) refl
event_back names words (event.Down from to) is = ap (line_of_words names) is.words_are ∙ rw (link_back names is.args from to is.are) refl
event_back names words (event.Up from to) is = ap (line_of_words names) is.words_are ∙ rw (link_back names is.args from to is.are) refl
event_back names words (event.Send from to) is = ap (line_of_words names) is.words_are ∙ rw (link_back names is.args from to is.are) refl
event_back names words (event.Tick router) is = ap (line_of_words names) is.words_are ∙ rw (one_back names is.args router is.are) refl
event_back names words (event.Restart router) is = ap (line_of_words names) is.words_are ∙ rw (one_back names is.args router is.are) refl
event_back names words (event.Relabel router sd bsl label) is = ap (line_of_words names) is.words_are ∙ rw (relabel_back names is.args router sd bsl label is.are) refl
event_back names words (event.Leave router sd) is = ap (line_of_words names) is.words_are ∙ rw (member_back names is.args router sd is.are) refl
event_back names words (event.Join router sd) is = ap (line_of_words names) is.words_are ∙ rw (member_back names is.args router sd is.are) refl

settle_back : (args : List (List ℕ)) (rounds : ℕ) → IsRounds args rounds → settle_line args ≡ Ok (line.Settle rounds)
unfolding settle_line
settle_back args rounds is = rw (is.args_are, number_back MOST_ROUNDS is.word rounds is.is_number) refl

said_back : (names words : List (List ℕ)) (said : Line) → IsSaid names words said → line_of_words names words ≡ Ok said
unfolding schedule_words
said_back names words line.Empty is = ap (line_of_words names) is
said_back names words (line.One e) is = event_back names words e is
said_back names words (line.Settle rounds) is = ap (line_of_words names) is.words_are ∙ settle_back is.args rounds is.are

pub line_back : (names : List (List ℕ)) (text : List ℕ) (said : Line) → IsScheduleLine names text said → schedule_line text names ≡ Ok said
unfolding schedule_line
line_back names text said is =
    ap (λ (b : Bool). cond b (Err LineLong) (cond (is_comment text) (Ok line.Empty) (line_of_words names (words_of text)))) (le-ltb LINE_LIMIT (length text) is.short)
    ∙ elim is.says [
      | inl comment ↦ ap (λ (b : Bool). cond b (Ok line.Empty) (line_of_words names (words_of text))) comment.0 ∙ ap (λ (l : Line). Ok l) (sym comment.1)
      | inr words ↦ ap (λ (b : Bool). cond b (Ok line.Empty) (line_of_words names (words_of text))) words.0 ∙ said_back names (words_of text) said words.1
    ]

-- ---- the two laws, of a call's answer

pub found : (result : Result Line TextFault) (text : List ℕ) (names : List (List ℕ)) → Gives (λ said. said) result (schedule_line text names) → IfOk result (IsScheduleLine names text)
found (Ok said) text names gives = subst (λ (r : Result Line TextFault). IfOk r (IsScheduleLine names text)) gives (line_spelled text names)
found (Err e) text names gives = tt

pub only : (result : Result Line TextFault) (text : List ℕ) (names : List (List ℕ)) → Gives (λ said. said) result (schedule_line text names) → (said : Line) → IsScheduleLine names text said → Gives (λ said. said) result (Ok said)
only result text names gives said is = subst (λ (r : Result Line TextFault). Gives (λ said. said) result r) (line_back names text said is) gives
