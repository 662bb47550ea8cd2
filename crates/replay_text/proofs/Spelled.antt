-- What is read of a line is what the grammar says, and the other way round.
use Rattle.std.proofs.Common.{◌≡◌, ℕ, ◌≤◌, Bool, true, false, cond, ltb, List, [], ◌∷◌, length, Option, Some, None, Result, Ok, Err, refl, sym, ap, subst, ◌∙◌, arith, inl, inr}
use Rattle.std.specs.Prelude.{IfOk, is_some, codes, option_and_then}
use Rattle.std.specs.Str.{bytes_eq}
use Rattle.std.proofs.lemmas.Bool.{cases_Bool, cases_eq, eq-eqb, ne_eqb, le-ltb, ltb-false}
use Rattle.std.proofs.lemmas.Slice.Eq.{bytes_eq-Decides}
use Rattle.wire_base.specs.declared.limits.TheConstants.{LINE_LIMIT}
use Rattle.wire_base.specs.declared.bsl.Bsl.{Bsl}
use Rattle.wire_base.specs.declared.bsl.Bsl.TheVariants as lengths
use Rattle.wire_base.specs.model.Place.{bits_of, bsl_with}
use Rattle.wire_base.specs.model.Fields.{◌>>=◌}
use Rattle.bier_bits.specs.Any.{any_of, bsl_of, positions_of}
use Rattle.bier_bits.specs.declared.any.AnyBits.{AnyBits}
use Rattle.replay_text.proofs.IdLists.{any_itself}
use Rattle.replay_text.specs.declared.fault.TextFault.{TextFault}
use Rattle.replay_text.specs.declared.fault.TextFault.TheVariants.{Word, Number, Name, LineLong}
use Rattle.replay_text.specs.declared.hop.HopState.{HopState}
use Rattle.replay_text.specs.declared.hop.HopLine.{HopLine}
use Rattle.replay_text.specs.declared.hop.HopLine.TheVariants as says
use Rattle.replay_text.specs.Reading.{or_fault, Gives}
use Rattle.replay_text.specs.Pieces.{words_of, only_word, two_words}
use Rattle.wire_base.specs.model.Configuration.{is_name}
use Rattle.replay_text.specs.Tokens.{number_of}
use Rattle.replay_text.specs.Ids.{id_of, in_range, ids_of}
use Rattle.replay_text.specs.Hop.{hop_line, line_of_words, words_line, length_line, length_of, length_said, own_line, own_in, row_line, packet_line, for_own, for_rows, has_row, is_comment}
use Rattle.replay_text.specs.Grammar.{IsPacket, IsSaid, IsLine}

-- ---- steps

pub if_ok : {X : Type 0} (P : X → Type 0) (b : Bool) (x y : Result X TextFault) → (b ≡ true → IfOk x P) → (b ≡ false → IfOk y P) → IfOk (cond b x y) P
if_ok P true x y first second = first refl
if_ok P false x y first second = second refl

pub then_ok : {X Y : Type 0} (P : Y → Type 0) (x : Result X TextFault) (f : X → Result Y TextFault) → ((v : X) → x ≡ Ok v → IfOk (f v) P) → IfOk (x >>= f) P
then_ok P (Ok v) f each = each v refl
then_ok P (Err e) f each = tt

pub some_of : {X : Type 0} (fault : TextFault) (o : Option X) (x : X) → or_fault fault o ≡ Ok x → o ≡ Some x
some_of fault None x e = absurd cc
some_of fault (Some y) x e = cc

only_of : (words : List (List ℕ)) (word : List ℕ) → only_word words ≡ Some word → words ≡ word ∷ []
only_of [] word e = absurd cc
only_of (first ∷ []) word e = ap (λ (w : List ℕ). w ∷ []) cc
only_of (first ∷ next ∷ more) word e = absurd cc

two_of : (words : List (List ℕ)) (first second : List ℕ) → two_words words ≡ Some (first, second) → words ≡ first ∷ second ∷ []
two_of [] first second e = absurd cc
two_of (a ∷ []) first second e = absurd cc
two_of (a ∷ b ∷ []) first second e = ap (λ (both : List ℕ × List ℕ). both.0 ∷ both.1 ∷ []) (is (a, b) (first, second) e)
  where
    is : (x y : List ℕ × List ℕ) → Some x ≡ Some y → x ≡ y
    is x y e = cc
two_of (a ∷ b ∷ c ∷ more) first second e = absurd cc

pub bits_are : (n : ℕ) (bsl : Bsl) → bsl_with n ≡ Some bsl → n ≡ bits_of bsl
bits_are n bsl e = elim (cases_eq n 64) [
  | inl is ↦ is ∙ ap bits_of (same lengths.B64 bsl (rw (eq-eqb n 64 is) at e))
  | inr not64 ↦ elim (cases_eq n 128) [
    | inl is ↦ is ∙ ap bits_of (same lengths.B128 bsl (rw (ne_eqb n 64 not64, eq-eqb n 128 is) at e))
    | inr not128 ↦ elim (cases_eq n 256) [
      | inl is ↦ is ∙ ap bits_of (same lengths.B256 bsl (rw (ne_eqb n 64 not64, ne_eqb n 128 not128, eq-eqb n 256 is) at e))
      | inr not256 ↦ elim (cases_eq n 512) [
        | inl is ↦ is ∙ ap bits_of (same lengths.B512 bsl (rw (ne_eqb n 64 not64, ne_eqb n 128 not128, ne_eqb n 256 not256, eq-eqb n 512 is) at e))
        | inr not512 ↦ elim (cases_eq n 1024) [
          | inl is ↦ is ∙ ap bits_of (same lengths.B1024 bsl (rw (ne_eqb n 64 not64, ne_eqb n 128 not128, ne_eqb n 256 not256, ne_eqb n 512 not512, eq-eqb n 1024 is) at e))
          | inr not1024 ↦ elim (cases_eq n 2048) [
            | inl is ↦ is ∙ ap bits_of (same lengths.B2048 bsl (rw (ne_eqb n 64 not64, ne_eqb n 128 not128, ne_eqb n 256 not256, ne_eqb n 512 not512, ne_eqb n 1024 not1024, eq-eqb n 2048 is) at e))
            | inr not2048 ↦ elim (cases_eq n 4096) [
              | inl is ↦ is ∙ ap bits_of (same lengths.B4096 bsl (rw (ne_eqb n 64 not64, ne_eqb n 128 not128, ne_eqb n 256 not256, ne_eqb n 512 not512, ne_eqb n 1024 not1024, ne_eqb n 2048 not2048, eq-eqb n 4096 is) at e))
              | inr not4096 ↦ absurd (none bsl (rw (ne_eqb n 64 not64, ne_eqb n 128 not128, ne_eqb n 256 not256, ne_eqb n 512 not512, ne_eqb n 1024 not1024, ne_eqb n 2048 not2048, ne_eqb n 4096 not4096) at e))
            ]
          ]
        ]
      ]
    ]
  ]
]
  where
    same : (a b : Bsl) → Some a ≡ Some b → a ≡ b
    same a b e = cc

    none : (b : Bsl) → None ≡ Some b → ⊥
    none b e = cc

pub with_bits : (bsl : Bsl) → bsl_with (bits_of bsl) ≡ Some bsl
with_bits lengths.B64 = refl
with_bits lengths.B128 = refl
with_bits lengths.B256 = refl
with_bits lengths.B512 = refl
with_bits lengths.B1024 = refl
with_bits lengths.B2048 = refl
with_bits lengths.B4096 = refl

any_is : (bsl : Bsl) (ids : List ℕ) → (bsl_of (any_of bsl ids) ≡ bsl) × (positions_of (any_of bsl ids) ≡ ids)
any_is lengths.B64 ids = (refl, refl)
any_is lengths.B128 ids = (refl, refl)
any_is lengths.B256 ids = (refl, refl)
any_is lengths.B512 ids = (refl, refl)
any_is lengths.B1024 ids = (refl, refl)
any_is lengths.B2048 ids = (refl, refl)
any_is lengths.B4096 ids = (refl, refl)

none_of : {X : Type 0} (o : Option X) → is_some o ≡ false → o ≡ None
none_of None e = refl
none_of (Some x) e = absurd cc

own_from : (own : Option ℕ) (known : Option Bsl) (bsl : Bsl) → cond (is_some own) (Err Word) (or_fault Word known) ≡ Ok bsl → (own ≡ None) × (known ≡ Some bsl)
own_from (Some n) known bsl e = absurd cc
own_from None known bsl e = (refl, some_of Word known bsl e)

rows_from : (own : Option ℕ) (known : Option Bsl) (bsl : Bsl) → cond (is_some own) (or_fault Word known) (Err Word) ≡ Ok bsl → (is_some own ≡ true) × (known ≡ Some bsl)
rows_from None known bsl e = absurd cc
rows_from (Some n) known bsl e = (refl, some_of Word known bsl e)

pub id_is : (bound : ℕ) (text : List ℕ) (id : ℕ) → id_of bound text ≡ Some id → (number_of text ≡ Some id) × ((1 ≤ id) × (id ≤ bound))
unfolding id_of
id_is bound text id e = go (number_of text) e
  where
    within : (n : ℕ) → in_range bound n ≡ Some id → (n ≡ id) × ((1 ≤ id) × (id ≤ bound))
    within n e = elim (cases_eq n 0) [
      | inl zero ↦ absurd (no (rw (eq-eqb n 0 zero) at e))
      | inr some ↦ elim (cases_Bool (ltb bound n)) [
        | inl over ↦ absurd (no (rw (ne_eqb n 0 some, over) at e))
        | inr fits ↦
            let same : n ≡ id = is (rw (ne_eqb n 0 some, fits) at e) in
            (same, (omega (arith, same, some), omega (arith, same, ltb-false bound n fits)))
      ]
    ]
      where
        no : None ≡ Some id → ⊥
        no e = cc

        is : Some n ≡ Some id → n ≡ id
        is e = cc

    go : (o : Option ℕ) → option_and_then (in_range bound) o ≡ Some id → (o ≡ Some id) × ((1 ≤ id) × (id ≤ bound))
    go None e = absurd cc
    go (Some n) e = let it = within n e in (ap (λ (k : ℕ). Some k) it.0, it.1)

-- ---- what is read is what the grammar says

length_spelled : (state : HopState) (args : List (List ℕ)) → IfOk (length_line state args) (IsSaid state (codes "bsl" ∷ args))
unfolding length_line
length_spelled state args =
    then_ok said (or_fault Word (only_word args)) _ (λ text one. if_ok said (is_some state.bsl) _ _ (λ known. tt) (λ free. then_ok said (or_fault Number (number_of text)) length_of (λ n number.
    go text n (some_of Word (only_word args) text one) (none_of state.bsl free) (some_of Number (number_of text) n number) (bsl_with n) refl)))
  where
    said : HopLine → Type 0
    said = IsSaid state (codes "bsl" ∷ args)

    go : (text : List ℕ) (n : ℕ) → only_word args ≡ Some text → state.bsl ≡ None → number_of text ≡ Some n → (o : Option Bsl) → bsl_with n ≡ o → IfOk (length_said o) said
    go text n one free number None e = tt
    go text n one free number (Some bsl) e = record {
      text = text;
      words_are = ap (λ (ws : List (List ℕ)). codes "bsl" ∷ ws) (only_of args text one);
      number = number ∙ ap (λ (k : ℕ). Some k) (bits_are n bsl e);
      first = free;
    }

own_spelled : (state : HopState) (args : List (List ℕ)) → IfOk (own_line state args) (IsSaid state (codes "self" ∷ args))
unfolding own_line
own_spelled state args =
    then_ok said (or_fault Word (only_word args)) _ (λ text one. then_ok said (for_own state) _ (λ bsl for. then_ok said (or_fault Number (number_of text)) _ (λ n number. if_ok said (ltb (bits_of bsl) n) _ _ (λ over. tt) (λ fits. record {
      text = text;
      words_are = ap (λ (ws : List (List ℕ)). codes "self" ∷ ws) (only_of args text (some_of Word (only_word args) text one));
      number = some_of Number (number_of text) n number;
      bsl = bsl;
      after = (own_from state.own state.bsl bsl for).1;
      within = ltb-false (bits_of bsl) n fits;
      once = (own_from state.own state.bsl bsl for).0;
    }))))
  where
    said : HopLine → Type 0
    said = IsSaid state (codes "self" ∷ args)

row_spelled : (state : HopState) (args : List (List ℕ)) → IfOk (row_line state args) (IsSaid state (codes "row" ∷ args))
unfolding row_line
row_spelled state args =
    then_ok said (or_fault Word (two_words args)) _ (λ texts two. then_ok said (for_rows state) _ (λ bsl for. if_ok said state.packets _ _ (λ late. tt) (λ before. then_ok said (or_fault Number (id_of (bits_of bsl) texts.0)) _ (λ id is.
    if_ok said (has_row state.rows id) _ _ (λ again. tt) (λ new. if_ok said (is_name texts.1) _ _ (λ named. record {
      text = texts.0;
      words_are = ap (λ (ws : List (List ℕ)). codes "row" ∷ ws) (two_of args texts.0 texts.1 (some_of Word (two_words args) texts two));
      number = (id_is (bits_of bsl) texts.0 id (some_of Number (id_of (bits_of bsl) texts.0) id is)).0;
      bsl = bsl;
      after = (rows_from state.own state.bsl bsl for).1;
      own_known = (rows_from state.own state.bsl bsl for).0;
      before_packets = before;
      above = (id_is (bits_of bsl) texts.0 id (some_of Number (id_of (bits_of bsl) texts.0) id is)).1.0;
      within = (id_is (bits_of bsl) texts.0 id (some_of Number (id_of (bits_of bsl) texts.0) id is)).1.1;
      unique = new;
      named = named;
    }) (λ other. tt))))))
  where
    said : HopLine → Type 0
    said = IsSaid state (codes "row" ∷ args)

packet_spelled : (state : HopState) (args : List (List ℕ)) → IfOk (packet_line state args) (IsSaid state (codes "packet" ∷ args))
unfolding packet_line
packet_spelled state args =
    then_ok said (or_fault Word (only_word args)) _ (λ text one. then_ok said (for_rows state) _ (λ bsl for. then_ok said (or_fault Number (ids_of (bits_of bsl) text)) _ (λ ids spelled. as_bits bsl ids (record {
      text = text;
      words_are = ap (λ (ws : List (List ℕ)). codes "packet" ∷ ws) (only_of args text (some_of Word (only_word args) text one));
      after = (rows_from state.own state.bsl bsl for).1;
      own_known = (rows_from state.own state.bsl bsl for).0;
      spelled = some_of Number (ids_of (bits_of bsl) text) ids spelled;
    }))))
  where
    said : HopLine → Type 0
    said = IsSaid state (codes "packet" ∷ args)

    as_bits : (bsl : Bsl) (ids : List ℕ) → IsPacket state (codes "packet" ∷ args) bsl ids → said (says.Packet (any_of bsl ids))
    as_bits bsl ids is =
        let any = any_is bsl ids in
        subst (λ (b : Bsl). IsPacket state (codes "packet" ∷ args) b (positions_of (any_of bsl ids))) (sym any.0) (subst (IsPacket state (codes "packet" ∷ args) bsl) (sym any.1) is)

words_spelled : (state : HopState) (word : List ℕ) (args : List (List ℕ)) → IfOk (words_line state word args) (IsSaid state (word ∷ args))
unfolding words_line
words_spelled state word args =
    if_ok said (bytes_eq word (codes "bsl")) _ _ (is (codes "bsl") (length_line state args) (length_spelled state args)) (λ no1.
    if_ok said (bytes_eq word (codes "self")) _ _ (is (codes "self") (own_line state args) (own_spelled state args)) (λ no2.
    if_ok said (bytes_eq word (codes "row")) _ _ (is (codes "row") (row_line state args) (row_spelled state args)) (λ no3.
    if_ok said (bytes_eq word (codes "packet")) _ _ (is (codes "packet") (packet_line state args) (packet_spelled state args)) (λ no4. tt))))
  where
    said : HopLine → Type 0
    said = IsSaid state (word ∷ args)

    is : (key : List ℕ) (read : Result HopLine TextFault) → IfOk read (IsSaid state (key ∷ args)) → bytes_eq word key ≡ true → IfOk read said
    is key read spelled same = subst (λ (w : List ℕ). IfOk read (IsSaid state (w ∷ args))) (sym ((bytes_eq-Decides word key).0 same)) spelled

pub line_spelled : (text : List ℕ) (state : HopState) → IfOk (hop_line text state) (IsLine state text)
unfolding hop_line
line_spelled text state =
    if_ok (IsLine state text) (ltb LINE_LIMIT (length text)) _ _ (λ long. tt) (λ short.
    if_ok (IsLine state text) (is_comment text) _ _ (λ yes. record { short = ltb-false LINE_LIMIT (length text) short; says = inl (yes, refl) }) (λ no.
    lift (line_of_words state (words_of text)) (words (words_of text)) (λ said is. record { short = ltb-false LINE_LIMIT (length text) short; says = inr (no, is) })))
  where
    words : (ws : List (List ℕ)) → IfOk (line_of_words state ws) (IsSaid state ws)
    words [] = refl
    words (word ∷ args) = words_spelled state word args

    lift : (r : Result HopLine TextFault) → IfOk r (IsSaid state (words_of text)) → ((said : HopLine) → IsSaid state (words_of text) said → IsLine state text said) → IfOk r (IsLine state text)
    lift (Ok said) is each = each said is
    lift (Err e) is each = tt

-- ---- what the grammar says is read

length_back : (state : HopState) (text : List ℕ) (bsl : Bsl) → number_of text ≡ Some (bits_of bsl) → state.bsl ≡ None → length_line state (text ∷ []) ≡ Ok (says.Length bsl)
unfolding length_line
length_back state text bsl number first =
    ap (λ (o : Option Bsl). cond (is_some o) (Err Word) (or_fault Number (number_of text) >>= length_of)) first
    ∙ ap (λ (o : Option ℕ). or_fault Number o >>= length_of) number
    ∙ ap length_said (with_bits bsl)

own_for : (state : HopState) (bsl : Bsl) → state.own ≡ None → state.bsl ≡ Some bsl → for_own state ≡ Ok bsl
own_for state bsl once after = ap (λ (o : Option ℕ). cond (is_some o) (Err Word) (or_fault Word state.bsl)) once ∙ ap (or_fault Word) after

rows_for : (state : HopState) (bsl : Bsl) → is_some state.own ≡ true → state.bsl ≡ Some bsl → for_rows state ≡ Ok bsl
rows_for state bsl known after = ap (λ (b : Bool). cond b (or_fault Word state.bsl) (Err Word)) known ∙ ap (or_fault Word) after

own_back : (state : HopState) (text : List ℕ) (bsl : Bsl) (own : ℕ) → number_of text ≡ Some own → state.bsl ≡ Some bsl → own ≤ bits_of bsl → state.own ≡ None → own_line state (text ∷ []) ≡ Ok (says.Own own)
unfolding own_line
own_back state text bsl own number after within once =
    ap (λ (r : Result Bsl TextFault). r >>= (λ bsl. or_fault Number (number_of text) >>= (λ n. own_in (bits_of bsl) n))) (own_for state bsl once after)
    ∙ ap (λ (o : Option ℕ). or_fault Number o >>= (λ n. own_in (bits_of bsl) n)) number
    ∙ ap (λ (b : Bool). cond b (Err Number) (Ok (says.Own own))) (le-ltb (bits_of bsl) own within)

pub id_back : (bound : ℕ) (text : List ℕ) (id : ℕ) → number_of text ≡ Some id → 1 ≤ id → id ≤ bound → id_of bound text ≡ Some id
unfolding id_of
id_back bound text id number above within =
    ap (option_and_then (in_range bound)) number ∙ rw (ne_eqb id 0 (λ e. omega arith), le-ltb bound id within) refl

packet_back : (state : HopState) (text : List ℕ) (bsl : Bsl) (ids : List ℕ) → state.bsl ≡ Some bsl → is_some state.own ≡ true → ids_of (bits_of bsl) text ≡ Some ids → packet_line state (text ∷ []) ≡ Ok (says.Packet (any_of bsl ids))
unfolding packet_line
packet_back state text bsl ids after known spelled =
    ap (λ (r : Result Bsl TextFault). r >>= (λ bsl. or_fault Number (ids_of (bits_of bsl) text) >>= (λ ids. Ok (says.Packet (any_of bsl ids))))) (rows_for state bsl known after)
    ∙ ap (λ (o : Option (List ℕ)). or_fault Number o >>= (λ ids. Ok (says.Packet (any_of bsl ids)))) spelled

row_back : (state : HopState) (text name : List ℕ) (bsl : Bsl) (id : ℕ) → number_of text ≡ Some id → state.bsl ≡ Some bsl → is_some state.own ≡ true → state.packets ≡ false → 1 ≤ id → id ≤ bits_of bsl → has_row state.rows id ≡ false → is_name name ≡ true
    → row_line state (text ∷ name ∷ []) ≡ Ok (says.Row (record { id = id; name = name }))
unfolding row_line
row_back state text name bsl id number after known before above within new named =
    ap (λ (r : Result Bsl TextFault). r >>= (λ bsl. cond state.packets (Err Word) (rest bsl))) (rows_for state bsl known after)
    ∙ ap (λ (b : Bool). cond b (Err Word) (rest bsl)) before
    ∙ ap (λ (o : Option ℕ). or_fault Number o >>= (λ id. last id)) (id_back (bits_of bsl) text id number above within)
    ∙ ap (λ (b : Bool). cond b (Err Number) (cond (is_name name) (Ok (says.Row (record { id = id; name = name }))) (Err Name))) new
    ∙ ap (λ (b : Bool). cond b (Ok (says.Row (record { id = id; name = name }))) (Err Name)) named
  where
    last : ℕ → Result HopLine TextFault
    last id = cond (has_row state.rows id) (Err Number) (cond (is_name name) (Ok (says.Row (record { id = id; name = name }))) (Err Name))

    rest : Bsl → Result HopLine TextFault
    rest bsl = or_fault Number (id_of (bits_of bsl) text) >>= (λ id. last id)

said_back : (state : HopState) (words : List (List ℕ)) (said : HopLine) → IsSaid state words said → line_of_words state words ≡ Ok said
unfolding words_line
said_back state words says.Empty is = ap (line_of_words state) is
said_back state words (says.Length bsl) is = ap (line_of_words state) is.words_are ∙ length_back state is.text bsl is.number is.first
said_back state words (says.Own own) is = ap (line_of_words state) is.words_are ∙ own_back state is.text is.bsl own is.number is.after is.within is.once
said_back state words (says.Row row) is = ap (line_of_words state) is.words_are ∙ row_back state is.text row.name is.bsl row.id is.number is.after is.own_known is.before_packets is.above is.within is.unique is.named
said_back state words (says.Packet bits) is =
    ap (line_of_words state) is.words_are ∙ packet_back state is.text (bsl_of bits) (positions_of bits) is.after is.own_known is.spelled ∙ ap (λ (b : AnyBits). Ok (says.Packet b)) (any_itself bits)

pub line_back : (text : List ℕ) (state : HopState) (said : HopLine) → IsLine state text said → hop_line text state ≡ Ok said
unfolding hop_line
line_back text state said is =
    ap (λ (b : Bool). cond b (Err LineLong) (cond (is_comment text) (Ok says.Empty) (line_of_words state (words_of text)))) (le-ltb LINE_LIMIT (length text) is.short)
    ∙ elim is.says [
      | inl comment ↦ ap (λ (b : Bool). cond b (Ok says.Empty) (line_of_words state (words_of text))) comment.0 ∙ ap (λ (l : HopLine). Ok l) (sym comment.1)
      | inr words ↦ ap (λ (b : Bool). cond b (Ok says.Empty) (line_of_words state (words_of text))) words.0 ∙ said_back state (words_of text) said words.1
    ]

-- ---- the two laws, of a call's answer

pub found : (result : Result Unit TextFault) (said : HopLine) (text : List ℕ) (state : HopState) → Gives (λ _. said) result (hop_line text state) → IfOk result (λ _. IsLine state text said)
found (Ok done) said text state gives = subst (λ (r : Result HopLine TextFault). IfOk r (IsLine state text)) gives (line_spelled text state)
found (Err e) said text state gives = tt

pub only : (result : Result Unit TextFault) (said : HopLine) (text : List ℕ) (state : HopState) → Gives (λ _. said) result (hop_line text state) → (read : HopLine) → IsLine state text read → Gives (λ _. said) result (Ok read)
only result said text state gives read is = subst (λ (r : Result HopLine TextFault). Gives (λ _. said) result r) (line_back text state read is) gives
