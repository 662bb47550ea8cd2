-- What is read of an entry is its spelling, and its spelling is read again.
use Rattle.std.proofs.Common.{◌≡◌, ℕ, ◌+◌, ◌-◌, ◌≤◌, Bool, true, false, cond, ltb, List, [], ◌∷◌, ◌++◌, length, get_or, take, drop, replicate, Option, Some, None, Result, Ok, Err, refl, sym, ap, subst, ◌∙◌, append_assoc, arith}
use Rattle.std.proofs.lemmas.Bool.{ltb-false, ltb-true, le-ltb, lt-ltb}
use Rattle.std.proofs.lemmas.List.{take_at, drop_at, take-append-drop, length-append, length-drop, length-take, length-replicate, append-nil, drop-drop, drop_more}
use Rattle.byteorder.specs.Endian.{big_bytes, big_number}
use Rattle.wire_base.specs.declared.addresses.LspId.{LspId}
use Rattle.wire_base.specs.declared.triple.Summary.{Summary}
use Rattle.wire_base.specs.declared.faults.TlvFault.{TlvFault}
use Rattle.wire_base.specs.declared.faults.TlvFault.TheVariants.{Overrun, EntryShort, PrefixLen}
use Rattle.wire_base.specs.model.Fields.{AreOctets, octet_at, octets_at, number_at, counted, counted_at}
use Rattle.wire_base.specs.model.Tlv.{Tlv, tlv, tlv_at, IsOverrun, Reach, ReachFits, reach, reach_at, Prefix, PrefixFits, prefix, prefix_at, prefix_bits, prefix_octets, has_subs, padded, bits_at, subs_if, subs_if_at, NoneUnless, LspIdFits, lsp_id, lsp_id_at, SummaryFits, row, row_at}
use Rattle.laws_format.proofs.FieldLaws.{bind_ok, guard_ok, ok_is, Takes, Takes-then, octet_takes, octets_takes, octets_again, number_takes, number_again, counted_takes, counted_again, wide2, wide3, wide4, spelled_once}

-- ---- an entry of TLV 22

pub reach_takes : (octets : List ℕ) (x : Reach × List ℕ) → AreOctets octets → reach_at octets ≡ Ok x → Takes octets (reach x.0) x.1 × ReachFits x.0
unfolding reach_at
reach_takes octets x fits e =
    let a = bind_ok (octets_at EntryShort 6 octets) _ x e in
    let b = bind_ok (octet_at EntryShort a.0.1) _ x a.2 in
    let c = bind_ok (number_at EntryShort 3 b.0.1) _ x b.2 in
    let d = bind_ok (counted_at EntryShort c.0.1) _ x c.2 in
    let t0 = octets_takes EntryShort 6 octets a.0 fits a.1 in
    let t1 = octet_takes EntryShort a.0.1 b.0 t0.0.rest_fits b.1 in
    let t2 = number_takes EntryShort 3 wide3 b.0.1 c.0 t1.0.rest_fits c.1 in
    let t3 = counted_takes EntryShort c.0.1 d.0 t2.0.rest_fits d.1 in
    let e23 = Takes-then b.0.1 (big_bytes 3 c.0.0) c.0.1 (counted d.0.0) d.0.1 t2.0 t3.0 in
    let e13 = Takes-then a.0.1 (b.0.0 ∷ []) b.0.1 (big_bytes 3 c.0.0 ++ counted d.0.0) d.0.1 t1.0 e23 in
    let e03 = Takes-then octets a.0.0 a.0.1 (b.0.0 ∷ (big_bytes 3 c.0.0 ++ counted d.0.0)) d.0.1 t0.0 e13 in
    let made : Reach × List ℕ = (record { neighbour = record { 0 = a.0.0 }; pseudonode = b.0.0; metric = c.0.0; subs = d.0.0 }, d.0.1) in
    subst (λ (y : Reach × List ℕ). Takes octets (reach y.0) y.1 × ReachFits y.0) {x = made} (ok_is made x d.2) (e03, record { neighbour = t0.1; pseudonode = t1.1; metric = t2.1; subs = t3.1 })

pub reach_again : (r : Reach) (rest : List ℕ) → ReachFits r → reach_at (reach r ++ rest) ≡ Ok (r, rest)
unfolding reach_at
reach_again r rest fits =
    let regrouped : reach r ++ rest ≡ r.neighbour.0 ++ (r.pseudonode ∷ (big_bytes 3 r.metric ++ (counted r.subs ++ rest))) = simp append_assoc in
    ap reach_at regrouped ∙ rw (octets_again EntryShort 6 r.neighbour.0 (r.pseudonode ∷ (big_bytes 3 r.metric ++ (counted r.subs ++ rest))) fits.neighbour, number_again EntryShort 3 r.metric (counted r.subs ++ rest) fits.metric, counted_again EntryShort r.subs rest) refl

-- ---- an entry of TLV 135

bits_ok : (control bits : ℕ) → bits_at control ≡ Ok bits → (prefix_bits control ≤ 32) × (prefix_bits control ≡ bits)
bits_ok control bits e =
    let g = guard_ok (ltb 32 (prefix_bits control)) PrefixLen (prefix_bits control) bits e in
    (ltb-false _ _ g.0, g.1)

bits_again : (control : ℕ) → prefix_bits control ≤ 32 → bits_at control ≡ Ok (prefix_bits control)
bits_again control h = let e : ltb 32 (prefix_bits control) ≡ false = le-ltb _ _ h in rw e refl

subs_takes : (follow : Bool) (octets : List ℕ) (x : List ℕ × List ℕ) → AreOctets octets → subs_if_at follow octets ≡ Ok x → Takes octets (subs_if follow x.0) x.1 × NoneUnless follow x.0
subs_takes true octets x fits e = counted_takes EntryShort octets x fits e
subs_takes false octets x fits e = subst (λ (y : List ℕ × List ℕ). Takes octets (subs_if false y.0) y.1 × NoneUnless false y.0) (ok_is ([], octets) x e) (record { parts = refl; rest_fits = fits }, refl)

subs_again : (follow : Bool) (subs rest : List ℕ) → NoneUnless follow subs → subs_if_at follow (subs_if follow subs ++ rest) ≡ Ok (subs, rest)
subs_again true subs rest h = counted_again EntryShort subs rest
subs_again false subs rest h = ap (λ (l : List ℕ). Ok (l, rest)) (sym h)

-- the octets of a prefix, padded and cut again
cut_padded : (bare : List ℕ) (n : ℕ) → length bare ≡ n → take n (padded bare) ≡ bare
cut_padded bare n len = take_at bare (replicate (4 - length bare) 0) n len

pub prefix_takes : (octets : List ℕ) (x : Prefix × List ℕ) → AreOctets octets → prefix_at octets ≡ Ok x → Takes octets (prefix x.0) x.1 × PrefixFits x.0
unfolding prefix_at
prefix_takes octets x fits e =
    let a = bind_ok (number_at EntryShort 4 octets) _ x e in
    let b = bind_ok (octet_at EntryShort a.0.1) _ x a.2 in
    let c = bind_ok (bits_at b.0.0) _ x b.2 in
    let d = bind_ok (octets_at EntryShort (prefix_octets c.0) b.0.1) _ x c.2 in
    let f = bind_ok (subs_if_at (has_subs b.0.0) d.0.1) _ x d.2 in
    let t0 = number_takes EntryShort 4 wide4 octets a.0 fits a.1 in
    let t1 = octet_takes EntryShort a.0.1 b.0 t0.0.rest_fits b.1 in
    let n = bits_ok b.0.0 c.0 c.1 in
    let t2 = octets_takes EntryShort (prefix_octets c.0) b.0.1 d.0 t1.0.rest_fits d.1 in
    let t3 = subs_takes (has_subs b.0.0) d.0.1 f.0 t2.0.rest_fits f.1 in
    let len : length d.0.0 ≡ prefix_octets (prefix_bits b.0.0) = t2.1 ∙ ap prefix_octets (sym n.1) in
    let cut : take (prefix_octets (prefix_bits b.0.0)) (padded d.0.0) ≡ d.0.0 = cut_padded d.0.0 (prefix_octets (prefix_bits b.0.0)) len in
    let u2 : Takes b.0.1 (take (prefix_octets (prefix_bits b.0.0)) (padded d.0.0)) d.0.1 = subst (λ (l : List ℕ). Takes b.0.1 l d.0.1) (sym cut) t2.0 in
    let e23 = Takes-then b.0.1 (take (prefix_octets (prefix_bits b.0.0)) (padded d.0.0)) d.0.1 (subs_if (has_subs b.0.0) f.0.0) f.0.1 u2 t3.0 in
    let e13 = Takes-then a.0.1 (b.0.0 ∷ []) b.0.1 (take (prefix_octets (prefix_bits b.0.0)) (padded d.0.0) ++ subs_if (has_subs b.0.0) f.0.0) f.0.1 t1.0 e23 in
    let e03 = Takes-then octets (big_bytes 4 a.0.0) a.0.1 (b.0.0 ∷ (take (prefix_octets (prefix_bits b.0.0)) (padded d.0.0) ++ subs_if (has_subs b.0.0) f.0.0)) f.0.1 t0.0 e13 in
    let made : Prefix × List ℕ = (record { metric = a.0.0; control = b.0.0; octets = padded d.0.0; subs = f.0.0 }, f.0.1) in
    subst (λ (y : Prefix × List ℕ). Takes octets (prefix y.0) y.1 × PrefixFits y.0) {x = made} (ok_is made x f.2) (e03, record { metric = t0.1; control = t1.1; bits = n.0; octets = ap padded (sym cut); subs = t3.1 })

pub prefix_again : (p : Prefix) (rest : List ℕ) → PrefixFits p → prefix_at (prefix p ++ rest) ≡ Ok (p, rest)
unfolding prefix_at
prefix_again p rest fits =
    let n = prefix_octets (prefix_bits p.control) in
    let bare = take n p.octets in
    let subs = subs_if (has_subs p.control) p.subs in
    let regrouped : prefix p ++ rest ≡ big_bytes 4 p.metric ++ (p.control ∷ (bare ++ (subs ++ rest))) = simp append_assoc in
    let full : length p.octets ≡ length bare + (4 - length bare) = ap length fits.octets ∙ length-append bare (replicate (4 - length bare) 0) ∙ ap (λ (k : ℕ). length bare + k) (length-replicate (4 - length bare) 0) in
    let cut : length bare ≡ n = let bits = fits.bits in omega (arith, length-take n p.octets, full) in
    let whole : padded bare ≡ p.octets = sym fits.octets in
    ap prefix_at regrouped ∙ rw (number_again EntryShort 4 p.metric (p.control ∷ (bare ++ (subs ++ rest))) fits.metric, bits_again p.control fits.bits, octets_again EntryShort n bare (subs ++ rest) cut, subs_again (has_subs p.control) p.subs rest fits.subs, whole) refl

-- ---- an identifier

pub lsp_id_takes : {E : Type 0} (fault : E) (octets : List ℕ) (x : LspId × List ℕ) → AreOctets octets → lsp_id_at fault octets ≡ Ok x → Takes octets (lsp_id x.0) x.1 × LspIdFits x.0
lsp_id_takes {E} fault octets x fits e =
    let a = bind_ok (octets_at fault 6 octets) _ x e in
    let b = bind_ok (octet_at fault a.0.1) _ x a.2 in
    let c = bind_ok (octet_at fault b.0.1) _ x b.2 in
    let t0 = octets_takes fault 6 octets a.0 fits a.1 in
    let t1 = octet_takes fault a.0.1 b.0 t0.0.rest_fits b.1 in
    let t2 = octet_takes fault b.0.1 c.0 t1.0.rest_fits c.1 in
    let e12 = Takes-then a.0.1 (b.0.0 ∷ []) b.0.1 (c.0.0 ∷ []) c.0.1 t1.0 t2.0 in
    let e02 = Takes-then octets a.0.0 a.0.1 (b.0.0 ∷ c.0.0 ∷ []) c.0.1 t0.0 e12 in
    let made : LspId × List ℕ = (record { system = record { 0 = a.0.0 }; pseudonode = b.0.0; fragment = c.0.0 }, c.0.1) in
    subst (λ (y : LspId × List ℕ). Takes octets (lsp_id y.0) y.1 × LspIdFits y.0) {x = made} (ok_is {E = E} made x c.2) (e02, record { system = t0.1; pseudonode = t1.1; fragment = t2.1 })

pub lsp_id_again : {E : Type 0} (fault : E) (id : LspId) (rest : List ℕ) → LspIdFits id → lsp_id_at fault (lsp_id id ++ rest) ≡ Ok (id, rest)
lsp_id_again fault id rest fits =
    let regrouped : lsp_id id ++ rest ≡ id.system.0 ++ (id.pseudonode ∷ id.fragment ∷ rest) = append_assoc id.system.0 (id.pseudonode ∷ id.fragment ∷ []) rest in
    ap (lsp_id_at fault) regrouped ∙ rw (octets_again fault 6 id.system.0 (id.pseudonode ∷ id.fragment ∷ rest) fits.system) refl

pub length_lsp_id : (id : LspId) → LspIdFits id → length (lsp_id id) ≡ 8
length_lsp_id id fits = let n = fits.system in omega (arith, n, length-append id.system.0 (id.pseudonode ∷ id.fragment ∷ []))

-- ---- an entry of TLV 9

pub row_takes : (octets : List ℕ) (x : Summary × List ℕ) → AreOctets octets → row_at octets ≡ Ok x → Takes octets (row x.0) x.1 × SummaryFits x.0
unfolding row_at
row_takes octets x fits e =
    let a = bind_ok (number_at EntryShort 2 octets) _ x e in
    let b = bind_ok (lsp_id_at EntryShort a.0.1) _ x a.2 in
    let c = bind_ok (number_at EntryShort 4 b.0.1) _ x b.2 in
    let d = bind_ok (number_at EntryShort 2 c.0.1) _ x c.2 in
    let t0 = number_takes EntryShort 2 wide2 octets a.0 fits a.1 in
    let t1 = lsp_id_takes EntryShort a.0.1 b.0 t0.0.rest_fits b.1 in
    let t2 = number_takes EntryShort 4 wide4 b.0.1 c.0 t1.0.rest_fits c.1 in
    let t3 = number_takes EntryShort 2 wide2 c.0.1 d.0 t2.0.rest_fits d.1 in
    let e23 = Takes-then b.0.1 (big_bytes 4 c.0.0) c.0.1 (big_bytes 2 d.0.0) d.0.1 t2.0 t3.0 in
    let e13 = Takes-then a.0.1 (lsp_id b.0.0) b.0.1 (big_bytes 4 c.0.0 ++ big_bytes 2 d.0.0) d.0.1 t1.0 e23 in
    let e03 = Takes-then octets (big_bytes 2 a.0.0) a.0.1 (lsp_id b.0.0 ++ (big_bytes 4 c.0.0 ++ big_bytes 2 d.0.0)) d.0.1 t0.0 e13 in
    let made : Summary × List ℕ = (record { life = a.0.0; id = b.0.0; seq = c.0.0; sum = d.0.0 }, d.0.1) in
    subst (λ (y : Summary × List ℕ). Takes octets (row y.0) y.1 × SummaryFits y.0) {x = made} (ok_is made x d.2) (e03, record { life = t0.1; id = t1.1; seq = t2.1; sum = t3.1 })

pub row_again : (s : Summary) (rest : List ℕ) → SummaryFits s → row_at (row s ++ rest) ≡ Ok (s, rest)
unfolding row_at
row_again s rest fits =
    let back = big_bytes 2 s.sum ++ rest in
    let regrouped : row s ++ rest ≡ big_bytes 2 s.life ++ (lsp_id s.id ++ (big_bytes 4 s.seq ++ back)) = simp append_assoc in
    ap row_at regrouped ∙ rw (number_again EntryShort 2 s.life (lsp_id s.id ++ (big_bytes 4 s.seq ++ back)) fits.life, lsp_id_again EntryShort s.id (big_bytes 4 s.seq ++ back) fits.id, number_again EntryShort 4 s.seq back fits.seq, number_again EntryShort 2 s.sum rest fits.sum) refl

pub length_row : (s : Summary) → SummaryFits s → length (row s) ≡ 16
length_row s fits = omega (arith, length_lsp_id s.id fits.id, length-append (lsp_id s.id) (big_bytes 4 s.seq ++ big_bytes 2 s.sum))

-- ---- a TLV

pub some_is : {A : Type 0} (x y : A) → Some x ≡ Some y → x ≡ y
some_is x y e = cc

abbrev pub Tlv-is : Option (Tlv × List ℕ) → Result (Option (Tlv × List ℕ)) TlvFault
Tlv-is x = Ok x

abbrev pub Tlv-err : TlvFault → Result (Option (Tlv × List ℕ)) TlvFault
Tlv-err f = Err f

pub tlv_again : (t : Tlv) (rest : List ℕ) → tlv_at (tlv t ++ rest) ≡ Ok (Some (t, rest))
tlv_again t rest =
    let long : ltb (length (t.value ++ rest)) (length t.value) ≡ false = le-ltb _ _ (omega (arith, length-append t.value rest)) in
    rw (long, take_at t.value rest (length t.value) refl, drop_at t.value rest (length t.value) refl) refl

pub tlv_parts : (octets : List ℕ) (t : Tlv) (rest : List ℕ) → tlv_at octets ≡ Ok (Some (t, rest)) → octets ≡ tlv t ++ rest
tlv_parts [] t rest e = let both : Tlv-is None ≡ Tlv-is (Some (t, rest)) = e in absurd cc
tlv_parts (code ∷ []) t rest e = let both : Tlv-err Overrun ≡ Tlv-is (Some (t, rest)) = e in absurd cc
tlv_parts (code ∷ n ∷ more) t rest e =
    let g = guard_ok (ltb (length more) n) Overrun (Some (record { code = code; value = take n more }, drop n more)) (Some (t, rest)) e in
    let long : n ≤ length more = ltb-false _ _ g.0 in
    let len : length (take n more) ≡ n = omega (arith, length-take n more) in
    let made : Tlv × List ℕ = (record { code = code; value = take n more }, drop n more) in
    let same : made ≡ (t, rest) = some_is made (t, rest) g.1 in
    subst (λ (x : Tlv × List ℕ). code ∷ n ∷ more ≡ tlv x.0 ++ x.1) same
    (ap (λ (l : List ℕ). code ∷ n ∷ l) (sym (take-append-drop n more)) ∙ ap (λ (k : ℕ). code ∷ k ∷ (take n more ++ drop n more)) (sym len))

pub tlv_end : (octets : List ℕ) → tlv_at octets ≡ Ok None → octets ≡ []
tlv_end [] e = refl
tlv_end (code ∷ []) e = let both : Tlv-err Overrun ≡ Tlv-is None = e in absurd cc
tlv_end (code ∷ n ∷ more) e =
    let g = guard_ok (ltb (length more) n) Overrun (Some (record { code = code; value = take n more }, drop n more)) None e in
    absurd cc

pub tlv_overruns : (octets : List ℕ) → IsOverrun octets → tlv_at octets ≡ Err Overrun
tlv_overruns [] h = absurd h
tlv_overruns (code ∷ []) h = refl
tlv_overruns (code ∷ n ∷ more) h = let short : ltb (length more) n ≡ true = lt-ltb _ _ h in rw short refl

guard_err : {A : Type 0} (b : Bool) (d f : TlvFault) (x : A) → cond b (Err d) (Ok x) ≡ Err f → b ≡ true
guard_err true d f x e = refl
guard_err false d f x e = absurd cc

pub overrun_of : (octets : List ℕ) (f : TlvFault) → tlv_at octets ≡ Err f → IsOverrun octets
overrun_of [] f e = let both : Tlv-is None ≡ Tlv-err f = e in absurd cc
overrun_of (code ∷ []) f e = tt
overrun_of (code ∷ n ∷ more) f e =
    let g = guard_err (ltb (length more) n) Overrun f (Some (record { code = code; value = take n more }, drop n more)) e in
    ltb-true _ _ g

-- the one fault of a TLV
pub only_overrun : (octets : List ℕ) (f : TlvFault) → tlv_at octets ≡ Err f → f ≡ Overrun
only_overrun octets f e =
    let both : Tlv-err f ≡ Tlv-err Overrun = sym e ∙ tlv_overruns octets (overrun_of octets f e) in
    cc

-- TLVs that are spelled alike are one
pub tlv_once : (a b : Tlv) → tlv a ≡ tlv b → a ≡ b
tlv_once a b e =
    let same : tlv_at (tlv a ++ []) ≡ tlv_at (tlv b ++ []) = ap (λ (l : List ℕ). tlv_at (l ++ [])) e in
    let both : Tlv-is (Some (a, [])) ≡ Tlv-is (Some (b, [])) = sym (tlv_again a []) ∙ same ∙ tlv_again b [] in
    ap (λ (x : Tlv × List ℕ). x.0) (some_is (a, []) (b, []) (ok_is {E = TlvFault} _ _ both))

-- ---- sixteen octets are an entry of TLV 9

sixteen : List ℕ → Summary
sixteen octets = record { life = big_number 2 octets; id = record { system = record { 0 = take 6 (drop 2 octets) }; pseudonode = get_or octets 8 0; fragment = get_or octets 9 0 }; seq = big_number 4 (drop 10 octets); sum = big_number 2 (drop 4 (drop 10 octets)) }

sixteen_read : (octets : List ℕ) → length octets ≡ 16 → row_at octets ≡ Ok (sixteen octets, drop 2 (drop 4 (drop 10 octets)))
unfolding row_at sixteen
sixteen_read octets len =
    let t0 : ltb (length octets) 2 ≡ false = le-ltb _ _ (omega arith) in
    let t1 : ltb (length (drop 2 octets)) 6 ≡ false = le-ltb _ _ (omega (arith, length-drop 2 octets)) in
    let p2 : drop 6 (drop 2 octets) ≡ get_or octets 8 0 ∷ drop 9 octets = drop-drop 6 2 octets ∙ drop_more octets 8 0 (omega arith) in
    let p3 : drop 9 octets ≡ get_or octets 9 0 ∷ drop 10 octets = drop_more octets 9 0 (omega arith) in
    let t4 : ltb (length (drop 10 octets)) 4 ≡ false = le-ltb _ _ (omega (arith, length-drop 10 octets)) in
    let t5 : ltb (length (drop 4 (drop 10 octets))) 2 ≡ false = le-ltb _ _ (omega (arith, length-drop 4 (drop 10 octets), length-drop 10 octets)) in
    rw (t0, t1, p2, p3, t4, t5) refl

nil_rest : (text rest octets : List ℕ) → length text ≡ length octets → octets ≡ text ++ rest → rest ≡ []
nil_rest text [] octets h e = refl
nil_rest text (x ∷ rest) octets h e = let l = ap length e in absurd (omega (arith, l, length-append text (x ∷ rest)))

-- what sixteen octets are read as
pub record IsRow (octets : List ℕ) (s : Summary) : Type 0 where
  pub fits : SummaryFits s
  pub spelled : octets ≡ row s
  pub read : row_at octets ≡ Ok (s, [])

pub row_whole : (octets : List ℕ) (s : Summary) (rest : List ℕ) → AreOctets octets → length octets ≡ 16 → row_at octets ≡ Ok (s, rest) → IsRow octets s
row_whole octets s rest fits len e =
    let t = row_takes octets (s, rest) fits e in
    let none : rest ≡ [] = nil_rest (row s) rest octets (length_row s t.1 ∙ sym len) t.0.parts in
    record { fits = t.1; spelled = t.0.parts ∙ ap (λ (l : List ℕ). row s ++ l) none ∙ append-nil (row s); read = e ∙ ap (λ (l : List ℕ). Ok (s, l)) none }

pub row_there : (octets : List ℕ) → AreOctets octets → length octets ≡ 16 → (s : Summary) × IsRow octets s
row_there octets fits len = (sixteen octets, row_whole octets (sixteen octets) _ fits len (sixteen_read octets len))

-- entries of TLV 9 that are spelled alike are one
pub row_once : (a b : Summary) → SummaryFits a → SummaryFits b → row a ≡ row b → a ≡ b
row_once a b fa fb e = spelled_once row_at (row a) (row b) a b (row_again a [] fa) (row_again b [] fb) e

-- ---- what was appended

pub tlv_pushed : (old new : List ℕ) (t : Tlv) → new ≡ old ++ tlv t → (rest : List ℕ) → tlv_at (drop (length old) new ++ rest) ≡ Ok (Some (t, rest))
tlv_pushed old new t e rest =
    let added : drop (length old) new ≡ tlv t = ap (λ (l : List ℕ). drop (length old) l) e ∙ drop_at old (tlv t) (length old) refl in
    ap (λ (l : List ℕ). tlv_at (l ++ rest)) added ∙ tlv_again t rest
