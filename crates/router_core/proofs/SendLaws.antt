-- The frames that a router sends, and how lists are cut into PDUs.
use Rattle.std.proofs.Common.{Option, Some, None, Result, Ok, Err, IfOk, ◌≡◌, ◌∙◌, ℕ, zero, suc, ◌+◌, ◌<◌, ◌≤◌, Bool, true, false, List, [], ◌∷◌, ◌++◌, length, get_or, take, drop, map, filter, min, slice_get, if◌then◌else◌, slice_index_or, refl, sym, ap, append_assoc, length-drop, arith}
use Rattle.std.proofs.lemmas.List.{append-nil, length-take-le, take_all, drop_all, map-append, take-map, drop-map, length-map}
use Rattle.std.proofs.lemmas.List.Folds.{flat_map-map}
use Rattle.std.specs.List.{flat_map}
use Rattle.byteorder.specs.Endian.{big_bytes}
use Rattle.wire_base.specs.declared.limits.TheConstants.{MOST_LISTED}
use Rattle.wire_base.specs.declared.addresses.LspId.{LspId}
use Rattle.wire_base.specs.declared.addresses.SystemId.{SystemId}
use Rattle.wire_base.specs.declared.conf.End.{End}
use Rattle.wire_base.specs.declared.conf.Level.{Level}
use Rattle.wire_base.specs.declared.conf.RouterConf.{RouterConf}
use Rattle.wire_base.specs.declared.effects.Sent.{Sent}
use Rattle.wire_base.specs.declared.entry.Entry.{Entry}
use Rattle.wire_base.specs.declared.triple.Summary.{Summary}
use Rattle.wire_base.specs.model.Control.{Control, Flood, srm_in, ssn_in, summary_of}
use Rattle.wire_base.specs.model.Flooding.{csnps, csnp_of, psnp_of, lsp_of, id_after, last_listed, last_id, zero_id, is_known, due_csnps, send_of, send}
use Rattle.wire_base.specs.model.Lists.{blocks, blocks_within}
use Rattle.wire_base.specs.model.OnFrame.{frames_of, framed, nothing, pdu_frame}
use Rattle.wire_base.specs.model.Pdu.{Pdu, CsnpPdu, PsnpPdu, blocks_within as row_blocks, common, psnp, psnp_type, row_tlv, row_tlvs, pdu}
use Rattle.wire_base.specs.model.Tlv.{row, tlv}
use Rattle.laws_format.proofs.ContentLaws.{blocks_step}
use Rattle.router_core.specs.Sending.{conf_alone, listing, lsp_frames, octets_on, psnp_listing, rows_tlv}
use Rattle.laws_router.specs.State.{control_of}

-- ---- one frame

framed_as : (r : RouterConf) (link : ℕ) (p : Pdu) (e : Option End) → octets_on e (pdu r.level p) ≡ pdu_frame r e p
framed_as r link p None = refl
framed_as r link p (Some e) = refl

-- the frame of a PDU is appended
pub pushed : (r : RouterConf) (link : ℕ) (p : Pdu) (out kept new : List Sent) (octets : List ℕ) → kept ≡ out → octets ≡ octets_on (slice_get r.ends link) (pdu r.level p) → new ≡ kept ++ record { link = link; octets = octets } ∷ [] → new ≡ out ++ frames_of r link (p ∷ [])
pushed r link p out kept new octets same is added =
    added
    ∙ ap (λ (l : List Sent). l ++ record { link = link; octets = octets } ∷ []) same
    ∙ ap (λ (o : List ℕ). out ++ record { link = link; octets = o } ∷ []) (is ∙ framed_as r link p (slice_get r.ends link))

-- frames that are due are all that a send does
pub all_due : {E : Type 0} (r : Result (List Sent) E) (c : Control) (link : ℕ) → IfOk r (λ sent. sent ≡ frames_of c.conf link (send_of c link)) → IfOk r (λ sent. record nothing { sent = sent } ≡ (framed link (send c link)).effects)
unfolding send framed
all_due (Ok sent) c link is = ap (λ (s : List Sent). record nothing { sent = s }) is
all_due (Err e) c link is = tt

-- ---- blocks

-- the last identifier of a block
last_is : (id : LspId) (rows : List Summary) (n : ℕ) (d : Summary) → length rows ≡ suc n → last_listed id rows ≡ (get_or rows n d).id
last_is id [] n d long = absurd (omega (arith, long))
last_is id (r ∷ []) zero d long = refl
last_is id (r ∷ []) (suc n) d long = absurd (omega (arith, long))
last_is id (r ∷ t ∷ rows) zero d long = absurd (omega (arith, long))
last_is id (r ∷ t ∷ rows) (suc n) d long = last_is r.id (t ∷ rows) n d (omega (arith, long))

csnps_more : (c : Control) (start : LspId) (block rest : List Summary) → 0 < length rest → csnps c start (block ∷ blocks MOST_LISTED rest) ≡ csnp_of c start (last_listed start block) block ∷ csnps c (id_after (last_listed start block)) (blocks MOST_LISTED rest)
csnps_more c start block [] some = absurd (omega (arith, some))
csnps_more c start block (s ∷ rest) some = refl

csnps_cut : (c : Control) (start : LspId) (rest : List Summary) → MOST_LISTED < length rest → csnps c start (blocks MOST_LISTED rest) ≡ csnp_of c start (last_listed start (take MOST_LISTED rest)) (take MOST_LISTED rest) ∷ csnps c (id_after (last_listed start (take MOST_LISTED rest))) (blocks MOST_LISTED (drop MOST_LISTED rest))
csnps_cut c start rest more =
    ap (λ (bs : List (List Summary)). csnps c start bs) (blocks_step MOST_LISTED MOST_LISTED rest (omega arith) (omega (arith, more)) (omega (arith, more)))
    ∙ csnps_more c start (take MOST_LISTED rest) (drop MOST_LISTED rest) (omega (arith, more, length-drop MOST_LISTED rest))

csnps_last : (c : Control) (start : LspId) (rest : List Summary) → length rest ≤ MOST_LISTED → csnps c start (blocks MOST_LISTED rest) ≡ csnp_of c start last_id rest ∷ []
csnps_last c start [] few = refl
csnps_last c start (s ∷ rest) few =
    ap (λ (bs : List (List Summary)). csnps c start bs)
    (blocks_step MOST_LISTED (length (s ∷ rest)) (s ∷ rest) (omega arith) (omega arith) (omega (arith, few))
    ∙ ap (λ (l : List Summary). l ∷ blocks MOST_LISTED (drop (length (s ∷ rest)) (s ∷ rest))) (take_all (length (s ∷ rest)) (s ∷ rest) (omega arith))
    ∙ ap (λ (l : List Summary). (s ∷ rest) ∷ blocks MOST_LISTED l) (drop_all (length (s ∷ rest)) (s ∷ rest) (omega arith)))

module _ (r : RouterConf) (link : ℕ) where
  joined_step : (out new total : List Sent) (p : Pdu) (all rest : List Pdu) → out ++ frames_of r link all ≡ total → all ≡ p ∷ rest → new ≡ out ++ frames_of r link (p ∷ []) → new ++ frames_of r link rest ≡ total
  joined_step out new total p all rest so split added =
      ap (λ (l : List Sent). l ++ frames_of r link rest) added ∙ append_assoc out (frames_of r link (p ∷ [])) (frames_of r link rest)
      ∙ ap (λ (ps : List Pdu). out ++ frames_of r link ps) (sym split) ∙ so

  -- one PSNP more
  pub psnp_step : (p : List (List ℕ) → Pdu) (out new total : List Sent) (rest block after : List (List ℕ)) (n : ℕ) → out ++ frames_of r link (map p (blocks MOST_LISTED rest)) ≡ total → 0 < length rest → n ≡ min (length rest) MOST_LISTED → block ≡ take n rest → after ≡ drop n rest
      → new ≡ out ++ frames_of r link (p block ∷ []) → new ++ frames_of r link (map p (blocks MOST_LISTED after)) ≡ total
  psnp_step p out new total rest block after n so some is front back added =
      joined_step out new total (p block) (map p (blocks MOST_LISTED rest)) (map p (blocks MOST_LISTED after)) so
      (ap (λ (bs : List (List (List ℕ))). map p bs) (blocks_step MOST_LISTED n rest (omega arith) some is)
      ∙ ap (λ (l : List (List ℕ)). p l ∷ map p (blocks MOST_LISTED (drop n rest))) (sym front)
      ∙ ap (λ (l : List (List ℕ)). p block ∷ map p (blocks MOST_LISTED l)) (sym back))
      added

  pub psnp_end : (p : List (List ℕ) → Pdu) (out total : List Sent) (rest : List (List ℕ)) → out ++ frames_of r link (map p (blocks MOST_LISTED rest)) ≡ total → length rest ≡ 0 → out ≡ total
  psnp_end p out total [] so none = sym (append-nil out) ∙ so
  psnp_end p out total (s ∷ rest) so none = absurd (omega (arith, none))

module _ (r : RouterConf) (link : ℕ) (c : Control) where
  -- one CSNP more
  pub csnp_step : (out new total : List Sent) (start : LspId) (rest block after : List Summary) (d : Summary) → out ++ frames_of r link (csnps c start (blocks MOST_LISTED rest)) ≡ total → MOST_LISTED < length rest → block ≡ take MOST_LISTED rest → after ≡ drop MOST_LISTED rest
      → new ≡ out ++ frames_of r link (csnp_of c start (get_or block 89 d).id block ∷ []) → (next : LspId) → next ≡ id_after (get_or block 89 d).id → new ++ frames_of r link (csnps c next (blocks MOST_LISTED after)) ≡ total
  csnp_step out new total start rest block after d so more front back added next is =
      let last : last_listed start block ≡ (get_or block 89 d).id = last_is start block 89 d (ap length front ∙ length-take-le MOST_LISTED rest (omega (arith, more))) in
      joined_step r link out new total (csnp_of c start (get_or block 89 d).id block) (csnps c start (blocks MOST_LISTED rest)) (csnps c next (blocks MOST_LISTED after)) so
      (csnps_cut c start rest more
      ∙ ap (λ (l : List Summary). csnp_of c start (last_listed start l) l ∷ csnps c (id_after (last_listed start l)) (blocks MOST_LISTED (drop MOST_LISTED rest))) (sym front)
      ∙ ap (λ (i : LspId). csnp_of c start i block ∷ csnps c (id_after i) (blocks MOST_LISTED (drop MOST_LISTED rest))) last
      ∙ ap (λ (i : LspId). csnp_of c start (get_or block 89 d).id block ∷ csnps c i (blocks MOST_LISTED (drop MOST_LISTED rest))) (sym is)
      ∙ ap (λ (l : List Summary). csnp_of c start (get_or block 89 d).id block ∷ csnps c next (blocks MOST_LISTED l)) (sym back))
      added

  -- the last CSNP
  pub csnp_end : (out new total : List Sent) (start last : LspId) (rest : List Summary) → out ++ frames_of r link (csnps c start (blocks MOST_LISTED rest)) ≡ total → length rest ≤ MOST_LISTED → last ≡ last_id → new ≡ out ++ frames_of r link (csnp_of c start last rest ∷ []) → new ≡ total
  csnp_end out new total start last rest so few is added =
      added ∙ ap (λ (i : LspId). out ++ frames_of r link (csnp_of c start i rest ∷ [])) is ∙ ap (λ (ps : List Pdu). out ++ frames_of r link ps) (sym (csnps_last c start rest few)) ∙ so

-- ---- entries that are given by their octets

blocks_mapped : {X Y : Type 0} (f : X → Y) (m n : ℕ) (xs : List X) → blocks_within m n (map f xs) ≡ map (map f) (blocks_within m n xs)
blocks_mapped f zero n xs = refl
blocks_mapped f (suc m) n [] = refl
blocks_mapped f (suc m) n (x ∷ xs) =
    ap (λ (b : List _). b ∷ blocks_within m n (drop n (map f (x ∷ xs)))) (take-map f n (x ∷ xs))
    ∙ ap (λ (l : List _). map f (take n (x ∷ xs)) ∷ blocks_within m n l) (drop-map f n (x ∷ xs))
    ∙ ap (λ (bs : List (List _)). map f (take n (x ∷ xs)) ∷ bs) (blocks_mapped f m n (drop n (x ∷ xs)))

abbrev joined : List (List ℕ) → List ℕ
joined block = flat_map (λ octets. octets) block

listing_within : (m : ℕ) (rows : List Summary) → flat_map (λ block. tlv (rows_tlv (joined block))) (blocks_within m 15 (map row rows)) ≡ flat_map (λ block. tlv (row_tlv block)) (row_blocks m rows)
unfolding row_blocks
listing_within zero rows = refl
listing_within (suc m) [] = refl
listing_within (suc m) (s ∷ rows) =
    let more = flat_map (λ block. tlv (rows_tlv (joined block))) in
    let all = s ∷ rows in
    ap (λ (b : List (List ℕ)). tlv (rows_tlv (joined b)) ++ more (blocks_within m 15 (drop 15 (map row all)))) (take-map row 15 all)
    ∙ ap (λ (l : List ℕ). tlv (rows_tlv l) ++ more (blocks_within m 15 (drop 15 (map row all)))) (flat_map-map (λ octets. octets) row (take 15 all))
    ∙ ap (λ (l : List (List ℕ)). tlv (row_tlv (take 15 all)) ++ more (blocks_within m 15 l)) (drop-map row 15 all)
    ∙ ap (λ (l : List ℕ). tlv (row_tlv (take 15 all)) ++ l) (listing_within m (drop 15 all))

-- they are listed as the entries are
pub listing_is : (rows : List Summary) → listing (map row rows) ≡ row_tlvs rows
unfolding row_tlvs
listing_is rows =
    ap (λ (n : ℕ). flat_map (λ block. tlv (rows_tlv (joined block))) (blocks_within n 15 (map row rows))) (length-map rows row)
    ∙ listing_within (length rows) rows

psnps_are : (c : Control) (rows : List Summary) → map (psnp_listing c.conf.system) (blocks MOST_LISTED (map row rows)) ≡ map (psnp_of c) (blocks MOST_LISTED rows)
psnps_are c rows =
    ap (λ (n : ℕ). map (psnp_listing c.conf.system) (blocks_within n MOST_LISTED (map row rows))) (length-map rows row)
    ∙ ap (λ (bs : List (List (List ℕ))). map (psnp_listing c.conf.system) bs) (blocks_mapped row (length rows) MOST_LISTED rows)
    ∙ each (blocks MOST_LISTED rows)
  where
    each : (bs : List (List Summary)) → map (psnp_listing c.conf.system) (map (map row) bs) ≡ map (psnp_of c) bs
    each [] = refl
    each (b ∷ bs) = ap (λ (tlvs : List ℕ). PsnpPdu c.conf.system tlvs ∷ map (psnp_listing c.conf.system) (map (map row) bs)) (listing_is b) ∙ ap (λ (ps : List Pdu). psnp_of c b ∷ ps) (each bs)

-- one TLV more
pub listing_step : (out new total : List ℕ) (rest block after : List (List ℕ)) (n : ℕ) → out ++ listing rest ≡ total → 0 < length rest → n ≡ min (length rest) 15 → block ≡ take n rest → after ≡ drop n rest
    → new ≡ out ++ tlv (rows_tlv (joined block)) → new ++ listing after ≡ total
listing_step out new total rest block after n so some is front back added =
    ap (λ (l : List ℕ). l ++ listing after) added
    ∙ append_assoc out (tlv (rows_tlv (joined block))) (listing after)
    ∙ ap (λ (b : List (List ℕ)). out ++ (tlv (rows_tlv (joined b)) ++ listing after)) front
    ∙ ap (λ (l : List (List ℕ)). out ++ (tlv (rows_tlv (joined (take n rest))) ++ listing l)) back
    ∙ ap (λ (bs : List (List (List ℕ))). out ++ flat_map (λ b. tlv (rows_tlv (joined b))) bs) (sym (blocks_step 15 n rest (omega arith) some is))
    ∙ so

-- nine octets by their indices
pub nine : (xs : List ℕ) → length xs ≡ 9 → slice_index_or xs 0 0 ∷ slice_index_or xs 1 0 ∷ slice_index_or xs 2 0 ∷ slice_index_or xs 3 0 ∷ slice_index_or xs 4 0 ∷ slice_index_or xs 5 0 ∷ slice_index_or xs 6 0 ∷ slice_index_or xs 7 0 ∷ slice_index_or xs 8 0 ∷ [] ≡ xs
nine [] long = absurd (omega (arith, long))
nine (a ∷ []) long = absurd (omega (arith, long))
nine (a ∷ b ∷ []) long = absurd (omega (arith, long))
nine (a ∷ b ∷ c ∷ []) long = absurd (omega (arith, long))
nine (a ∷ b ∷ c ∷ d ∷ []) long = absurd (omega (arith, long))
nine (a ∷ b ∷ c ∷ d ∷ e ∷ []) long = absurd (omega (arith, long))
nine (a ∷ b ∷ c ∷ d ∷ e ∷ f ∷ []) long = absurd (omega (arith, long))
nine (a ∷ b ∷ c ∷ d ∷ e ∷ f ∷ g ∷ []) long = absurd (omega (arith, long))
nine (a ∷ b ∷ c ∷ d ∷ e ∷ f ∷ g ∷ h ∷ []) long = absurd (omega (arith, long))
nine (a ∷ b ∷ c ∷ d ∷ e ∷ f ∷ g ∷ h ∷ i ∷ []) long = refl
nine (a ∷ b ∷ c ∷ d ∷ e ∷ f ∷ g ∷ h ∷ i ∷ j ∷ xs) long = absurd (omega (arith, long))

-- what precedes the entries of a PSNP with one TLV, and the entries, are the whole
pub psnp_whole : (level : Level) (source : SystemId) (rows front : List ℕ) (size n : ℕ) → front ≡ common 17 (psnp_type level) ++ (big_bytes 2 size ++ (source.0 ++ (0 ∷ 9 ∷ n ∷ []))) → length rows ≡ n → size ≡ 17 + length (tlv (rows_tlv rows))
    → front ++ rows ≡ psnp level source (tlv (rows_tlv rows))
psnp_whole level source rows front size n is long whole =
    ap (λ (l : List ℕ). l ++ rows) is
    ∙ ap (λ (l : List ℕ). common 17 (psnp_type level) ++ (big_bytes 2 size ++ l)) (append_assoc source.0 (0 ∷ 9 ∷ n ∷ []) rows)
    ∙ ap (λ (k : ℕ). common 17 (psnp_type level) ++ (big_bytes 2 k ++ (source.0 ++ (0 ∷ 9 ∷ n ∷ rows)))) whole
    ∙ ap (λ (k : ℕ). common 17 (psnp_type level) ++ (big_bytes 2 (17 + length (tlv (rows_tlv rows))) ++ (source.0 ++ (0 ∷ 9 ∷ k ∷ rows)))) (sym long)

-- at most 15 entries are listed in one TLV
pub listing_short : (rows : List (List ℕ)) → 1 ≤ length rows → length rows ≤ 15 → listing rows ≡ tlv (rows_tlv (joined rows))
listing_short rows some few =
    ap (λ (bs : List (List (List ℕ))). flat_map (λ b. tlv (rows_tlv (joined b))) bs)
    (blocks_step 15 (length rows) rows (omega arith) (omega (arith, some)) (omega (arith, few))
    ∙ ap (λ (l : List (List ℕ)). l ∷ blocks 15 (drop (length rows) rows)) (take_all (length rows) rows (omega arith))
    ∙ ap (λ (l : List (List ℕ)). rows ∷ blocks 15 l) (drop_all (length rows) rows (omega arith)))
    ∙ append-nil (tlv (rows_tlv (joined rows)))

-- ---- all that is due

-- what a control state sends as CSNPs and PSNPs is a matter of its configuration alone
pub csnps_alone : (c d : Control) (start : LspId) (bs : List (List Summary)) → c.conf ≡ d.conf → csnps c start bs ≡ csnps d start bs
csnps_alone c d start [] is = ap (λ (r : RouterConf). CsnpPdu r.system start last_id (row_tlvs []) ∷ []) is
csnps_alone c d start (b ∷ []) is = ap (λ (r : RouterConf). CsnpPdu r.system start last_id (row_tlvs b) ∷ []) is
csnps_alone c d start (b ∷ n ∷ bs) is =
    ap (λ (r : RouterConf). CsnpPdu r.system start (last_listed start b) (row_tlvs b) ∷ csnps c (id_after (last_listed start b)) (n ∷ bs)) is
    ∙ ap (λ (ps : List Pdu). csnp_of d start (last_listed start b) b ∷ ps) (csnps_alone c d (id_after (last_listed start b)) (n ∷ bs) is)

lsps_are : (r : RouterConf) (f : Flood) (link : ℕ) (es : List Entry) → flat_map (lsp_frames r f.rows link) es ≡ frames_of r link (map lsp_of (filter (λ e. srm_in f.rows e.id link) es))
lsps_are r f link [] = refl
lsps_are r f link (e ∷ es) = cases (srm_in f.rows e.id link) (lsps_are r f link es)
  where
    cases : (b : Bool) → flat_map (lsp_frames r f.rows link) es ≡ frames_of r link (map lsp_of (filter (λ x. srm_in f.rows x.id link) es))
        → (if b then frames_of r link (lsp_of e ∷ []) else []) ++ flat_map (lsp_frames r f.rows link) es ≡ frames_of r link (map lsp_of (if b then e ∷ filter (λ x. srm_in f.rows x.id link) es else filter (λ x. srm_in f.rows x.id link) es))
    cases true rest = ap (λ (l : List Sent). frames_of r link (lsp_of e ∷ []) ++ l) rest
    cases false rest = rest

due_alone : (r : RouterConf) (f : Flood) (es : List Entry) (spent due : Bool) → due_csnps (control_of r f es false) due ≡ due_csnps (control_of r f es spent) due
due_alone r f es spent false = refl
due_alone r f es spent true = csnps_alone (control_of r f es false) (control_of r f es spent) zero_id (blocks MOST_LISTED (map summary_of (filter is_known es))) refl

frames_joined : (r : RouterConf) (link : ℕ) (ps qs : List Pdu) → frames_of r link (ps ++ qs) ≡ frames_of r link ps ++ frames_of r link qs
frames_joined r link ps qs = map-append (λ p. record { link = link; octets = pdu_frame r (slice_get r.ends link) p }) ps qs

pub due_is : (r : RouterConf) (f : Flood) (es : List Entry) (spent : Bool) (link : ℕ) (first second third : List Sent) (rows : List (List ℕ))
    → first ≡ frames_of r link (due_csnps (control_of r f es false) (slice_index_or f.due link false))
    → second ≡ first ++ flat_map (lsp_frames r f.rows link) es
    → rows ≡ map row (map summary_of (filter (λ e. ssn_in f.rows e.id link) es))
    → third ≡ second ++ frames_of r link (map (psnp_listing r.system) (blocks MOST_LISTED rows))
    → third ≡ frames_of r link (send_of (control_of r f es spent) link)
unfolding send_of
due_is r f es spent link first second third rows a b p q =
    let lsps : List Pdu = map lsp_of (filter (λ e. srm_in f.rows e.id link) es) in
    let psnps : List Pdu = map (psnp_of (conf_alone r)) (blocks MOST_LISTED (map summary_of (filter (λ e. ssn_in f.rows e.id link) es))) in
    let due : List Pdu = due_csnps (control_of r f es spent) (slice_index_or f.due link false) in
    q
    ∙ ap (λ (l : List Sent). l ++ frames_of r link (map (psnp_listing r.system) (blocks MOST_LISTED rows))) b
    ∙ ap (λ (l : List Sent). (l ++ flat_map (lsp_frames r f.rows link) es) ++ frames_of r link (map (psnp_listing r.system) (blocks MOST_LISTED rows))) (a ∙ ap (λ (ps : List Pdu). frames_of r link ps) (due_alone r f es spent (slice_index_or f.due link false)))
    ∙ ap (λ (l : List Sent). (frames_of r link due ++ l) ++ frames_of r link (map (psnp_listing r.system) (blocks MOST_LISTED rows))) (lsps_are r f link es)
    ∙ ap (λ (l : List (List ℕ)). (frames_of r link due ++ frames_of r link lsps) ++ frames_of r link (map (psnp_listing r.system) (blocks MOST_LISTED l))) p
    ∙ ap (λ (ps : List Pdu). (frames_of r link due ++ frames_of r link lsps) ++ frames_of r link ps) (psnps_are (conf_alone r) (map summary_of (filter (λ e. ssn_in f.rows e.id link) es)))
    ∙ append_assoc (frames_of r link due) (frames_of r link lsps) (frames_of r link psnps)
    ∙ ap (λ (l : List Sent). frames_of r link due ++ l) (sym (frames_joined r link lsps psnps))
    ∙ sym (frames_joined r link due (lsps ++ psnps))
