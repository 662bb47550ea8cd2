-- Where no flag of a kind stands on a link, no entry is to be sent there, or acknowledged or asked for.
use Rattle.std.proofs.Common.{◌≡◌, ◌∙◌, ℕ, zero, suc, Bool, true, false, List, [], ◌∷◌, ◌++◌, filter, map, slice_index_or, slice_set, refl, sym, ap, if◌then◌else◌}
use Rattle.std.proofs.lemmas.Bool.{or_parts}
use Rattle.std.proofs.lemmas.List.{append-nil}
use Rattle.std.specs.List.{flat_map}
use Rattle.std.proofs.lemmas.List.Concat.{flat_map-cons}
use Rattle.wire_base.specs.declared.addresses.LspId.{LspId}
use Rattle.wire_base.specs.declared.conf.RouterConf.{RouterConf}
use Rattle.wire_base.specs.declared.effects.Sent.{Sent}
use Rattle.wire_base.specs.declared.entry.Entry.{Entry}
use Rattle.wire_base.specs.model.Control.{Control, Flood, FlagRow, same_id, srm_in, ssn_in, summary_of}
use Rattle.wire_base.specs.model.Flooding.{clear_ssn, due_csnps, due_lsps, due_psnps, lsp_of, most_listed, psnp_of, send, send_of, sent_on}
use Rattle.wire_base.specs.model.Lists.{blocks}
use Rattle.wire_base.specs.model.OnFrame.{frames_of}
use Rattle.wire_base.specs.model.Pdu.{Pdu}
use Rattle.isis_flood.specs.Flags.{has_srm, has_ssn}
use Rattle.router_core.specs.Sending.{lsp_frames}

no-srm : (rows : List FlagRow) (id : LspId) (link : ℕ) → has_srm rows link ≡ false → srm_in rows id link ≡ false
no-srm [] id link none = refl
no-srm (row ∷ rows) id link none =
    let is = or_parts (slice_index_or row.srm link false) (has_srm rows link) none in
    by (same_id row.id id) is.0 (no-srm rows id link is.1)
  where
    by : (b : Bool) → slice_index_or row.srm link false ≡ false → srm_in rows id link ≡ false → (if b then slice_index_or row.srm link false else srm_in rows id link) ≡ false
    by true here more = here
    by false here more = more

no-ssn : (rows : List FlagRow) (id : LspId) (link : ℕ) → has_ssn rows link ≡ false → ssn_in rows id link ≡ false
no-ssn [] id link none = refl
no-ssn (row ∷ rows) id link none =
    let is = or_parts (slice_index_or row.ssn link false) (has_ssn rows link) none in
    by (same_id row.id id) is.0 (no-ssn rows id link is.1)
  where
    by : (b : Bool) → slice_index_or row.ssn link false ≡ false → ssn_in rows id link ≡ false → (if b then slice_index_or row.ssn link false else ssn_in rows id link) ≡ false
    by true here more = here
    by false here more = more

filter-none : {X : Type 0} (test : X → Bool) → ((x : X) → test x ≡ false) → (xs : List X) → filter test xs ≡ []
filter-none {X} test none [] = refl
filter-none {X} test none (x ∷ xs) = rw (none x) (filter-none test none xs)

pub idle-marked : (rows : List FlagRow) (link : ℕ) (entries : List Entry) → has_srm rows link ≡ false → filter (λ e. srm_in rows e.id link) entries ≡ []
idle-marked rows link entries none = filter-none (λ (e : Entry). srm_in rows e.id link) (λ e. no-srm rows e.id link none) entries

pub idle-asked : (rows : List FlagRow) (link : ℕ) (entries : List Entry) → has_ssn rows link ≡ false → filter (λ e. ssn_in rows e.id link) entries ≡ []
idle-asked rows link entries none = filter-none (λ (e : Entry). ssn_in rows e.id link) (λ e. no-ssn rows e.id link none) entries

idle-lsps : (r : RouterConf) (rows : List FlagRow) (link : ℕ) (entries : List Entry) → has_srm rows link ≡ false → flat_map (lsp_frames r rows link) entries ≡ []
idle-lsps r rows link [] none = refl
idle-lsps r rows link (e ∷ entries) none =
    flat_map-cons (lsp_frames r rows link) e entries
    ∙ ap (λ (b : Bool). (if b then frames_of r link (lsp_of e ∷ []) else []) ++ flat_map (lsp_frames r rows link) entries) (no-srm rows e.id link none)
    ∙ idle-lsps r rows link entries none

-- nothing is appended
pub idle-sent : (r : RouterConf) (rows : List FlagRow) (link : ℕ) (entries : List Entry) (sent : List Sent) → has_srm rows link ≡ false → sent ≡ sent ++ flat_map (lsp_frames r rows link) entries
idle-sent r rows link entries sent none = sym (ap (λ (more : List Sent). sent ++ more) (idle-lsps r rows link entries none) ∙ append-nil sent)

-- ---- a link on which nothing is due

set-idle : (l : List Bool) (i : ℕ) → slice_index_or l i false ≡ false → slice_set l i false ≡ l
set-idle [] i none = refl
set-idle (b ∷ l) zero none = ap (λ (x : Bool). x ∷ l) (sym none)
set-idle (b ∷ l) (suc i) none = ap (λ (rest : List Bool). b ∷ rest) (set-idle l i none)

rows-idle : (rows : List FlagRow) (link : ℕ) → has_ssn rows link ≡ false → map (clear_ssn link) rows ≡ rows
rows-idle [] link none = refl
rows-idle (row ∷ rows) link none =
    let is = or_parts (slice_index_or row.ssn link false) (has_ssn rows link) none in
    ap (λ (l : List Bool). record row { ssn = l } ∷ map (clear_ssn link) rows) (set-idle row.ssn link is.0) ∙ ap (λ (more : List FlagRow). row ∷ more) (rows-idle rows link is.1)

sent-idle : (f : Flood) (link : ℕ) → slice_index_or f.due link false ≡ false → has_ssn f.rows link ≡ false → sent_on f link ≡ f
unfolding sent_on
sent-idle f link due asked =
    ap (λ (l : List Bool). record f { due = l; rows = map (clear_ssn link) f.rows }) (set-idle f.due link due)
    ∙ ap (λ (rows : List FlagRow). record f { rows = rows }) (rows-idle f.rows link asked)

due-idle : (c : Control) (link : ℕ) → slice_index_or c.flood.due link false ≡ false → has_srm c.flood.rows link ≡ false → has_ssn c.flood.rows link ≡ false → send_of c link ≡ []
unfolding send_of
due-idle c link due marked asked =
    ap (λ (b : Bool). due_csnps c b ++ (due_lsps c link ++ due_psnps c link)) due
    ∙ ap (λ (es : List Entry). map lsp_of es ++ due_psnps c link) (idle-marked c.flood.rows link c.entries marked)
    ∙ ap (λ (es : List Entry). map (psnp_of c) (blocks most_listed (map summary_of es))) (idle-asked c.flood.rows link c.entries asked)

-- it sends nothing, and nothing changes
pub idle_send : (c : Control) (link : ℕ) → slice_index_or c.flood.due link false ≡ false → has_srm c.flood.rows link ≡ false → has_ssn c.flood.rows link ≡ false → send c link ≡ record { control = c; sent = []; drops = [] }
unfolding send
idle_send c link due marked asked =
    ap (λ (f : Flood). record { control = record c { flood = f }; sent = send_of c link; drops = [] }) (sent-idle c.flood link due asked)
    ∙ ap (λ (pdus : List Pdu). record { control = c; sent = pdus; drops = [] }) (due-idle c link due marked asked)
