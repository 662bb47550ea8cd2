-- Flooding on point-to-point links: the next control state, what is sent, and what is dropped
-- (ISO/IEC 10589, 7.3.15 to 7.3.17).
--
-- A flood state and an LSDB change together. What else a PDU requests of the router, such as to originate its own LSP
-- again, is returned, and the control state does it. All links here are up, unless stated otherwise.
use Rattle.std.specs.Prelude.{ℕ, ◌+◌, ◌==◌, ◌&&◌, ◌||◌, not, nat_lt, Bool, true, false, List, [], ◌∷◌, ◌++◌, length, map, filter, fold, take, replicate, slice_index, slice_index_or, slice_set, Option, Some, None, if◌then◌else◌}
use Rattle.std.specs.List.{filter_map, list_any}
use Rattle.byteorder.specs.Endian.{big_bytes, big_number}
use Rattle.wire_base.specs.declared.limits.TheConstants.{MOST_LISTED, PURGE_HOLD, REFRESH_LIFE}
use Rattle.wire_base.specs.declared.addresses.SystemId.{SystemId}
use Rattle.wire_base.specs.declared.addresses.LspId.{LspId}
use Rattle.wire_base.specs.declared.cause.Cause.{Cause}
use Rattle.wire_base.specs.declared.cause.Cause.TheVariants as cause
use Rattle.wire_base.specs.declared.conf.RouterConf.{RouterConf}
use Rattle.wire_base.specs.declared.entry.Age.{Age}
use Rattle.wire_base.specs.declared.entry.Age.TheVariants.{Unknown, Newer, Equal, Older, Confused}
use Rattle.wire_base.specs.declared.entry.Aged.{Aged}
use Rattle.wire_base.specs.declared.entry.Aged.TheVariants.{Live, Expired, Held, Removed}
use Rattle.wire_base.specs.declared.entry.Entry.{Entry}
use Rattle.wire_base.specs.declared.flood_out.FloodOut.{FloodOut}
use Rattle.wire_base.specs.declared.flood_out.FloodOut.TheVariants as out
use Rattle.wire_base.specs.declared.flood_out.SnpOut.{SnpOut}
use Rattle.wire_base.specs.declared.triple.Summary.{Summary}
use Rattle.wire_base.specs.declared.bsl.Bsl.{Bsl}
use Rattle.wire_base.specs.model.Lists.{blocks}
use Rattle.wire_base.specs.model.Tlv.{lsp_id, rows_of}
use Rattle.wire_base.specs.model.Pdu.{Head, head_summary, row_tlvs}
use Rattle.wire_base.specs.model.Pdu.{Pdu, LspPdu, CsnpPdu, PsnpPdu, HelloPdu, OtherPdu}
use Rattle.wire_base.specs.model.Control.{same_system, same_id, is_below, entry_in, put_entry, is_full, seq_of, summary_of, purge, age_of, is_unknown, is_newer_or_confused, aged, after_second, FlagRow, at_row, without_row, Flood, srm, ssn, Control, fragment_0, own_entry_in}
use Rattle.wire_base.specs.model.Membership.{relabelled, left, rejoined}
use Rattle.wire_base.specs.model.OwnLsp.{own_lsp}

-- ---- flags

abbrev pub no_links : Flood → List Bool
no_links f = replicate (length f.up) false

abbrev pub with_row : Flood → LspId → (FlagRow → FlagRow) → Flood
with_row f id change = record f { rows = at_row (length f.up) id change f.rows }

-- sets SRM and clears SSN on a link: the LSP is to be sent, not acknowledged
abbrev pub send_on : ℕ → FlagRow → FlagRow
send_on link row = record row { srm = slice_set row.srm link true; ssn = slice_set row.ssn link false }

-- sets SSN and clears SRM on a link: the LSP is to be acknowledged or requested, not sent
abbrev pub ask_on : ℕ → FlagRow → FlagRow
ask_on link row = record row { srm = slice_set row.srm link false; ssn = slice_set row.ssn link true }

abbrev pub set_srm : ℕ → Bool → FlagRow → FlagRow
set_srm link b row = record row { srm = slice_set row.srm link b }

abbrev pub clear_ssn : ℕ → FlagRow → FlagRow
clear_ssn link row = record row { ssn = slice_set row.ssn link false }

abbrev pub clear_both : ℕ → FlagRow → FlagRow
clear_both link row = record row { srm = slice_set row.srm link false; ssn = slice_set row.ssn link false }

-- to be sent on all links that are up, and acknowledged on none
unfoldable pub mark_all : Flood → LspId → Flood
mark_all f id = with_row f id (λ row. record row { srm = f.up; ssn = no_links f })

-- received on a link: to be acknowledged there, and to be sent on all other links that are up
abbrev pub pass_on : Flood → LspId → ℕ → Flood
pass_on f id link = with_row f id (λ row. record row { srm = slice_set f.up link false; ssn = slice_set (no_links f) link true })

-- clears the flags of an LSP ID
unfoldable pub forget : Flood → LspId → Flood
forget f id = record f { rows = without_row id f.rows }

-- ---- an LSP on a link (ISO/IEC 10589, 7.3.15.1 and 7.3.16)

pub record LspAnswer : Type 0 where
  pub flood : Flood
  pub entries : List Entry
  pub answer : FloodOut

-- nothing changes
abbrev pub only_says : Flood → List Entry → FloodOut → LspAnswer
only_says f entries answer = record { flood = f; entries = entries; answer = answer }

-- only its flags change
abbrev pub flags_alone : Flood → List Entry → LspAnswer
flags_alone f entries = record { flood = f; entries = entries; answer = out.Kept }

-- an entry is stored and marked for sending on all links
abbrev pub puts_marked : Flood → List Entry → Entry → LspAnswer
puts_marked f entries e = record { flood = mark_all f e.id; entries = put_entry e entries; answer = out.Kept }

-- the LSDB entry of an LSP: a purge for an expired one
abbrev pub kept : Head → List ℕ → Entry
kept h tlvs =
    if h.life == 0
    then purge h.id h.seq
    else record { id = h.id; seq = h.seq; life = h.life; hold = 0; sum = h.sum; flags = h.flags; content = tlvs }

-- the LSP is stored and flooded further
abbrev pub stores : Flood → List Entry → ℕ → Entry → LspAnswer
stores f entries link e = record { flood = pass_on f e.id link; entries = put_entry e entries; answer = out.Kept }

-- The result by the comparison, except for the router's own LSPs. An equal sequence number with another checksum is LSP
-- confusion (ISO/IEC 10589, 7.3.16.2): nobody can tell which of the two its originator meant. So the entry becomes a purge of
-- that sequence number, which is sent on all links, and the originator originates a newer one when it receives the purge.
abbrev pub lsp_aged : Flood → List Entry → ℕ → Head → List ℕ → Age → LspAnswer
lsp_aged f entries link h tlvs Unknown =
    if h.life == 0 then only_says f entries (out.Ack (head_summary h))
    else if is_full entries then only_says f entries out.Full
    else stores f entries link (kept h tlvs)
lsp_aged f entries link h tlvs Newer = stores f entries link (kept h tlvs)
lsp_aged f entries link h tlvs Confused = puts_marked f entries (purge h.id h.seq)
lsp_aged f entries link h tlvs Equal = flags_alone (with_row f h.id (ask_on link)) entries
lsp_aged f entries link h tlvs Older = flags_alone (with_row f h.id (send_on link)) entries

-- a self-originated LSP that the router does not hold, or that it originated before it restarted
abbrev pub is_unheld_own : Flood → Head → Age → Bool
is_unheld_own f h age = same_system h.id.system f.own && (nat_lt 0 h.life && (is_unknown age || is_newer_or_confused age))

-- the own LSP, with another sequence number or another content than the router's
abbrev pub is_own_ahead : Flood → LspId → Bool → Age → Bool
is_own_ahead f id spent age = same_id id (fragment_0 f.own) && (not spent && is_newer_or_confused age)

abbrev pub lsp_in : Flood → List Entry → ℕ → Head → List ℕ → Bool → Age → LspAnswer
lsp_in f entries link h tlvs spent age =
    if h.seq == 0 then only_says f entries out.Zero
    else if is_own_ahead f h.id spent age then only_says f entries (out.Reissue h.seq)
    else if is_unheld_own f h age then (if is_unknown age && is_full entries then only_says f entries out.Full else puts_marked f entries (purge h.id h.seq))
    else lsp_aged f entries link h tlvs age

-- an LSP on a link; `spent` means that the router originates none itself
unfoldable pub on_lsp : Flood → List Entry → ℕ → Head → List ℕ → Bool → LspAnswer
on_lsp f entries link h tlvs spent = lsp_in f entries link h tlvs spent (age_of (entry_in entries h.id) (head_summary h))

-- ---- a CSNP or PSNP on a link (ISO/IEC 10589, 7.3.15.2)

pub record SnpAnswer : Type 0 where
  pub flood : Flood
  pub entries : List Entry
  pub answer : SnpOut

abbrev pub with_flags : SnpAnswer → LspId → (FlagRow → FlagRow) → SnpAnswer
with_flags a id change = record a { flood = with_row a.flood id change }

-- A neighbor has an LSP that is unknown here. An empty entry of sequence number 0 represents it until it comes, and requests
-- it.
abbrev pub wanted : Summary → Entry
wanted s = record { id = s.id; seq = 0; life = 0; hold = PURGE_HOLD; sum = 0; flags = 0; content = [] }

abbrev pub asks : SnpAnswer → ℕ → Summary → SnpAnswer
asks a link s =
    if is_full a.entries
    then record a { answer = record a.answer { full = a.answer.full + 1 } }
    else record a { flood = with_row a.flood s.id (ask_on link); entries = put_entry (wanted s) a.entries }

abbrev pub is_live_summary : Summary → Bool
is_live_summary s = nat_lt 0 s.life && (nat_lt 0 s.seq && nat_lt 0 s.sum)

-- The result by the comparison with the listed one, whose sequence number is above 0. LSP confusion purges here too, except for
-- the own LSP, which is originated again past that number.
abbrev pub listed_aged : SnpAnswer → ℕ → Summary → Bool → Age → SnpAnswer
listed_aged a link s spent Unknown = if is_live_summary s then asks a link s else a
listed_aged a link s spent Newer = with_flags a s.id (ask_on link)
listed_aged a link s spent Equal = with_flags a s.id (set_srm link false)
listed_aged a link s spent Older = with_flags a s.id (send_on link)
listed_aged a link s spent Confused =
    if same_id s.id (fragment_0 a.flood.own) && not spent
    then record a { answer = record a.answer { reissue = Some s.seq } }
    else record a { flood = mark_all a.flood s.id; entries = put_entry (purge s.id s.seq) a.entries }

-- an LSP entry of a CSNP or PSNP; one of sequence number 0 requests the LSP
unfoldable pub on_listed : ℕ → Bool → SnpAnswer → Summary → SnpAnswer
on_listed link spent a s =
    if s.seq == 0
    then (if nat_lt 0 (seq_of (entry_in a.entries s.id)) then with_flags a s.id (send_on link) else a)
    else listed_aged a link s spent (age_of (entry_in a.entries s.id) s)

abbrev pub nothing_asked : SnpOut
nothing_asked = record { reissue = None; full = 0 }

-- the LSP entries of a CSNP or PSNP, in order
unfoldable pub on_list : Flood → List Entry → ℕ → List Summary → Bool → SnpAnswer
on_list f entries link rows spent = fold (on_listed link spent) (record { flood = f; entries = entries; answer = nothing_asked }) rows

abbrev pub lists : List Summary → LspId → Bool
lists rows id = list_any (λ s. same_id s.id id) rows

-- whether a CSNP from start to last with these LSP entries lacks a live entry that it should list
abbrev pub lacks : LspId → LspId → List Summary → Entry → Bool
lacks start last rows e = nat_lt 0 e.life && (nat_lt 0 e.seq && (not (is_below e.id start) && (not (is_below last e.id) && not (lists rows e.id))))

-- what the CSNP lacks is to be sent
abbrev pub send_lacking : ℕ → LspId → LspId → List Summary → Flood → Entry → Flood
send_lacking link start last rows f e = if lacks start last rows e then with_row f e.id (set_srm link true) else f

-- a CSNP from `start` to `last` with those LSP entries: their effects, and then what the CSNP lacks
abbrev pub csnp_listed : Flood → List Entry → ℕ → LspId → LspId → List Summary → Bool → SnpAnswer
csnp_listed f entries link start last rows spent =
    let a = on_list f entries link rows spent in
    record a { flood = fold (send_lacking link start last rows) a.flood a.entries }

-- a CSNP on a link
unfoldable pub on_csnp : Flood → List Entry → ℕ → LspId → LspId → List ℕ → Bool → SnpAnswer
on_csnp f entries link start last tlvs spent =
    let a = on_list f entries link (rows_of tlvs) spent in
    record a { flood = fold (send_lacking link start last (rows_of tlvs)) a.flood a.entries }

-- a PSNP on a link
unfoldable pub on_psnp : Flood → List Entry → ℕ → List ℕ → Bool → SnpAnswer
on_psnp f entries link tlvs spent = on_list f entries link (rows_of tlvs) spent

-- ---- links

-- a flood state without flags, with a CSNP due on every link that is up
unfoldable pub new_flood : SystemId → List Bool → Flood
new_flood own up = record { own = own; up = up; due = up; rows = [] }

abbrev pub send_known : ℕ → Flood → Entry → Flood
send_known link f e = if nat_lt 0 e.seq then with_row f e.id (set_srm link true) else f

-- a link comes up: all known LSPs are to be sent there
unfoldable pub link_up : Flood → List Entry → ℕ → Flood
link_up f entries link = fold (send_known link) (record f { up = slice_set f.up link true; due = slice_set f.due link true }) entries

-- a link goes down: its flags are cleared
unfoldable pub link_down : Flood → ℕ → Flood
link_down f link = record f { up = slice_set f.up link false; due = slice_set f.due link false; rows = map (clear_both link) f.rows }

-- everything due on a link was sent: only an acknowledgement ends the sending of an LSP
unfoldable pub sent_on : Flood → ℕ → Flood
sent_on f link = record f { due = slice_set f.due link false; rows = map (clear_ssn link) f.rows }

-- ---- the control state

-- the next state, the PDUs sent, in order, and the drops
pub record Reply : Type 0 where
  pub control : Control
  pub sent : List Pdu
  pub drops : List Cause

abbrev pub quiet : Control → Reply
quiet c = record { control = c; sent = []; drops = [] }

-- an own LSP is stored and marked for sending on all links
abbrev pub issue : Control → Entry → Control
issue c e = record c { flood = mark_all c.flood e.id; entries = put_entry e c.entries }

abbrev pub last_sequence : ℕ
last_sequence = 4294967295

-- Originates the own LSP past a sequence number. Past the last one there is none: the LSP is purged, and the router is
-- spent (ISO/IEC 10589, 7.3.16.1).
unfoldable pub reissue : Control → ℕ → Control
reissue c s =
    if s == last_sequence
    then issue (record c { spent = true }) (purge (fragment_0 c.conf.system) s)
    else issue c (own_lsp c.conf c.flood.up (s + 1))

abbrev pub reissue_if : Control → Option ℕ → Control
reissue_if c None = c
reissue_if c (Some s) = reissue c s

-- originates it past its current sequence number
unfoldable pub reissue_unless_spent : Control → Control
reissue_unless_spent c = if c.spent then c else reissue c (seq_of (own_entry_in c))

-- ---- PDUs received

abbrev pub psnp_of : Control → List Summary → Pdu
psnp_of c rows = PsnpPdu c.conf.system (row_tlvs rows)

abbrev pub answer_lsp : Control → FloodOut → Reply
answer_lsp c out.Kept = quiet c
answer_lsp c (out.Reissue s) = quiet (reissue c s)
answer_lsp c (out.Ack s) = record { control = c; sent = psnp_of c (s ∷ []) ∷ []; drops = [] }
answer_lsp c out.Full = record { control = c; sent = []; drops = cause.Full ∷ [] }
answer_lsp c out.Zero = record { control = c; sent = []; drops = cause.Sequence ∷ [] }

abbrev pub lsp_done : Control → LspAnswer → Reply
lsp_done c a = answer_lsp (record c { flood = a.flood; entries = a.entries }) a.answer

-- one drop for each entry for which there was no room
abbrev pub snp_done : Control → SnpAnswer → Reply
snp_done c a =
    record {
      control = reissue_if (record c { flood = a.flood; entries = a.entries }) a.answer.reissue;
      sent = [];
      drops = replicate a.answer.full cause.Full;
    }

-- a PDU on a link; hellos and other types have no effect
unfoldable pub on_pdu : Control → ℕ → Pdu → Reply
on_pdu c link (LspPdu h tlvs) = lsp_done c (on_lsp c.flood c.entries link h tlvs c.spent)
on_pdu c link (CsnpPdu source start last tlvs) = snp_done c (on_csnp c.flood c.entries link start last tlvs c.spent)
on_pdu c link (PsnpPdu source tlvs) = snp_done c (on_psnp c.flood c.entries link tlvs c.spent)
on_pdu c link HelloPdu = quiet c
on_pdu c link (OtherPdu number) = quiet c

-- ---- one second

abbrev pub flags_aged : Flood → LspId → Aged → Flood
flags_aged f id Live = f
flags_aged f id Expired = mark_all f id
flags_aged f id Held = f
flags_aged f id Removed = forget f id

abbrev pub flood_aged : Flood → Entry → Flood
flood_aged f e = flags_aged f e.id (aged e)

-- each entry is a second older
unfoldable pub aged_all : Control → Control
aged_all c = record c { flood = fold flood_aged c.flood c.entries; entries = filter_map after_second c.entries }

-- the own LSP is refreshed when that many seconds of its Remaining Lifetime are left
abbrev pub refresh_life : ℕ
refresh_life = REFRESH_LIFE

abbrev pub is_stale : Option Entry → Bool
is_stale None = false
is_stale (Some e) = e.life == refresh_life

abbrev pub refreshed : Control → Control
refreshed c = if is_stale (own_entry_in c) then reissue c (seq_of (own_entry_in c)) else c

unfoldable pub tick : Control → Reply
tick c = quiet (refreshed (aged_all c))

-- ---- sending on a link

abbrev pub zero_id : LspId
zero_id = record { system = record { 0 = replicate 6 0 }; pseudonode = 0; fragment = 0 }

abbrev pub last_id : LspId
last_id = record { system = record { 0 = replicate 6 255 }; pseudonode = 255; fragment = 255 }

abbrev pub id_from : List ℕ → LspId
id_from octets = record { system = record { 0 = take 6 octets }; pseudonode = slice_index octets 6; fragment = slice_index octets 7 }

-- the next LSP ID
unfoldable pub id_after : LspId → LspId
id_after id = id_from (big_bytes 8 (big_number 8 (lsp_id id) + 1))

-- the last LSP ID that a block lists
abbrev pub last_listed : LspId → List Summary → LspId
last_listed id [] = id
last_listed id (s ∷ ss) = last_listed s.id ss

abbrev pub csnp_of : Control → LspId → LspId → List Summary → Pdu
csnp_of c start last rows = CsnpPdu c.conf.system start last (row_tlvs rows)

-- Together the CSNPs cover all LSP IDs: the first begins at the least, each other one directly after the one before, and
-- the last ends at the greatest.
abbrev pub csnps : Control → LspId → List (List Summary) → List Pdu
csnps c start [] = csnp_of c start last_id [] ∷ []
csnps c start (block ∷ []) = csnp_of c start last_id block ∷ []
csnps c start (block ∷ next ∷ more) = csnp_of c start (last_listed start block) block ∷ csnps c (id_after (last_listed start block)) (next ∷ more)

-- the maximum number of LSP entries in a CSNP or PSNP
abbrev pub most_listed : ℕ
most_listed = MOST_LISTED

abbrev pub is_known : Entry → Bool
is_known e = nat_lt 0 e.seq

abbrev pub due_csnps : Control → Bool → List Pdu
due_csnps c false = []
due_csnps c true = csnps c zero_id (blocks most_listed (map summary_of (filter is_known c.entries)))

abbrev pub lsp_of : Entry → Pdu
lsp_of e = LspPdu (record { life = e.life; id = e.id; seq = e.seq; sum = e.sum; flags = e.flags }) e.content

abbrev pub due_lsps : Control → ℕ → List Pdu
due_lsps c link = map lsp_of (filter (λ e. srm c.flood e.id link) c.entries)

abbrev pub due_psnps : Control → ℕ → List Pdu
due_psnps c link = map (psnp_of c) (blocks most_listed (map summary_of (filter (λ e. ssn c.flood e.id link) c.entries)))

-- what is to be sent on a link: the CSNPs that are due, the LSPs, and the PSNP entries that acknowledge or request LSPs
unfoldable pub send_of : Control → ℕ → List Pdu
send_of c link = due_csnps c (slice_index_or c.flood.due link false) ++ (due_lsps c link ++ due_psnps c link)

unfoldable pub send : Control → ℕ → Reply
send c link = record { control = record c { flood = sent_on c.flood link }; sent = send_of c link; drops = [] }

-- ---- interfaces, labels and members, and restart

unfoldable pub end_up : Control → ℕ → Reply
end_up c link = quiet (reissue_unless_spent (record c { flood = link_up c.flood c.entries link }))

unfoldable pub end_down : Control → ℕ → Reply
end_down c link = quiet (reissue_unless_spent (record c { flood = link_down c.flood link }))

-- a range of labels begins elsewhere, or a sub-domain is left or joined again, and the own LSP says so
unfoldable pub relabel : Control → ℕ → Bsl → ℕ → Reply
relabel c sd bsl label = quiet (reissue_unless_spent (record c { conf = relabelled c.conf sd bsl label }))

unfoldable pub leave : Control → ℕ → Reply
leave c sd = quiet (reissue_unless_spent (record c { conf = left c.conf sd }))

unfoldable pub join : Control → ℕ → Reply
join c sd = quiet (reissue_unless_spent (record c { conf = rejoined c.conf sd }))

-- a router that has just started: it knows only its own LSP
unfoldable pub started : RouterConf → List Bool → Control
started r up =
    issue (record { conf = r; flood = new_flood r.system up; entries = []; spent = false }) (own_lsp r up 1)

-- the first state of a router, with all its interfaces up
unfoldable pub first_control : RouterConf → Control
first_control r = started r (replicate (length r.ends) true)

-- a restart discards the LSDB; the configuration and the state of each interface are kept
unfoldable pub restart : Control → Reply
restart c = quiet (started c.conf c.flood.up)
