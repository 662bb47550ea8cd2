use Rattle.std.proofs.Common.{◌≡◌, ◌-◌, length, sym, ap, ◌∙◌, drop, arith}
use Rattle.std.proofs.lemmas.List.{length-drop}
use Rattle.pcap_frames.specs.Seen.{stage_seen, cut_end, opened_end, form_seen}
use Rattle.pcap_frames.proofs.Ends.{header_end, records_end, refused_end, same_reading}
use Rattle.pcap_frames.proofs.reader.Reader.finish.Goals as goal

pub returns-in-Header : goal.returns-in-Header
returns-in-Header c =
    let octets = drop c.self.inside.at c.self.inside.bytes.items in
    let held : c.len.result - c.self.inside.at ≡ length octets = omega (arith, c.len.ensures, length-drop c.self.inside.at c.self.inside.bytes.items) in
    c.end_of_header.ensures ∙ ap opened_end held
    ∙ sym (header_end octets c.args.self (same_reading _ _ _ _ (sym c.self.view_is) (ap stage_seen c.in-Header.is)) c.requires)

pub returns-in-Records : goal.returns-in-Records
returns-in-Records c =
    let octets = drop c.self.inside.at c.self.inside.bytes.items in
    let held : c.len.result - c.self.inside.at ≡ length octets = omega (arith, c.len.ensures, length-drop c.self.inside.at c.self.inside.bytes.items) in
    c.end_of_records.ensures ∙ ap cut_end held
    ∙ sym (records_end (form_seen c.in-Records.field-0) octets c.args.self (same_reading _ _ _ _ (sym c.self.view_is) (ap stage_seen c.in-Records.is)) c.requires)

pub returns : goal.returns
returns c =
    let octets = drop c.self.inside.at c.self.inside.bytes.items in
    sym (refused_end c.in-Refused.fault octets c.args.self (same_reading _ _ _ _ (sym c.self.view_is) (ap stage_seen c.in-Refused.is)))
