use Rattle.std.proofs.Common.{Ok, ap, ◌∙◌, option_map}
use Rattle.pcap_frames.specs.Seen.{record_seen}
use Rattle.pcap_frames.proofs.Drained.{next_shorter}
use Rattle.isis_dump.proofs.dump.Progress.show_records.Goals as goal

pub records-smaller : goal.records-smaller
records-smaller c =
    rw c.show_next.ensures.reader
    (next_shorter c.records.self.reader c.next.new.self (record_seen c.in-Some.record) (c.in_ok-record.ensures.exact ∙ ap (λ o. Ok (option_map record_seen o)) c.in-Some.is) c.in_ok-record.ensures.after)
