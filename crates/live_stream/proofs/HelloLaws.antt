-- What the hellos of a live router do: what was written before their texts stays before them, and a record is one more.
use Rattle.std.proofs.Common.{◌≡◌, ℕ, ◌+◌, Bool, true, false, if◌then◌else◌, List, [], ◌∷◌, ◌++◌, drop, Option, Some, None, Result, Ok, Err, slice_get, refl, sym, ap, ap₂, ◌∙◌, append_assoc}
use Rattle.std.specs.Prelude.{OnOk}
use Rattle.wire_base.specs.declared.conf.End.{End}
use Rattle.pcapng_frames.specs.declared.packet.NgRecord.{NgRecord}
use Rattle.isis_hello.specs.declared.adjacency.Circuit.{Circuit}
use Rattle.command_node.specs.NodeRun.{link_of}
use Rattle.live_stream.specs.declared.fault.LiveFault.{LiveFault}
use Rattle.live_stream.specs.declared.greeting.Greeting.{Greeting}
use Rattle.live_stream.specs.Events.{Seat, names_of, is_event}
use Rattle.live_stream.specs.LiveRun.{refused_text}
use Rattle.live_stream.specs.HelloRun.{Greeter, Turned, turned, circuit_on, written, greeting_frame, sends_over, sends, refuses, greets, greeting_fault, greeted_unless, greeted_if, greeting_at, evented, receives, received, streamed, counts, hello_done, hello_reach}
use Rattle.live_stream.specs.HelloOwed.{past}

module _ (frames report : List ℕ) where
  turned_past : (g : Greeter) (t : Turned) → turned (past frames report g) t ≡ past frames report (turned g t)
  turned_past g t = ap (λ (l : List ℕ). record g { circuits = t.circuits; frames = l; report = report ++ g.report }) (append_assoc frames g.frames t.text)

  refuses_past : (g : Greeter) (why : LiveFault) → refuses (past frames report g) why ≡ past frames report (refuses g why)
  refuses_past g why = ap (λ (l : List ℕ). record g { frames = frames ++ g.frames; report = l }) (append_assoc report g.report (refused_text g.records why))

  unless_past : (fault : Option LiveFault) (s : Seat) (read : NgRecord) (g : Greeter) (e : Greeting) → greeted_unless fault s read (past frames report g) e ≡ past frames report (greeted_unless fault s read g e)
  unless_past None s read g e = turned_past g (greets s read g.conf g.circuits e)
  unless_past (Some why) s read g e = refuses_past g why

  if_past : (s : Seat) (read : NgRecord) (g : Greeter) (found : Result Greeting LiveFault) → greeted_if s read (past frames report g) found ≡ past frames report (greeted_if s read g found)
  if_past s read g (Ok e) = unless_past (greeting_fault s g.conf g.circuits e) s read g e
  if_past s read g (Err why) = refuses_past g why

  streamed_past : (s : Seat) (read : NgRecord) (g : Greeter) → streamed s read (past frames report g) ≡ past frames report (streamed s read g)
  streamed_past s read g = by (is_event read)
    where
      by : (b : Bool) → (if b then evented s read (past frames report g) else received s read (past frames report g)) ≡ past frames report (if b then evented s read g else received s read g)
      by true = if_past s read g (greeting_at (names_of s.domain) (drop 14 read.cap.octets))
      by false = turned_past g (receives s read g.conf g.circuits (link_of g.conf read))

  pub record_past : (s : Seat) (g : Greeter) (read : NgRecord) → hello_done s (past frames report g) read ≡ past frames report (hello_done s g read)
  unfolding hello_done
  record_past s g read = streamed_past s read (counts g)

  pub records_past : (s : Seat) (g : Greeter) (reads : List NgRecord) → hello_reach s (past frames report g) reads ≡ past frames report (hello_reach s g reads)
  unfolding hello_reach
  records_past s g [] = refl
  records_past s g (read ∷ more) = ap (λ (m : Greeter). hello_reach s m more) (record_past s g read) ∙ records_past s (hello_done s g read) more

-- one record, and then the others
pub reach_one : (s : Seat) (g : Greeter) (read : NgRecord) (more : List NgRecord) → hello_reach s g (read ∷ more) ≡ hello_reach s (hello_done s g read) more
unfolding hello_reach
reach_one s g read more = refl

-- ---- a record is one more

unless_counts : (fault : Option LiveFault) (s : Seat) (read : NgRecord) (g : Greeter) (e : Greeting) → (greeted_unless fault s read g e).records ≡ g.records
unless_counts None s read g e = refl
unless_counts (Some why) s read g e = refl

if_counts : (s : Seat) (read : NgRecord) (g : Greeter) (found : Result Greeting LiveFault) → (greeted_if s read g found).records ≡ g.records
if_counts s read g (Ok e) = unless_counts (greeting_fault s g.conf g.circuits e) s read g e
if_counts s read g (Err why) = refl

pub done_counts : (s : Seat) (g : Greeter) (read : NgRecord) → (hello_done s g read).records ≡ g.records + 1
unfolding hello_done
done_counts s g read = by (is_event read)
  where
    by : (b : Bool) → (if b then evented s read (counts g) else received s read (counts g)).records ≡ g.records + 1
    by true = if_counts s read (counts g) (greeting_at (names_of s.domain) (drop 14 read.cap.octets))
    by false = refl

-- ---- a hello is sent

-- its record was written, by hellos in one view or another
pub sent_so : {T E : Type 0} (result : Result T E) (g now : Greeter) (read : NgRecord) (link : ℕ) (e : End) (circuit : Circuit) (event made frame out : List ℕ) → slice_get g.conf.ends link ≡ Some e → circuit ≡ circuit_on g.circuits link
    → event ≡ read.cap.octets → made ≡ greeting_frame g.conf link e circuit event → frame ≡ made → OnOk result (out ≡ g.frames ++ written read frame) → g ≡ now
    → OnOk result (record g { frames = out } ≡ turned now (sends read now.conf now.circuits link))
sent_so (Err why) g now read link e circuit event made frame out at on of is same wrote view = tt
sent_so (Ok done) g now read link e circuit event made frame out at on of is same wrote view =
    let sent : frame ≡ greeting_frame g.conf link e (circuit_on g.circuits link) read.cap.octets = same ∙ is ∙ ap₂ (λ (k : Circuit) (o : List ℕ). greeting_frame g.conf link e k o) on of in
    ap (λ (l : List ℕ). record g { frames = l }) (wrote ∙ ap (λ (f : List ℕ). g.frames ++ written read f) sent)
    ∙ ap (λ (o : Option End). turned g (sends_over read g.conf g.circuits link o)) (sym at)
    ∙ ap (λ (h : Greeter). turned h (sends read h.conf h.circuits link)) view
