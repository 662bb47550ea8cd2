-- The frame of a hello is parsed as that hello.
use Rattle.std.proofs.Common.{◌≡◌, ℕ, ◌+◌, ◌≤◌, List, [], ◌∷◌, length, Some, Result, Ok, Err, refl, sym, ap, ◌∙◌, arith}
use Rattle.std.proofs.lemmas.List.{take_all, append-nil}
use Rattle.std.specs.Prelude.{IfOk, OnOk}
use Rattle.std.specs.Result.{result_ok}
use Rattle.wire_base.specs.declared.addresses.Mac.{Mac}
use Rattle.wire_base.specs.declared.conf.End.{End}
use Rattle.wire_base.specs.declared.conf.RouterConf.{RouterConf}
use Rattle.wire_base.specs.model.Ethernet.{IsisPdu, frame_at}
use Rattle.wire_base.specs.model.Item.{all_routers, isis_frame}
use Rattle.link_frame.proofs.Frames.{frame_again}
use Rattle.isis_hello.specs.declared.hello.Hello.{Hello}
use Rattle.isis_hello.specs.Events.{hello_frame, hello_framed, hello_in}
use Rattle.isis_hello.specs.Hello.{HelloFits, hello, hello_at}
use Rattle.isis_hello.proofs.ReadLemmas.{hello_again, hello_short}

isis_carries : (own : Mac) (octets : List ℕ) → length own.0 ≡ 6 → length octets ≤ 1497 → frame_at (isis_frame own octets) ≡ Ok (IsisPdu octets)
isis_carries own octets six short =
    frame_again all_routers own.0 (254 ∷ 254 ∷ 3 ∷ octets) (3 + length octets) (IsisPdu octets) refl six (omega arith)
    (omega arith, omega arith, take_all (3 + length octets) (254 ∷ 254 ∷ 3 ∷ octets) (omega arith))

pub frame_parsed : (r : RouterConf) (e : End) (h : Hello) → length r.area ≤ 13 → HelloFits h → length e.own_mac.0 ≡ 6 → hello_in (hello_frame r e h) ≡ Some h
unfolding hello_in
frame_parsed r e h few fits six =
    let octets = hello r.level r.area h in
    let short = hello_short r.level r.area h few fits in
    let parsed : hello_at octets ≡ Ok h = ap hello_at (sym (append-nil octets)) ∙ hello_again r.level r.area h [] few fits in
    ap hello_framed (isis_carries e.own_mac octets six (omega (arith, short))) ∙ ap result_ok parsed

pub frame_from : {E : Type 0} (r : RouterConf) (e : End) (h : Hello) (result : Result (List ℕ) E) → length r.area ≤ 13 → IfOk result (λ frame. frame ≡ hello_frame r e h) → OnOk result (HelloFits h × (length e.own_mac.0 ≡ 6)) → IfOk result (λ frame. hello_in frame ≡ Some h)
frame_from r e h (Ok frame) few is fits = ap hello_in is ∙ frame_parsed r e h few fits.0 fits.1
frame_from r e h (Err f) few is fits = tt
