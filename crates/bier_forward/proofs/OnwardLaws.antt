-- A tunnel packet that goes on: octets behind its total length mean nothing.
use Rattle.std.proofs.Common.{◌≡◌, ℕ, ◌-◌, ◌≤◌, List, [], ◌∷◌, ◌++◌, length, take, drop, append-nil, sym, ap, ◌∙◌, arith}
use Rattle.std.specs.Prelude.{slice_index}
use Rattle.std.proofs.Math.ListN.{get_or-append, drop_of_length-le}
use Rattle.std.proofs.Math.Seq.{take-append_seam, drop-append_seam}
use Rattle.std.proofs.lemmas.List.{take-append-drop, take-append-le, drop-append-le, length-drop, length-take}
use Rattle.byteorder.specs.Endian.{big_bytes, big_number}
use Rattle.wire_base.specs.model.Tunnel.{header_with, ones_sum, total_of, tunnel_on, word_sum}

-- the header is in the first 20 octets
header-front : (xs ys : List ℕ) (ttl sum : ℕ) → 20 ≤ length xs → header_with (xs ++ ys) ttl sum ≡ header_with xs ttl sum
header-front xs ys ttl sum long =
    let early : take 8 (xs ++ ys) ≡ take 8 xs = take-append-le 8 xs ys (omega (arith, long)) in
    let ninth : slice_index (xs ++ ys) 9 ≡ slice_index xs 9 = get_or-append xs ys 0 9 (omega (arith, long)) in
    let late : take 8 (drop 12 (xs ++ ys)) ≡ take 8 (drop 12 xs) = ap (take 8) (drop-append-le 12 xs ys (omega (arith, long))) ∙ take-append-le 8 (drop 12 xs) ys (omega (arith, long, length-drop 12 xs)) in
    ap (λ (l : List ℕ). l ++ (ttl ∷ slice_index (xs ++ ys) 9 ∷ (big_bytes 2 sum ++ take 8 (drop 12 (xs ++ ys))))) early
    ∙ ap (λ (n : ℕ). take 8 xs ++ (ttl ∷ n ∷ (big_bytes 2 sum ++ take 8 (drop 12 (xs ++ ys))))) ninth
    ∙ ap (λ (l : List ℕ). take 8 xs ++ (ttl ∷ slice_index xs 9 ∷ (big_bytes 2 sum ++ l))) late

total-front : (xs ys : List ℕ) → 20 ≤ length xs → total_of (xs ++ ys) ≡ total_of xs
total-front xs ys long =
    ap (big_number 2) (drop-append-le 2 xs ys (omega (arith, long)))
    ∙ by (get_or-append (drop 2 xs) ys 0 0 (omega (arith, long, length-drop 2 xs))) (get_or-append (drop 2 xs) ys 0 1 (omega (arith, long, length-drop 2 xs)))
  where
    by : slice_index (drop 2 xs ++ ys) 0 ≡ slice_index (drop 2 xs) 0 → slice_index (drop 2 xs ++ ys) 1 ≡ slice_index (drop 2 xs) 1 → big_number 2 (drop 2 xs ++ ys) ≡ big_number 2 (drop 2 xs)
    by a b = omega (arith, a, b)

-- what is sent on of all octets is what is sent on of the packet's own
on-front : (xs ys : List ℕ) (ttl : ℕ) → 20 ≤ length xs → total_of xs ≡ length xs → tunnel_on (xs ++ ys) ttl ≡ tunnel_on xs ttl
unfolding tunnel_on
on-front xs ys ttl long whole =
    let first : header_with (xs ++ ys) ttl 0 ≡ header_with xs ttl 0 = header-front xs ys ttl 0 long in
    let sum = 65535 - ones_sum (word_sum (header_with xs ttl 0)) in
    let within : total_of xs ≤ length xs = omega (arith, whole) in
    ap (λ (l : List ℕ). header_with (xs ++ ys) ttl (65535 - ones_sum (word_sum l)) ++ drop 20 (take (total_of (xs ++ ys)) (xs ++ ys))) first
    ∙ ap (λ (l : List ℕ). l ++ drop 20 (take (total_of (xs ++ ys)) (xs ++ ys))) (header-front xs ys ttl sum long)
    ∙ ap (λ (n : ℕ). header_with xs ttl sum ++ drop 20 (take n (xs ++ ys))) (total-front xs ys long)
    ∙ ap (λ (l : List ℕ). header_with xs ttl sum ++ drop 20 l) (take-append-le (total_of xs) xs ys within)

-- A packet behind the first octets of a frame.
pub record IsBehind (octets frame : List ℕ) (first : List ℕ) (ttl : ℕ) : Type 0 where
  pub head : 20 ≤ total_of (drop 14 frame)
  pub whole : total_of (drop 14 frame) ≤ length (drop 14 frame)
  pub onward : take 14 frame ++ (tunnel_on (drop 14 frame) ttl ++ drop (total_of (drop 14 frame)) (drop 14 frame)) ≡ first ++ tunnel_on octets ttl

pub behind : (octets first frame : List ℕ) (to ttl : ℕ) → length first ≡ 14 → 24 ≤ to → to ≡ total_of octets → to ≤ length octets → frame ≡ first ++ take to octets → IsBehind octets frame first ttl
behind octets first frame to ttl long low total within is =
    let packet = take to octets in
    let size : length packet ≡ to = omega (arith, length-take to octets, within) in
    let parts : packet ++ drop to octets ≡ octets = take-append-drop to octets in
    let same : total_of packet ≡ to = sym (total-front packet (drop to octets) (omega (arith, low, size))) ∙ ap total_of parts ∙ sym total in
    let after : drop 14 frame ≡ packet = ap (drop 14) is ∙ ap (λ (n : ℕ). drop n (first ++ packet)) (sym long) ∙ drop-append_seam first packet in
    let before : take 14 frame ≡ first = ap (take 14) is ∙ ap (λ (n : ℕ). take n (first ++ packet)) (sym long) ∙ take-append_seam first packet in
    let none : drop (total_of packet) packet ≡ [] = drop_of_length-le packet (omega (arith, same, size)) in
    let on : tunnel_on packet ttl ≡ tunnel_on octets ttl = sym (on-front packet (drop to octets) ttl (omega (arith, low, size)) (omega (arith, same, size))) ∙ ap (λ (l : List ℕ). tunnel_on l ttl) parts in
    record {
      head = omega (arith, ap total_of after, same, low);
      whole = omega (arith, ap total_of after, same, ap length after, size);
      onward =
          ap (λ (l : List ℕ). l ++ (tunnel_on (drop 14 frame) ttl ++ drop (total_of (drop 14 frame)) (drop 14 frame))) before
          ∙ ap (λ (l : List ℕ). first ++ (tunnel_on l ttl ++ drop (total_of l) l)) after
          ∙ ap (λ (l : List ℕ). first ++ (tunnel_on packet ttl ++ l)) none
          ∙ ap (λ (l : List ℕ). first ++ l) (append-nil (tunnel_on packet ttl) ∙ on);
    }

pub front-of : (xs ys : List ℕ) (n : ℕ) → length xs ≡ n → take n (xs ++ ys) ≡ xs
front-of xs ys n long = ap (λ (k : ℕ). take k (xs ++ ys)) (sym long) ∙ take-append_seam xs ys
