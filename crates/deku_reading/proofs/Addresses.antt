-- Addresses made of numbers are worth these numbers.
use Rattle.std.proofs.Common.{◌≡◌, ℕ, zero, suc, ◌+◌, ◌*◌, ◌/◌, ◌%◌, ◌^◌, ◌<◌, List, ◌∷◌, refl, ap, ◌∙◌, arith}
use Rattle.std.proofs.lemmas.Nat.{from_be_bytes-to_be_bytes_4}
use Rattle.std.specs.Int.{w32, w128, byte_at, bytes_high_first, to_be_bytes, from_be_bytes}
use Rattle.std.specs.Net.Addr.{segments_of, octets_of, ipv4_bits, ipv6_bits, IsIpv4OfBits, IsIpv6OfBits}
use Rattle.std.specs.declared.net.ipv4_addr.Ipv4Addr.{Ipv4Addr}
use Rattle.std.specs.declared.net.ipv6_addr.Ipv6Addr.{Ipv6Addr}

pub ipv4_made : (a : Ipv4Addr) (n : ℕ) → IsIpv4OfBits a n → n < 2 ^ 32 → ipv4_bits a ≡ n
unfolding ipv4_bits IsIpv4OfBits
ipv4_made a n is small = ap (from_be_bytes w32) is ∙ from_be_bytes-to_be_bytes_4 n small

-- ---- sixteen bytes
-- the quotients q by 256 and the remainders r, one after the other
digits : (q0 q1 q2 q3 q4 q5 q6 q7 q8 q9 q10 q11 q12 q13 q14 q15 r0 r1 r2 r3 r4 r5 r6 r7 r8 r9 r10 r11 r12 r13 r14 r15 : ℕ)
    → q0 ≡ q1 * 256 + r0 → q1 ≡ q2 * 256 + r1 → q2 ≡ q3 * 256 + r2 → q3 ≡ q4 * 256 + r3
    → q4 ≡ q5 * 256 + r4 → q5 ≡ q6 * 256 + r5 → q6 ≡ q7 * 256 + r6 → q7 ≡ q8 * 256 + r7
    → q8 ≡ q9 * 256 + r8 → q9 ≡ q10 * 256 + r9 → q10 ≡ q11 * 256 + r10 → q11 ≡ q12 * 256 + r11
    → q12 ≡ q13 * 256 + r12 → q13 ≡ q14 * 256 + r13 → q14 ≡ q15 * 256 + r14 → r15 ≡ q15
    → r15 * 256 ^ 15 + r14 * 256 ^ 14 + r13 * 256 ^ 13 + r12 * 256 ^ 12 + r11 * 256 ^ 11 + r10 * 256 ^ 10 + r9 * 256 ^ 9 + r8 * 256 ^ 8 + r7 * 256 ^ 7 + r6 * 256 ^ 6 + r5 * 256 ^ 5 + r4 * 256 ^ 4 + r3 * 256 ^ 3 + r2 * 256 ^ 2 + r1 * 256 ^ 1 + r0 ≡ q0
digits q0 q1 q2 q3 q4 q5 q6 q7 q8 q9 q10 q11 q12 q13 q14 q15 r0 r1 r2 r3 r4 r5 r6 r7 r8 r9 r10 r11 r12 r13 r14 r15 h0 h1 h2 h3 h4 h5 h6 h7 h8 h9 h10 h11 h12 h13 h14 h15 = omega arith

sixteen : (n : ℕ) → n < 2 ^ 128 → from_be_bytes w128 (to_be_bytes w128 n) ≡ n
sixteen n small =
    let s0 : n ≡ n / 256 * 256 + n % 256 = omega arith in
    let s1 : n / 256 ≡ n / 65536 * 256 + n / 256 % 256 = omega arith in
    let s2 : n / 65536 ≡ n / 16777216 * 256 + n / 65536 % 256 = omega arith in
    let s3 : n / 16777216 ≡ n / 4294967296 * 256 + n / 16777216 % 256 = omega arith in
    let s4 : n / 4294967296 ≡ n / 1099511627776 * 256 + n / 4294967296 % 256 = omega arith in
    let s5 : n / 1099511627776 ≡ n / 281474976710656 * 256 + n / 1099511627776 % 256 = omega arith in
    let s6 : n / 281474976710656 ≡ n / 72057594037927936 * 256 + n / 281474976710656 % 256 = omega arith in
    let s7 : n / 72057594037927936 ≡ n / 18446744073709551616 * 256 + n / 72057594037927936 % 256 = omega arith in
    let s8 : n / 18446744073709551616 ≡ n / 4722366482869645213696 * 256 + n / 18446744073709551616 % 256 = omega arith in
    let s9 : n / 4722366482869645213696 ≡ n / 1208925819614629174706176 * 256 + n / 4722366482869645213696 % 256 = omega arith in
    let s10 : n / 1208925819614629174706176 ≡ n / 309485009821345068724781056 * 256 + n / 1208925819614629174706176 % 256 = omega arith in
    let s11 : n / 309485009821345068724781056 ≡ n / 79228162514264337593543950336 * 256 + n / 309485009821345068724781056 % 256 = omega arith in
    let s12 : n / 79228162514264337593543950336 ≡ n / 20282409603651670423947251286016 * 256 + n / 79228162514264337593543950336 % 256 = omega arith in
    let s13 : n / 20282409603651670423947251286016 ≡ n / 5192296858534827628530496329220096 * 256 + n / 20282409603651670423947251286016 % 256 = omega arith in
    let s14 : n / 5192296858534827628530496329220096 ≡ n / 1329227995784915872903807060280344576 * 256 + n / 5192296858534827628530496329220096 % 256 = omega arith in
    let top : n / 1329227995784915872903807060280344576 % 256 ≡ n / 1329227995784915872903807060280344576 = omega arith in
    digits n (n / 256) (n / 65536) (n / 16777216) (n / 4294967296) (n / 1099511627776) (n / 281474976710656) (n / 72057594037927936) (n / 18446744073709551616) (n / 4722366482869645213696) (n / 1208925819614629174706176) (n / 309485009821345068724781056) (n / 79228162514264337593543950336) (n / 20282409603651670423947251286016) (n / 5192296858534827628530496329220096) (n / 1329227995784915872903807060280344576)
    (n % 256) (n / 256 % 256) (n / 65536 % 256) (n / 16777216 % 256) (n / 4294967296 % 256) (n / 1099511627776 % 256) (n / 281474976710656 % 256) (n / 72057594037927936 % 256) (n / 18446744073709551616 % 256) (n / 4722366482869645213696 % 256) (n / 1208925819614629174706176 % 256) (n / 309485009821345068724781056 % 256) (n / 79228162514264337593543950336 % 256) (n / 20282409603651670423947251286016 % 256) (n / 5192296858534827628530496329220096 % 256) (n / 1329227995784915872903807060280344576 % 256)
    s0 s1 s2 s3 s4 s5 s6 s7 s8 s9 s10 s11 s12 s13 s14 top

-- ---- segments and octets
byte_small : (i n : ℕ) → byte_at i n < 256
byte_small zero n = omega arith
byte_small (suc i) n = omega arith

-- an even list of bytes, in twos, and back
paired : (m n : ℕ) → m % 2 ≡ 0 → octets_of (segments_of (bytes_high_first m n)) ≡ bytes_high_first m n
paired zero n even = refl
paired (suc zero) n even = absurd (omega arith)
paired (suc (suc m)) n even = twos (byte_at (suc m) n) (byte_at m n) (bytes_high_first m n) (byte_small m n) (paired m n (omega arith))
  where
    twos : (a b : ℕ) (xs : List ℕ) → b < 256 → octets_of (segments_of xs) ≡ xs → octets_of (segments_of (a ∷ b ∷ xs)) ≡ a ∷ b ∷ xs
    twos a b xs low e =
        let high : (a * 256 + b) / 256 ≡ a = omega arith in
        let rest : (a * 256 + b) % 256 ≡ b = omega arith in
        λ i. high i ∷ rest i ∷ e i

pub ipv6_made : (a : Ipv6Addr) (n : ℕ) → IsIpv6OfBits a n → n < 2 ^ 128 → ipv6_bits a ≡ n
unfolding ipv6_bits IsIpv6OfBits
ipv6_made a n is small = ap (from_be_bytes w128) (ap octets_of is ∙ paired 16 n refl) ∙ sixteen n small
