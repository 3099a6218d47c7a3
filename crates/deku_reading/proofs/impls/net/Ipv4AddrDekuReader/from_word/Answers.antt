use Rattle.std.proofs.Common.{rules, refl, subst, pos}
use Rattle.std.specs.Net.Addr.{ipv4_bits}
use Rattle.deku_num.specs.Numbers.{unsigned}
use Rattle.deku_num.specs.Cutting.{IsCutValue}
use Rattle.deku_reading.proofs.Addresses.{ipv4_made}
use Rattle.deku_reading.proofs.OfBits.{unsigned_cut, shown_cut}
use Rattle.deku_reading.proofs.impls.net.Ipv4AddrDekuReader.from_word.Goals as goal

pub returns : goal.returns
returns g c =
    let value = c.in_ok-value.value in
    let cut = unsigned_cut refl (subst (λ l. IsCutValue (unsigned 32) l c.args.order c.args.word c.args.room (pos value) c.in_ok-value.bits) c.parts.ensures c.in_ok-value.ensures.cut) in
    shown_cut _ c.args.order _ ipv4_bits c.args.word c.args.room value c.from_bits.result (ipv4_made c.from_bits.result value c.from_bits.ensures (search rules)) cut
