use Rattle.std.proofs.Common.{Ok, Err}
use Rattle.std.proofs.lemmas.Result.{err_from_is_err_and}
use Rattle.deku_pieces.proofs.Turned.{shown_symmetric}
use Rattle.deku_pieces.proofs.Unpacking.{unpacked_back, unpacked_taken}
use Rattle.deku_located.proofs.Showing.{shown_read, shown_refused}
use Rattle.deku_located.proofs.located.unpack_located.Goals as goal

pub returns-in_err-bits-clause-meaning : goal.returns-in_err-bits-clause-meaning
returns-in_err-bits-clause-meaning g c =
    let k = err_from_is_err_and c.from_residual.result c.from_residual.ensures.1 in
    rw (k.1, k.2) (shown_refused _ _ _ _ c.in_err-bits.ensures.meaning)

pub returns-in_err-bits-clause-back : goal.returns-in_err-bits-clause-back
returns-in_err-bits-clause-back g c =
    let k = err_from_is_err_and c.from_residual.result c.from_residual.ensures.1 in
    let refused = shown_refused g.E.FromParts.parts_of (g.E.Parts.DekuReader.meaning tt) c.args.bytes.now c.in_err-bits.field-0.0.error c.in_err-bits.ensures.meaning in
    rw (k.1, k.2) (unpacked_back _ _ _ _ (shown_symmetric g.E.FromParts.parts_of _ _ _ _ (g.met.E.Parts.Symmetric.symmetric tt)) c.args.bytes.now (Err c.in_err-bits.field-0.0.error) refused)

pub returns-clause-meaning : goal.returns-clause-meaning
returns-clause-meaning g c = shown_read _ _ _ _ _ _ c.from_parts.ensures c.in_ok-bits.ensures.meaning

pub returns-clause-back : goal.returns-clause-back
returns-clause-back g c =
    let read = shown_read g.E.FromParts.parts_of (g.E.Parts.DekuReader.meaning tt) c.args.bytes.now c.in_ok-bits.bits _ c.from_parts.result c.from_parts.ensures c.in_ok-bits.ensures.meaning in
    unpacked_back _ _ _ _ (shown_symmetric g.E.FromParts.parts_of _ _ _ _ (g.met.E.Parts.Symmetric.symmetric tt)) c.args.bytes.now (Ok (c.in_ok-bits.bits, c.from_parts.result)) read

pub returns-clause-taken : goal.returns-clause-taken
returns-clause-taken g c =
    let read = shown_read g.E.FromParts.parts_of (g.E.Parts.DekuReader.meaning tt) c.args.bytes.now c.in_ok-bits.bits _ c.from_parts.result c.from_parts.ensures c.in_ok-bits.ensures.meaning in
    unpacked_taken _ _ _ _ (shown_symmetric g.E.FromParts.parts_of _ _ _ _ (g.met.E.Parts.Symmetric.symmetric tt)) c.args.bytes.now (Ok (c.in_ok-bits.bits, c.from_parts.result)) read
