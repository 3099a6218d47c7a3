use Rattle.std.proofs.lemmas.Result.{err_from_is_err_and}
use Rattle.std.proofs.Common.{rules, Ok, Err}
use Rattle.deku_callers.proofs.Headers.{IsOfType, udp_written, udp_read}
use Rattle.deku_callers.proofs.record.there_and_back.Goals as goal

pub returns : goal.returns
returns c =
    let fits : IsOfType c.args.header = (search rules, search rules, search rules, search rules) in
    let laid = udp_written c.to_bytes_law.ensures c.from_bytes_law.ensures.back c.length_law.ensures c.args.header fits (Ok c.in_ok-bytes.bytes) c.in_ok-bytes.ensures in
    udp_read c.to_bytes_law.ensures c.from_bytes_law.ensures.back c.length_law.ensures c.args.header fits c.in_ok-bytes.bytes laid c.as_slice.result.now c.as_slice.ensures.value
    (Ok (c.in_ok-_rest._rest, c.in_ok-_rest.read)) c.in_ok-_rest.ensures

pub returns-in_err-_rest : goal.returns-in_err-_rest
returns-in_err-_rest c =
    let fits : IsOfType c.args.header = (search rules, search rules, search rules, search rules) in
    let laid = udp_written c.to_bytes_law.ensures c.from_bytes_law.ensures.back c.length_law.ensures c.args.header fits (Ok c.in_ok-bytes.bytes) c.in_ok-bytes.ensures in
    let k = err_from_is_err_and c.from_residual-in_err-_rest.result c.from_residual-in_err-_rest.ensures.1 in
    rw (k.1, k.2) (udp_read c.to_bytes_law.ensures c.from_bytes_law.ensures.back c.length_law.ensures c.args.header fits c.in_ok-bytes.bytes laid c.as_slice.result.now c.as_slice.ensures.value
    (Err c.in_err-_rest.field-0.0) c.in_err-_rest.ensures)

pub returns-in_err-bytes : goal.returns-in_err-bytes
returns-in_err-bytes c =
    let fits : IsOfType c.args.header = (search rules, search rules, search rules, search rules) in
    let k = err_from_is_err_and c.from_residual.result c.from_residual.ensures.1 in
    rw (k.1, k.2) (udp_written c.to_bytes_law.ensures c.from_bytes_law.ensures.back c.length_law.ensures c.args.header fits (Err c.in_err-bytes.field-0.0) c.in_err-bytes.ensures)
