use Rattle.deku_fields.proofs.Named.{Cut, one_named, none_named}
use Rattle.deku_fields.proofs.words.parse_field.Goals as goal

pub returns-in_err-size : goal.returns-in_err-size
returns-in_err-size c =
    let cut : Cut c.args.word.now c.in_ok-kind.kind c.split_endian-endian.result.0 c.split_order-order.result.0 c.split_order-order.result.1.now =
    record { options = _; behind = _; starts = c.in_ok-kind.ensures.0; begins = c.in_ok-kind.ensures.1; ends = c.split_endian-endian.ensures; last = c.split_order-order.ensures } in
    none_named _ _ _ _ _ _ cut c.in_err-size.ensures c.from_residual-in_err-size.ensures

pub returns : goal.returns
returns c =
    let cut : Cut c.args.word.now c.in_ok-kind.kind c.split_endian-endian.result.0 c.split_order-order.result.0 c.split_order-order.result.1.now =
    record { options = _; behind = _; starts = c.in_ok-kind.ensures.0; begins = c.in_ok-kind.ensures.1; ends = c.split_endian-endian.ensures; last = c.split_order-order.ensures } in
    one_named _ _ _ _ _ _ cut c.in_ok-size.ensures
