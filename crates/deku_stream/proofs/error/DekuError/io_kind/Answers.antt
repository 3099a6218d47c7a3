use Rattle.std.proofs.Common.{rules}
use Rattle.deku_stream.proofs.error.DekuError.io_kind.Goals as goal

pub returns-in-Incomplete : goal.returns-in-Incomplete
returns-in-Incomplete c = search rules

pub returns-in-Parse : goal.returns-in-Parse
returns-in-Parse c = search rules

pub returns-in-InvalidParam : goal.returns-in-InvalidParam
returns-in-InvalidParam c = search rules

pub returns-in-IdVariantNotFound : goal.returns-in-IdVariantNotFound
returns-in-IdVariantNotFound c = search rules

pub returns-in-Io : goal.returns-in-Io
returns-in-Io c = search rules
