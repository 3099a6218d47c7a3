use Rattle.std.proofs.Common.{rules}
use Rattle.deku_reader.proofs.reader.progress.ReaderState.admits_bytes.Goals as goal

pub returns-in_err-admits-clause-answer : goal.returns-in_err-admits-clause-answer
returns-in_err-admits-clause-answer c = search rules

pub returns-in_err-admits-clause-fits : goal.returns-in_err-admits-clause-fits
returns-in_err-admits-clause-fits c = search rules

pub returns-then-amt-clause-answer : goal.returns-then-amt-clause-answer
returns-then-amt-clause-answer c = search rules

pub returns-then-amt-clause-fits : goal.returns-then-amt-clause-fits
returns-then-amt-clause-fits c = search rules

pub returns-clause-answer : goal.returns-clause-answer
returns-clause-answer c = search rules

pub returns-clause-fits : goal.returns-clause-fits
returns-clause-fits c = search rules
