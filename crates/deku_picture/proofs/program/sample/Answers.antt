use Rattle.std.proofs.Common.{rules}
use Rattle.deku_picture.proofs.program.sample.Goals as goal

pub returns-in-Err-OutOfMemory-clause-read : goal.returns-in-Err-OutOfMemory-clause-read
returns-in-Err-OutOfMemory-clause-read c = search rules

pub returns-in-Err-OutOfMemory-clause-stops : goal.returns-in-Err-OutOfMemory-clause-stops
returns-in-Err-OutOfMemory-clause-stops c = search rules

pub returns-in-Err : goal.returns-in-Err
returns-in-Err c = search rules

pub returns-in_err-values-clause-read : goal.returns-in_err-values-clause-read
returns-in_err-values-clause-read c = search rules

pub returns-in_err-values-clause-stops : goal.returns-in_err-values-clause-stops
returns-in_err-values-clause-stops c = search rules

pub returns-clause-read : goal.returns-clause-read
returns-clause-read c = search rules

pub returns-clause-stops : goal.returns-clause-stops
returns-clause-stops c = search rules
