-- What is printed where a run ends before the end of its capture.
use Rattle.std.specs.Prelude.{ℕ, List, ◌++◌, Option, codes, decimal}
use Rattle.deku_program.specs.Outputs.{IsBegun}
use Rattle.deku_program.specs.Told.{fault_line}
use Rattle.deku_packets_program.specs.declared.failure.Failure.{Failure}

-- The line of a failure: what is wrong, in which part of the file, and at which byte that begins.
abbrev pub message : Failure → List ℕ
message f = fault_line f.fault (codes ", in " ++ (f.part.now ++ (codes ", at byte " ++ decimal f.at)))

-- A beginning of the line of a failure was written.
abbrev pub IsTold : Option (List ℕ) → Option (List ℕ) → Type 0
IsTold before after = (f : Failure) × IsBegun before after (message f)
