use Rattle.std.proofs.Common.{◌≡◌, flat_map, string_bytes, take}
use Rattle.deku_fields.specs.Runs.{number_text}
use Rattle.deku_program.specs.Texts.{line}
use Rattle.deku_fields.proofs.program.number_lines.Given as goal

abbrev pub invariant-loop-number : goal.invariant-loop-number
invariant-loop-number l = string_bytes l.text ≡ flat_map (λ n. line (number_text n)) (take l.number-index l.numbers)
