use Rattle.std.proofs.Common.{◌≡◌, MatchResult, subst}
use Rattle.std.specs.declared.io.ErrorKind.TheVariants.{OutOfMemory}
use Rattle.deku_bits.specs.declared.error.DekuError.TheVariants.{Io}
use Rattle.deku_callers.proofs.Pairs.{last_of_two}
use Rattle.deku_callers.proofs.maps.last_of_two.Goals as goal

pub returns : goal.returns
returns c = subst (λ v. MatchResult c.value_at.result (λ w. w ≡ v) (λ e. e ≡ Io OutOfMemory)) (last_of_two c.args.key c.args.value c.args.last c.args.between) c.value_at.ensures
